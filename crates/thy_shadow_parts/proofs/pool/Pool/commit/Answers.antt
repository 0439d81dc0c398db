use Rattle.std.proofs.Common.{None}
use Rattle.thy_shadow_parts.specs.State.{State, state_in, IsSoundState}
use Rattle.thy_shadow_parts.proofs.StateLemmas.{IsSoundState-committed}
use Rattle.thy_shadow_parts.proofs.pool.Pool.commit.Goals as goal

pub invariant_of-self : goal.invariant_of-self
invariant_of-self c =
    let s : State = state_in c.self.inside.geometry c.self.inside.pool c.self.inside.frames c.self.inside.begun c.self.inside.dram in
    coe 1 0 (i. IsSoundState (state_in s.p (c.commit_all.ensures i) (c.map_entries.ensures i) None s.dram))
    (IsSoundState-committed s c.self.invariant)
