use Rattle.std.proofs.Common.{◌+◌, Some, sym, ◌∙◌, subst, arith}
use Rattle.thy_shadow_parts.specs.declared.entry.Begun.{Begun}
use Rattle.thy_shadow_parts.specs.Keys.{begun_for}
use Rattle.thy_shadow_parts.specs.State.{State, state_in, IsBegun, IsSoundState}
use Rattle.thy_shadow_parts.proofs.StateLemmas.{IsSoundState-begun}
use Rattle.thy_shadow_parts.proofs.pool.Pool.copy.Goals as goal

pub invariant_of-self : goal.invariant_of-self
invariant_of-self g c =
    let s : State = state_in c.self.inside.geometry c.self.inside.pool c.self.inside.frames c.self.inside.begun c.self.inside.dram in
    let begun : IsBegun s (begun_for c.args.x (c.args.k + 1)) = subst (λ (t : State). IsBegun t (begun_for c.args.x (c.args.k + 1)))
    (sym (c.self.view_is ∙ c.put.ensures))
    (record { page = c.requires.page; unframed = c.requires.unframed; few = omega (arith, c.requires.block); room = c.requires.room }) in
    subst (λ (b : Begun). IsSoundState (record s { begun = Some b })) (sym c.new.ensures)
    (IsSoundState-begun s (begun_for c.args.x (c.args.k + 1)) c.self.invariant begun)
