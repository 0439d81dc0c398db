use Rattle.std.proofs.Common.{ℕ, ◌<◌, sym, subst}
use Rattle.thy_computer.specs.declared.round.Round.{Round}
use Rattle.thy_computer.specs.Round.{IsInRound}
use Rattle.thy_checkpoint.proofs.LoadLemmas.{head_inside}
use Rattle.thy_checkpoint.specs.Progress.{layout_of, slot_blocks}
use Rattle.thy_checkpoint.proofs.ItemLemmas.{slot_inside}
use Rattle.thy_checkpoint.proofs.engine.Engine.write_round.Goals as goal

pub slot_at-at-requires : goal.slot_at-at-requires
slot_at-at-requires g c =
    let F = g.E.Fills.filling in
    slot_inside F g.met.E.Fills.lawful c.args.self.now c.in-Write.k
    (subst (λ (r : Round). IsInRound (slot_blocks F c.args.self.now) r) c.in-Write.is c.requires.inside)

pub write-requires-clause-place : goal.write-requires-clause-place
write-requires-clause-place g c =
    let F = g.E.Fills.filling in
    subst (λ (x : ℕ). c.slot_at-at.result < x) (sym c.requires.sized)
    (subst (λ (x : ℕ). x < (layout_of F c.args.self.now).image_blocks) (sym c.slot_at-at.ensures)
    (slot_inside F g.met.E.Fills.lawful c.args.self.now c.in-Write.k
    (subst (λ (r : Round). IsInRound (slot_blocks F c.args.self.now) r) c.in-Write.is c.requires.inside)))

pub write-requires-in-Commit-clause-place : goal.write-requires-in-Commit-clause-place
write-requires-in-Commit-clause-place g c =
    subst (λ (x : ℕ). 1 < x) (sym c.requires.sized) (head_inside g.E.Fills.filling g.met.E.Fills.lawful c.args.self.now.p)
