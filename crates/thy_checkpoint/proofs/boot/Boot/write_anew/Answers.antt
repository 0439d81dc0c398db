use Rattle.std.proofs.Common.{◌≡◌, ◌+◌, ◌<◌, length, sym, ◌∙◌, ap, subst, arith}
use Rattle.thy_block.specs.declared.block.Block.{Block}
use Rattle.thy_block.specs.declared.parameters.Parameters.{Parameters}
use Rattle.thy_layout.specs.Commit.{commit_of}
use Rattle.thy_computer.specs.declared.round.Round.{Round}
use Rattle.thy_computer.specs.Round.{IsInRound}
use Rattle.thy_checkpoint.specs.Boot.{Booting, layout_in}
use Rattle.thy_checkpoint.specs.Migrating.{renewing}
use Rattle.thy_checkpoint.specs.Filling.{layout_at, anew}
use Rattle.thy_checkpoint.proofs.LoadLemmas.{slot_inside, head_inside}
use Rattle.thy_checkpoint.proofs.boot.Boot.write_anew.Goals as goal

pub slot_at-place-requires : goal.slot_at-place-requires
slot_at-place-requires g c =
    let F = g.F.Fills.filling in
    let p : Parameters = c.self.inside.geometry in
    let commit : Block = c.self.inside.commit in
    let inside : c.in-Write.k < (layout_at F p).slot_blocks (anew commit)
    = subst (λ (b : Booting). c.in-Write.k < (layout_in F b).slot_blocks (anew b.commit)) (sym c.self.view_is)
    (subst (λ (r : Round). IsInRound (renewing F c.args.self.now).blocks r) c.in-Write.is c.requires.can.there) in
    let room = slot_inside F g.met.F.Fills.lawful p (anew commit) in
    let low : (layout_at F p).slot_place (anew commit) + c.in-Write.k < (layout_at F p).image_blocks = omega (arith, inside, room) in
    subst (λ (x : Block). (layout_at F p).slot_place x + c.in-Write.k < (layout_at F p).image_blocks)
    (sym (c.commit_block-commit.ensures ∙ ap commit_of c.epoch_in.ensures)) low

pub write-requires-clause-place : goal.write-requires-clause-place
write-requires-clause-place g c =
    let F = g.F.Fills.filling in
    let p : Parameters = c.self.inside.geometry in
    let commit : Block = c.self.inside.commit in
    let inside : c.in-Write.k < (layout_at F p).slot_blocks (anew commit)
    = subst (λ (b : Booting). c.in-Write.k < (layout_in F b).slot_blocks (anew b.commit)) (sym c.self.view_is)
    (subst (λ (r : Round). IsInRound (renewing F c.args.self.now).blocks r) c.in-Write.is c.requires.can.there) in
    let room = slot_inside F g.met.F.Fills.lawful p (anew commit) in
    let low : (layout_at F p).slot_place (anew commit) + c.in-Write.k < (layout_at F p).image_blocks = omega (arith, inside, room) in
    let here : (layout_at F p).slot_place c.commit_block-commit.result + c.in-Write.k < (layout_at F p).image_blocks
    = subst (λ (x : Block). (layout_at F p).slot_place x + c.in-Write.k < (layout_at F p).image_blocks)
    (sym (c.commit_block-commit.ensures ∙ ap commit_of c.epoch_in.ensures)) low in
    let sized : length (g.N.Nvm.device c.args.nvm.now).image ≡ (layout_at F p).image_blocks
    = c.requires.can.sized ∙ sym (ap (λ (b : Booting). (layout_in F b).image_blocks) c.self.view_is) in
    omega (arith, here, sized, c.slot_at-place.ensures)

pub write-requires-in-Commit-clause-place : goal.write-requires-in-Commit-clause-place
write-requires-in-Commit-clause-place g c =
    omega (arith, c.requires.can.sized, head_inside g.F.Fills.filling g.met.F.Fills.lawful c.args.self.now.p)
