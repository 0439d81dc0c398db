use Rattle.std.proofs.lemmas.Grind.{common_steps}
use Rattle.std.proofs.Common.{◌∙◌, ap, sym, arith}
use Rattle.thy_block.specs.Device.{written_to}
use Rattle.thy_block.proofs.BasicLemmas.{OnErr-of}
use Rattle.thy_gap.specs.Levelled.{looks}
use Rattle.thy_gap.proofs.SoundLemmas.{line_seen, place_inside, write_seen, sound_written, sound_failed_to_write, failed_to_write_seen}
use Rattle.thy_gap.proofs.gap.GapNvm.write.Goals as goal

pub place-requires-clause-line : goal.place-requires-clause-line
place-requires-clause-line g c = line_seen c.self.invariant c.args.at (rw (sym c.self.view_is) at c.requires.place)

pub write-requires-clause-place : goal.write-requires-clause-place
write-requires-clause-place g c =
    let l = line_seen c.self.invariant c.args.at (rw (sym c.self.view_is) at c.requires.place) in
    omega (arith, c.place.ensures, place_inside c.self.invariant c.args.at l)

pub invariant_of-self : goal.invariant_of-self
invariant_of-self g c =
    let l = line_seen c.self.invariant c.args.at (rw (sym c.self.view_is) at c.requires.place) in
    sound_failed_to_write c.self.invariant (g.N.Nvm.device c.write.new.self) c.args.at c.args.block.now l
    (rw (sym c.self.view_is) at c.requires.up) c.write.ensures.frame
    (rw c.place.ensures at c.in_err-write.ensures.err)

pub returns-in_err-write-clause-err : goal.returns-in_err-write-clause-err
returns-in_err-write-clause-err g c =
    let l = line_seen c.self.invariant c.args.at (rw (sym c.self.view_is) at c.requires.place) in
    rw (sym c.self.view_is)
    (OnErr-of _ (failed_to_write_seen c.self.invariant (g.N.Nvm.device c.write.new.self) c.args.at c.args.block.now l (rw c.place.ensures at c.in_err-write.ensures.err)))

pub invariant_of-self-2 : goal.invariant_of-self-2
invariant_of-self-2 g c =
    let l = line_seen c.self.invariant c.args.at (rw (sym c.self.view_is) at c.requires.place) in
    sound_written c.self.invariant (g.N.Nvm.device c.write.new.self) c.args.at c.args.block.now _ l (rw (sym c.self.view_is) at c.requires.up)
    (c.in_ok-write.ensures.ok ∙ ap (λ x. written_to (g.N.Nvm.device c.self.inside.inner) x c.args.block.now) c.place.ensures) c.write.ensures.frame

pub returns-clause-ok : goal.returns-clause-ok
returns-clause-ok g c =
    let l = line_seen c.self.invariant c.args.at (rw (sym c.self.view_is) at c.requires.place) in
    rw (sym c.self.view_is)
    (ap (looks c.self.inside.every _ c.self.inside.moves c.self.inside.registers)
    (c.in_ok-write.ensures.ok ∙ ap (λ x. written_to (g.N.Nvm.device c.self.inside.inner) x c.args.block.now) c.place.ensures)
    ∙ write_seen c.self.invariant c.args.at c.args.block.now _ (grind (arith, common_steps)) l (rw (sym c.self.view_is) at c.requires.up))

pub returns-clause-since : goal.returns-clause-since
returns-clause-since g c = grind (arith, common_steps)
