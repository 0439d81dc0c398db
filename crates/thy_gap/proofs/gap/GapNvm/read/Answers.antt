use Rattle.std.proofs.Common.{◌∙◌, ap, sym, arith}
use Rattle.std.proofs.lemmas.Result.{IfOk-weaker, on_err_weaker}
use Rattle.thy_block.specs.Device.{newest}
use Rattle.thy_gap.proofs.SoundLemmas.{either, line_seen, place_inside, sound_same, sound_failed, failed_seen, read_seen}
use Rattle.thy_gap.proofs.gap.GapNvm.read.Goals as goal

pub place-requires-clause-line : goal.place-requires-clause-line
place-requires-clause-line g c =
    line_seen c.self.invariant c.args.at (rw (sym c.self.view_is) at c.requires.place)

pub read-requires-clause-place : goal.read-requires-clause-place
read-requires-clause-place g c =
    let l = line_seen c.self.invariant c.args.at (rw (sym c.self.view_is) at c.requires.place) in
    omega (arith, c.place.ensures, place_inside c.self.invariant c.args.at l)

pub invariant_of-self : goal.invariant_of-self
invariant_of-self g c =
    either c.read.result c.read.ensures.same c.read.ensures.err
    (sound_same c.self.invariant (g.N.Nvm.device c.read.new.self))
    (sound_failed c.self.invariant (g.N.Nvm.device c.read.new.self) c.read.ensures.frame)

pub returns-clause-ok : goal.returns-clause-ok
returns-clause-ok g c =
    let l = line_seen c.self.invariant c.args.at (rw (sym c.self.view_is) at c.requires.place) in
    rw (sym c.self.view_is)
    (IfOk-weaker c.read.result _ _
    (λ block e. e ∙ ap (newest (g.N.Nvm.device c.self.inside.inner)) c.place.ensures ∙ read_seen c.self.invariant c.args.at l)
    c.read.ensures.ok)

pub returns-clause-err : goal.returns-clause-err
returns-clause-err g c =
    rw (sym c.self.view_is)
    (on_err_weaker c.read.result
    (failed_seen c.self.invariant (g.N.Nvm.device c.read.new.self))
    c.read.ensures.err)
