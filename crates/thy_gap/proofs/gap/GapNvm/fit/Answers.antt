use Rattle.std.proofs.Common.{◌≡◌, ◌+◌, ◌<◌, ◌^◌, ◌∙◌, ap, sym, arith}
use Rattle.std.proofs.lemmas.Grind.{common_steps}
use Rattle.thy_block.specs.Device.{Device, Wear, fitted, unworn}
use Rattle.thy_gap.specs.declared.registers.Registers.{Registers}
use Rattle.thy_gap.specs.Lines.{unmoved}
use Rattle.thy_gap.specs.Levelled.{inner_shape, first_image, looks, wear_over}
use Rattle.thy_gap.specs.Seen.{seen}
use Rattle.thy_gap.proofs.WearLemmas.{unworn_over}
use Rattle.thy_gap.proofs.FitLemmas.{seen-fitted}
use Rattle.thy_gap.proofs.SoundLemmas.{sound_failed_to_fit, failed_to_fit_seen, sound_fitted}
use Rattle.thy_gap.proofs.gap.GapNvm.fit.Goals as goal

pub invariant_of-self : goal.invariant_of-self
invariant_of-self g c = sound_failed_to_fit c.self.invariant (g.N.Nvm.device c.fit.new.self) c.in-Err-fit.error c.in-Err-fit.ensures.err

pub returns-in-Err-fit-clause-err : goal.returns-in-Err-fit-clause-err
returns-in-Err-fit-clause-err g c =
    rw (sym c.self.view_is) (failed_to_fit_seen c.self.invariant (g.N.Nvm.device c.fit.new.self) c.in-Err-fit.error c.in-Err-fit.ensures.err)

pub invariant_of-self-2 : goal.invariant_of-self-2
invariant_of-self-2 g c =
    let is : g.N.Nvm.device c.fit.new.self ≡ fitted (inner_shape c.args.shape.now) (first_image c.args.shape.now.blocks c.args.start.items)
    (g.N.Nvm.device c.self.inside.inner) = grind (arith, common_steps) in
    let room : c.args.shape.now.blocks + 2 < 2 ^ 64 = grind (arith, common_steps) in
    let cuts : c.args.shape.now.cuts + 1 < 2 ^ 64 = grind (arith, common_steps) in
    rw c.unmoved-self-inside.ensures
    (sound_fitted c.self.invariant (g.N.Nvm.device c.fit.new.self) c.args.shape.now c.args.start.items c.requires.blocks c.requires.start room cuts is)

pub returns-clause-ok : goal.returns-clause-ok
returns-clause-ok g c =
    let is : g.N.Nvm.device c.fit.new.self ≡ fitted (inner_shape c.args.shape.now) (first_image c.args.shape.now.blocks c.args.start.items)
    (g.N.Nvm.device c.self.inside.inner) = grind (arith, common_steps) in
    rw (sym c.self.view_is)
    (ap (λ (r : Registers). looks c.self.inside.every 0 0 r (g.N.Nvm.device c.fit.new.self)) c.unmoved-self-inside.ensures
    ∙ ap (looks c.self.inside.every 0 0 (unmoved c.args.shape.now.blocks)) is
    ∙ ap (λ (n : Device). record n { wear = wear_over (unworn (g.N.Nvm.device c.self.inside.inner).wear) c.self.inside.every 0 0 })
    (seen-fitted c.args.shape.now c.args.start.items (g.N.Nvm.device c.self.inside.inner) c.requires.blocks c.requires.start c.self.inside.registers)
    ∙ ap (λ (w : Wear). record (fitted c.args.shape.now c.args.start.items (seen c.self.inside.registers (g.N.Nvm.device c.self.inside.inner))) { wear = w })
    (unworn_over (g.N.Nvm.device c.self.inside.inner).wear c.self.inside.every c.self.inside.since c.self.inside.moves))
