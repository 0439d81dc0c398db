-- A device keeps the picks of the cuts that fell, is fitted no second time, and so keeps its size and its room.
use Rattle.std.proofs.Common.{◌≡◌, ℕ, zero, suc, ◌+◌, Bool, true, false, MatchBool, List, [], ◌∷◌, ◌++◌, length, sym, ◌∙◌, ap, subst, arith}
use Rattle.thy_block.specs.Device.{Device, IsFramed, cut_to}
use Rattle.thy_run.proofs.EveryLemmas.{every-cut}
use Rattle.thy_computer.specs.Kind.{KindOf}
use Rattle.thy_computer.specs.Origin.{Origin}
use Rattle.thy_run.specs.Every.{every_of}
use Rattle.thy_run.specs.Laws.{torn}
use Rattle.thy_run.specs.World.{World, Given, TakesStep, is_due, IsCutOff, tear, Ran}
use Rattle.thy_run.proofs.StepFrames.{TakesStep-every, TakesStep-framed}

-- the device keeps the picks of the first cuts, and what it was fitted with
pub record StaysFitted (given : Given) (passed : ℕ) (n : Device) : Type 0 where
  pub picks : n.picks ≡ torn given.config.tears passed
  pub fits : n.fits ≡ given.fitted.fits
  pub blocks : length n.image ≡ length given.fitted.image
  pub room : n.left_room ≡ given.fitted.left_room
  pub queue_room : n.queue_room ≡ given.fitted.queue_room
  pub lent : n.lent ≡ given.fitted.lent
  pub whole : n.whole ≡ given.fitted.whole
  pub every : every_of n.wear ≡ every_of given.fitted.wear

pub StaysFitted-framed : (given : Given) (passed : ℕ) (old new : Device) → IsFramed old new → every_of new.wear ≡ every_of old.wear
    → StaysFitted given passed old → StaysFitted given passed new
StaysFitted-framed given passed old new f every h = record {
  picks = f.picks ∙ h.picks;
  fits = f.fits ∙ h.fits;
  blocks = f.blocks ∙ h.blocks;
  room = f.left_room ∙ h.room;
  queue_room = f.queue_room ∙ h.queue_room;
  lent = f.lent ∙ h.lent;
  whole = f.whole ∙ h.whole;
  every = every ∙ h.every;
}

module _ {M : Type 0} (K : KindOf M) (o : Origin) (given : Given) where
  pub StaysFitted-step : (w x : World M) → TakesStep K o w x → StaysFitted given w.passed w.device → StaysFitted given x.passed x.device
  StaysFitted-step w x step h =
      subst (λ k. StaysFitted given k x.device) (sym (ap (λ (y : World M). y.passed) step.next_is))
      (StaysFitted-framed given w.passed w.device x.device (TakesStep-framed K o w x step) (TakesStep-every K o w x step) h)

  keeps_by : (w x next : World M) → TakesStep K o w x → StaysFitted given w.passed w.device → (b : Bool)
      → MatchBool b (IsCutOff K o (tear given.config.tears x.passed) x next) (next ≡ x) → StaysFitted given next.passed next.device
  keeps_by w x next step h true cut =
      let here = StaysFitted-step w x step h in
      let device : next.device ≡ cut_to x.device (tear given.config.tears x.passed) next.device.image next.device.wear = cut.cut.device in
      let passed : next.passed ≡ suc x.passed =
      ap (λ (y : World M). y.passed) cut.next_is ∙ (let more : x.passed + 1 ≡ suc x.passed = omega arith in more) in
      record {
        picks = ap (λ (n : Device). n.picks) device ∙ ap (λ (l : List ℕ). l ++ tear given.config.tears x.passed ∷ []) here.picks
            ∙ sym (ap (torn given.config.tears) passed);
        fits = ap (λ (n : Device). n.fits) device ∙ here.fits;
        blocks = cut.cut.crash.same_length ∙ here.blocks;
        room = ap (λ (n : Device). n.left_room) device ∙ here.room;
        queue_room = ap (λ (n : Device). n.queue_room) device ∙ here.queue_room;
        lent = ap (λ (n : Device). n.lent) device ∙ here.lent;
        whole = ap (λ (n : Device). n.whole) device ∙ here.whole;
        every = every-cut x.device.down x.device.wear next.device.wear cut.cut.wear ∙ here.every;
      }
  keeps_by w x next step h false is =
      subst (λ (y : World M). StaysFitted given y.passed y.device) (sym is) (StaysFitted-step w x step h)

  -- the device stays fitted, and keeps the picks of the cuts, after any number of cycles
  pub StaysFitted-ran : (k : ℕ) (w : World M) → Ran K o given k w → StaysFitted given w.passed w.device
  StaysFitted-ran zero w first = record {
    picks = first.picks ∙ sym (ap (torn given.config.tears) first.passed);
    fits = ap (λ (n : Device). n.fits) first.device;
    blocks = ap (λ (n : Device). length n.image) first.device;
    room = ap (λ (n : Device). n.left_room) first.device;
    queue_room = ap (λ (n : Device). n.queue_room) first.device;
    lent = ap (λ (n : Device). n.lent) first.device;
    whole = ap (λ (n : Device). n.whole) first.device;
    every = ap (λ (n : Device). every_of n.wear) first.device;
  }
  StaysFitted-ran (suc k) w (before, ran, cycle) =
      keeps_by before cycle.between w cycle.steps (StaysFitted-ran k before ran) (is_due K o given.config.cuts cycle.between) cycle.cut
