-- What a step leaves of the device, by the one action that it took.
use Rattle.std.proofs.Common.{◌≡◌, Bool, ℕ, refl, sym, subst}
use Rattle.thy_block.specs.Device.{Device, IsFramed}
use Rattle.thy_block.proofs.DeviceLemmas.{length-written_to, length-settled, length-drained}
use Rattle.thy_computer.proofs.ActionLemmas.{after-is}
use Rattle.thy_run.proofs.EveryLemmas.{every-after}
use Rattle.thy_computer.specs.Action.{Action, Rest, ReadAt, WriteAt, Barrier, Drain, after, ActsBy}
use Rattle.thy_computer.specs.declared.did.Did.{Did}
use Rattle.thy_computer.specs.Kind.{KindOf}
use Rattle.thy_computer.specs.Origin.{Origin}
use Rattle.thy_run.specs.Every.{every_of}
use Rattle.thy_run.specs.World.{World, TakesStep}

framed_after : (count : ℕ) (a : Action) (n : Device) → IsFramed n (after count a n)
framed_after count Rest n =
    record { blocks = refl; left = refl; picks = refl; queue_room = refl; left_room = refl; fits = refl; lent = refl; whole = refl }
framed_after count (ReadAt place) n =
    record { blocks = refl; left = refl; picks = refl; queue_room = refl; left_room = refl; fits = refl; lent = refl; whole = refl }
framed_after count (WriteAt place block) n = record { blocks = length-written_to n place block; left = refl; picks = refl; queue_room = refl; left_room = refl; fits = refl; lent = refl; whole = refl }
framed_after count Barrier n = record { blocks = length-settled count n; left = refl; picks = refl; queue_room = refl; left_room = refl; fits = refl; lent = refl; whole = refl }
framed_after count Drain n = record { blocks = length-drained n; left = refl; picks = refl; queue_room = refl; left_room = refl; fits = refl; lent = refl; whole = refl }

IsFramed-acts : (migrates : Bool) (did : Did) (n new : Device) → ActsBy migrates did n new → IsFramed n new
IsFramed-acts migrates did n new a = subst (IsFramed n) (sym (after-is a.action n new a.left)) (framed_after new.writes a.action n)

-- a step changes nothing that only a fit and a cut change
pub TakesStep-framed : {M : Type 0} (K : KindOf M) (o : Origin) (w next : World M) → TakesStep K o w next → IsFramed w.device next.device
TakesStep-framed K o w next step = IsFramed-acts (K.migrates w.machine) step.r.did w.device next.device step.is_step.acts

-- a step leaves after how many writes a block is moved as it was
pub TakesStep-every : {M : Type 0} (K : KindOf M) (o : Origin) (w next : World M) → TakesStep K o w next
    → every_of next.device.wear ≡ every_of w.device.wear
TakesStep-every K o w next step = every-after step.is_step.acts.action w.device next.device step.is_step.acts.left
