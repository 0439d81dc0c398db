-- The boot of a scheme that waits.
use Rattle.std.proofs.Common.{◌≡◌, ℕ, ◌≤◌, refl, arith}
use Rattle.thy_block.specs.declared.mark.Mark.{Mark}
use Rattle.thy_block.specs.Device.{Device, drained}
use Rattle.thy_isa.specs.declared.state.CpuState.{CpuState}
use Rattle.thy_computer.specs.declared.boot_step.BootStep.{BootStep}
use Rattle.thy_computer.specs.declared.boot_step.BootStep.TheVariants.{GoesOn, Loaded, Restarted, Refused}
use Rattle.thy_computer.specs.Origin.{Origin, IsOrigin}
use Rattle.thy_scheme.specs.Boots.{Answers, BootsOn, BootFails, BootStays, IsBooted}
use Rattle.thy_scheme.specs.Scheme.{SchemeOf, IsBooting}
use Rattle.thy_scheme.specs.Laws.{IsLawful, IsFound, BootsFound, BootHolds}
use Rattle.thy_test_support.specs.Waiting.{Waiting, barriers, left_booted}
use Rattle.thy_test_support.specs.WaitingScheme.{IsPowered, waits_over}

pub below-boots : {S : Type 0} (K : SchemeOf S) (o : Origin) (w : Waiting S) (n : Device) → IsBooting (waits_over K) o w n
    → IsBooting K o w.below n
below-boots K o w n booting = record { boots = booting.boots.below; up = booting.up }

module _ {S : Type 0} (K : SchemeOf S) (laws : IsLawful K) where
  pub power-finds : (o : Origin) (w : Waiting S) (n : Device) → IsOrigin o → IsPowered K o.geometry w → IsFound (waits_over K) o n
      → BootsFound (waits_over K) o w n
  power-finds o w n origin on found =
      let there : BootsFound K o w.below n
      = laws.finds o w.below n origin on.below (record { up = found.up; sized = found.sized; settled = found.settled; own = found.own }) in
      record { boots = record { below = there.boots; none = on.none }; view = there.view }

  -- a call that changes nothing of the boot below changes nothing of the boot over it
  stays-over : (o : Origin) (w : Waiting S) (n : Device) (t : S) (new : Device) → w.left ≡ 0 → BootStays K o w.below n t new
      → BootStays (waits_over K) o w n (record w { below = t }) new
  stays-over o w n t new none s =
      record { boots = record { below = s.boots; none = none }; view = s.view; left = s.left; read = s.read }

  pub boot-holds : (o : Origin) (w : Waiting S) (n : Device) → IsBooting (waits_over K) o w n → BootHolds (waits_over K) o w n
  boot-holds o w n booting =
      let holds : BootHolds K o w.below n = laws.boot_holds o w.below n (below-boots K o w n booting) in
      record {
        of_geometry = holds.of_geometry;
        sized = holds.sized;
        safe = holds.safe;
        shown = holds.shown;
        unread = holds.unread;
        drains = λ some. stays-over o w n w.below (drained n) booting.boots.none (holds.drains some);
        settled = holds.settled;
      }

  -- when the boot is over, any number of barriers up to the full one may be left
  booted-over : (o : Origin) (m : Mark) (cpu : CpuState) (t : S) (new : Device) (left : ℕ) → left ≤ barriers → IsBooted K o m cpu t new
      → IsBooted (waits_over K) o m cpu (record { below = t; left = left }) new
  booted-over o m cpu t new left few b = record {
    sound = record { below = b.sound; few = few; apart = λ some. refl };
    state = b.state;
    count = b.count;
    recordable = b.recordable;
    closed = b.closed;
    whole = b.whole;
    storeless = b.storeless;
  }

  answers-over : (o : Origin) (step : BootStep) (w : Waiting S) (n : Device) (t : S) (new : Device) → Answers K o step w.below n t new
      → Answers (waits_over K) o step w n (record { below = t; left = left_booted step }) new
  answers-over o GoesOn w n t new a = (record { below = a.0; none = refl }, a.1)
  answers-over o Loaded w n t new a =
      record { fresh = a.fresh; view = a.view; booted = booted-over o _ _ t new 0 (omega arith) a.booted }
  answers-over o (Restarted cpu epoch) w n t new a =
      record { view = a.view; booted = booted-over o _ cpu t new barriers (omega arith) a.booted }
  answers-over o (Refused bad) w n t new a = a

  pub boots-over : (o : Origin) (step : BootStep) (w : Waiting S) (n : Device) (t : S) (new : Device) → BootsOn K o step w.below n t new
      → BootsOn (waits_over K) o step w n (record { below = t; left = left_booted step }) new
  boots-over o step w n t new b = record {
    answers = answers-over o step w n t new b.answers;
    acts = b.acts;
    dram = b.dram;
    queue = b.queue;
    nearer = b.nearer;
    read = b.read;
    still = b.still;
  }

  pub boot-fails-over : (o : Origin) (w : Waiting S) (n new : Device) → BootFails K o w.below n new → BootFails (waits_over K) o w n new
  boot-fails-over o w n new f = record { step = f.step; acted = f.acted; safe = f.safe; still = f.still }
