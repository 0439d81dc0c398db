-- Part of the claim.
-- Of two epochs in a row one retires an instruction. This rests on `strides` of `KeepsPace` and on `CoreStep`.
use Rattle.std.specs.Prelude.{◌≡◌, ℕ, ◌<◌, ◌==◌, Bool, true, false, List, [], ◌∷◌}
use Rattle.thy_block.specs.Device.{Device}
use Rattle.thy_text.specs.Event.{Event, Scheme, EpochEnd, Commit, Cut, Restart, Reload, Ended}
use Rattle.thy_computer.specs.Kind.{KindOf}
use Rattle.thy_computer.specs.Origin.{Origin}
use Rattle.thy_run.specs.Unfinished.{Stopped}
use Rattle.thy_run.specs.World.{Given}
use Rattle.thy_run.specs.declared.ending.Stop.{Stop}

-- the epoch that executes
pub record Epoch : Type 0 where
  -- the count of instructions at which it began
  pub began : ℕ
  -- the epoch before it retired nothing, and power was not cut since
  pub idle : Bool

-- the epoch at the start of a program
abbrev pub first_epoch : ℕ → Epoch
first_epoch start = record { began = start; idle = false }

-- what an event makes of it; `start` is the count at which the run starts
abbrev pub epoch_after : ℕ → Epoch → Event → Epoch
epoch_after start e (EpochEnd epoch count cause turns) = record { began = count; idle = count == e.began }
epoch_after start e (Cut index cycle) = first_epoch start
epoch_after start e (Restart epoch count state) = first_epoch count
epoch_after start e (Commit epoch cycle overlapped) = e
epoch_after start e Reload = e
epoch_after start e (Scheme number) = first_epoch start
epoch_after start e (Ended status count cycle state) = e

-- after an idle epoch no epoch ends at the count at which it began
abbrev pub Strides : Epoch → Event → Type 0
Strides e (EpochEnd epoch count cause turns) = e.idle ≡ true → e.began < count
Strides e (Cut index cycle) = Unit {0}
Strides e (Restart epoch count state) = Unit {0}
Strides e (Commit epoch cycle overlapped) = Unit {0}
Strides e Reload = Unit {0}
Strides e (Scheme number) = Unit {0}
Strides e (Ended status count cycle state) = Unit {0}

-- the events stride, each after those before it
abbrev pub AllStride : ℕ → Epoch → List Event → Type 0
AllStride start e [] = Unit {0}
AllStride start e (v ∷ vs) = Strides e v × AllStride start (epoch_after start e v) vs

-- events of a run that starts at this count
abbrev pub IsStriding : ℕ → List Event → Type 0
IsStriding start events = AllStride start (first_epoch start) events

-- every run strides
abbrev pub RunStrides : {M : Type 0} → KindOf M → Type 0
RunStrides K =
    (o : Origin) (given : Given) (cycles : ℕ) (events : List Event) (n : Device) (stop : Stop)
    → Stopped K o given cycles events n stop → IsStriding o.start.count events
