-- What holds of the scheme thynvm beside what holds of every scheme of parts.
use Rattle.std.specs.Prelude.{◌≡◌, ◌+◌, true, false}
use Rattle.thy_block.specs.Device.{Device}
use Rattle.thy_control.specs.State.{State}
use Rattle.thy_scheme.specs.Machine.{Machine, is_barred}
use Rattle.thy_checkpoint.specs.Cycles.{cycles_left}
use Rattle.thy_checkpoint.specs.Progress.{Progress, Fits, is_under_way, engine_next, control_next}
use Rattle.thy_scheme_parts.specs.Design.{Composed}
use Rattle.thy_thynvm_parts.specs.Filling.{filling_thynvm}
use Rattle.thy_scheme.specs.CheckpointMarks.{CheckpointMarks}
use Rattle.thy_scheme.specs.Laws.{StaysSound}
use Rattle.thy_scheme.specs.Scheme.{Stands}
use Rattle.thy_computer.specs.Origin.{Origin}
use Rattle.thy_thynvm_parts.specs.Design.{items_thynvm}
use Rattle.thy_thynvm_parts.specs.Scheme.{thynvm_scheme}

-- nothing is barred while a checkpoint is under way
abbrev pub NothingIsBarred : Type 0
NothingIsBarred = (m : Machine (Composed State)) → is_barred thynvm_scheme m ≡ false

-- blocks can be stored only while the NVM is up, and only if no page is being promoted
abbrev pub ReadyIsWhole : Type 0
ReadyIsWhole =
    (s : Composed State) (n : Device)
    → (thynvm_scheme.holding s n).ready ≡ true → (n.down ≡ false) × (thynvm_scheme.promoting s ≡ false)

-- what stays keeps the checkpoints, whether or not a call failed, and whether or not a checkpoint is under way
abbrev pub StaysKeep : Type 0
StaysKeep =
    (o : Origin) (k : CheckpointMarks) (s : Composed State) (n : Device) (t : Composed State) (new : Device)
    → Stands thynvm_scheme o k s n → thynvm_scheme.stays s n t new → StaysSound thynvm_scheme o k s t new

-- every item takes exactly one of the cycles that are left
abbrev pub ItemsCount : Type 0
ItemsCount =
    (e : Progress) (s : State)
    → Fits filling_thynvm items_thynvm e s → is_under_way e.stage ≡ true
    → cycles_left filling_thynvm items_thynvm (engine_next filling_thynvm items_thynvm e s) (control_next items_thynvm e s) + 1
    ≡ cycles_left filling_thynvm items_thynvm e s
