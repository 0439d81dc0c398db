-- What holds of every layout, and of a run's checkpoints in it.
use Rattle.std.specs.Prelude.{◌≡◌, ◌⊎◌, ℕ, List, [], length, Option, Some, None}
use Rattle.thy_block.specs.declared.block.Block.{Block}
use Rattle.thy_block.specs.declared.mark.Mark.{Mark}
use Rattle.thy_block.specs.Device.{Device, IsCut, IsFramed}
use Rattle.thy_layout.specs.Saved.{Saved, Kept}
use Rattle.thy_layout.specs.Spares.{Spares}
use Rattle.thy_computer.specs.Action.{Action, IsLeftBy, FailsTo}
use Rattle.thy_computer.specs.Booting.{found_first, view_of_image}
use Rattle.thy_computer.specs.Origin.{Origin, IsOrigin}
use Rattle.thy_computer.specs.Safe.{ceiling, Safe}
use Rattle.thy_layout.specs.Layout.{Layout, Layouts, decode_by, reading}
use Rattle.thy_computer.specs.Keeps.{Keeps, HasKept, doubt_in, finding_view}
use Rattle.thy_computer.specs.Moves.{Standing, IsKeeping, Moves, LeavesAlone}

-- ---- layouts

-- ---- checkpoints

-- whatever a cut leaves is the checkpoint that is kept, whole, or the one in doubt
abbrev pub KeptIsSafe : Type 0
KeptIsSafe =
    (layouts : Layouts) (o : Origin) (n : Device) (s : Saved) (kept sealed : Option Mark)
    → Keeps o (layouts o.geometry) n s kept sealed → Safe (reading layouts) o kept (doubt_in s sealed) n

-- hence it is the one kept or the one sealed, which a failed call may leave too
abbrev pub KeptIsSafeForBoth : Type 0
KeptIsSafeForBoth =
    (layouts : Layouts) (o : Origin) (n : Device) (s : Saved) (kept sealed : Option Mark)
    → Keeps o (layouts o.geometry) n s kept sealed → Safe (reading layouts) o kept sealed n

-- whatever a cut leaves after any number of moves is safe too
abbrev pub MovesAreSafe : Type 0
MovesAreSafe =
    (layouts : Layouts) (o : Origin) (a b : Standing)
    → IsKeeping o (layouts o.geometry) a → Moves o (layouts o.geometry) a b
    → IsKeeping o (layouts o.geometry) b × Safe (reading layouts) o b.kept (doubt_in b.saved b.sealed) b.device

-- a cut leaves a device that keeps the checkpoint that was kept, or the one in doubt
abbrev pub CutKeeps : Type 0
CutKeeps =
    (o : Origin) (l : Layout) (s : Saved) (kept sealed : Option Mark) (pick : ℕ) (old new : Device)
    → Keeps o l old s kept sealed → IsCut pick old new
    → Keeps o l new (Kept new.image) kept None
    ⊎ ((m : Mark) × (doubt_in s sealed ≡ Some m) × Keeps o l new (Kept new.image) (Some m) None)

-- a device with an empty queue keeps the checkpoint of its image, such as one that was fitted
abbrev pub EmptyKeeps : Type 0
EmptyKeeps =
    (o : Origin) (l : Layout) (n : Device) (kept sealed : Option Mark)
    → length n.image ≡ l.image_blocks → n.queue ≡ [] → HasKept o l n.image kept
    → Keeps o l n (Kept n.image) kept sealed

-- what a run begins with, an image means: nothing, or the checkpoint of its start
abbrev pub FirstHasKept : Type 0
FirstHasKept =
    (o : Origin) (l : Layout) (g : List Block)
    → IsOrigin o → decode_by l ceiling g ≡ found_first o o.kept → HasKept o l g o.kept

-- the view of a boot is the view of the mark whose checkpoint it finds
abbrev pub BootShows : Type 0
BootShows =
    (o : Origin) (l : Layout) (g : List Block) (kept : Option Mark) (count : ℕ)
    → HasKept o l g kept → view_of_image count (decode_by l ceiling g) ≡ finding_view count kept

-- ---- what a cycle's action spares

abbrev pub ActionSpares : Type 0
ActionSpares =
    (places : List ℕ) (action : Action) (n new : Device)
    → LeavesAlone places action → IsLeftBy action n new → Spares places n new

abbrev pub FailedActionSpares : Type 0
FailedActionSpares =
    (places : List ℕ) (action : Action) (n new : Device)
    → LeavesAlone places action → FailsTo action n new → IsFramed n new → Spares places n new
