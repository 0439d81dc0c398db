-- A run's checkpoints on a device: which images a power cut may leave, and which marks they are.
use Rattle.std.specs.Prelude.{◌≡◌, ℕ, List, length, Option, Some, None}
use Rattle.thy_block.specs.declared.block.Block.{Block}
use Rattle.thy_block.specs.declared.mark.Mark.{Mark}
use Rattle.thy_block.specs.Device.{Device}
use Rattle.thy_layout.specs.Decoded.{Nothing, At}
use Rattle.thy_layout.specs.Saved.{Saved, Kept, Ready, InDoubt, IsSaved}
use Rattle.thy_computer.specs.declared.view.View.{View}
use Rattle.thy_computer.specs.Booting.{boot_view, loading_view}
use Rattle.thy_computer.specs.Origin.{Origin, at}
use Rattle.thy_computer.specs.Safe.{ceiling}
use Rattle.thy_layout.specs.Layout.{Layout, decode_by, looked_by}

-- an image is the checkpoint of a mark: its epoch, and the plain machine's state at its count
pub record IsOf (o : Origin) (l : Layout) (h : List Block) (m : Mark) : Type 0 where
  pub decodes : decode_by l ceiling h ≡ At m.epoch (at o m.count)
  pub counted : (at o m.count).count ≡ m.count

-- an image is the checkpoint of the mark that is kept; if none is, it has none, and the run began without
abbrev pub HasKept : Origin → Layout → List Block → Option Mark → Type 0
HasKept o l h None = (decode_by l ceiling h ≡ Nothing) × (o.kept ≡ None)
HasKept o l h (Some m) = IsOf o l h m

-- the next image is the checkpoint of the mark that is sealed
abbrev pub HasSealed : Origin → Layout → List Block → Option Mark → Type 0
HasSealed o l h None = ⊥
HasSealed o l h (Some m) = IsOf o l h m

abbrev pub HasMarks : Origin → Layout → Saved → Option Mark → Option Mark → Type 0
HasMarks o l (Kept before) kept sealed = HasKept o l before kept
HasMarks o l (Ready before next) kept sealed = HasKept o l before kept × HasSealed o l next sealed
HasMarks o l (InDoubt before next) kept sealed = HasKept o l before kept × HasSealed o l next sealed

-- a device has the checkpoints of these marks: of the one kept, and of the one sealed as far as it is made
pub record Keeps (o : Origin) (l : Layout) (n : Device) (s : Saved) (kept sealed : Option Mark) : Type 0 where
  pub sized : length n.image ≡ l.image_blocks
  pub saved : IsSaved (looked_by l) n s
  pub meant : HasMarks o l s kept sealed

-- the mark that a cut may leave in place of the one kept
abbrev pub doubt_in : Saved → Option Mark → Option Mark
doubt_in (Kept before) sealed = None
doubt_in (Ready before next) sealed = None
doubt_in (InDoubt before next) sealed = sealed

-- the view of a boot over the checkpoint of a mark, or over none, if the program is loaded from this count on
abbrev pub finding_view : ℕ → Option Mark → View
finding_view count None = loading_view count
finding_view count (Some m) = boot_view (Some m) None
