-- How a run's checkpoints follow each other on a device.
use Rattle.std.specs.Prelude.{◌≡◌, ◌⊎◌, List, Contains, ℕ, Option, Some, None}
use Rattle.thy_block.specs.declared.block.Block.{Block}
use Rattle.thy_block.specs.declared.mark.Mark.{Mark}
use Rattle.thy_block.specs.Device.{Device, IsOneWordApart, Settles, block_at, written_to, HasFailedToWrite, IsFramed}
use Rattle.thy_block.specs.Places.{commit_place}
use Rattle.thy_layout.specs.Fixed.{Reads}
use Rattle.thy_layout.specs.Saved.{Saved, Kept, Ready, InDoubt, IsIssued, guarded}
use Rattle.thy_layout.specs.Spares.{Spares}
use Rattle.thy_computer.specs.Action.{Action, Rest, ReadAt, WriteAt, Barrier, Drain}
use Rattle.thy_computer.specs.Origin.{Origin}
use Rattle.thy_layout.specs.Layout.{Layout, looked_by}
use Rattle.thy_computer.specs.Keeps.{IsOf, Keeps}

-- a device, the images that a cut may leave, and the marks kept and sealed
pub record Standing : Type 0 where
  pub device : Device
  pub saved : Saved
  pub kept : Option Mark
  pub sealed : Option Mark

abbrev pub standing : Device → Saved → Option Mark → Option Mark → Standing
standing n s kept sealed = record { device = n; saved = s; kept = kept; sealed = sealed }

abbrev pub IsKeeping : Origin → Layout → Standing → Type 0
IsKeeping o l a = Keeps o l a.device a.saved a.kept a.sealed

-- the commit block of an image was written, or its write failed
abbrev pub CommitsTo : List Block → Device → Device → Type 0
CommitsTo next old new =
    (new ≡ written_to old commit_place (block_at next commit_place))
    ⊎ (HasFailedToWrite commit_place (block_at next commit_place) old new × IsFramed old new)

pub data Move (o : Origin) (l : Layout) : Standing → Standing → Type 0 where
  -- any call that spares the guarded places
  Goes : (s : Saved) (kept sealed : Option Mark) (old new : Device)
      → Spares (guarded (looked_by l) s) old new
      → Move o l (standing old s kept sealed) (standing new s kept sealed)
  -- an epoch is sealed
  Seals : (n : Device) (before : List Block) (kept : Option Mark) (m : Mark)
      → Move o l (standing n (Kept before) kept None) (standing n (Kept before) kept (Some m))
  -- a barrier after all writes of the sealed checkpoint
  Readies : (before next : List Block) (kept : Option Mark) (m : Mark) (old new : Device)
      → IsIssued (looked_by l) old next → IsOf o l next m → Settles old new
      → Move o l (standing old (Kept before) kept (Some m)) (standing new (Ready before next) kept (Some m))
  -- the write of the next image's commit block, which differs in one word at most from the commit block before it
  Commits : (before next : List Block) (kept : Option Mark) (m : Mark) (old new : Device)
      → IsOneWordApart (block_at before commit_place) (block_at next commit_place) → CommitsTo next old new
      → Move o l (standing old (Ready before next) kept (Some m)) (standing new (InDoubt before next) kept (Some m))
  -- the barrier after the write of the commit block
  Confirms : (before next : List Block) (kept : Option Mark) (m : Mark) (old new : Device)
      → Reads old commit_place (block_at next commit_place) → Settles old new
      → Move o l (standing old (InDoubt before next) kept (Some m)) (standing new (Kept next) (Some m) None)

-- any number of moves
pub data Moves (o : Origin) (l : Layout) : Standing → Standing → Type 0 where
  Rests : (a : Standing) → Moves o l a a
  Then : (a b c : Standing) → Moves o l a b → Move o l b c → Moves o l a c

-- an action writes none of these places
abbrev pub LeavesAlone : List ℕ → Action → Type 0
LeavesAlone places Rest = Unit {0}
LeavesAlone places (ReadAt place) = Unit {0}
LeavesAlone places (WriteAt place block) = ¬ Contains places place
LeavesAlone places Barrier = Unit {0}
LeavesAlone places Drain = Unit {0}
