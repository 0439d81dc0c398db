-- A checkpoint is a whole image, the one to be found after a power cut. Some of its places, those looked at, determine
-- what it means; the commit block, place 1, says which image it is.
use Rattle.std.specs.Prelude.{◌≡◌, ◌≢◌, ◌⊎◌, ℕ, List, ◌∷◌, ◌++◌, Contains, length, slice_set}
use Rattle.thy_block.specs.declared.block.Block.{Block}
use Rattle.thy_block.specs.Device.{Device, block_at, applied}
use Rattle.thy_block.specs.Places.{commit_place}
use Rattle.thy_layout.specs.Fixed.{IsFixed, IsEither, Reads}

-- which places of an image determine what it means
abbrev pub Looking : Type 0
Looking = List Block → List ℕ

-- Each place that determines what an image means has its block, whatever a cut leaves. The commit block is apart.
pub record Stands (looked : Looking) (n : Device) (h : List Block) : Type 0 where
  pub as_long : length n.image ≡ length h
  pub each : (x : ℕ) → Contains (looked h) x → x ≢ commit_place → IsFixed n x (block_at h x)

-- each of these places, but for the commit block, was written: a read gives its block
pub record IsIssued (looked : Looking) (n : Device) (h : List Block) : Type 0 where
  pub as_long : length n.image ≡ length h
  pub each : (x : ℕ) → Contains (looked h) x → x ≢ commit_place → Reads n x (block_at h x)

-- the image that all writes of a device make, with this commit block
abbrev pub next_image : Device → Block → List Block
next_image n commit = slice_set (applied n.image n.queue) commit_place commit

-- which images a device may have after a cut
pub data Saved : Type 0 where
  -- one image alone
  Kept : (before : List Block) → Saved
  -- one image; the next lacks only its commit block
  Ready : (before : List Block) (next : List Block) → Saved
  -- one or the next: its commit block was written, and no barrier has come since
  InDoubt : (before : List Block) (next : List Block) → Saved

-- an image stands, with its commit block
pub record IsKept (looked : Looking) (n : Device) (before : List Block) : Type 0 where
  pub stands : Stands looked n before
  pub commit : IsFixed n commit_place (block_at before commit_place)

-- an image stands with its commit block, and the next one stands too, except for the commit block
pub record IsReady (looked : Looking) (n : Device) (before next : List Block) : Type 0 where
  pub kept : IsKept looked n before
  pub next_stands : Stands looked n next

-- two images stand, with the commit block of one or of the other
pub record IsInDoubt (looked : Looking) (n : Device) (before next : List Block) : Type 0 where
  pub stands : Stands looked n before
  pub next_stands : Stands looked n next
  pub commit : IsEither n commit_place (block_at before commit_place) (block_at next commit_place)

-- what a device may have after a cut is saved
abbrev pub IsSaved : Looking → Device → Saved → Type 0
IsSaved looked n (Kept before) = IsKept looked n before
IsSaved looked n (Ready before next) = IsReady looked n before next
IsSaved looked n (InDoubt before next) = IsInDoubt looked n before next

-- the places that no write may touch meanwhile: of those in docs/CONTROLLER.md the commit block, place 2, and what is read
-- of an image in places 1, 3 and 4
abbrev pub guarded : Looking → Saved → List ℕ
guarded looked (Kept before) = commit_place ∷ looked before
guarded looked (Ready before next) = commit_place ∷ (looked before ++ looked next)
guarded looked (InDoubt before next) = commit_place ∷ (looked before ++ looked next)

-- an image is as long as another, and has its commit block and its blocks at all places that determine what that means
pub record IsCopy (looked : Looking) (h g : List Block) : Type 0 where
  pub as_long : length g ≡ length h
  pub commit : block_at g commit_place ≡ block_at h commit_place
  pub each : (x : ℕ) → Contains (looked h) x → block_at g x ≡ block_at h x

-- what a cut leaves of what is saved
abbrev pub IsCrashOfSaved : Looking → Saved → List Block → Type 0
IsCrashOfSaved looked (Kept before) g = IsCopy looked before g
IsCrashOfSaved looked (Ready before next) g = IsCopy looked before g
IsCrashOfSaved looked (InDoubt before next) g = IsCopy looked before g ⊎ IsCopy looked next g
