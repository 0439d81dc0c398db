-- What power cuts leave, for every layout of checkpoints.
use Rattle.std.specs.Prelude.{◌≡◌, ◌≢◌, ◌⊎◌, ℕ, ◌+◌, ◌<◌, ◌≤◌, true, List, [], Contains, length}
use Rattle.thy_block.specs.declared.block.Block.{Block}
use Rattle.thy_block.specs.declared.nvm.Shape.{Shape}
use Rattle.thy_block.specs.Counts.{next}
use Rattle.thy_block.specs.Device.{Device, Unsaid, CrashAt, Crash, IsOneWordApart, possible, block_at, newest, drained, with_queued, written_to, fitted, IsCut, IsSettled, Settles, IsFramed, HoldsNoMore, HasFailed, HasFailedToSettle, HasFailedToWrite}
use Rattle.thy_block.specs.Places.{commit_place}
use Rattle.thy_layout.specs.Fixed.{IsFixed, Reads, ReadsFirst}
use Rattle.thy_layout.specs.Saved.{Looking, IsIssued, next_image, Saved, Kept, Ready, InDoubt, IsSaved, guarded, IsCrashOfSaved}
use Rattle.thy_layout.specs.Spares.{Spares}

-- ---- whole blocks, and words

-- each choice of whole blocks is a choice of words
abbrev pub BlocksAreWords : Type 0
BlocksAreWords =
    (n : Device) (g : List Block)
    → length g ≡ length n.image → ((x : ℕ) → Contains (possible n x) (block_at g x)) → Crash n g

-- a device whose blocks land whole leaves no other
abbrev pub WholeBlocksAreLeft : Type 0
WholeBlocksAreLeft =
    (n : Device) (g : List Block) → n.whole ≡ true → Crash n g → (x : ℕ) → Contains (possible n x) (block_at g x)

-- after a call that failed: if no block is possible that was not, no place may hold more
abbrev pub NoBlockIsNoMore : Type 0
NoBlockIsNoMore =
    (old new : Device) → new.whole ≡ old.whole
    → ((x : ℕ) (b : Block) → Contains (possible new x) b → Contains (possible old x) b) → HoldsNoMore old new

-- after a write that failed: if its block is possible at its place, and no other that was not, no place may hold more
-- than if the block had been queued
abbrev pub OneBlockIsQueued : Type 0
OneBlockIsQueued =
    (old new : Device) (at : ℕ) (block : Block) → new.whole ≡ old.whole
    → ((x : ℕ) (b : Block) → Contains (possible new x) b → Contains (possible old x) b ⊎ ((x ≡ at) × (b ≡ block)))
    → HoldsNoMore (with_queued at block old) new

-- a cut leaves one of two blocks that differ in one word at most
abbrev pub OneWordIsEither : Type 0
OneWordIsEither =
    (n : Device) (x : ℕ) (a c b : Block) → IsOneWordApart a c
    → ((d : Block) → Contains (possible n x) d → (d ≡ a) ⊎ (d ≡ c)) → CrashAt n x b → (b ≡ a) ⊎ (b ≡ c)

-- ---- devices that say nothing of their barriers' writes

-- a device with this count of writes, which says no more of it
abbrev pub counted_as : ℕ → Device → Device
counted_as count n = record n { writes = count; wear = Unsaid }

-- Counts that are 0 after a fit, one more after a write, no less after a barrier, and else stay: with them a device obeys all laws,
-- whatever it says of its wear.
pub record CountsAreEnough (n m : Device) (count later : ℕ) : Type 0 where
  pub fit : (shape : Shape) (start : List Block) → m ≡ fitted shape start n → counted_as 0 m ≡ fitted shape start (counted_as count n)
  pub write : (at : ℕ) (block : Block) → m ≡ written_to n at block → counted_as (next count) m ≡ written_to (counted_as count n) at block
  pub drain : m ≡ drained n → counted_as count m ≡ drained (counted_as count n)
  pub barrier : Settles n m → count ≤ later → IsSettled (counted_as count n) (counted_as later m)
  pub cut : (pick : ℕ) → IsCut pick n m → IsCut pick (counted_as count n) (counted_as count m)
  pub failed : HasFailed n m → HasFailed (counted_as count n) (counted_as count m)
  pub failed_write : (at : ℕ) (block : Block) → HasFailedToWrite at block n m → HasFailedToWrite at block (counted_as count n) (counted_as count m)
  pub failed_barrier : HasFailedToSettle n m → count ≤ later → HasFailedToSettle (counted_as count n) (counted_as later m)

abbrev pub DevicesMaySayNothing : Type 0
DevicesMaySayNothing = (n m : Device) (count later : ℕ) → CountsAreEnough n m count later

-- ---- what a cut leaves

-- a cut leaves a copy of the image that is kept; in doubt, of one of the two
abbrev pub CutLeavesCopy : Type 0
CutLeavesCopy =
    (looked : Looking) (n : Device) (s : Saved) (g : List Block) → IsSaved looked n s → Crash n g → IsCrashOfSaved looked s g

-- after a cut, the device has the image kept that was left
abbrev pub CutIsKept : Type 0
CutIsKept = (looked : Looking) (pick : ℕ) (old new : Device) → IsCut pick old new → IsSaved looked new (Kept new.image)

-- every device with an empty queue, such as one that was just fitted, has its image kept
abbrev pub EmptyIsKept : Type 0
EmptyIsKept = (looked : Looking) (n : Device) → n.queue ≡ [] → IsSaved looked n (Kept n.image)

-- ---- what keeps it

-- a change that spares the guarded places keeps what is saved
abbrev pub SparedStays : Type 0
SparedStays =
    (looked : Looking) (s : Saved) (old new : Device)
    → IsSaved looked old s → Spares (guarded looked s) old new → IsSaved looked new s

-- a call that changes nothing, such as a read, spares every place
abbrev pub SameSpares : Type 0
SameSpares = (places : List ℕ) (old new : Device) → new ≡ old → Spares places old new

-- two changes in a row spare the places that each of them spares
abbrev pub BothSpare : Type 0
BothSpare =
    (places : List ℕ) (old mid new : Device)
    → Spares places old mid → Spares places mid new → Spares places old new

-- a change that spares places spares each part of them
abbrev pub PartIsSpared : Type 0
PartIsSpared =
    (places part : List ℕ) (old new : Device)
    → ((x : ℕ) → Contains part x → Contains places x) → Spares places old new → Spares part old new

abbrev pub DrainSpares : Type 0
DrainSpares = (places : List ℕ) (old new : Device) → new ≡ drained old → Spares places old new

abbrev pub BarrierSpares : Type 0
BarrierSpares = (places : List ℕ) (old new : Device) → Settles old new → Spares places old new

-- a write spares all places but its own
abbrev pub WriteSpares : Type 0
WriteSpares =
    (places : List ℕ) (at : ℕ) (block : Block) (old new : Device)
    → ¬ Contains places at → new ≡ written_to old at block → Spares places old new

-- a call that failed spares every place, unless it was a write
abbrev pub FailureSpares : Type 0
FailureSpares =
    (places : List ℕ) (old new : Device) → HasFailed old new → IsFramed old new → Spares places old new

-- a barrier that failed spares every place
abbrev pub FailedBarrierSpares : Type 0
FailedBarrierSpares =
    (places : List ℕ) (old new : Device) → HasFailedToSettle old new → IsFramed old new → Spares places old new

-- a write that failed spares all places but its own
abbrev pub FailedWriteSpares : Type 0
FailedWriteSpares =
    (places : List ℕ) (at : ℕ) (block : Block) (old new : Device)
    → ¬ Contains places at → HasFailedToWrite at block old new → IsFramed old new → Spares places old new

-- ---- how a checkpoint is made

-- a barrier after all writes of the next image makes it ready
abbrev pub BarrierMakesReady : Type 0
BarrierMakesReady =
    (looked : Looking) (before next : List Block) (old new : Device)
    → IsSaved looked old (Kept before) → IsIssued looked old next → Settles old new
    → IsSaved looked new (Ready before next)

-- the write of the next image's commit block leaves the two in doubt, if it differs in one word at most from the commit
-- block before it
abbrev pub CommitLeavesDoubt : Type 0
CommitLeavesDoubt =
    (looked : Looking) (before next : List Block) (old new : Device)
    → IsOneWordApart (block_at before commit_place) (block_at next commit_place)
    → IsSaved looked old (Ready before next) → new ≡ written_to old commit_place (block_at next commit_place)
    → IsSaved looked new (InDoubt before next)

-- a commit block's write that fails leaves the two checkpoints in doubt, if it differs in one word at most from the one
-- before
abbrev pub FailedCommitLeavesDoubt : Type 0
FailedCommitLeavesDoubt =
    (looked : Looking) (before next : List Block) (old new : Device)
    → IsOneWordApart (block_at before commit_place) (block_at next commit_place)
    → IsSaved looked old (Ready before next) → HasFailedToWrite commit_place (block_at next commit_place) old new
    → IsFramed old new
    → IsSaved looked new (InDoubt before next)

-- the barrier after it ends the doubt: the next image is kept
abbrev pub BarrierEndsDoubt : Type 0
BarrierEndsDoubt =
    (looked : Looking) (before next : List Block) (old new : Device)
    → IsSaved looked old (InDoubt before next) → Reads old commit_place (block_at next commit_place) → Settles old new
    → IsSaved looked new (Kept next)

-- ---- what is written meanwhile

-- the image that all writes make is issued, if its places are on the device
abbrev pub NextIsIssued : Type 0
NextIsIssued =
    (looked : Looking) (commit : Block) (n : Device)
    → ((x : ℕ) → Contains (looked (next_image n commit)) x → x < length n.image)
    → IsIssued looked n (next_image n commit)

-- the image that all writes make has the blocks that are read, apart from the commit block
abbrev pub NextHasReads : Type 0
NextHasReads =
    (commit : Block) (n : Device) (x : ℕ) → x < length n.image → x ≢ commit_place → block_at (next_image n commit) x ≡ newest n x

-- the image that all writes make has the given commit block
abbrev pub NextHasCommit : Type 0
NextHasCommit =
    (commit : Block) (n : Device) → commit_place < length n.image → block_at (next_image n commit) commit_place ≡ commit

-- a write is read at its place
abbrev pub WriteIsRead : Type 0
WriteIsRead =
    (at : ℕ) (block : Block) (old new : Device)
    → at < length old.image → new ≡ written_to old at block → Reads new at block

-- a read of a place stays as it is if another place is written
abbrev pub WriteKeepsRead : Type 0
WriteKeepsRead =
    (x : ℕ) (b : Block) (at : ℕ) (block : Block) (old new : Device)
    → Reads old x b → x ≢ at → new ≡ written_to old at block → Reads new x b

abbrev pub DrainKeepsRead : Type 0
DrainKeepsRead = (x : ℕ) (b : Block) (old new : Device) → Reads old x b → new ≡ drained old → Reads new x b

abbrev pub BarrierKeepsRead : Type 0
BarrierKeepsRead = (x : ℕ) (b : Block) (old new : Device) → Reads old x b → Settles old new → Reads new x b

-- a block that every cut leaves at its place is read there
abbrev pub FixedIsRead : Type 0
FixedIsRead = (x : ℕ) (b : Block) (n : Device) → IsFixed n x b → x < length n.image → Reads n x b

-- blocks that are written in turn are read, from the first on
abbrev pub NextWriteIsRead : Type 0
NextWriteIsRead =
    (x : ℕ) (blocks : ℕ → Block) (k : ℕ) (old new : Device)
    → ReadsFirst old x blocks k → x + k < length old.image → new ≡ written_to old (x + k) (blocks k)
    → ReadsFirst new x blocks (k + 1)

-- blocks that are read, from the first on, are still read if none of their places is written
abbrev pub WriteKeepsFirst : Type 0
WriteKeepsFirst =
    (x : ℕ) (blocks : ℕ → Block) (k at : ℕ) (block : Block) (old new : Device)
    → ReadsFirst old x blocks k → ((i : ℕ) → i < k → x + i ≢ at) → new ≡ written_to old at block
    → ReadsFirst new x blocks k

abbrev pub DrainKeepsFirst : Type 0
DrainKeepsFirst =
    (x : ℕ) (blocks : ℕ → Block) (k : ℕ) (old new : Device)
    → ReadsFirst old x blocks k → new ≡ drained old → ReadsFirst new x blocks k
