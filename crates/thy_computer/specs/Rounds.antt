-- Part of the claim.
-- What each action of a round makes of a run's checkpoints, and what was written before it.
use Rattle.std.specs.Prelude.{◌≡◌, ◌≢◌, ℕ, ◌+◌, ◌<◌, List, [], Contains, Option, Some, None}
use Rattle.thy_block.specs.declared.block.Block.{Block}
use Rattle.thy_block.specs.declared.mark.Mark.{Mark}
use Rattle.thy_block.specs.Device.{Device, IsOneWordApart, block_at, IsFramed}
use Rattle.thy_block.specs.Places.{commit_place}
use Rattle.thy_layout.specs.Fixed.{Reads}
use Rattle.thy_layout.specs.Saved.{Saved, Kept, Ready, InDoubt, IsIssued, next_image, guarded}
use Rattle.thy_layout.specs.Layout.{Layout, looked_by}
use Rattle.thy_computer.specs.Action.{IsLeftBy, FailsTo}
use Rattle.thy_computer.specs.Origin.{Origin}
use Rattle.thy_computer.specs.declared.round.Round.{Round}
use Rattle.thy_computer.specs.declared.round.Round.TheVariants.{Write, Settle, Commit, Confirm}
use Rattle.thy_computer.specs.Issuing.{CheckpointParts, AreIssued}
use Rattle.thy_computer.specs.Keeps.{IsOf}
use Rattle.thy_computer.specs.Moves.{Standing, standing, Move}
use Rattle.thy_computer.specs.Round.{RoundWrites, IsInRound, round_action, next_round}

-- ---- the images of a round: the one that is kept, and the one that it makes

-- before the first barrier one is kept, after it the next one is ready, and with its commit block in doubt
abbrev pub saved_in : Round → List Block → List Block → Saved
saved_in Commit before next = Ready before next
saved_in Confirm before next = InDoubt before next
saved_in r before next = Kept before

-- an action that failed: the write of the commit block leaves the two in doubt, and every other one what was
abbrev pub saved_after_fault : Round → List Block → List Block → Saved
saved_after_fault Commit before next = InDoubt before next
saved_after_fault r before next = saved_in r before next

-- the first barrier makes the image of all that was written, with the commit block
abbrev pub made_after : Block → Round → Device → List Block → List Block
made_after commit Settle n next = next_image n commit
made_after commit r n next = next

-- a run's checkpoints before the next action, or after the last, which keeps the image that was made
abbrev pub standing_then : Option Round → Device → List Block → List Block → Option Mark → Mark → Standing
standing_then (Some r) n before next kept m = standing n (saved_in r before next) kept (Some m)
standing_then None n before next kept m = standing n (Kept next) (Some m) None

-- What an action needs: a block goes to no place that the image which is kept is found by. All that was written is the
-- checkpoint of the mark. That has this commit block, which differs in one word at most from the kept image's, and then reads
-- give it
abbrev pub MayTake : Origin → Layout → Mark → RoundWrites → Round → List Block → List Block → Device → Type 0
MayTake o l m w (Write k) before next n = ¬ Contains (guarded (looked_by l) (Kept before)) (w.place k)
MayTake o l m w Settle before next n = IsOf o l (next_image n w.commit) m × IsIssued (looked_by l) n (next_image n w.commit)
MayTake o l m w Commit before next n = (block_at next commit_place ≡ w.commit) × IsOneWordApart (block_at before commit_place) w.commit
MayTake o l m w Confirm before next n = (block_at next commit_place ≡ w.commit) × Reads n commit_place w.commit

-- An action of a round that has what it needs is a move. The mark that is written may be the one that is kept.
abbrev pub RoundsMove : Type 0
RoundsMove =
    (o : Origin) (l : Layout) (m : Mark) (w : RoundWrites) (r : Round) (before next : List Block) (kept : Option Mark) (n new : Device)
    → MayTake o l m w r before next n → IsLeftBy (round_action w r) n new
    → Move o l (standing n (saved_in r before next) kept (Some m))
    (standing_then (next_round w.blocks r) new before (made_after w.commit r n next) kept m)

-- each action of a round is a move also if it fails
abbrev pub FailedRoundsMove : Type 0
FailedRoundsMove =
    (o : Origin) (l : Layout) (m : Mark) (w : RoundWrites) (r : Round) (before next : List Block) (kept : Option Mark) (n new : Device)
    → MayTake o l m w r before next n → FailsTo (round_action w r) n new → IsFramed n new
    → Move o l (standing n (saved_in r before next) kept (Some m)) (standing new (saved_after_fault r before next) kept (Some m))

-- ---- what was written

-- the places of a round are within an image of this size, and each block has one of its own, apart from the commit
-- block's
pub record AreApart (image_blocks : ℕ) (w : RoundWrites) : Type 0 where
  pub room : commit_place < image_blocks
  pub inside : (i : ℕ) → i < w.blocks → w.place i < image_blocks
  pub elsewhere : (i : ℕ) → i < w.blocks → w.place i ≢ commit_place
  pub once : (i j : ℕ) → i < w.blocks → j < w.blocks → w.place i ≡ w.place j → i ≡ j

-- reads give the first k blocks
pub record HasWritten (w : RoundWrites) (k : ℕ) (n : Device) : Type 0 where
  pub each : (i : ℕ) → i < k → Reads n (w.place i) (w.block i)

-- before an action: the blocks up to the next, or all, and the commit block
abbrev pub HasWrittenBefore : RoundWrites → Round → Device → Type 0
HasWrittenBefore w (Write k) n = HasWritten w k n
HasWrittenBefore w Settle n = HasWritten w w.blocks n
HasWrittenBefore w Commit n = HasWritten w w.blocks n
HasWrittenBefore w Confirm n = HasWritten w w.blocks n × Reads n commit_place w.commit

-- before the next action, which is there, or at the end
abbrev pub HasWrittenThen : RoundWrites → Option Round → Device → Type 0
HasWrittenThen w (Some r) n = IsInRound w.blocks r × HasWrittenBefore w r n
HasWrittenThen w None n = HasWritten w w.blocks n × (n.queue ≡ [])

-- ---- the slot of a checkpoint, and its commit block

abbrev pub slot_writes : CheckpointParts → Block → RoundWrites
slot_writes parts commit = record {
  blocks = parts.slot_blocks;
  place = λ k. parts.slot_place + k;
  block = parts.slot;
  commit = commit;
}

-- what of the checkpoint was issued before an action
abbrev pub AreIssuedBefore : ℕ → CheckpointParts → Block → Round → Device → List Block → Type 0
AreIssuedBefore image_blocks parts commit (Write k) n memory = AreIssued image_blocks parts n memory k
AreIssuedBefore image_blocks parts commit Settle n memory = AreIssued image_blocks parts n memory parts.slot_blocks
AreIssuedBefore image_blocks parts commit Commit n memory = AreIssued image_blocks parts n memory parts.slot_blocks
AreIssuedBefore image_blocks parts commit Confirm n memory =
    AreIssued image_blocks parts n memory parts.slot_blocks × Reads n commit_place commit

-- before the next action, which is there, or at the end
abbrev pub AreIssuedThen : ℕ → CheckpointParts → Block → Option Round → Device → List Block → Type 0
AreIssuedThen image_blocks parts commit (Some r) n memory =
    IsInRound parts.slot_blocks r × AreIssuedBefore image_blocks parts commit r n memory
AreIssuedThen image_blocks parts commit None n memory = AreIssued image_blocks parts n memory parts.slot_blocks
