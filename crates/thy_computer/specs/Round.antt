-- Part of the claim.
-- A round: the blocks of a checkpoint are written, a barrier follows, then the commit block, and a barrier.
use Rattle.std.specs.Prelude.{ℕ, ◌+◌, ◌-◌, ◌<◌, nat_lt, Bool, true, false, if◌then◌else◌, Option, Some, None}
use Rattle.thy_block.specs.declared.block.Block.{Block}
use Rattle.thy_block.specs.Places.{commit_place}
use Rattle.thy_computer.specs.Action.{Action, WriteAt, Barrier}
use Rattle.thy_computer.specs.declared.round.Round.{Round}
use Rattle.thy_computer.specs.declared.round.Round.TheVariants.{Write, Settle, Commit, Confirm}

-- what a round writes: this many blocks, each at its place, and then a commit block
pub record RoundWrites : Type 0 where
  pub blocks : ℕ
  pub place : ℕ → ℕ
  pub block : ℕ → Block
  pub commit : Block

-- the block that is written next is one of the round's
abbrev pub IsInRound : ℕ → Round → Type 0
IsInRound blocks (Write k) = k < blocks
IsInRound blocks r = Unit {0}

-- the action on the NVM
abbrev pub round_action : RoundWrites → Round → Action
round_action w (Write k) = WriteAt (w.place k) (w.block k)
round_action w Settle = Barrier
round_action w Commit = WriteAt commit_place w.commit
round_action w Confirm = Barrier

-- what comes next, by the number of blocks
abbrev pub next_round : ℕ → Round → Option Round
next_round blocks (Write k) = Some (if nat_lt (k + 1) blocks then Write (k + 1) else Settle)
next_round blocks Settle = Some Commit
next_round blocks Commit = Some Confirm
next_round blocks Confirm = None

-- how many actions are left
abbrev pub round_left : ℕ → Round → ℕ
round_left blocks (Write k) = blocks - k + 3
round_left blocks Settle = 3
round_left blocks Commit = 2
round_left blocks Confirm = 1

-- the commit block was written
abbrev pub is_written : Round → Bool
is_written Confirm = true
is_written r = false
