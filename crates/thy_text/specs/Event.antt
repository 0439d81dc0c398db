-- Part of the claim.
-- The events of a run, with the states of the plain machine.
use Rattle.std.specs.Prelude.{ℕ, List}
use Rattle.thy_block.specs.declared.cause.EndCause.{EndCause}
use Rattle.thy_isa.specs.declared.state.Status.{Status}
use Rattle.thy_isa.specs.Step.{State}

pub data Event : Type 0 where
  -- a run by the scheme of this number begins, over a device that was just fitted
  Scheme : (number : ℕ) → Event
  -- an epoch was sealed at this count of instructions, for this cause; the harts that retired its instructions are listed if there is more
  -- than one hart
  EpochEnd : (epoch count : ℕ) (cause : EndCause) (turns : List ℕ) → Event
  -- the sealed checkpoint of this epoch was committed in this cycle; `overlapped` instructions retired meanwhile
  Commit : (epoch cycle overlapped : ℕ) → Event
  -- power was cut for this time, counted from 1, after this cycle
  Cut : (index cycle : ℕ) → Event
  -- the run went on from the checkpoint of this epoch, whose state has this count
  Restart : (epoch count : ℕ) (state : State) → Event
  -- a boot after a cut found no checkpoint, and loads the program again
  Reload : Event
  -- the program is over, by the committed checkpoint of this count
  Ended : (status : Status) (count cycle : ℕ) (state : State) → Event
