-- A sink in memory.
use Rattle.std.specs.Prelude.{ℕ, ◌-◌, Bool, not, ◌&&◌, if◌then◌else◌, nat_le, Some, List, [], ◌++◌, length, take}
use Rattle.thy_block.specs.Counts.{next}
use Rattle.thy_block.specs.Outside.{Stream}
use Rattle.thy_out.specs.Counts.{is_listed}

-- a tape: what it took, how many bytes it can take in all, the calls so far, the calls that fail, and the faults
pub record Tape : Type 0 where
  pub taken : List ℕ
  pub room : ℕ
  pub calls : ℕ
  pub failing : List ℕ
  pub faults : ℕ

-- what a tape took is known
abbrev pub stream_of : Tape → Stream
stream_of tape = record { taken = Some tape.taken; faults = tape.faults }

-- how many more bytes a tape can take
abbrev pub left_of : Tape → ℕ
left_of tape = tape.room - length tape.taken

-- a listed call takes nothing, and another what fits
abbrev pub part_taken : Tape → List ℕ → List ℕ
part_taken tape piece = if is_listed tape.failing tape.calls then [] else take (left_of tape) piece

-- a call takes the whole piece
abbrev pub takes_all : Tape → List ℕ → Bool
takes_all tape piece = not (is_listed tape.failing tape.calls) && nat_le (length piece) (left_of tape)

-- the tape after a write
abbrev pub written : Tape → List ℕ → Tape
written tape piece = record tape {
  taken = tape.taken ++ part_taken tape piece;
  calls = next tape.calls;
  faults = if takes_all tape piece then tape.faults else next tape.faults;
}
