-- Part of the claim.
-- Where a run starts, and how the plain machine runs from there on.
use Rattle.std.specs.Prelude.{◌≡◌, ℕ, zero, suc, ◌-◌, ◌^◌, ◌<◌, nat_lt, if◌then◌else◌, List, length, get_or, Bool, Option, Some, None}
use Rattle.thy_block.specs.declared.parameters.Parameters.{Parameters}
use Rattle.thy_block.specs.declared.mark.Mark.{Mark}
use Rattle.thy_block.specs.Bytes.{bytes_of}
use Rattle.thy_block.specs.Geometry.{IsInRange, program_size}
use Rattle.thy_isa.specs.declared.state.Status.TheVariants.{Running}
use Rattle.thy_isa.specs.OnBlocks.{setting_for}
use Rattle.thy_isa.specs.Step.{State, Setting, state_of, cpu_of, step_of, is_running}
use Rattle.thy_isa.specs.Storable.{IsStorable, IsReadable}
use Rattle.thy_layout.specs.Cpu.{IsRecordable}
use Rattle.thy_layout.specs.declared.start.Start.{Start}

-- what a run is about
pub record Origin : Type 0 where
  pub geometry : Parameters
  pub start : State
  pub input : List ℕ
  -- the checkpoint that the start was taken from; None if it was made from a file
  pub kept : Option Mark
  -- the hart that retires each instruction from the start on; after the last one listed it is hart 0
  pub turns : List ℕ

-- what the plain machine needs in addition to a state
abbrev pub setting_of : Origin → Setting
setting_of o = setting_for o.geometry o.input

-- the hart that retires the next instruction at a count; below the start's it is hart 0
abbrev pub turn_at : Origin → ℕ → ℕ
turn_at o k = if nat_lt k o.start.count then 0 else get_or o.turns (k - o.start.count) 0

-- k steps, each by the hart whose turn it is
unfoldable pub by_turns : Setting → List ℕ → ℕ → State → State
by_turns g turns zero s = s
by_turns g turns (suc k) s = step_of g (get_or turns k 0) (by_turns g turns k s)

-- the plain machine when it has retired k instructions, counted from the program's start
unfoldable pub at : Origin → ℕ → State
at o k = by_turns (setting_of o) o.turns (k - o.start.count) o.start

-- the plain machine still runs when it has retired k instructions
abbrev pub runs_at : Origin → ℕ → Bool
runs_at o k = is_running (at o k).status

-- a start that was made from a file runs; one of a checkpoint may have ended
abbrev pub StartsFrom : Option Mark → State → Type 0
StartsFrom None s = s.status ≡ Running
StartsFrom (Some m) s = (m.count ≡ s.count) × (m.epoch < 2 ^ 62)

-- the start of a run fits its geometry and can be stored, and its input is one of bytes
pub record IsOrigin (o : Origin) : Type 0 where
  pub geometry : IsInRange o.geometry
  pub recordable : IsRecordable o.geometry (2 ^ 62) (cpu_of o.start)
  pub memory : length o.start.memory ≡ program_size o.geometry
  pub storable : IsStorable (program_size o.geometry) o.start
  pub readable : IsReadable (setting_of o)
  pub starts : StartsFrom o.kept o.start

-- a run has this start
pub record Begins (o : Origin) (start : Start) : Type 0 where
  pub state : o.start ≡ state_of start.state
  pub input : o.input ≡ bytes_of start.input
  pub kept : o.kept ≡ start.kept
