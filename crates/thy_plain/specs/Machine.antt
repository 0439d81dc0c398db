-- The plain machine as its callers see it: what stays the same over a run, and a state.
use Rattle.std.specs.Prelude.{◌≡◌, ℕ, ◌<◌, ◌≤◌, true, false, List}
use Rattle.thy_block.specs.declared.parameters.Parameters.{Parameters}
use Rattle.thy_block.specs.Bytes.{bytes_of}
use Rattle.thy_elf.specs.Image.{Contents}
use Rattle.thy_isa.specs.OnBlocks.{setting_for}
use Rattle.thy_isa.specs.Step.{State, Setting, is_running, step, steps, step_of}
use Rattle.thy_plain.specs.declared.setup.Setup.{Setup}
use Rattle.thy_plain.specs.Start.{start_state}

-- a machine: what stays the same over a run, and a state
pub record Machine : Type 0 where
  pub setting : Setting
  pub state : State

-- a machine at the start of a program
abbrev pub loaded : Parameters → Contents → List ℕ → Machine
loaded p image input = record { setting = setting_for p input; state = start_state p image }

-- a machine in a state
abbrev pub in_state : Parameters → State → List ℕ → Machine
in_state p s input = record { setting = setting_for p input; state = s }

-- a machine after one step
abbrev pub stepped : Machine → Machine
stepped m = record m { state = step m.setting m.state }

-- a machine after a step of a hart
abbrev pub stepped_by : ℕ → Machine → Machine
stepped_by hart m = record m { state = step_of m.setting hart m.state }

-- a machine after k steps
abbrev pub after_steps : ℕ → Machine → Machine
after_steps k m = record m { state = steps m.setting k m.state }

-- k is the least number of steps after which the program no longer runs, or the limit if that is reached first
pub record StopsAt (m : Machine) (limit k : ℕ) : Type 0 where
  pub within : k ≤ limit
  pub ran : (j : ℕ) → j < k → is_running (steps m.setting j m.state).status ≡ true
  pub over : k < limit → is_running (steps m.setting k m.state).status ≡ false

-- what the code keeps in addition to a state
abbrev pub setting_of : Setup → Setting
setting_of w = record { base = w.base; input = bytes_of w.input; room = w.room }
