-- A machine of a test whose power is on, with its device.
use Rattle.std.specs.Prelude.{◌≡◌, ℕ, ◌+◌, ◌≤◌, ◌<◌, ◌^◌, [], length}
use Rattle.thy_block.specs.declared.parameters.Parameters.{Parameters}
use Rattle.thy_block.specs.Bytes.{bytes_of}
use Rattle.thy_block.specs.Device.{Device}
use Rattle.thy_isa.specs.Step.{state_of}
use Rattle.thy_layout.specs.declared.start.Start.{Start}
use Rattle.thy_computer.specs.Kind.{KindOf}
use Rattle.thy_computer.specs.Origin.{Origin}

-- what a run from a start is about
abbrev pub origin_from : Parameters → Start → Origin
origin_from p start = record { geometry = p; start = state_of start.state; input = bytes_of start.input; kept = start.kept; turns = [] }

pub record Powered (M : Type 0) : Type 0 where
  pub origin : Origin
  pub machine : M
  pub nvm : Device
  -- how many cycles are done
  pub cycles : ℕ
  -- how many cuts are to come at most
  pub cuts : ℕ

abbrev pub powered : {M : Type 0} → Parameters → Start → M → Device → ℕ → ℕ → Powered M
powered p start m n cycles cuts = record { origin = origin_from p start; machine = m; nvm = n; cycles = cycles; cuts = cuts }

-- the NVM has room for this many cuts
abbrev pub HasRoom : Device → ℕ → Type 0
HasRoom n cuts = length n.left + cuts ≤ n.left_room

-- machine and device are at a moment of the run, which has one hart
pub record IsPowered {M : Type 0} (K : KindOf M) (m : Powered M) : Type 0 where
  pub at_moment : K.is_at m.origin m.cycles m.machine m.nvm
  pub one : m.origin.geometry.harts ≡ 1
  pub few : m.cycles < 2 ^ 62
  pub room : HasRoom m.nvm m.cuts
