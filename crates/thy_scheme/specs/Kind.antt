-- Part of the claim.
-- The machine as the layers above see it.
use Rattle.std.specs.Prelude.{ℕ, ◌+◌, ◌-◌, ◌*◌, ◌==◌, if◌then◌else◌, Bool}
use Rattle.thy_block.specs.declared.parameters.Parameters.{Parameters}
use Rattle.thy_block.specs.Device.{Device}
use Rattle.thy_computer.specs.declared.view.Phase.{Phase}
use Rattle.thy_computer.specs.declared.view.Phase.TheVariants.{Boot, Run, Halt}
use Rattle.thy_computer.specs.declared.view.View.{View}
use Rattle.thy_computer.specs.Kind.{KindOf}
use Rattle.thy_computer.specs.Origin.{Origin}
use Rattle.thy_computer.specs.Pace.{Gauge}
use Rattle.thy_scheme.specs.Scheme.{SchemeOf}
use Rattle.thy_scheme.specs.MachineExact.{MakesCycle}
use Rattle.thy_scheme.specs.Machine.{Machine, view_of, pressure_of, gauge_of, has_read_of}
use Rattle.thy_scheme.specs.Pace.{most_spent}
use Rattle.thy_scheme.specs.Sound.{IsAt, SoundStopped, IsPowered}

-- how many cycles the epochs without an instruction may still take: two such epochs after one that retired some, else
-- one unless the epoch before was idle
abbrev pub idle_left : ℕ → ℕ → Bool → ℕ
idle_left most retired idle = if retired == 0 then (if idle then 0 else most) else 2 * most

-- cycles of boot, hart and engine until the next instruction, or the end, at the most
abbrev pub own_left : ℕ → Phase → View → Gauge → ℕ
own_left most Boot v g = g.boot_left + 2 * most
own_left most Run v g = most - 1 - v.spent + idle_left most v.retired g.idle
own_left most Halt v g = 0

-- the cycles left until the next instruction, or the end, at the most: also a drain for each write that is queued, and for each that those
-- cycles queue
abbrev pub left_ahead : ℕ → View → Gauge → ℕ
left_ahead most v g = 1 + g.queued + 2 * own_left most v.phase v g

abbrev pub ahead_of : {S : Type 0} → SchemeOf S → Origin → Machine S → Device → ℕ
ahead_of K o m n = left_ahead (most_spent K o.geometry) (view_of K o m n) (gauge_of K m n)

abbrev pub most_ahead : {S : Type 0} → SchemeOf S → Parameters → ℕ
most_ahead K p = 1 + 2 * K.most_booting p + 4 * most_spent K p

abbrev pub most_each_of : {S : Type 0} → SchemeOf S → Parameters → ℕ
most_each_of K p = 4 * most_spent K p

abbrev pub kind_over : {S : Type 0} → SchemeOf S → KindOf (Machine S)
kind_over K = record {
  decode = K.decode;
  blocks = K.blocks;
  powered = IsPowered K;
  is_at = IsAt K;
  view = view_of K;
  has_failed = SoundStopped K;
  failed = λ m. m.failed;
  has_read = has_read_of K;
  migrates = λ m. K.migrates m.scheme;
  dram = λ m. K.dram m.scheme;
  overlaps = K.overlaps;
  pressure = pressure_of K;
  gauge = gauge_of K;
  ahead = ahead_of K;
  most_spent = most_spent K;
  most_booting = K.most_booting;
  most_owed = K.most_owed;
  most_promotions = K.most_promotions;
  most_ahead = most_ahead K;
  most_each = most_each_of K;
  makes = MakesCycle K;
}
