-- Part of the claim.
-- The machine: hart, cache and a scheme of checkpoints, and what is seen of it.
use Rattle.std.specs.Prelude.{ℕ, ◌+◌, ◌==◌, ◌&&◌, not, Bool, true, false, nat_lt, if◌then◌else◌, List, length, Option, Some, None}
use Rattle.thy_block.specs.declared.block.Block.{Block}
use Rattle.thy_block.specs.declared.parameters.Parameters.{Parameters}
use Rattle.thy_block.specs.Device.{Device}
use Rattle.thy_block.specs.declared.cause.EndCause.{EndCause}
use Rattle.thy_block.specs.Marks.{mark}
use Rattle.thy_cache.specs.Contents.{Contents, dirty_count, empty_cache}
use Rattle.thy_cache.specs.Flat.{flat}
use Rattle.thy_hart.specs.declared.hand.Hand.{Hand}
use Rattle.thy_hart.specs.declared.hand.Hand.TheVariants.{Nothing, Reading, Securing, Writing, Retiring}
use Rattle.thy_dram.specs.Contents.{Contents as DramContents}
use Rattle.thy_hart.specs.HartState.{HartState, new_hart, blocks_of, secured, has_secured as hand_secured}
use Rattle.thy_isa.specs.declared.state.CpuState.{CpuState}
use Rattle.thy_isa.specs.Step.{cpu_crossed, zero_cpu}
use Rattle.thy_hart.specs.Moments.{Moment, moment, moves_left}
use Rattle.thy_computer.specs.declared.view.Phase.{Phase}
use Rattle.thy_computer.specs.declared.view.Phase.TheVariants.{Boot, Run, Halt}
use Rattle.thy_computer.specs.declared.view.View.{View}
use Rattle.thy_computer.specs.Origin.{Origin}
use Rattle.thy_computer.specs.Pace.{Gauge}
use Rattle.thy_computer.specs.NextActor.{Pressure, Shortage, front_of}
use Rattle.thy_scheme.specs.CheckpointMarks.{CheckpointMarks, only}
use Rattle.thy_scheme.specs.Scheme.{SchemeOf}
use Rattle.thy_scheme.specs.SchemeStore.{held_by_scheme}

-- how long the consoles of the committed checkpoint and of the sealed one are
pub record Lengths : Type 0 where
  pub done : ℕ
  pub sealed : ℕ

pub record Machine (S : Type 0) : Type 0 where
  pub hart : HartState
  pub cache : Contents
  pub scheme : S
  pub phase : Phase
  pub marks : CheckpointMarks
  pub consoles : Lengths
  -- the state that was sealed has ended
  pub ends : Bool
  -- cycles of hart and engine, and instructions, since the latest seal
  pub spent : ℕ
  pub lap : ℕ
  -- the epoch that was sealed last retired nothing
  pub idle : Bool
  -- a step failed since power came on
  pub failed : Bool
  -- the hart whose instruction is begun, which is in front; while none is, hart 0 is
  pub begun : Option ℕ
  -- the hart that retired the last instruction since the boot
  pub last : Option ℕ

-- a machine over this scheme whose power has just come on: it boots, and nothing is counted
abbrev pub machine_over : {S : Type 0} → Parameters → S → Machine S
machine_over p s = record {
  hart = new_hart p zero_cpu 0;
  cache = empty_cache p.sets p.ways;
  scheme = s;
  phase = Boot;
  marks = only (mark 0 0);
  consoles = record { done = 0; sealed = 0 };
  ends = false;
  spent = 0;
  lap = 0;
  idle = false;
  failed = false;
  begun = None;
  last = None;
}

-- a machine whose power has just come on over this DRAM
abbrev pub machine_on : {S : Type 0} → SchemeOf S → Parameters → DramContents → Machine S
machine_on K p dram = machine_over p (K.calls.powered_on p dram)

-- a processor with this hart in front, of one with hart 0 in front; and back again
abbrev pub cpu_fronted : ℕ → CpuState → CpuState
cpu_fronted hart c = if hart == 0 then c else cpu_crossed c

-- the processor with hart 0 in front
abbrev pub processor_of : {S : Type 0} → Machine S → CpuState
processor_of m = cpu_fronted (front_of m.begun) m.hart.cpu

-- hart and cache over the scheme
abbrev pub moment_of : {S : Type 0} → SchemeOf S → Machine S → Device → Moment
moment_of K m n = moment m.hart m.cache (held_by_scheme K m.scheme n)

-- the hart as it is once hart 0 is in front
abbrev pub hart_put_back : {S : Type 0} → Machine S → HartState
hart_put_back m = record m.hart { cpu = processor_of m }

-- memory, as it is read through the cache
abbrev pub memory_of : {S : Type 0} → SchemeOf S → Machine S → Device → List Block
memory_of K m n = flat m.cache (K.holding m.scheme n).blocks

-- ---- what is seen

abbrev pub run_view : {S : Type 0} → Machine S → View
run_view m = record {
  phase = m.phase;
  done = Some m.marks.done;
  sealed = m.marks.sealed;
  epoch = m.hart.epoch.number;
  count = m.hart.cpu.count;
  retired = m.hart.epoch.retired;
  spent = m.spent;
  lap = m.lap;
  over = m.hart.epoch.over;
  written = m.marks.written;
}

abbrev pub view_in : {S : Type 0} → SchemeOf S → Origin → Phase → Machine S → Device → View
view_in K o Boot m n = K.boot_view o m.scheme n
view_in K o Run m n = run_view m
view_in K o Halt m n = run_view m

-- the view of a machine: in the boot it is the scheme's
abbrev pub view_of : {S : Type 0} → SchemeOf S → Origin → Machine S → Device → View
view_of K o m n = view_in K o m.phase m n

-- a checkpoint is under way, and the scheme lets nothing run meanwhile
abbrev pub is_barred : {S : Type 0} → SchemeOf S → Machine S → Bool
is_barred K m = K.under_way m.scheme && not K.overlaps

-- an instruction that secures room is short if fewer entries are free than the dirty lines and its blocks need
abbrev pub short_of : ℕ → ℕ → Hand → Option Shortage
short_of free dirty Nothing = None
short_of free dirty (Reading e from to) = None
short_of free dirty (Securing e to) =
    if nat_lt free (dirty + blocks_of to) then Some (record { free = free; dirty = dirty; need = blocks_of to }) else None
short_of free dirty (Writing e to done) = None
short_of free dirty (Retiring e wrote) = None

abbrev pub shortage_of : {S : Type 0} → SchemeOf S → Machine S → Option Shortage
shortage_of K m = short_of (K.free m.scheme) (dirty_count m.cache) m.hart.hand

abbrev pub pressure_of : {S : Type 0} → SchemeOf S → Machine S → Pressure
pressure_of K m = record {
  dram = K.queued m.scheme;
  under_way = K.under_way m.scheme;
  applies = K.applies m.scheme;
  barred = is_barred K m;
  short = shortage_of K m;
  promotes = K.promoting m.scheme;
  dirty = dirty_count m.cache;
  overlaid = K.overlaid m.scheme;
  begun = m.begun;
  last = m.last;
}

abbrev pub boot_left_in : {S : Type 0} → SchemeOf S → Phase → Machine S → ℕ
boot_left_in K Boot m = K.boot_left m.scheme
boot_left_in K Run m = 0
boot_left_in K Halt m = 0

-- moves that are left: the most while none is begun, as the line of the other hart may have to be brought
abbrev pub moves_begun : Option ℕ → ℕ → ℕ
moves_begun None left = 16
moves_begun (Some hart) left = left

-- moves are left while the hart runs and its epoch is not over
abbrev pub moves_while : Option EndCause → Option ℕ → Moment → ℕ
moves_while None begun m = moves_begun begun (moves_left m)
moves_while (Some cause) begun m = 0

abbrev pub moves_in : Phase → Option EndCause → Option ℕ → Moment → ℕ
moves_in Boot over begun m = 0
moves_in Run over begun m = moves_while over begun m
moves_in Halt over begun m = 0

-- a number that is 0 in the boot, in which nothing is owed or to be promoted
abbrev pub after_boot_only : Phase → ℕ → ℕ
after_boot_only Boot number = 0
after_boot_only Run number = number
after_boot_only Halt number = number

abbrev pub gauge_in : {S : Type 0} → SchemeOf S → Phase → Machine S → Device → Gauge
gauge_in K phase m n = record {
  boot_left = boot_left_in K phase m;
  idle = m.idle;
  queued = length n.queue + K.queued m.scheme;
  free = K.free m.scheme;
  dirty = dirty_count m.cache + secured m.hart.hand;
  has_secured = hand_secured m.hart.hand;
  moves = moves_in phase m.hart.epoch.over m.begun (moment_of K m n);
  owed = after_boot_only phase (K.holding m.scheme n).owed;
  owed_later = after_boot_only phase (K.owed_later m.scheme);
  promotions = after_boot_only phase (K.promotions_left m.scheme);
}

abbrev pub gauge_of : {S : Type 0} → SchemeOf S → Machine S → Device → Gauge
gauge_of K m n = gauge_in K m.phase m n

abbrev pub has_read_in : {S : Type 0} → SchemeOf S → Phase → Machine S → Bool
has_read_in K Boot m = K.has_read m.scheme
has_read_in K Run m = true
has_read_in K Halt m = true

-- the commit block was read
abbrev pub has_read_of : {S : Type 0} → SchemeOf S → Machine S → Bool
has_read_of K m = has_read_in K m.phase m
