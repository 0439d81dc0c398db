-- Part of the claim.
-- What holds of the machine at every moment of a run.
use Rattle.std.specs.Prelude.{◌≡◌, ◌≢◌, ℕ, ◌+◌, ◌^◌, ◌<◌, ◌≤◌, ◌==◌, not, true, false, Bool, List, length, Option, Some, None, []}
use Rattle.thy_block.specs.declared.cause.EndCause.{EndCause}
use Rattle.thy_block.specs.declared.parameters.Parameters.{Parameters}
use Rattle.thy_block.specs.declared.mark.Mark.{Mark}
use Rattle.thy_block.specs.Device.{Device}
use Rattle.thy_cache.specs.Contents.{Contents, dirty_count, IsSized, IsOpenForFlush}
use Rattle.thy_cache.specs.Flat.{Agrees, AgreesWithAll, ReadsAsStore}
use Rattle.thy_block.specs.declared.span.Span.{Span}
use Rattle.thy_hart.specs.Epoch.{HasRetired}
use Rattle.thy_hart.specs.declared.hand.Hand.{Hand}
use Rattle.thy_hart.specs.declared.hand.Hand.TheVariants.{Nothing, Reading, Securing, Writing, Retiring}
use Rattle.thy_hart.specs.HartState.{HartState, next_block, secured}
use Rattle.thy_hart.specs.Moments.{IsOpenFor}
use Rattle.thy_hart.specs.Laws.{Follows}
use Rattle.thy_isa.specs.Step.{State, state_with, fronted, is_running}
use Rattle.thy_computer.specs.declared.view.Phase.{Phase}
use Rattle.thy_computer.specs.declared.view.Phase.TheVariants.{Boot, Run, Halt}
use Rattle.thy_computer.specs.declared.view.View.{View}
use Rattle.thy_computer.specs.Kind.{without_memory}
use Rattle.thy_computer.specs.Origin.{Origin, IsOrigin, at, runs_at}
use Rattle.thy_computer.specs.Stores.{stored_by}
use Rattle.thy_computer.specs.WithTurns.{with_turns, AgreeBelow, reach}
use Rattle.thy_computer.specs.NextActor.{front_of, has_stopped}
use Rattle.thy_computer.specs.Views.{is_boot}
use Rattle.thy_scheme.specs.Scheme.{SchemeOf}
use Rattle.thy_scheme.specs.Machine.{Machine, machine_on, processor_of, memory_of, view_of}
use Rattle.thy_scheme.specs.Pace.{cycles_left, most_spent}

-- ---- numbers that so many cycles can have reached

pub record IsSmallMark (cycles : ℕ) (m : Mark) : Type 0 where
  pub epoch : m.epoch < 2 ^ 62 + cycles + 1
  pub count : m.count < 2 ^ 62 + cycles

pub record IsSmall (cycles : ℕ) (v : View) : Type 0 where
  pub epoch : v.epoch ≤ 2 ^ 62 + cycles
  pub count : v.count < 2 ^ 62 + cycles
  pub spent : v.spent ≤ cycles
  pub lap : v.lap ≤ cycles
  pub done : (m : Mark) → v.done ≡ Some m → IsSmallMark cycles m
  pub sealed : (m : Mark) → v.sealed ≡ Some m → IsSmallMark cycles m

-- ---- the parts after the boot

-- between two steps of an instruction a page may be open for the line in the way of the next block; while none is begun
-- none is open
abbrev pub OpenFor : Option ℕ → Contents → HartState → Option ℕ → Type 0
OpenFor None c h page = page ≡ None
OpenFor (Some hart) c h page = IsOpenFor c (next_block h) page

-- once the epoch is over one may be open for the first dirty line
abbrev pub OpenNow : Option EndCause → Option ℕ → Contents → HartState → Option ℕ → Type 0
OpenNow None begun c h page = OpenFor begun c h page
OpenNow (Some cause) begun c h page = IsOpenForFlush c page

-- the cache reads as memory over the scheme, which has room for its dirty lines and for what is secured
pub record IsHeld {S : Type 0} (K : SchemeOf S) (m : Machine S) (n : Device) : Type 0 where
  pub agree : Agrees m.cache (K.holding m.scheme n).blocks
  pub room : dirty_count m.cache + secured m.hart.hand ≤ K.free m.scheme
  pub opened : OpenNow m.hart.epoch.over m.begun m.cache m.hart (K.holding m.scheme n).open_page

-- before room is secured, what the instruction in hand is to write is what the plain machine's writes
abbrev pub IsToWrite : Span → Hand → Type 0
IsToWrite stored Nothing = Unit {0}
IsToWrite stored (Reading e from to) = to ≡ stored
IsToWrite stored (Securing e to) = (to ≡ stored) × ((to.len == 0) ≡ false)
IsToWrite stored (Writing e to done) = Unit {0}
IsToWrite stored (Retiring e wrote) = Unit {0}

-- the plain machine at the machine's count of instructions, with the hart in front that the machine has there
abbrev pub state_in_front : {S : Type 0} → Origin → Machine S → State
state_in_front o m = fronted (front_of m.begun) (at o m.hart.cpu.count)

-- the hart that is in front is one of the geometry's; while none is begun, nothing is in hand, and none is once the epoch is
-- over
pub record IsFront {S : Type 0} (o : Origin) (m : Machine S) : Type 0 where
  pub there : (hart : ℕ) → m.begun ≡ Some hart → hart < o.geometry.harts
  pub rests : m.begun ≡ None → m.hart.hand ≡ Nothing
  pub over : m.hart.epoch.over ≢ None → m.begun ≡ None

-- the processor agrees with the plain machine at the same count of instructions
pub record IsCounted {S : Type 0} (o : Origin) (m : Machine S) : Type 0 where
  pub start : o.start.count ≤ m.hart.cpu.count
  pub count : (at o m.hart.cpu.count).count ≡ m.hart.cpu.count
  pub processor : state_with (processor_of m) [] [] ≡ without_memory (at o m.hart.cpu.count)
  pub running : is_running m.hart.cpu.status ≡ runs_at o m.hart.cpu.count

-- the machine's epoch is one of this length, no instruction is begun before anything was spent, and none is in hand
-- once it is over
pub record IsEpoch {S : Type 0} (o : Origin) (m : Machine S) : Type 0 where
  pub began : m.spent ≡ 0 → m.begun ≡ None
  pub span : m.hart.epoch.span ≡ o.geometry.epoch
  pub retired : HasRetired m.hart.epoch.span m.hart.epoch.retired m.hart.epoch.over
  pub hand : m.hart.epoch.over ≢ None → m.hart.hand ≡ Nothing

-- how far the epoch is ahead of the committed checkpoint: by one, and by one more while another is under way
abbrev pub epochs_ahead : Option Mark → ℕ
epochs_ahead None = 1
epochs_ahead (Some m) = 2

-- each checkpoint is of the next epoch, and makes the state of the plain machine at its count
pub record IsNumbered {S : Type 0} (o : Origin) (m : Machine S) : Type 0 where
  pub epoch : m.hart.epoch.number ≡ m.marks.done.epoch + epochs_ahead m.marks.sealed
  pub sealed : (s : Mark) → m.marks.sealed ≡ Some s → s.epoch ≡ m.marks.done.epoch + 1
  pub unwritten : m.marks.sealed ≡ None → m.marks.written ≡ false

-- what is known of the consoles of both checkpoints, and of the end of the sealed one
pub record IsShown {S : Type 0} (o : Origin) (m : Machine S) : Type 0 where
  pub done : m.consoles.done ≡ length (at o m.marks.done.count).console
  pub sealed : (s : Mark) → m.marks.sealed ≡ Some s → m.consoles.sealed ≡ length (at o s.count).console
  pub ends : (s : Mark) → m.marks.sealed ≡ Some s → m.ends ≡ not (runs_at o s.count)

-- the hart stands still, at this count
pub record IsStill {S : Type 0} (count : ℕ) (m : Machine S) : Type 0 where
  pub count_is : m.hart.cpu.count ≡ count
  pub hand : m.hart.hand ≡ Nothing
  pub begun : m.begun ≡ None
  pub over : m.hart.epoch.over ≡ None

-- the hart stands still once the sealed state has ended, or the machine has halted
pub record IsEnded {S : Type 0} (o : Origin) (m : Machine S) : Type 0 where
  pub sealed : (s : Mark) → m.marks.sealed ≡ Some s → runs_at o s.count ≡ false → IsStill s.count m
  pub halted : m.phase ≡ Halt → IsStill m.marks.done.count m × (m.marks.sealed ≡ None)
  -- the program runs while the machine does, the epoch is not over, and the sealed state has not ended
  pub live : m.phase ≡ Run → m.hart.epoch.over ≡ None → has_stopped o m.marks.sealed ≡ false
      → runs_at o m.hart.cpu.count ≡ true

-- with no room secured, nothing was stored and no line is dirty
abbrev pub IsFresh : Hand → ℕ → Bool → Type 0
IsFresh Nothing dirty storeless = (dirty ≡ 0) × (storeless ≡ true)
IsFresh (Reading e from to) dirty storeless = (dirty ≡ 0) × (storeless ≡ true)
IsFresh (Securing e to) dirty storeless = (dirty ≡ 0) × (storeless ≡ true)
IsFresh (Writing e to done) dirty storeless = Unit {0}
IsFresh (Retiring e wrote) dirty storeless = Unit {0}

-- an epoch stores nothing before its first instruction has room secured, and one that retires none stores nothing
abbrev pub StartsFresh : Option EndCause → ℕ → Hand → ℕ → Bool → Type 0
StartsFresh None retired hand dirty storeless = retired ≡ 0 → IsFresh hand dirty storeless
StartsFresh (Some cause) retired hand dirty storeless = retired ≡ 0 → (dirty ≡ 0) × (storeless ≡ true)

-- the bounds on the cycles of an epoch
pub record IsPaced {S : Type 0} (K : SchemeOf S) (p : Parameters) (m : Machine S) (n : Device) : Type 0 where
  pub spent : m.spent + cycles_left K p m n < most_spent K p
  pub fresh : StartsFresh m.hart.epoch.over m.hart.epoch.retired m.hart.hand (dirty_count m.cache) (K.storeless m.scheme)
  -- an epoch after one that retired nothing, and so stored nothing, retires an instruction
  pub sealed_storeless : m.idle ≡ true → K.sealed_storeless m.scheme ≡ true
  pub strides : m.idle ≡ true → m.hart.epoch.over ≢ None → 1 ≤ m.hart.epoch.retired
  -- nothing is promoted once the epoch is over
  pub promoted : m.hart.epoch.over ≢ None → K.promoting m.scheme ≡ false

-- what holds of a machine after its boot
pub record SoundRun {S : Type 0} (K : SchemeOf S) (o : Origin) (m : Machine S) (n : Device) : Type 0 where
  pub checkpoints : K.is_sound o m.marks m.scheme n
  pub held : IsHeld K m n
  pub follows : Follows o.input (state_in_front o m) m.hart (memory_of K m n)
  pub writes : IsToWrite (stored_by o (state_in_front o m)) m.hart.hand
  pub front : IsFront o m
  pub counted : IsCounted o m
  pub epoch : IsEpoch o m
  pub numbered : IsNumbered o m
  pub shown : IsShown o m
  pub ended : IsEnded o m
  pub paced : IsPaced K o.geometry m n

-- ---- the boot

-- the cache has no lines yet, and nothing is counted
pub record IsBlank {S : Type 0} (m : Machine S) : Type 0 where
  pub agree : AgreesWithAll m.cache
  pub reads : ReadsAsStore m.cache
  pub clean : dirty_count m.cache ≡ 0
  pub hand : m.hart.hand ≡ Nothing
  pub spent : m.spent ≡ 0
  pub lap : m.lap ≡ 0
  pub idle : m.idle ≡ false
  pub begun : m.begun ≡ None
  pub last : m.last ≡ None

-- the hart is not used while the scheme boots
pub record SoundBoot {S : Type 0} (K : SchemeOf S) (o : Origin) (m : Machine S) (n : Device) : Type 0 where
  pub boots : K.boots o m.scheme n
  pub blank : IsBlank m

abbrev pub SoundIn : {S : Type 0} → SchemeOf S → Origin → Phase → Machine S → Device → Type 0
SoundIn K o Boot m n = SoundBoot K o m n
SoundIn K o Run m n = SoundRun K o m n
SoundIn K o Halt m n = SoundRun K o m n

-- what holds after this number of cycles of a run, along its turns
pub record Sound {S : Type 0} (K : SchemeOf S) (o : Origin) (cycles : ℕ) (m : Machine S) (n : Device) : Type 0 where
  pub origin : IsOrigin o
  pub geometry : m.hart.geometry ≡ o.geometry
  -- the cache has the geometry's sets and ways
  pub sized : IsSized o.geometry.sets o.geometry.ways m.cache
  pub up : n.down ≡ false
  pub unfailed : m.failed ≡ false
  pub small : IsSmall cycles (view_of K o m n)
  pub moment : SoundIn K o m.phase m n

-- what holds after this number of cycles along all turns that agree so far: later turns don't matter
abbrev pub IsAt : {S : Type 0} → SchemeOf S → Origin → ℕ → Machine S → Device → Type 0
IsAt K o cycles m n = (turns : List ℕ) → AgreeBelow o turns (reach (view_of K o m n)) → Sound K (with_turns o turns) cycles m n

-- power has just come on, over the DRAM that the scheme has: this very machine
pub record IsPowered {S : Type 0} (K : SchemeOf S) (p : Parameters) (m : Machine S) : Type 0 where
  pub phase : m.phase ≡ Boot
  pub geometry : m.hart.geometry ≡ p
  -- the cache has the geometry's sets and ways, and an epoch of the hart is as long as it says
  pub sized : IsSized p.sets p.ways m.cache
  pub span : m.hart.epoch.span ≡ p.epoch
  pub scheme : K.powered p m.scheme
  pub blank : IsBlank m
  pub unfailed : m.failed ≡ false
  pub exact : m ≡ machine_on K p (K.dram m.scheme)

-- after a step that failed, before which this was the view: the scheme is still one of the run's geometry, and the
-- processor is as before
pub record SoundStopped {S : Type 0} (K : SchemeOf S) (o : Origin) (before : View) (m : Machine S) : Type 0 where
  pub failed : m.failed ≡ true
  pub of_geometry : K.is_of o.geometry m.scheme
  pub processor : is_boot before.phase ≡ false → state_with (processor_of m) [] [] ≡ without_memory (at o before.count)
