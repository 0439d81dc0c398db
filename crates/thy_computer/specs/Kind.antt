-- Part of the claim.
-- What a machine is to the layers above: what is seen of it, what its calls promise, and the laws that hold of it. What `is_at`
-- stands for is the machine's own choice, and nothing above relies on it.
use Rattle.std.specs.Prelude.{◌≡◌, ℕ, ◌+◌, ◌*◌, ◌^◌, ◌<◌, ◌≤◌, ◌&&◌, ◌||◌, not, is_some, Bool, true, false, List, [], length, drop, Option, Some, None, Result, IfOk, OnErr, ◌⊎◌, Err}
use Rattle.thy_block.specs.declared.block.Block.{Block}
use Rattle.thy_block.specs.declared.parameters.Parameters.{Parameters}
use Rattle.thy_block.specs.declared.mix.Pick.{Pick}
use Rattle.thy_block.specs.declared.nvm.Shape.{Shape}
use Rattle.thy_block.specs.declared.bytes.Bytes.{Bytes}
use Rattle.thy_block.specs.declared.mark.Mark.{Mark}
use Rattle.thy_block.specs.declared.nvm.NvmError.{NvmError}
use Rattle.thy_block.specs.Bytes.{bytes_of}
use Rattle.thy_block.specs.Counts.{Rose}
use Rattle.thy_block.specs.Device.{Device, CountAlike, HasFailed, fitted}
use Rattle.thy_block.specs.Places.{dram_blocks}
use Rattle.thy_dram.specs.Contents.{Contents, fresh}
use Rattle.thy_isa.specs.declared.state.CpuState.{CpuState}
use Rattle.thy_isa.specs.declared.state.MachState.{MachState}
use Rattle.thy_isa.specs.Step.{State, cpu_of, state_of}
use Rattle.thy_block.specs.Flat.{AllLong}
use Rattle.thy_layout.specs.Decoded.{Reading, Nothing}
use Rattle.thy_layout.specs.declared.start.Start.{Start}
use Rattle.thy_computer.specs.declared.did.Did.{Did}
use Rattle.thy_computer.specs.declared.did.Did.TheVariants.{Moved}
use Rattle.thy_computer.specs.declared.did.Stall.{Stall}
use Rattle.thy_computer.specs.declared.did.Stepped.{Stepped}
use Rattle.thy_computer.specs.declared.error.CoreError.{CoreError}
use Rattle.thy_computer.specs.declared.error.CoreError.TheVariants.{Nvm, Memory}
use Rattle.thy_computer.specs.declared.view.View.{View}
use Rattle.thy_computer.specs.Booting.{view_of_image, found_first, first_view}
use Rattle.thy_computer.specs.CoreStep.{CoreStep}
use Rattle.thy_computer.specs.Origin.{Origin, IsOrigin, Begins, at}
use Rattle.thy_computer.specs.Safe.{ceiling, IsOneOf, Safe}
use Rattle.thy_computer.specs.Action.{ActsBy, ActionFailedBy, doubt_after_fault}
use Rattle.thy_computer.specs.Dram.{LeavesDram}
use Rattle.thy_computer.specs.Pace.{Gauge, retires, KeepsPace}
use Rattle.thy_computer.specs.Stores.{needs_at, CountsLines, Dirties}
use Rattle.thy_computer.specs.WithTurns.{with_turns, AgreeBelow, reach, IsThere, HasTurn}
use Rattle.thy_computer.specs.NextActor.{Actor, NextActor, Shortage, Pressure, HandsOn, actor_of, over_by}
use Rattle.thy_computer.specs.Views.{IsRestarting, is_boot, is_between, is_halt, halts, loads, doubt_of}
use Rattle.thy_computer.specs.Work.{Works, IsWithin}

-- what machines of a type mean, and what they show
pub record KindOf (M : Type 0) : Type 1 where
  -- what an image of such a machine's NVM means
  pub decode : Reading
  -- how many blocks the NVM of such a machine has
  pub blocks : Parameters → ℕ
  -- power has just come on: nothing was read, and nothing is queued in the DRAM
  pub powered : Parameters → M → Type 0
  -- after this number of cycles of a run, cuts of power among them, machine and device are at one of its moments
  pub is_at : Origin → ℕ → M → Device → Type 0
  pub view : Origin → M → Device → View
  -- after a step of a run that failed, before which this was the view
  pub has_failed : Origin → View → M → Type 0
  -- a step has failed since power came on
  pub failed : M → Bool
  -- the boot has read the commit block
  pub has_read : M → Bool
  -- a machine in its boot migrates: the image that it found has an older form, and it writes that checkpoint again in the form of today
  pub migrates : M → Bool
  -- what the DRAM holds
  pub dram : M → Contents
  -- the hart may run while a checkpoint is under way
  pub overlaps : Bool
  pub pressure : M → Pressure
  pub gauge : M → Device → Gauge
  -- cycles that are left until the next instruction, or the end, at the most
  pub ahead : Origin → M → Device → ℕ
  -- an epoch spends less than the first number of cycles of hart and engine, and a boot has at most the second number
  -- of actions
  pub most_spent : Parameters → ℕ
  pub most_booting : Parameters → ℕ
  -- the most copies that may be owed, and blocks that may have to be promoted
  pub most_owed : Parameters → ℕ
  pub most_promotions : Parameters → ℕ
  -- what lies ahead when power comes on, and what an instruction adds, at the most
  pub most_ahead : Parameters → ℕ
  pub most_each : Parameters → ℕ
  -- a cycle of an actor that succeeds makes this of machine and device, and did this: its own rules, exactly
  pub makes : Origin → Actor → M → Device → Did → M → Device → Type 0

-- ---- the calls

-- a DRAM of a geometry, whatever it holds, with nothing queued
pub record IsDramOf (p : Parameters) (d : Contents) : Type 0 where
  pub blocks : length d.blocks ≡ dram_blocks p
  pub room : d.room ≡ p.dramq
  pub empty : d.queued ≡ 0

-- a step may be asked for: at a moment of a run with this start
pub record CanStep {M : Type 0} (K : KindOf M) (start : Start) (m : M) (n : Device) : Type 0 where
  pub o : Origin
  pub cycles : ℕ
  pub begins : Begins o start
  pub at_moment : K.is_at o cycles m n
  pub few : cycles < 2 ^ 62

-- the machine may be read: at a moment of a run
pub record CanRead {M : Type 0} (K : KindOf M) (m : M) (n : Device) : Type 0 where
  pub o : Origin
  pub cycles : ℕ
  pub at_moment : K.is_at o cycles m n

-- a step of it has failed
pub record HasStopped {M : Type 0} (K : KindOf M) (m : M) : Type 0 where
  pub o : Origin
  pub before : View
  pub failed : K.has_failed o before m

-- a snapshot of it may be taken: at a moment of a run, or after a step that failed, whatever the device is then
abbrev pub CanSnapshot : {M : Type 0} → KindOf M → M → Device → Type 0
CanSnapshot K m n = CanRead K m n ⊎ HasStopped K m

-- a checkpoint is under way while a mark is sealed, or while the scheme applies what one has written, and never both
pub record IsUnderWay (sealed : Option Mark) (p : Pressure) : Type 0 where
  pub way : p.under_way ≡ (is_some sealed || p.applies)
  pub apart : p.applies ≡ true → sealed ≡ None

-- A shortage is real: it is of an instruction which is begun and has not secured its entries yet. Fewer entries are
-- free than are needed by the lines that are dirty and by the blocks of memory and console that it stores to. Only by
-- such a shortage does an epoch end early, or the hart wait for entries.
pub record IsShortage (o : Origin) (v : View) (begun : Option ℕ) (g : Gauge) (s : Shortage) : Type 0 where
  pub hart : ℕ
  pub is_begun : begun ≡ Some hart
  pub free : s.free ≡ g.free
  pub dirty : s.dirty ≡ g.dirty
  pub had_not : g.has_secured ≡ false
  pub need : s.need ≡ needs_at o hart v.count
  pub short : s.free < s.dirty + s.need

-- the pressure on a machine at a moment is as it reports
pub record IsPressed {M : Type 0} (K : KindOf M) (o : Origin) (m : M) (n : Device) : Type 0 where
  -- after the boot, a checkpoint is under way exactly while a mark is sealed or what one has written is applied
  pub under_way : is_boot (K.view o m n).phase ≡ false → IsUnderWay (K.view o m n).sealed (K.pressure m)
  -- the hart is barred exactly while one is under way and it may not run meanwhile
  pub barred : (K.pressure m).barred ≡ ((K.pressure m).under_way && not K.overlaps)
  -- a shortage is a real one
  pub short : (s : Shortage) → (K.pressure m).short ≡ Some s → IsShortage o (K.view o m n) (K.pressure m).begun (K.gauge m n) s
  -- the dirty lines are counted, and what is secured
  pub counts : CountsLines (K.pressure m) (K.gauge m n)
  -- what is left of an instruction, to be copied and to be promoted is bounded
  pub few : IsWithin (K.most_owed o.geometry) (K.most_promotions o.geometry) (K.gauge m n)

-- A step that succeeded leads to the next moment of the run, by a step of the view, and was its pick's turn. Whatever
-- a power cut then leaves is the committed checkpoint, whole, or the one in doubt. A step that finds an empty queue,
-- as the boot's first does, reads the commit block if that is still to be read. It acts on the device once, or reads
-- it and writes one block of the DRAM, keeps within the bounds, decreases the measure `ahead` unless the machine has
-- halted or an instruction retires, and completes what it reports. No more lines of the cache become dirty than entries
-- are used that the instruction in hand has secured. The pressure on the machine before it, which decides its turn, is as
-- reported. In a boot that found a checkpoint it leaves the device as it was, unless the machine migrates; and whatever a
-- cut then leaves is that checkpoint. The last field is for whoever counts cycles, writes and events: machine, device and
-- what is reported are those that the machine's rules make.
pub record IsStep {M : Type 0} (K : KindOf M) (o : Origin) (k : ℕ) (pick : Pick) (m next : M) (n new : Device) (r : Stepped) : Type 0 where
  pub at_next : K.is_at o (k + 1) next new
  pub step : CoreStep o (K.view o m n) r.did (K.view o next new)
  pub pressed : IsPressed K o m n
  pub turn : NextActor o pick (length n.queue) (K.view o m n) (K.pressure m) r.did r.stall
  pub hands : HandsOn (actor_of o pick (length n.queue) (K.view o m n) (K.pressure m)) r.did (K.pressure m) (K.pressure next)
  pub acts : ActsBy (K.migrates m) r.did n new
  pub dram : LeavesDram r.did n new (K.dram m) (K.dram next)
  pub pace : KeepsPace (K.most_spent o.geometry) (K.view o m n) (K.view o next new) r.did (K.gauge m n) (K.gauge next new)
  pub works : Works r.did (K.gauge m n) (K.gauge next new) n new (K.dram m) (K.dram next)
  pub dirties : Dirties o (K.view o m n) r.did (K.pressure m) (K.pressure next) (K.gauge m n) (K.gauge next new)
  pub nears : is_halt (K.view o m n).phase ≡ false → K.ahead o next new + 1 ≤ K.ahead o m n + K.most_each o.geometry * retires r.did
  pub exhausts : r.did ≡ Moved → (K.view o next new).over ≡ over_by (K.pressure m).short
  pub ended : r.ended ≡ halts (K.view o m n) (K.view o next new)
  pub safe : Safe K.decode o (K.view o next new).done (doubt_of (K.view o next new)) new
  pub read : n.queue ≡ [] → K.has_read next ≡ true
  pub still : (found : Mark) → IsRestarting (K.view o m n) found → K.migrates m ≡ false → new ≡ n
  pub spares : (found : Mark) → IsRestarting (K.view o m n) found → Safe K.decode o (Some found) None new
  pub exact : K.makes o (actor_of o pick (length n.queue) (K.view o m n) (K.pressure m)) m n r.did next new

-- a cycle failed in its action, which fits what the actor whose turn it was may do; in a boot that found a checkpoint
-- it wrote nothing, unless the machine migrates
pub record CycleFailed {M : Type 0} (K : KindOf M) (o : Origin) (pick : Pick) (m : M) (n new : Device) : Type 0 where
  -- what the cycle would have done, and the stall that it would have reported
  pub did : Did
  pub stall : Option Stall
  pub pressed : IsPressed K o m n
  pub turn : NextActor o pick (length n.queue) (K.view o m n) (K.pressure m) did stall
  pub failed : ActionFailedBy (K.migrates m) did n new
  pub still : (found : Mark) → IsRestarting (K.view o m n) found → K.migrates m ≡ false → HasFailed n new

-- A step that failed leaves what the action of its turn may leave: the committed checkpoint, whole, or the one in doubt. The
-- sealed one is in doubt only if the action was the commit block's write, or that block was written before. In a boot that
-- found a checkpoint none is in doubt.
pub record LeavesSafe {M : Type 0} (K : KindOf M) (o : Origin) (pick : Pick) (m next : M) (n new : Device) : Type 0 where
  pub acted : CycleFailed K o pick m n new
  pub safe : Safe K.decode o (K.view o m n).done (doubt_after_fault acted.failed.action (K.view o m n)) new
  pub spares : (found : Mark) → IsRestarting (K.view o m n) found → Safe K.decode o (Some found) None new
  -- the machine is one of which power can be cut, and a snapshot taken
  pub stopped : K.has_failed o (K.view o m n) next

-- From any moment of any run with this start, a step that succeeded is one. If it retired an instruction, that holds of the
-- runs that give it to the hart that retired it: a machine can't know the turns to come.
abbrev pub Simulates : {M : Type 0} → KindOf M → Start → Pick → M → M → Device → Device → Result Stepped NvmError → Type 0
Simulates K start pick m next n new result =
    (o : Origin) (k : ℕ) → Begins o start → K.is_at o k m n → k < 2 ^ 62
    → IfOk result (λ r. IsThere o (K.view o m n) r.did × (HasTurn o (K.view o m n) r.did → IsStep K o k pick m next n new r))

-- a step that failed leaves what its action may leave
abbrev pub FailsSafe : {M : Type 0} → KindOf M → Start → Pick → M → M → Device → Device → Result Stepped NvmError → Type 0
FailsSafe K start pick m next n new result =
    (o : Origin) (k : ℕ) → Begins o start → K.is_at o k m n → OnErr result (LeavesSafe K o pick m next n new)

-- a state is the plain machine's at a view's count
pub record IsSnapshot (o : Origin) (v : View) (s : MachState) : Type 0 where
  pub state : state_of s ≡ at o v.count
  pub count : s.count ≡ v.count

-- what is read of a machine at a moment between two instructions is a snapshot
abbrev pub Snapshots : {M : Type 0} → KindOf M → M → Device → Result MachState CoreError → Type 0
Snapshots K m n result =
    (o : Origin) (k : ℕ) → K.is_at o k m n → is_between (K.view o m n) ≡ true
    → IfOk result (λ s. IsSnapshot o (K.view o m n) s)

-- at such a moment it is the processor of the state that is read there
abbrev pub ShowsProcessor : {M : Type 0} → KindOf M → M → CpuState → Type 0
ShowsProcessor K m cpu =
    (o : Origin) (k : ℕ) (n : Device) → K.is_at o k m n → is_between (K.view o m n) ≡ true → cpu ≡ cpu_of (at o (K.view o m n).count)

-- a state without its memory and its console: the processor's part
abbrev pub without_memory : State → State
without_memory s = record s { memory = []; console = [] }

-- a state is a processor's part alone: once the boot is over the plain machine's at the view's count, also while an
-- instruction is in hand
pub record IsProcessor (o : Origin) (before : View) (s : MachState) : Type 0 where
  pub bare : state_of s ≡ without_memory (state_of s)
  pub processor : is_boot before.phase ≡ false → state_of s ≡ without_memory (at o before.count)

-- a snapshot after a step that failed has the processor's part alone
abbrev pub SnapshotsStopped : {M : Type 0} → KindOf M → M → Result MachState CoreError → Type 0
SnapshotsStopped K m result = (o : Origin) (before : View) → K.has_failed o before m → IfOk result (IsProcessor o before)

-- what is read of a machine at a moment after the boot is the console of the committed checkpoint from a byte on
abbrev pub ShowsConsole : {M : Type 0} → KindOf M → ℕ → M → Device → Result Bytes CoreError → Type 0
ShowsConsole K from m n result =
    (o : Origin) (k : ℕ) (done : Mark) → K.is_at o k m n → is_boot (K.view o m n).phase ≡ false
    → (K.view o m n).done ≡ Some done → IfOk result (λ b. bytes_of b ≡ drop from (at o done.count).console)

-- the device was left alone, and no fault of it is reported
abbrev pub ReadsNothing : {T : Type 0} → Device → Device → Result T CoreError → Type 0
ReadsNothing n new result = (new ≡ n) × (result ≡ Err Nvm → ⊥)

-- the device is left alone, at a moment after the boot, if the committed console ends before the first byte that is asked for
abbrev pub LeavesAlonePast : {M : Type 0} → KindOf M → ℕ → M → Device → Device → Result Bytes CoreError → Type 0
LeavesAlonePast K from m n new result =
    (o : Origin) (k : ℕ) (done : Mark) → K.is_at o k m n → is_boot (K.view o m n).phase ≡ false
    → (K.view o m n).done ≡ Some done → length (at o done.count).console ≤ from → ReadsNothing n new result

-- whether a machine's boot goes on and has found no checkpoint, at a moment
abbrev pub ShowsLoading : {M : Type 0} → KindOf M → M → Bool → Type 0
ShowsLoading K m loading =
    (o : Origin) (k : ℕ) (n : Device) → K.is_at o k m n → loading ≡ (K.has_read m && loads (K.view o m n))

-- a device after a call that was to read it: the device failed, or memory ran out and the device is as it was
abbrev pub HasFailedToRead : CoreError → Device → Device → Type 0
HasFailedToRead Nvm old new = HasFailed old new × Rose old.faults new.faults
HasFailedToRead (Memory e) old new = new ≡ old

-- ---- the laws

-- a run begins with a device that was fitted: it has zeros, or the image that its start was taken from
pub record IsFittedFor {M : Type 0} (K : KindOf M) (o : Origin) (shape : Shape) (start : List Block) (n : Device) : Type 0 where
  pub blocks : shape.blocks ≡ K.blocks o.geometry
  pub fits : length start ≤ shape.blocks
  pub long : AllLong start
  pub found : K.decode o.geometry ceiling (fitted shape start n).image ≡ found_first o o.kept

-- a device over which power may come on after a moment with this view: it is up, nothing is queued, it has its size, and its
-- image means the kept mark or the sealed one
pub record IsCrashOfView {M : Type 0} (K : KindOf M) (o : Origin) (v : View) (n : Device) : Type 0 where
  pub up : n.down ≡ false
  pub settled : n.queue ≡ []
  pub blocks : length n.image ≡ K.blocks o.geometry
  pub means : IsOneOf o v.done v.sealed (K.decode o.geometry ceiling n.image)

-- a machine whose power has just come on, over a device with an empty queue
pub record IsPoweredOn {M : Type 0} (K : KindOf M) (o : Origin) (m : M) (n : Device) : Type 0 where
  pub queued : (K.gauge m n).queued ≡ 0
  pub clean : (K.gauge m n).dirty ≡ 0
  pub boot_left : (K.gauge m n).boot_left ≤ K.most_booting o.geometry
  pub ahead : K.ahead o m n ≤ K.most_ahead o.geometry

-- what a machine shows is the same with other turns
pub record IsSeenAlike {M : Type 0} (K : KindOf M) (o : Origin) (turns : List ℕ) (m : M) (n : Device) : Type 0 where
  pub view : K.view (with_turns o turns) m n ≡ K.view o m n
  pub ahead : K.ahead (with_turns o turns) m n ≡ K.ahead o m n

-- what holds of every machine of a type
pub record IsLawful {M : Type 0} (K : KindOf M) : Type 0 where
  -- power can come on, over a DRAM of zeros
  pub powers : (p : Parameters) → (m : M) × K.powered p m × (K.dram m ≡ fresh (dram_blocks p) p.dramq)
  -- over a DRAM it comes on in one way
  pub powered_once : (p : Parameters) (m x : M) → K.powered p m → K.powered p x → K.dram m ≡ K.dram x → m ≡ x
  -- an image of zeros has no checkpoint
  pub finds_nothing : (p : Parameters) (shape : Shape) (n : Device)
      → shape.blocks ≡ K.blocks p → K.decode p ceiling (fitted shape [] n).image ≡ Nothing
  -- a run begins at a moment
  pub begins : (o : Origin) (m : M) (shape : Shape) (start : List Block) (n : Device)
      → IsOrigin o → K.powered o.geometry m → IsFittedFor K o shape start n
      → K.is_at o 0 m (fitted shape start n) × (K.view o m (fitted shape start n) ≡ first_view o)
  -- power that comes on over a device which a cut may have left, also after a step that failed, leads to a moment of the
  -- same run, whose view is what the image means
  pub finds : (o : Origin) (k : ℕ) (m next : M) (n left : Device)
      → K.is_at o k m n → K.powered o.geometry next → IsCrashOfView K o (K.view o m n) left
      → K.is_at o k next left × (K.view o next left ≡ view_of_image o.start.count (K.decode o.geometry ceiling left.image))
  -- the device has its size at every moment
  pub sized : (o : Origin) (k : ℕ) (m : M) (n : Device) → K.is_at o k m n → length n.image ≡ K.blocks o.geometry
  -- when power comes on nothing is queued, no line is dirty, and what lies ahead is bounded
  pub powered_on : (o : Origin) (k : ℕ) (m : M) (n : Device)
      → K.is_at o k m n → K.powered o.geometry m → n.queue ≡ [] → IsPoweredOn K o m n
  -- at a moment no step has failed
  pub unfailed : (o : Origin) (k : ℕ) (m : M) (n : Device) → K.is_at o k m n → K.failed m ≡ false
  -- a machine after a step that failed says that one has failed
  pub shows_failure : (o : Origin) (before : View) (m : M) → K.has_failed o before m → K.failed m ≡ true
  -- something lies ahead at every moment
  pub some_ahead : (o : Origin) (k : ℕ) (m : M) (n : Device) → K.is_at o k m n → 1 ≤ K.ahead o m n
  -- the gauge counts what is queued in the NVM and in the DRAM
  pub counts_queues : (m : M) (n : Device) → (K.gauge m n).queued ≡ length n.queue + (K.pressure m).dram
  pub counts_dram : (m : M) → (K.pressure m).dram ≡ (K.dram m).queued
  -- the pressure that a machine reports fits its view and its gauge
  pub pressed : (o : Origin) (k : ℕ) (m : M) (n : Device) → K.is_at o k m n → IsPressed K o m n
  -- the device is up at every moment
  pub up : (o : Origin) (k : ℕ) (m : M) (n : Device) → K.is_at o k m n → n.down ≡ false
  -- whatever a power cut leaves at a moment is the committed checkpoint, whole, or the one in doubt
  pub is_safe : (o : Origin) (k : ℕ) (m : M) (n : Device)
      → K.is_at o k m n → Safe K.decode o (K.view o m n).done (doubt_of (K.view o m n)) n
  -- a moment is one with all turns that agree so far, and is seen alike
  pub agrees : (o : Origin) (turns : List ℕ) (k : ℕ) (m : M) (n : Device)
      → K.is_at o k m n → AgreeBelow o turns (reach (K.view o m n)) → K.is_at (with_turns o turns) k m n
  pub seen_alike : (o : Origin) (turns : List ℕ) (k : ℕ) (m : M) (n : Device)
      → K.is_at o k m n → AgreeBelow o turns (reach (K.view o m n)) → IsSeenAlike K o turns m n
  -- a cycle has one outcome, whatever the turns, if what the device counts has one
  pub one_outcome : (o : Origin) (turns other : List ℕ) (actor : Actor) (m x y : M) (n u v : Device) (d e : Did)
      → K.makes (with_turns o turns) actor m n d x u → K.makes (with_turns o other) actor m n e y v → CountAlike n u v → (d ≡ e) × (x ≡ y) × (u ≡ v)
