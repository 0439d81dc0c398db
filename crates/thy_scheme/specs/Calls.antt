-- Part of the claim.
-- What the calls of a scheme promise after the boot.
use Rattle.std.specs.Prelude.{◌≡◌, ◌⊎◌, ℕ, ◌+◌, ◌<◌, ◌≤◌, Bool, true, false, length, Option, Some, None, Result, OnErr}
use Rattle.thy_block.specs.declared.mark.Mark.{Mark}
use Rattle.thy_block.specs.declared.nvm.NvmError.{NvmError}
use Rattle.thy_block.specs.Device.{Device, IsFramed, HasFailed}
use Rattle.thy_block.specs.Store.{Holding, HasStored}
use Rattle.thy_block.specs.declared.store.Stored.{Stored}
use Rattle.thy_block.specs.declared.block.Block.{Block}
use Rattle.thy_dram.specs.Contents.{drained}
use Rattle.thy_isa.specs.declared.state.CpuState.{CpuState}
use Rattle.thy_isa.specs.OnBlocks.{state_from}
use Rattle.thy_layout.specs.Cpu.{IsRecordable}
use Rattle.thy_layout.specs.declared.engine_step.EngineStep.{EngineStep}
use Rattle.thy_layout.specs.declared.engine_step.EngineStep.TheVariants.{Idle, Copied, PageBlock, StateBlock, TableBlock, CommitWritten, Committed}
use Rattle.thy_computer.specs.declared.did.Did.{Did}
use Rattle.thy_computer.specs.declared.did.Did.TheVariants.{Engine, Promoted, Committed as DidCommit}
use Rattle.thy_computer.specs.Action.{Action, IsAccess, IsAfter, FailsTo, Acts, ActionFailed}
use Rattle.thy_computer.specs.Dram.{ActsOnDram, WritesDram, WritesBlock}
use Rattle.thy_computer.specs.Origin.{Origin, at}
use Rattle.thy_computer.specs.Safe.{ceiling, Safe}
use Rattle.thy_scheme.specs.CheckpointMarks.{CheckpointMarks, doubt_in, marks_after, marks_after_fault}
use Rattle.thy_scheme.specs.Scheme.{SchemeOf}

-- ---- loads and stores

-- how many writes are queued in both devices
abbrev pub queued_in : {S : Type 0} → SchemeOf S → S → Device → ℕ
queued_in K s n = length n.queue + K.queued s

-- after an action that succeeded, at most one write was queued; if fewer copies are owed, a block was written
pub record Succeeds {S : Type 0} (K : SchemeOf S) (action : Action) (s : S) (n : Device) (t : S) (new : Device) : Type 0 where
  pub left : IsAfter action n new
  pub dram : ActsOnDram n new (K.dram s) (K.dram t)
  pub queue : queued_in K t new ≤ queued_in K s n + 1
  pub copies : (K.holding t new).owed + 1 ≤ (K.holding s n).owed → WritesBlock n new (K.dram s) (K.dram t)

-- one load or store acts on the NVM once
pub record IsOneAccess {S : Type 0} (K : SchemeOf S) (s : S) (n : Device) (t : S) (new : Device) : Type 0 where
  pub action : Action
  pub access : IsAccess action
  pub succeeds : new.down ≡ false → Succeeds K action s n t new
  pub fails : new.down ≡ true → FailsTo action n new
  pub frame : IsFramed n new
  pub stays : K.stays s n t new

-- what a successful store of a block leaves, by what the store returned
abbrev pub Stores : {S : Type 0} → SchemeOf S → Stored → ℕ → Block → S → Device → S → Device → Type 0
Stores K stored b block s n t new = HasStored stored b block (K.holding s n) (K.holding t new)

-- ---- what every other call keeps

-- no page was opened
abbrev pub OpensNone : Option ℕ → Option ℕ → Type 0
OpensNone old new = (new ≡ None) ⊎ (new ≡ old)

-- each block as before, no less room, and no page opened
pub record HoldsSame (old new : Holding) : Type 0 where
  pub blocks : new.blocks ≡ old.blocks
  pub free : old.free ≤ new.free
  pub opened : OpensNone old.open_page new.open_page

-- the copies that are owed, with those that the next commit may add
abbrev pub owed_in : {S : Type 0} → SchemeOf S → S → Device → ℕ
owed_in K s n = (K.holding s n).owed + K.owed_later s

-- nothing that is still to be done became more
pub record KeepsLeft {S : Type 0} (K : SchemeOf S) (s : S) (n : Device) (t : S) (new : Device) : Type 0 where
  pub owed : owed_in K t new ≤ owed_in K s n
  pub engine : K.engine_left t ≤ K.engine_left s
  pub merges : K.merges_left t ≤ K.merges_left s
  pub promotions : K.promotions_left t ≤ K.promotions_left s

-- what a load gives stays, nothing new is promoted, and no block was stored
pub record Keeps {S : Type 0} (K : SchemeOf S) (s : S) (n : Device) (t : S) (new : Device) : Type 0 where
  pub held : HoldsSame (K.holding s n) (K.holding t new)
  pub left : KeepsLeft K s n t new
  pub whole : K.promoting s ≡ false → K.promoting t ≡ false
  pub storeless : K.storeless t ≡ K.storeless s
  pub sealed_storeless : K.sealed_storeless t ≡ K.sealed_storeless s

-- no more copies are owed than before
abbrev pub OwesNoMore : {S : Type 0} → SchemeOf S → S → Device → S → Device → Type 0
OwesNoMore K s n t new = (K.holding t new).owed ≤ (K.holding s n).owed

-- ---- the calls

-- one block is merged into its page, which is written in the DRAM
pub record Merges {S : Type 0} (K : SchemeOf S) (o : Origin) (k : CheckpointMarks) (s : S) (n : Device) (t : S) : Type 0 where
  pub sound : K.is_sound o k t n
  pub keeps : Keeps K s n t n
  pub owes : OwesNoMore K s n t n
  pub writes : WritesDram n n (K.dram s) (K.dram t)
  pub queue : K.queued t ≤ K.queued s + 1
  pub nearer : K.merges_left t + 1 ≡ K.merges_left s

-- one block of a page is promoted: it is written
pub record Promotes {S : Type 0} (K : SchemeOf S) (o : Origin) (k : CheckpointMarks) (s : S) (n : Device) (t : S) (new : Device) : Type 0 where
  pub sound : K.is_sound o k t new
  pub keeps : Keeps K s n t new
  pub owes : OwesNoMore K s n t new
  pub acts : Acts Promoted n new
  pub dram : ActsOnDram n new (K.dram s) (K.dram t)
  pub writes : WritesBlock n new (K.dram s) (K.dram t)
  pub queue : queued_in K t new ≤ queued_in K s n + 1
  pub nearer : K.promotions_left t + 1 ≡ K.promotions_left s

-- the promotion of a block failed in its read
pub record PromotionFails (n new : Device) : Type 0 where
  pub failed : HasFailed n new
  pub frame : IsFramed n new

-- no block had to be promoted: no action is taken, and scheme and NVM are as before
pub record TakesNoAction {S T : Type 0} (result : Result T NvmError) (s : S) (n : Device) (t : S) (new : Device) : Type 0 where
  pub done : OnErr result ⊥
  pub scheme : t ≡ s
  pub nvm : new ≡ n

-- one write of the DRAM lands
pub record Drains {S : Type 0} (K : SchemeOf S) (o : Origin) (k : CheckpointMarks) (s : S) (n : Device) (t : S) : Type 0 where
  pub sound : K.is_sound o k t n
  pub keeps : Keeps K s n t n
  pub owes : OwesNoMore K s n t n
  pub dram : K.dram t ≡ drained (K.dram s)
  pub queue : K.queued t + 1 ≡ K.queued s

-- the machine is at a mark, whose checkpoint comes next
pub record IsTaken (o : Origin) (k : CheckpointMarks) (cpu : CpuState) (epoch : ℕ) (m : Mark) (held : Holding) : Type 0 where
  pub unsealed : k.sealed ≡ None
  pub unwritten : k.written ≡ false
  pub next : epoch ≡ k.done.epoch + 1
  pub of_epoch : m.epoch ≡ epoch
  pub small : epoch < ceiling
  pub recordable : IsRecordable o.geometry ceiling cpu
  pub state : state_from o.geometry cpu held.blocks ≡ at o m.count
  pub counted : (at o m.count).count ≡ m.count

-- an epoch is sealed, and its checkpoint is under way
pub record Seals {S : Type 0} (K : SchemeOf S) (o : Origin) (k : CheckpointMarks) (cpu : CpuState) (epoch : ℕ) (s : S) (n : Device) (t : S) : Type 0 where
  pub sound : (m : Mark) → IsTaken o k cpu epoch m (K.holding s n) → K.is_sound o (record k { sealed = Some m }) t n
  pub held : HoldsSame (K.holding s n) (K.holding t n)
  pub dram : K.dram t ≡ K.dram s
  pub queue : K.queued t ≡ K.queued s
  pub storeless : K.storeless t ≡ true
  pub sealed_storeless : K.sealed_storeless t ≡ K.storeless s

-- the engine may take this step: it writes the commit block, once, and then commits the epoch, only while that is
-- sealed; the other steps may also apply what a committed checkpoint has written
abbrev pub IsDue : EngineStep → CheckpointMarks → Type 0
IsDue Idle k = ⊥
IsDue CommitWritten k = (k.written ≡ false) × ((m : Mark) × (k.sealed ≡ Some m))
IsDue (Committed epoch) k = (k.written ≡ true) × ((m : Mark) × (k.sealed ≡ Some m) × (m.epoch ≡ epoch))
IsDue step k = Unit {0}

-- a step that writes a block; the others are barriers and the commit block's write
abbrev pub writes_block : EngineStep → Bool
writes_block Copied = true
writes_block PageBlock = true
writes_block StateBlock = true
writes_block TableBlock = true
writes_block step = false

-- what a cycle did with this step, if `lap` instructions were retired since the seal
abbrev pub engine_did : ℕ → EngineStep → Did
engine_did lap (Committed epoch) = DidCommit epoch lap
engine_did lap step = Engine step

-- only a commit may raise the number of copies that are owed
abbrev pub OwesAfter : {S : Type 0} → EngineStep → SchemeOf S → S → Device → S → Device → Type 0
OwesAfter (Committed epoch) K s n t new = Unit {0}
OwesAfter step K s n t new = OwesNoMore K s n t new

-- a step of the engine
pub record Engines {S : Type 0} (K : SchemeOf S) (o : Origin) (k : CheckpointMarks) (step : EngineStep) (s : S) (n : Device) (t : S) (new : Device) : Type 0 where
  pub due : IsDue step k
  pub sound : K.is_sound o (marks_after step k) t new
  pub keeps : Keeps K s n t new
  pub owes : OwesAfter step K s n t new
  pub acts : (lap : ℕ) → Acts (engine_did lap step) n new
  pub dram : ActsOnDram n new (K.dram s) (K.dram t)
  pub writes : writes_block step ≡ true → WritesBlock n new (K.dram s) (K.dram t)
  pub queue : queued_in K t new ≤ queued_in K s n + 1
  pub nearer : K.engine_left t + 1 ≤ K.engine_left s

-- a step of the engine failed in its action. It leaves the committed checkpoint, whole, or the sealed one, if its commit block was written
-- before or this was its write
pub record EngineFails {S : Type 0} (K : SchemeOf S) (o : Origin) (k : CheckpointMarks) (n new : Device) : Type 0 where
  pub step : EngineStep
  pub acted : (lap : ℕ) → ActionFailed (engine_did lap step) n new
  pub safe : Safe K.decode o (Some k.done) (doubt_in (marks_after_fault step k)) new
