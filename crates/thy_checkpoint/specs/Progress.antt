-- Part of the claim.
-- The engine's progress, and what one cycle of it makes of controller and NVM.
use Rattle.std.specs.Prelude.{◌≡◌, ℕ, ◌+◌, ◌-◌, nat_lt, Bool, true, false, if◌then◌else◌, Option, Some, None, Result, IfOk, OnOk, OnErr}
use Rattle.thy_block.specs.declared.block.Block.{Block}
use Rattle.thy_block.specs.declared.parameters.Parameters.{Parameters}
use Rattle.thy_block.specs.declared.nvm.NvmError.{NvmError}
use Rattle.thy_block.specs.Device.{Device, IsFramed, CountsFault}
use Rattle.thy_block.specs.Places.{record_blocks}
use Rattle.thy_isa.specs.declared.state.CpuState.{CpuState}
use Rattle.thy_isa.specs.Step.{zero_cpu}
use Rattle.thy_layout.specs.declared.engine_step.EngineStep.{EngineStep}
use Rattle.thy_layout.specs.declared.engine_step.EngineStep.TheVariants.{Idle as NoStep, StateBlock, TableBlock, Barrier as BarrierMade, CommitWritten, Committed}
use Rattle.thy_layout.specs.Commit.{commit_of}
use Rattle.thy_layout.specs.Cpu.{cpu_block_of}
use Rattle.thy_layout.specs.Layout.{Layout}
use Rattle.thy_checkpoint.specs.Filling.{FillingOf, layout_at}
use Rattle.thy_computer.specs.Action.{Action, Rest, WriteAt, Barrier, IsAfter, FailsTo}
use Rattle.thy_checkpoint.specs.declared.engine.Done.{Done}
use Rattle.thy_checkpoint.specs.declared.engine_stage.EngineStage.{EngineStage}
use Rattle.thy_checkpoint.specs.declared.engine_stage.EngineStage.TheVariants.{Idle, Body, InRound, Tail}
use Rattle.thy_computer.specs.declared.round.Round.{Round}
use Rattle.thy_computer.specs.declared.round.Round.TheVariants.{Write, Settle, Commit, Confirm}
use Rattle.thy_computer.specs.Round.{RoundWrites, IsInRound, round_action, next_round}
use Rattle.thy_checkpoint.specs.Items.{ItemsOf, Phase, Resting, Making, Made, Applying}

pub record Progress : Type 0 where
  pub p : Parameters
  pub stage : EngineStage
  -- the processor as it was sealed, and the epoch that was sealed
  pub cpu : CpuState
  pub epoch : ℕ

-- an engine with nothing to do
abbrev pub new_engine : Parameters → Progress
new_engine p = record { p = p; stage = Idle; cpu = zero_cpu; epoch = 0 }

-- a checkpoint begins with the first position of its body; after a restart with the first of its tail
abbrev pub begun : CpuState → ℕ → Progress → Progress
begun cpu epoch e = record e { stage = Body 0; cpu = cpu; epoch = epoch }

abbrev pub applying : Progress → Progress
applying e = record e { stage = Tail 0 }

-- the engine has something to do, and it writes what follows the commit
abbrev pub is_under_way : EngineStage → Bool
is_under_way Idle = false
is_under_way stage = true

abbrev pub is_applying : EngineStage → Bool
is_applying (Tail from) = true
is_applying stage = false

-- how far the checkpoint is
abbrev pub phase_of : EngineStage → Phase
phase_of Idle = Resting
phase_of (Body from) = Making from
phase_of (InRound r) = Made
phase_of (Tail from) = Applying from

-- ---- the slot

abbrev pub layout_of : {C : Type 0} → FillingOf C → Progress → Layout
layout_of F e = layout_at F e.p

abbrev pub slot_blocks : {C : Type 0} → FillingOf C → Progress → ℕ
slot_blocks F e = (layout_of F e).slot_blocks (commit_of e.epoch)

-- the place of block k, and that block: the processor's record, and after it what the scheme has
abbrev pub slot_place : {C : Type 0} → FillingOf C → Progress → ℕ → ℕ
slot_place F e k = (layout_of F e).slot_place (commit_of e.epoch) + k

abbrev pub slot_block : {C : Type 0} → ItemsOf C → Progress → C → ℕ → Block
slot_block I e c k =
    if nat_lt k (record_blocks e.p) then cpu_block_of e.cpu e.epoch k else I.rest c (k - record_blocks e.p)

-- the round that writes the slot and then the commit block
abbrev pub slot_round : {C : Type 0} → FillingOf C → ItemsOf C → Progress → C → RoundWrites
slot_round F I e c = record { blocks = slot_blocks F e; place = slot_place F e; block = slot_block I e c; commit = commit_of e.epoch }

-- engine and controller belong together: they are of one geometry, the slot has the block that comes next, and the
-- controller is one whose checkpoint is as far as the engine
pub record Fits {C : Type 0} (F : FillingOf C) (I : ItemsOf C) (e : Progress) (c : C) : Type 0 where
  pub same_p : F.p c ≡ e.p
  pub inside : (r : Round) → e.stage ≡ InRound r → IsInRound (slot_blocks F e) r
  pub stands : I.stands (phase_of e.stage) c

-- ---- items

-- what one cycle does, by the numbers of the actions in docs/CONTROLLER.md
pub data Item : Type 0 where
  NoItem : Item
  -- a position of the body: actions 1 and 2
  BodyItem : (k : ℕ) → Item
  -- an action of the round that writes the slot: actions 3 to 7
  RoundItem : (r : Round) → Item
  -- a position of the tail, and the barrier after the last
  TailItem : (k : ℕ) → Item
  ReleaseItem : Item

-- the position that is next, else the slot's first block; and the position that is next, else the last barrier
abbrev pub body_or_slot : Option ℕ → Item
body_or_slot (Some k) = BodyItem k
body_or_slot None = RoundItem (Write 0)

abbrev pub tail_or_release : Option ℕ → Item
tail_or_release (Some k) = TailItem k
tail_or_release None = ReleaseItem

abbrev pub item : {C : Type 0} → ItemsOf C → EngineStage → C → Item
item I Idle c = NoItem
item I (Body from) c = body_or_slot (I.body_next c from)
item I (InRound r) c = RoundItem r
item I (Tail from) c = tail_or_release (I.tail_next c from)

-- what comes after it; after the round that is the tail, if there is one
abbrev pub after_round : {C : Type 0} → ItemsOf C → Option Round → EngineStage
after_round I (Some r) = InRound r
after_round I None = if I.has_tail then Tail 0 else Idle

abbrev pub next_after : {C : Type 0} → FillingOf C → ItemsOf C → Progress → Item → EngineStage
next_after F I e NoItem = Idle
next_after F I e (BodyItem k) = Body (k + 1)
next_after F I e (RoundItem r) = after_round I (next_round (slot_blocks F e) r)
next_after F I e (TailItem k) = Tail (k + 1)
next_after F I e ReleaseItem = Idle

-- what the engine reports of an action of the round, and of an item
abbrev pub report_in : Progress → Round → EngineStep
report_in e (Write k) = if nat_lt k (record_blocks e.p) then StateBlock else TableBlock
report_in e Settle = BarrierMade
report_in e Commit = CommitWritten
report_in e Confirm = Committed e.epoch

abbrev pub report : {C : Type 0} → ItemsOf C → Progress → Item → EngineStep
report I e NoItem = NoStep
report I e (BodyItem k) = I.step_of e.p k
report I e (RoundItem r) = report_in e r
report I e (TailItem k) = I.step_of e.p k
report I e ReleaseItem = BarrierMade

-- the action of an item on the NVM
abbrev pub action_of : {C : Type 0} → FillingOf C → ItemsOf C → Progress → Item → C → Device → Action
action_of F I e NoItem c n = Rest
action_of F I e (BodyItem k) c n = WriteAt (I.body_place e.epoch c k) (I.body_block c n k)
action_of F I e (RoundItem r) c n = round_action (slot_round F I e c) r
action_of F I e (TailItem k) c n = WriteAt (I.tail_place c k) (I.tail_block c n k)
action_of F I e ReleaseItem c n = Barrier

-- the controller after an item
abbrev pub control_after : {C : Type 0} → ItemsOf C → Item → C → C
control_after I (BodyItem k) c = I.body_after c k
control_after I (RoundItem Confirm) c = I.committed c
control_after I (TailItem k) c = I.tail_after c k
control_after I ReleaseItem c = I.released c
control_after I i c = c

-- ---- a step

-- what comes next: the item, and engine, controller and action
abbrev pub item_of : {C : Type 0} → ItemsOf C → Progress → C → Item
item_of I e c = item I e.stage c

abbrev pub engine_next : {C : Type 0} → FillingOf C → ItemsOf C → Progress → C → Progress
engine_next F I e c = record e { stage = next_after F I e (item_of I e c) }

abbrev pub control_next : {C : Type 0} → ItemsOf C → Progress → C → C
control_next I e c = control_after I (item_of I e c) c

abbrev pub action_next : {C : Type 0} → FillingOf C → ItemsOf C → Progress → C → Device → Action
action_next F I e c n = action_of F I e (item_of I e c) c n

-- an action was taken, with this controller afterwards, or it failed, and left the controller as it was
pub record Acts {C T : Type 0} (action : Action) (later : C) (result : Result T NvmError) (old : C) (n : Device) (new : C) (m : Device) : Type 0 where
  pub control : OnOk result (new ≡ later)
  pub device : OnOk result (IsAfter action n m)
  pub kept : OnErr result (new ≡ old)
  pub failed : OnErr result (FailsTo action n m)
  pub frame : IsFramed n m
  pub cause : CountsFault result n.faults m.faults

-- an item was taken: what is reported, and the stage after it
pub record IsDone {C : Type 0} (F : FillingOf C) (I : ItemsOf C) (i : Item) (e : Progress) (d : Done) : Type 0 where
  pub step : d.step ≡ report I e i
  pub stage : d.stage ≡ next_after F I e i

-- an item was taken or failed, and acted on controller and NVM
pub record Ends {C : Type 0} (F : FillingOf C) (I : ItemsOf C) (i : Item) (e : Progress) (c : C) (n : Device) (r : Result Done NvmError) (d : C) (m : Device) : Type 0 where
  pub done : IfOk r (IsDone F I i e)
  pub acts : Acts (action_of F I e i c n) (control_after I i c) r c n d m
