-- Part of the claim.
-- What calls make of a controller, of a scheme and of the NVM, and what they return.
use Rattle.std.specs.Prelude.{◌≡◌, ℕ, true, false, if◌then◌else◌, Result, IfOk, OnOk, OnErr}
use Rattle.thy_block.specs.declared.block.Block.{Block}
use Rattle.thy_block.specs.declared.parameters.Parameters.{Parameters}
use Rattle.thy_block.specs.declared.nvm.NvmError.{NvmError}
use Rattle.thy_block.specs.Device.{Device, HasFailed, IsFramed, CountsFault}
use Rattle.thy_dram.specs.Contents.{Contents}
use Rattle.thy_isa.specs.declared.state.CpuState.{CpuState}
use Rattle.thy_isa.specs.Step.{State, state_of}
use Rattle.thy_layout.specs.declared.engine_step.EngineStep.{EngineStep}
use Rattle.thy_layout.specs.declared.start.Start.{Start}
use Rattle.thy_computer.specs.declared.boot_step.BootStep.{BootStep}
use Rattle.thy_computer.specs.Action.{Rest, IsAfter}
use Rattle.thy_computer.specs.Round.{next_round}
use Rattle.thy_checkpoint.specs.declared.boot_stage.Stage.{Stage}
use Rattle.thy_checkpoint.specs.declared.boot_stage.Stage.TheVariants.{Reads, Loads, Migrates, Over}
use Rattle.thy_checkpoint.specs.Boot.{Booting, new_boot, answer_of, at_stage}
use Rattle.thy_checkpoint.specs.Filling.{FillingOf, first_by}
use Rattle.thy_checkpoint.specs.Loads.{first_writes, loads_on}
use Rattle.thy_checkpoint.specs.Migrating.{migrated_by}
use Rattle.thy_checkpoint.specs.Reads.{read_on, FillsOn}
use Rattle.thy_checkpoint.specs.Steps.{TakesStep, action_of}
use Rattle.thy_checkpoint.specs.Progress.{new_engine, begun, item_of, report, engine_next, control_next, action_next}
use Rattle.thy_scheme.specs.Exact.{Made, CallsOf}
use Rattle.thy_scheme_parts.specs.Boots.{booted}
use Rattle.thy_scheme_parts.specs.Design.{DesignOf, PagesOf, Composed}

-- ---- of the controller

-- the NVM is read or left alone: it is as before, or the read failed
pub record IsReading {T : Type 0} (result : Result T NvmError) (n m : Device) : Type 0 where
  pub same : OnOk result (m ≡ n)
  pub err : OnErr result (HasFailed n m)
  pub frame : IsFramed n m
  pub cause : CountsFault result n.faults m.faults

-- the controller is this one afterwards; if that failed, it is as before
pub record Promotes {C T : Type 0} (later : C) (result : Result T NvmError) (old new : C) : Type 0 where
  pub made : OnOk result (new ≡ later)
  pub kept : OnErr result (new ≡ old)

-- the controller once the next block that has to be was merged, or promoted; as it is if none has to be
abbrev pub merged_next : {C : Type 0} → PagesOf C → C → C
merged_next pages c = if pages.overlaid c then pages.merged c else c

abbrev pub promoted_next : {C : Type 0} → PagesOf C → C → Device → C
promoted_next pages c n = if pages.promoting c then pages.promoted c n else c

-- ---- of the scheme

-- a scheme whose power has just come on: nothing was read, and no checkpoint is under way
abbrev pub powered_on : {C : Type 0} → DesignOf C → Parameters → Contents → Composed C
powered_on D p dram = record {
  control = D.parts.powered p dram;
  engine = new_engine p;
  storeless = true;
  sealed_storeless = false;
  boot = new_boot D.filling p;
}

-- a composed scheme after a store of a block
abbrev pub stored : {C : Type 0} → DesignOf C → ℕ → Block → Composed C → Device → Composed C
stored D b block s n = record s {
  control = D.parts.stored b block s.control n;
  storeless = D.parts.storeless_after (D.parts.store_answer b s.control) s.storeless;
}

-- the oldest write that is queued in the DRAM landed
abbrev pub drained : {C : Type 0} → DesignOf C → Composed C → Composed C
drained D s = record s { control = D.filling.drained s.control }

-- a block was merged, or promoted, if one has to be
abbrev pub merged : {C : Type 0} → DesignOf C → Composed C → Composed C
merged D s = record s { control = merged_next D.parts.pages s.control }

abbrev pub promoted : {C : Type 0} → DesignOf C → Composed C → Device → Composed C
promoted D s n = record s { control = promoted_next D.parts.pages s.control n }

-- a composed scheme after a seal
abbrev pub sealed : {C : Type 0} → DesignOf C → CpuState → ℕ → Composed C → Composed C
sealed D cpu epoch s = record s {
  control = D.parts.seal s.control;
  engine = begun cpu epoch s.engine;
  storeless = true;
  sealed_storeless = s.storeless;
}

-- the item of the engine that is next was taken, and what the engine reports of it
abbrev pub taken : {C : Type 0} → DesignOf C → Composed C → Composed C
taken D s = record s { control = control_next D.items s.engine s.control; engine = engine_next D.filling D.items s.engine s.control }

abbrev pub step_of : {C : Type 0} → DesignOf C → Composed C → EngineStep
step_of D s = report D.items s.engine (item_of D.items s.engine s.control)

-- the boot after a step from a stage, in a run with this start
abbrev pub boot_after : {C : Type 0} → FillingOf C → State → Stage → Device → Booting → Booting
boot_after F start (Reads at) n b = read_on F at n b
boot_after F start (Loads r) n b = at_stage (loads_on (next_round (first_writes (first_by F b.p start)).blocks r)) b
boot_after F start (Migrates r) n b = migrated_by F r b
boot_after F start (Over end) n b = b

-- the controller after it: a step that reads lists the slot once it is whole, or fills a position; no other changes it
abbrev pub FillsBy : {C : Type 0} → FillingOf C → Stage → Device → Booting → C → C → Type 0
FillsBy F (Reads at) n b old new = FillsOn F at n b old new
FillsBy F stage n b old new = new ≡ old

-- a step of the boot was taken; its stage afterwards determines what it returns
pub record BootsBy {C : Type 0} (D : DesignOf C) (start : State) (s : Composed C) (n : Device) (step : BootStep) (t : Composed C) (m : Device) : Type 0 where
  pub answer : step ≡ answer_of D.filling t.boot
  pub boot : t.boot ≡ boot_after D.filling start s.boot.stage n s.boot
  pub control : FillsBy D.filling s.boot.stage n s.boot s.control t.control
  pub others : t ≡ booted D t.boot t.control s
  pub nvm : IsAfter (action_of D.filling start s.boot s.control) n m

-- a call that leaves the NVM, and returns nothing
abbrev pub changed_to : {S : Type 0} → S → Made S (Unit {0})
changed_to t = record { answer = tt; scheme = t; action = Rest }

-- what each call of the scheme makes
abbrev pub calls_of : {C : Type 0} → DesignOf C → CallsOf (Composed C)
calls_of D = record {
  powered_on = powered_on D;
  store = λ b block s n. record {
    answer = D.parts.store_answer b s.control;
    scheme = stored D b block s n;
    action = D.parts.store_action b block s.control;
  };
  drained = drained D;
  merged = merged D;
  promote = λ s n. changed_to (promoted D s n);
  sealed = sealed D;
  engine = λ s n. record {
    answer = step_of D s;
    scheme = taken D s;
    action = action_next D.filling D.items s.engine s.control n;
  };
  boot = BootsBy D;
}

-- a step of the boot, or one that failed
pub record TakesBootStep {C : Type 0} (D : DesignOf C) (start : Start) (s : Composed C) (n : Device) (result : Result BootStep NvmError) (t : Composed C)
    (m : Device) : Type 0 where
  pub answer : IfOk result (λ step. step ≡ answer_of D.filling t.boot)
  pub steps : TakesStep D.filling result (state_of start.state) n s.boot s.control m t.boot t.control
  pub others : t ≡ booted D t.boot t.control s
