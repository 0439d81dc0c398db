-- Part of the claim.
-- What a step makes of boot, controller and NVM.
use Rattle.std.specs.Prelude.{◌≡◌, Result, OnOk, OnErr}
use Rattle.thy_block.specs.declared.nvm.NvmError.{NvmError}
use Rattle.thy_block.specs.Device.{Device, IsFramed, CountsFault}
use Rattle.thy_isa.specs.Step.{State}
use Rattle.thy_computer.specs.Action.{Action, Rest, IsAfter, FailsTo}
use Rattle.thy_checkpoint.specs.declared.boot_stage.Stage.{Stage}
use Rattle.thy_checkpoint.specs.declared.boot_stage.Stage.TheVariants.{Reads, Loads, Migrates, Over}
use Rattle.thy_checkpoint.specs.declared.boot_stage.ReadStage.{ReadStage}
use Rattle.thy_computer.specs.declared.round.Round.{Round}
use Rattle.thy_computer.specs.Round.{next_round, round_action}
use Rattle.thy_checkpoint.specs.Boot.{Booting, IsBoot, at_stage}
use Rattle.thy_checkpoint.specs.Filling.{FillingOf, first_by}
use Rattle.thy_checkpoint.specs.Loads.{CanLoad, first_writes, loads_on}
use Rattle.thy_checkpoint.specs.Migrating.{CanMigrate, MigratesOn, renewing}
use Rattle.thy_checkpoint.specs.Reads.{read_action, read_on, FillsOn}
use Rattle.thy_checkpoint.specs.Recovers.{HasRead, IsNearer}

-- a step may be taken: of reading, from what was read, of loading, or of a migration
abbrev pub CanStepAt : {C : Type 0} → FillingOf C → Stage → State → Device → Booting → C → Type 0
CanStepAt F (Reads at) s n b c = HasRead F n b c
CanStepAt F (Loads r) s n b c = CanLoad F s r n b
CanStepAt F (Migrates r) s n b c = CanMigrate F r n b
CanStepAt F (Over end) s n b c = ⊥

-- a boot may take a step with this start
abbrev pub CanStep : {C : Type 0} → FillingOf C → State → Device → Booting → C → Type 0
CanStep F s n b c = CanStepAt F b.stage s n b c

-- the NVM is as it was, and one block more was read, or the refusal comes again; what was read is what the image means
pub record ReadsOn {C : Type 0} (F : FillingOf C) (r : ReadStage) (n : Device) (b : Booting) (c : C) (m : Device)
    (d : Booting) (e : C) : Type 0 where
  pub same_p : d.p ≡ b.p
  pub device : m ≡ n
  pub boot : d ≡ read_on F r n b
  pub control : FillsOn F r n b c e
  pub read : HasRead F m d e
  pub nearer : IsNearer F b r d

-- the action of loading was taken
pub record LoadsOn {C : Type 0} (F : FillingOf C) (s : State) (r : Round) (n : Device) (b : Booting) (c : C) (m : Device)
    (d : Booting) (e : C) : Type 0 where
  pub device : IsAfter (round_action (first_writes (first_by F b.p s)) r) n m
  pub boot : d ≡ at_stage (loads_on (next_round (first_writes (first_by F b.p s)).blocks r)) b
  pub control : e ≡ c

-- what a step of each stage does; after the boot there is no step
abbrev pub StepsAt : {C : Type 0} → FillingOf C → Stage → State → Device → Booting → C → Device → Booting → C → Type 0
StepsAt F (Reads at) s n b c m d e = ReadsOn F at n b c m d e
StepsAt F (Loads r) s n b c m d e = LoadsOn F s r n b c m d e
StepsAt F (Migrates r) s n b c m d e = MigratesOn F r n b c m d e
StepsAt F (Over end) s n b c m d e = ⊥

abbrev pub Steps : {C : Type 0} → FillingOf C → State → Device → Booting → C → Device → Booting → C → Type 0
Steps F s n b c m d e = StepsAt F b.stage s n b c m d e

-- the action of a step, if it has to read or to write
abbrev pub action_at : {C : Type 0} → FillingOf C → Stage → State → Booting → C → Action
action_at F (Reads at) s b c = read_action F b c at
action_at F (Loads r) s b c = round_action (first_writes (first_by F b.p s)) r
action_at F (Migrates r) s b c = round_action (renewing F b) r
action_at F (Over end) s b c = Rest

abbrev pub action_of : {C : Type 0} → FillingOf C → State → Booting → C → Action
action_of F s b c = action_at F b.stage s b c

-- what one that failed leaves; a refusal that comes again does not fail
abbrev pub Fails : {C : Type 0} → FillingOf C → State → Booting → C → Device → Device → Type 0
Fails F s b c n m = FailsTo (action_of F s b c) n m

-- a step that was taken, or one that failed, which leaves boot and controller as they were
pub record TakesStep {C : Type 0} (F : FillingOf C) {T : Type 0} (result : Result T NvmError) (s : State) (n : Device) (b : Booting) (c : C)
    (m : Device) (d : Booting) (e : C) : Type 0 where
  pub steps : OnOk result (Steps F s n b c m d e)
  pub fits : IsBoot F d
  pub boot : OnErr result (d ≡ b)
  pub control : OnErr result (e ≡ c)
  pub err : OnErr result (Fails F s b c n m)
  pub frame : IsFramed n m
  pub cause : CountsFault result n.faults m.faults
