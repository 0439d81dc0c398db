-- Part of the claim.
-- What a cycle makes exactly, if it succeeds: which call the actor makes whose turn it is, and what follows from the answer.
use Rattle.std.specs.Prelude.{◌≡◌, ℕ, ◌==◌, Bool, true, false, Option, Some, None}
use Rattle.thy_block.specs.declared.cause.EndCause.{EndCause}
use Rattle.thy_block.specs.Device.{Device}
use Rattle.thy_cache.specs.Contents.{dirty_count}
use Rattle.thy_hart.specs.Moments.{Moment}
use Rattle.thy_hart.specs.OneStep.{hart_after, answer_to}
use Rattle.thy_hart.specs.Outcomes.{Given, given}
use Rattle.thy_layout.specs.declared.engine_step.EngineStep.{EngineStep}
use Rattle.thy_computer.specs.declared.boot_step.BootStep.{BootStep}
use Rattle.thy_computer.specs.declared.did.Did.{Did}
use Rattle.thy_computer.specs.declared.did.Did.TheVariants.{Flushed as DidFlush, Merged, Sealed, Promoted, NvmDrained, DramDrained, Nothing}
use Rattle.thy_computer.specs.declared.did.Stall.{Stall}
use Rattle.thy_computer.specs.declared.did.Stall.TheVariants.{Booting, Sealing, Waiting, Halted}
use Rattle.thy_computer.specs.Action.{Action, Rest, Drain, IsAfter}
use Rattle.thy_computer.specs.Booting.{boot_did}
use Rattle.thy_computer.specs.Origin.{Origin}
use Rattle.thy_computer.specs.NextActor.{Actor, Nvm, Dram, Checkpoint, Advances, Stalled}
use Rattle.thy_scheme.specs.Calls.{engine_did}
use Rattle.thy_scheme.specs.Exact.{Made}
use Rattle.thy_scheme.specs.Scheme.{SchemeOf}
use Rattle.thy_scheme.specs.MachineCalls.{Below, below_after, line_flushed, begun_by_hart, hart_did, after_hart, after_flush, after_call, after_drain, after_seal, after_engine, after_boot}
use Rattle.thy_scheme.specs.Machine.{Machine, moment_of}

-- what a cycle did, what it asked of the NVM, and what it leaves of the machine
pub record Outcome (S : Type 0) : Type 0 where
  pub did : Did
  pub machine : Machine S
  pub action : Action

-- a cycle did this, and left this machine and this NVM
pub record IsOutcome {S : Type 0} (c : Outcome S) (n : Device) (did : Did) (next : Machine S) (new : Device) : Type 0 where
  pub did_is : did ≡ c.did
  pub machine_is : next ≡ c.machine
  pub nvm_is : IsAfter c.action n new

-- ---- drains, the engine, and a machine that has halted

abbrev pub nvm_drained : {S : Type 0} → Machine S → Outcome S
nvm_drained m = record { did = NvmDrained; machine = m; action = Drain }

abbrev pub dram_drained : {S : Type 0} → SchemeOf S → Machine S → Outcome S
dram_drained K m = record { did = DramDrained; machine = after_drain (K.calls.drained m.scheme) m; action = Rest }

-- the outcome of an engine's cycle, by what its step makes
abbrev pub stepped_by : {S : Type 0} → Made S EngineStep → Machine S → Outcome S
stepped_by made m = record {
  did = engine_did m.lap made.answer;
  machine = after_engine made.answer made.scheme m;
  action = made.action;
}

abbrev pub engine_stepped : {S : Type 0} → SchemeOf S → Machine S → Device → Outcome S
engine_stepped K m n = stepped_by (K.calls.engine m.scheme n) m

abbrev pub rested : {S : Type 0} → Machine S → Outcome S
rested m = record { did = Nothing; machine = m; action = Rest }

-- ---- before a seal, and the seal

abbrev pub promoted_by : {S : Type 0} → Made S (Unit {0}) → Machine S → Outcome S
promoted_by made m = record { did = Promoted; machine = after_call made.scheme m; action = made.action }

abbrev pub block_promoted : {S : Type 0} → SchemeOf S → Machine S → Device → Outcome S
block_promoted K m n = promoted_by (K.calls.promote m.scheme n) m

abbrev pub block_merged : {S : Type 0} → SchemeOf S → Machine S → Outcome S
block_merged K m = record { did = Merged; machine = after_call (K.calls.merged m.scheme) m; action = Rest }

-- for the cause for which the epoch is over
abbrev pub sealed_for : {S : Type 0} → SchemeOf S → Option EndCause → Machine S → Outcome S
sealed_for K None m = rested m
sealed_for K (Some cause) m = record {
  did = Sealed m.hart.epoch.number m.hart.cpu.count cause;
  machine = after_seal (K.calls.sealed m.hart.cpu m.hart.epoch.number m.scheme) m;
  action = Rest;
}

abbrev pub epoch_sealed : {S : Type 0} → SchemeOf S → Machine S → Outcome S
epoch_sealed K m = sealed_for K m.hart.epoch.over m

-- what a flush makes, by what is left below the hart
abbrev pub flushed_over : {S : Type 0} → Below S → Machine S → Outcome S
flushed_over below m = record { did = DidFlush; machine = after_flush below.cache below.scheme m; action = below.action }

abbrev pub line_stored : {S : Type 0} → SchemeOf S → Machine S → Device → Outcome S
line_stored K m n = flushed_over (line_flushed K m n) m

-- the first that is left is done: a block is promoted, a dirty line stored if not all are clean, a block merged, or else the
-- epoch sealed
abbrev pub MakesFirst : {S : Type 0} → SchemeOf S → Bool → Bool → Bool → Machine S → Device → Did → Machine S → Device → Type 0
MakesFirst K true clean overlaid m n did next new = IsOutcome (block_promoted K m n) n did next new
MakesFirst K false false overlaid m n did next new = IsOutcome (line_stored K m n) n did next new
MakesFirst K false true true m n did next new = IsOutcome (block_merged K m) n did next new
MakesFirst K false true false m n did next new = IsOutcome (epoch_sealed K m) n did next new

-- ---- a hart

-- what its step is handed, and how it finds hart and cache
abbrev pub given_to : {S : Type 0} → SchemeOf S → Origin → Machine S → Given
given_to K o m = given o.input (K.free m.scheme) (K.under_way m.scheme)

abbrev pub found_by : {S : Type 0} → SchemeOf S → ℕ → Machine S → Device → Moment
found_by K hart m n = moment_of K (begun_by_hart hart m) n

-- what a hart's cycle makes, by what is left below the hart
abbrev pub advanced_by : {S : Type 0} → SchemeOf S → Origin → ℕ → Below S → Machine S → Device → Outcome S
advanced_by K o hart below m n = record {
  did = hart_did hart (answer_to (given_to K o m) (found_by K hart m n));
  machine = after_hart hart (answer_to (given_to K o m) (found_by K hart m n)) (hart_after (given_to K o m) (found_by K hart m n))
      below.cache below.scheme m;
  action = below.action;
}

abbrev pub hart_advanced : {S : Type 0} → SchemeOf S → Origin → ℕ → Machine S → Device → Outcome S
hart_advanced K o hart m n = advanced_by K o hart (below_after K (begun_by_hart hart m) n) m n

-- ---- the boot

-- a step of it was taken
pub record Boots {S : Type 0} (K : SchemeOf S) (o : Origin) (m : Machine S) (n : Device) (did : Did) (next : Machine S) (new : Device) : Type 0 where
  pub step : BootStep
  pub scheme : S
  pub made : K.calls.boot o.start m.scheme n step scheme new
  pub did_is : did ≡ boot_did step
  pub machine_is : next ≡ after_boot o step scheme m

-- ---- by the actor

abbrev pub MakesStalled : {S : Type 0} → SchemeOf S → Origin → Stall → Machine S → Device → Did → Machine S → Device → Type 0
MakesStalled K o Booting m n did next new = Boots K o m n did next new
MakesStalled K o Sealing m n did next new =
    MakesFirst K (K.promoting m.scheme) (dirty_count m.cache == 0) (K.overlaid m.scheme) m n did next new
MakesStalled K o Waiting m n did next new = IsOutcome (engine_stepped K m n) n did next new
MakesStalled K o Halted m n did next new = IsOutcome (rested m) n did next new

abbrev pub MakesCycle : {S : Type 0} → SchemeOf S → Origin → Actor → Machine S → Device → Did → Machine S → Device → Type 0
MakesCycle K o Nvm m n did next new = IsOutcome (nvm_drained m) n did next new
MakesCycle K o Dram m n did next new = IsOutcome (dram_drained K m) n did next new
MakesCycle K o Checkpoint m n did next new = IsOutcome (engine_stepped K m n) n did next new
MakesCycle K o (Advances hart) m n did next new = IsOutcome (hart_advanced K o hart m n) n did next new
MakesCycle K o (Stalled stall) m n did next new = MakesStalled K o stall m n did next new
