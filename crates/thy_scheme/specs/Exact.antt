-- Part of the claim.
-- What each call of a scheme makes exactly, if it succeeds.
use Rattle.std.specs.Prelude.{◌≡◌, ℕ}
use Rattle.thy_block.specs.declared.block.Block.{Block}
use Rattle.thy_block.specs.declared.parameters.Parameters.{Parameters}
use Rattle.thy_block.specs.declared.store.Stored.{Stored}
use Rattle.thy_block.specs.Device.{Device}
use Rattle.thy_dram.specs.Contents.{Contents}
use Rattle.thy_isa.specs.declared.state.CpuState.{CpuState}
use Rattle.thy_isa.specs.Step.{State}
use Rattle.thy_layout.specs.declared.engine_step.EngineStep.{EngineStep}
use Rattle.thy_computer.specs.declared.boot_step.BootStep.{BootStep}
use Rattle.thy_computer.specs.Action.{Action, IsAfter}

-- what a call returns, the scheme after it, and its action on the NVM
pub record Made (S A : Type 0) : Type 0 where
  pub answer : A
  pub scheme : S
  pub action : Action

-- a call returned this, and left this scheme and this NVM
pub record Makes {S A : Type 0} (made : Made S A) (answer : A) (n : Device) (t : S) (new : Device) : Type 0 where
  pub answer_is : answer ≡ made.answer
  pub scheme_is : t ≡ made.scheme
  pub nvm_is : IsAfter made.action n new

-- the calls of schemes of a type; a load or a question changes nothing
pub record CallsOf (S : Type 0) : Type 1 where
  -- the scheme whose power has just come on, over this DRAM
  pub powered_on : Parameters → Contents → S
  -- a store of a block, or the copy that comes before it
  pub store : ℕ → Block → S → Device → Made S Stored
  -- the oldest write that is queued in the DRAM lands
  pub drained : S → S
  -- the next block that has to be is merged into its page, or promoted
  pub merged : S → S
  pub promote : S → Device → Made S (Unit {0})
  -- an epoch is sealed with this processor
  pub sealed : CpuState → ℕ → S → S
  -- a step of the engine
  pub engine : S → Device → Made S EngineStep
  -- a step of the boot, in a run with this start: what it returns, and what it leaves of scheme and NVM
  pub boot : State → S → Device → BootStep → S → Device → Type 0
