-- What each call makes of the scheme and of the NVM, and its result: what one call of the scheme below does, and the
-- barriers.
use Rattle.std.specs.Prelude.{◌≡◌, ◌<◌, ◌-◌, Result, IfOk, OnOk, OnErr}
use Rattle.thy_block.specs.declared.parameters.Parameters.{Parameters}
use Rattle.thy_block.specs.declared.nvm.NvmError.{NvmError}
use Rattle.thy_block.specs.Device.{Device, HasFailedToSettle, IsSettled}
use Rattle.thy_control.specs.State.{State}
use Rattle.thy_dram.specs.Contents.{Contents}
use Rattle.thy_checkpoint.specs.Progress.{Acts, action_next}
use Rattle.thy_layout.specs.declared.engine_step.EngineStep.{EngineStep}
use Rattle.thy_layout.specs.declared.engine_step.EngineStep.TheVariants.{Barrier}
use Rattle.thy_layout.specs.declared.start.Start.{Start}
use Rattle.thy_computer.specs.declared.boot_step.BootStep.{BootStep}
use Rattle.thy_scheme_parts.specs.Calls.{TakesBootStep, powered_on, step_of, taken}
use Rattle.thy_scheme_parts.specs.Design.{Composed}
use Rattle.thy_thynvm_parts.specs.Filling.{filling_thynvm}
use Rattle.thy_scheme.specs.Scheme.{SchemeOf}
use Rattle.thy_thynvm_parts.specs.Design.{items_thynvm, thynvm_design}
use Rattle.thy_thynvm_parts.specs.Scheme.{thynvm_scheme}
use Rattle.thy_test_support.specs.Waiting.{Waiting, left_after, left_booted}
use Rattle.thy_test_support.specs.WaitingScheme.{waits_over}

-- the scheme below
abbrev pub Below : Type 0
Below = Composed State

abbrev pub waiting_scheme : SchemeOf (Waiting Below)
waiting_scheme = waits_over thynvm_scheme

-- a new one has a new one below, and no barrier is left
abbrev pub new_waiting : Parameters → Contents → Waiting Below
new_waiting p dram = record { below = powered_on thynvm_design p dram; left = 0 }

-- the scheme with this one below, and the same number of barriers left
abbrev pub with_below : Below → Waiting Below → Waiting Below
with_below below w = record w { below = below }

-- one barrier less is left
abbrev pub waited : Waiting Below → Waiting Below
waited w = record w { left = w.left - 1 }

-- a barrier: the NVM is settled, and one less is left; one that failed leaves the scheme
pub record MakesBarrier (w : Waiting Below) (n : Device)
    (result : Result EngineStep NvmError) (t : Waiting Below) (new : Device) : Type 0 where
  pub answer : IfOk result (λ step. step ≡ Barrier)
  pub scheme : OnOk result (t ≡ waited w)
  pub nvm : OnOk result (IsSettled n new)
  pub kept : OnErr result (t ≡ w)
  pub err : OnErr result (HasFailedToSettle n new)

-- the scheme below takes its next item; if it is a commit, barriers are left after it
pub record TakesItemBelow (w : Waiting Below) (n : Device)
    (result : Result EngineStep NvmError) (t : Waiting Below) (new : Device) : Type 0 where
  pub answer : IfOk result (λ step. step ≡ step_of thynvm_design w.below)
  pub acts : Acts (action_next filling_thynvm items_thynvm w.below.engine w.below.control n) (taken thynvm_design w.below) result w.below n t.below new
  pub left : IfOk result (λ step. t.left ≡ left_after step)
  pub kept : OnErr result (t.left ≡ w.left)

-- a barrier comes first if one is left
pub record TakesTurn (w : Waiting Below) (n : Device)
    (result : Result EngineStep NvmError) (t : Waiting Below) (new : Device) : Type 0 where
  pub waits : 0 < w.left → MakesBarrier w n result t new
  pub goes : w.left ≡ 0 → TakesItemBelow w n result t new

-- a step of the boot is the scheme below's; if it is a restart, barriers are left after it
pub record TakesBoot (start : Start) (w : Waiting Below) (n : Device)
    (result : Result BootStep NvmError) (t : Waiting Below) (new : Device) : Type 0 where
  pub below : TakesBootStep thynvm_design start w.below n result t.below new
  pub left : IfOk result (λ step. t.left ≡ left_booted step)
  pub kept : OnErr result (t.left ≡ w.left)
