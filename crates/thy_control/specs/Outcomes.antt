-- How a call that acts once on the NVM ends.
use Rattle.std.specs.Prelude.{◌≡◌, Result, OnOk, OnErr}
use Rattle.thy_block.specs.declared.nvm.NvmError.{NvmError}
use Rattle.thy_block.specs.Device.{Device, IsFramed, CountsFault}
use Rattle.thy_control.specs.State.{State}

-- a call makes this state and this NVM; or it fails, which leaves the controller as it was, and this of the NVM
pub record MakesOrFails {T : Type 0} (state_made : State) (nvm_made : Device) (fails : Type 0)
    (s : State) (m : Device) (result : Result T NvmError) (t : State) (n : Device) : Type 0 where
  pub state : OnOk result (t ≡ state_made)
  pub nvm : OnOk result (n ≡ nvm_made)
  pub kept : OnErr result (t ≡ s)
  pub err : OnErr result fails
  pub frame : IsFramed m n
  pub cause : CountsFault result m.faults n.faults
