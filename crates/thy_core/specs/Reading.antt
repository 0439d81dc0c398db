-- What is read of a machine.
use Rattle.std.specs.Prelude.{◌≡◌, ℕ, ◌≤◌, true, false, List, [], length, Result, IfOk, MatchResult}
use Rattle.thy_block.specs.Bytes.{bytes_of}
use Rattle.thy_block.specs.declared.block.Block.{Block}
use Rattle.thy_block.specs.declared.bytes.Bytes.{Bytes}
use Rattle.thy_block.specs.declared.parameters.Parameters.{Parameters}
use Rattle.thy_block.specs.Device.{Device}
use Rattle.thy_block.specs.Geometry.{IsInRange, memory_blocks, console_room}
use Rattle.thy_hart.specs.HartState.{has_written}
use Rattle.thy_isa.specs.Step.{state_of, state_with}
use Rattle.thy_isa.specs.declared.state.CpuState.{CpuState}
use Rattle.thy_isa.specs.declared.state.MachState.{MachState}
use Rattle.thy_computer.specs.declared.error.CoreError.{CoreError}
use Rattle.thy_computer.specs.Kind.{IsSnapshot}
use Rattle.thy_computer.specs.Origin.{Origin}
use Rattle.thy_computer.specs.Views.{is_boot}
use Rattle.thy_scheme.specs.Scheme.{SchemeOf}
use Rattle.thy_core.specs.declared.reading.MemoryVersion.{MemoryVersion}
use Rattle.thy_core.specs.declared.reading.MemoryVersion.TheVariants.{Executing, Committed}
use Rattle.thy_scheme.specs.Machine.{Machine, memory_of, processor_of, view_of}
use Rattle.thy_scheme.specs.Sound.{Sound}

-- memory in a version
abbrev pub blocks_in : {S : Type 0} → SchemeOf S → MemoryVersion → Machine S → Device → List Block
blocks_in K Executing m n = memory_of K m n
blocks_in K Committed m n = K.committed m.scheme n

-- these are blocks of memory, whose console has room for `len` bytes
pub record IsRoomy (p : Parameters) (len : ℕ) (blocks : List Block) : Type 0 where
  pub range : IsInRange p
  pub whole : length blocks ≡ memory_blocks p
  pub room : len ≤ console_room p

-- the boot is over, and the instruction in hand, if there is one, has written no block
pub record IsUnwritten {S : Type 0} (m : Machine S) : Type 0 where
  pub booted : is_boot m.phase ≡ false
  pub unwritten : has_written m.hart.hand ≡ false

-- at a moment of a run at which that holds, what was read is the plain machine's state
abbrev pub ReadsState : {S : Type 0} → SchemeOf S → Machine S → Device → Result MachState CoreError → Type 0
ReadsState K m n result =
    (o : Origin) (k : ℕ) → Sound K o k m n → IsUnwritten m → IfOk result (λ s. IsSnapshot o (view_of K o m n) s)

-- the answer is this processor, without memory and console
abbrev pub IsBare : CpuState → Result MachState CoreError → Type 0
IsBare cpu result = MatchResult result (λ s. state_of s ≡ state_with cpu [] []) (λ _. ⊥)

-- what is read of a machine is the processor alone after a step that failed, with hart 0 in front, and in the boot
pub record ReadsBare {S : Type 0} (m : Machine S) (result : Result MachState CoreError) : Type 0 where
  pub failed : m.failed ≡ true → IsBare (processor_of m) result
  pub booting : m.failed ≡ false → is_boot m.phase ≡ true → IsBare m.hart.cpu result

-- in the boot no console is shown
abbrev pub ShowsNone : {S : Type 0} → Machine S → Result Bytes CoreError → Type 0
ShowsNone m result = is_boot m.phase ≡ true → MatchResult result (λ b. bytes_of b ≡ []) (λ _. ⊥)
