-- Part of the claim.
-- What a cycle makes of the DRAM, and which block it writes, of either device.
use Rattle.std.specs.Prelude.{◌≡◌, ◌⊎◌, ℕ}
use Rattle.thy_block.specs.declared.block.Block.{Block}
use Rattle.thy_block.specs.Device.{Device, written_to}
use Rattle.thy_dram.specs.Contents.{Contents, written, drained}
use Rattle.thy_computer.specs.declared.did.Did.{Did}
use Rattle.thy_computer.specs.declared.did.Did.TheVariants.{Retired, Sealed, NvmDrained, DramDrained, Nothing}

-- one block of the DRAM was written, and the NVM is as before
pub record WritesDram (n new : Device) (old now : Contents) : Type 0 where
  pub at : ℕ
  pub block : Block
  pub left : now ≡ written old at block
  pub nvm : new ≡ n

-- one block of the NVM was written
pub record WritesNvm (n new : Device) : Type 0 where
  pub at : ℕ
  pub block : Block
  pub left : new ≡ written_to n at block

-- one block was written, of the NVM or of the DRAM
abbrev pub WritesBlock : Device → Device → Contents → Contents → Type 0
WritesBlock n new old now = WritesNvm n new ⊎ WritesDram n new old now

-- the DRAM is as before, or one block of it was written and the NVM is as before
abbrev pub ActsOnDram : Device → Device → Contents → Contents → Type 0
ActsOnDram n new old now = (now ≡ old) ⊎ WritesDram n new old now

-- a drain of the DRAM lets its oldest write land; no other cycle does, but by a write into a full queue. A cycle that
-- retires an instruction, seals, drains the NVM or does nothing writes no block of the DRAM
abbrev pub LeavesDram : Did → Device → Device → Contents → Contents → Type 0
LeavesDram DramDrained n new old now = now ≡ drained old
LeavesDram (Retired hart) n new old now = now ≡ old
LeavesDram (Sealed epoch count cause) n new old now = now ≡ old
LeavesDram NvmDrained n new old now = now ≡ old
LeavesDram Nothing n new old now = now ≡ old
LeavesDram did n new old now = ActsOnDram n new old now
