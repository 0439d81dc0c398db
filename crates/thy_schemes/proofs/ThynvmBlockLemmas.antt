-- Blocks of memory, as they were stored last and as they were committed.
use Rattle.std.proofs.Common.{◌≡◌, ℕ, ◌<◌, length, Result, Ok, Err, IfOk, ◌∙◌, arith}
use Rattle.std.proofs.lemmas.List.FromFn.{length-map-range_with_len, get_or-map-range_with_len}
use Rattle.thy_block.specs.declared.block.Block.{Block}
use Rattle.thy_block.specs.declared.nvm.NvmError.{NvmError}
use Rattle.thy_block.specs.Device.{Device, block_at, zero_block}
use Rattle.thy_block.specs.Geometry.{memory_blocks}
use Rattle.thy_control.specs.State.{State, penult_of, work_of}
use Rattle.thy_thynvm_parts.specs.Filling.{loads}
use Rattle.thy_thynvm_parts.specs.Design.{penults}

pub small : (s : State) (n : Device) (b : ℕ) → b < length (loads s n) → b < memory_blocks s.p
small s n b low = omega (arith, low, length-map-range_with_len (work_of s n) 0 (memory_blocks s.p))

pub work_at : (s : State) (n : Device) (b : ℕ) → b < memory_blocks s.p → block_at (loads s n) b ≡ work_of s n b
work_at s n b low = get_or-map-range_with_len (work_of s n) 0 (memory_blocks s.p) b b zero_block low (omega arith)

pub small_penult : (s : State) (n : Device) (b : ℕ) → b < length (penults s n) → b < memory_blocks s.p
small_penult s n b low = omega (arith, low, length-map-range_with_len (penult_of s n) 0 (memory_blocks s.p))

pub penult_at : (s : State) (n : Device) (b : ℕ) → b < memory_blocks s.p → block_at (penults s n) b ≡ penult_of s n b
penult_at s n b low = get_or-map-range_with_len (penult_of s n) 0 (memory_blocks s.p) b b zero_block low (omega arith)

pub ok_same : (r : Result Block NvmError) (a b : Block) → IfOk r (λ x. x ≡ a) → a ≡ b → IfOk r (λ x. x ≡ b)
ok_same (Ok x) a b h e = h ∙ e
ok_same (Err x) a b h e = tt
