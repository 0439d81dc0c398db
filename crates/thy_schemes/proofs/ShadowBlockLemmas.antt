-- Blocks of memory, as they were stored last and as they were committed.
use Rattle.std.proofs.Common.{◌≡◌, ℕ, ◌<◌, length, arith}
use Rattle.std.proofs.lemmas.List.FromFn.{length-map-range_with_len, get_or-map-range_with_len}
use Rattle.thy_block.specs.Device.{Device, block_at, zero_block}
use Rattle.thy_block.specs.Geometry.{memory_blocks}
use Rattle.thy_shadow_parts.specs.Holding.{works, commits}
use Rattle.thy_shadow_parts.specs.State.{State, committed_of, work_of}

pub small_work : (s : State) (n : Device) (b : ℕ) → b < length (works s n) → b < memory_blocks s.p
small_work s n b low = omega (arith, low, length-map-range_with_len (work_of s n) 0 (memory_blocks s.p))

pub small_commit : (s : State) (n : Device) (b : ℕ) → b < length (commits s n) → b < memory_blocks s.p
small_commit s n b low = omega (arith, low, length-map-range_with_len (committed_of s n) 0 (memory_blocks s.p))

pub work_at : (s : State) (n : Device) (b : ℕ) → b < memory_blocks s.p → block_at (works s n) b ≡ work_of s n b
work_at s n b low = get_or-map-range_with_len (work_of s n) 0 (memory_blocks s.p) b b zero_block low (omega arith)

pub commit_at : (s : State) (n : Device) (b : ℕ) → b < memory_blocks s.p → block_at (commits s n) b ≡ committed_of s n b
commit_at s n b low = get_or-map-range_with_len (committed_of s n) 0 (memory_blocks s.p) b b zero_block low (omega arith)
