-- A write of the DRAM that lands changes nothing of what the pool holds.
use Rattle.std.proofs.Common.{◌≡◌, ℕ, length, Option, Some, None, refl}
use Rattle.std.specs.List.{range_with_len}
use Rattle.thy_block.specs.Device.{Device}
use Rattle.thy_block.specs.Geometry.{memory_blocks}
use Rattle.thy_block.specs.Store.{page_of}
use Rattle.thy_dram.specs.Contents.{Contents, drained}
use Rattle.thy_layout.proofs.AskingLemmas.{map-alike}
use Rattle.thy_shadow_parts.specs.Holding.{works}
use Rattle.thy_shadow_parts.specs.State.{State, IsSoundState, frame_of, work_by, work_of}
use Rattle.thy_shadow_parts.specs.Stores.{after_drain}
use Rattle.thy_shadow_parts.proofs.StateLemmas.{IsSoundState-over}

-- the pool stays sound with another DRAM of the same size
pub IsSoundState-dram : (s : State) (now : Contents) → IsSoundState s → length now.blocks ≡ length s.dram.blocks
    → IsSoundState (record s { dram = now })
IsSoundState-dram s now h long = IsSoundState-over s s.begun now h long h.begun

pub IsSoundState-drained : (s : State) → IsSoundState s → IsSoundState (after_drain s)
IsSoundState-drained s h = IsSoundState-dram s (drained s.dram) h refl

work_drained : (s : State) (n : Device) (b : ℕ) (x : Option ℕ) → work_by (after_drain s) n b x ≡ work_by s n b x
work_drained s n b None = refl
work_drained s n b (Some j) = refl

pub works_drained : (s : State) (n : Device) → works (after_drain s) n ≡ works s n
works_drained s n =
    map-alike (work_of (after_drain s) n) (work_of s n) (range_with_len 0 (memory_blocks s.p))
    (λ b inside. work_drained s n b (frame_of s (page_of b)))
