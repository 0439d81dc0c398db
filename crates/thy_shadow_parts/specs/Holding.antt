-- Part of the claim.
-- What the pool and the NVM hold together: memory as it was stored last and as it was committed, and what was copied.
use Rattle.std.specs.Prelude.{ℕ, ◌==◌, Bool, true, List, map, count_by, bytes_eq, Option, Some, None}
use Rattle.std.specs.List.{range_with_len}
use Rattle.thy_block.specs.declared.block.Block.{Block}
use Rattle.thy_block.specs.Device.{Device, newest}
use Rattle.thy_block.specs.Geometry.{memory_blocks}
use Rattle.thy_shadow_parts.specs.declared.entry.Begun.{Begun}
use Rattle.thy_shadow_parts.specs.State.{State, page_place, frame_block, committed_of, work_of}
use Rattle.thy_shadow_parts.specs.Stores.{free_frame}

-- every block as it was stored last, and every block as it was committed
abbrev pub works : State → Device → List Block
works s n = map (work_of s n) (range_with_len 0 (memory_blocks s.p))

abbrev pub commits : State → Device → List Block
commits s n = map (committed_of s n) (range_with_len 0 (memory_blocks s.p))

-- how many blocks were copied into a frame that is not filled yet, and for which page
abbrev pub copied_by : Option Begun → ℕ
copied_by None = 0
copied_by (Some b) = b.copied

abbrev pub opened_by : Option Begun → Option ℕ
opened_by None = None
opened_by (Some b) = Some b.page

-- block c of the lowest free frame is what the NVM has of page x
abbrev pub agrees : State → Device → ℕ → ℕ → Bool
agrees s n x c = bytes_eq (frame_block s (free_frame s) c).0 (newest n (page_place s x c)).0

-- all blocks that were copied into the frame that is begun agree with the NVM
abbrev pub agree_by : State → Device → Option Begun → Bool
agree_by s n None = true
agree_by s n (Some b) = count_by (agrees s n b.page) (range_with_len 0 b.copied) == b.copied

abbrev pub copies_agree : State → Device → Bool
copies_agree s n = agree_by s n s.begun
