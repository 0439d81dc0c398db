-- Part of the claim.
-- What a store makes of the pool, and what the boot does.
use Rattle.std.specs.Prelude.{ℕ, ◌+◌, ◌%◌, ◌==◌, nat_lt, if◌then◌else◌, List, map, Option, Some, None, unwrap_or}
use Rattle.std.specs.List.{range_with_len}
use Rattle.thy_block.specs.declared.block.Block.{Block}
use Rattle.thy_block.specs.declared.parameters.Parameters.{Parameters}
use Rattle.thy_block.specs.declared.store.Stored.{Stored}
use Rattle.thy_block.specs.declared.store.Stored.TheVariants.{Done, CopyFirst}
use Rattle.thy_block.specs.Device.{Device, newest}
use Rattle.thy_block.specs.Places.{frame_place}
use Rattle.thy_block.specs.Store.{page_of}
use Rattle.thy_dram.specs.Contents.{Contents, written, drained}
use Rattle.thy_table.specs.Listing.{listing, free_index, added, empty_table}
use Rattle.thy_computer.specs.Action.{Action, Rest, ReadAt}
use Rattle.thy_images.specs.ShadowPlaces.{pool_pages}
use Rattle.thy_shadow_parts.specs.declared.entry.Held.{Held}
use Rattle.thy_shadow_parts.specs.declared.entry.Begun.{Begun}
use Rattle.thy_shadow_parts.specs.Keys.{held, framed, begun_for}
use Rattle.thy_shadow_parts.specs.State.{State, state_in, frame_of, page_place}

-- what a store does: into the frame of its page; into a frame that is whole, and is so filled; or a copy of block k
-- first
pub data StoreCase : Type 0 where
  Into : (j : ℕ) → StoreCase
  Fill : (j : ℕ) → StoreCase
  Copy : (j k : ℕ) → StoreCase

-- how many blocks of a page were copied into the frame that is begun for it
abbrev pub copies_by : ℕ → Option Begun → ℕ
copies_by x None = 0
copies_by x (Some b) = if b.page == x then b.copied else 0

abbrev pub copies_for : ℕ → State → ℕ
copies_for x s = copies_by x s.begun

-- the lowest frame that is free
abbrev pub free_frame : State → ℕ
free_frame s = unwrap_or (free_index s.frames) 0

abbrev pub case_by : State → ℕ → Option ℕ → StoreCase
case_by s x (Some j) = Into j
case_by s x None = if nat_lt (copies_for x s) 64 then Copy (free_frame s) (copies_for x s) else Fill (free_frame s)

abbrev pub store_case : ℕ → State → StoreCase
store_case b s = case_by s (page_of b) (frame_of s (page_of b))

-- the pool with a block in a frame
abbrev pub put_into : ℕ → ℕ → Block → State → State
put_into j c block s = record s { dram = written s.dram (frame_place s.p j c) block }

-- frame j is page x's, and the lowest free page of the pool is frame j's
abbrev pub filled : ℕ → ℕ → State → State
filled j x s = record s { pool = added (held (s.p.pages + j)) s.pool; frames = added (framed x) s.frames; begun = None }

-- block k of page x stands in frame j, which is begun for it
abbrev pub copied_into : ℕ → ℕ → ℕ → Block → State → State
copied_into j x k block s = record (put_into j k block s) { begun = Some (begun_for x (k + 1)) }

-- the pool after a store of block b, over a device
abbrev pub after_case : StoreCase → ℕ → Block → Device → State → State
after_case (Into j) b block n s = put_into j (b % 64) block s
after_case (Fill j) b block n s = put_into j (b % 64) block (filled j (page_of b) s)
after_case (Copy j k) b block n s = copied_into j (page_of b) k (newest n (page_place s (page_of b) k)) s

unfoldable pub after_store : ℕ → Block → Device → State → State
after_store b block n s = after_case (store_case b s) b block n s

-- what a store in each case returns, and its action on the NVM
abbrev pub stored_by : StoreCase → Stored
stored_by (Into j) = Done
stored_by (Fill j) = Done
stored_by (Copy j k) = CopyFirst

abbrev pub store_action : StoreCase → ℕ → State → Action
store_action (Copy j k) b s = ReadAt (page_place s (page_of b) k)
store_action case b s = Rest

-- the oldest write that is queued in the DRAM landed
abbrev pub after_drain : State → State
after_drain s = record s { dram = drained s.dram }

-- ---- when power comes on, and in the boot

-- page x of the pool has page x of memory; the pages after these are free
abbrev pub first_entry : Parameters → ℕ → Option Held
first_entry p q = if nat_lt q p.pages then Some (held q) else None

abbrev pub first_entries : Parameters → List (Option Held)
first_entries p = map (first_entry p) (range_with_len 0 (pool_pages p))

-- page x of memory is page x of the pool, and every frame is free
abbrev pub new_state : Parameters → Contents → State
new_state p dram = state_in p (listing (first_entries p) (pool_pages p)) (empty_table p.ptt p.pages) None dram
