-- Part of the claim.
-- The pool: which page of the NVM's pool has which page of memory, and frames in the DRAM, each of which has a page
-- as it was stored last. Every other page stands in the pool, as it was committed.
use Rattle.std.specs.Prelude.{◌≡◌, ℕ, ◌+◌, ◌*◌, ◌%◌, ◌<◌, ◌≤◌, nat_lt, true, if◌then◌else◌, List, length, map, Option, Some, None, is_some}
use Rattle.std.specs.List.{range_with_len}
use Rattle.thy_block.specs.declared.block.Block.{Block}
use Rattle.thy_block.specs.declared.parameters.Parameters.{Parameters}
use Rattle.thy_block.specs.Device.{Device, block_at, newest}
use Rattle.thy_block.specs.Geometry.{IsInRange}
use Rattle.thy_block.specs.Places.{dram_blocks, frame_place}
use Rattle.thy_block.specs.Store.{page_of}
use Rattle.thy_dram.specs.Contents.{Contents}
use Rattle.thy_table.specs.Listing.{Listing, IsListing, entry_at, index_of, free_count}
use Rattle.thy_images.specs.ShadowPlaces.{map_blocks, pool_pages, image_blocks, pool_place, pool_page}
use Rattle.thy_shadow_parts.specs.declared.entry.Held.{Held}
use Rattle.thy_shadow_parts.specs.declared.entry.Framed.{Framed}
use Rattle.thy_shadow_parts.specs.declared.entry.Begun.{Begun}
use Rattle.thy_shadow_parts.specs.Keys.{number_key, page_key}

pub record State : Type 0 where
  pub p : Parameters
  -- entry q: the number of the page of memory that page q of the pool has in the committed checkpoint; or the number of
  -- memory's pages plus the number of the frame that goes there with the next checkpoint
  pub pool : Listing Held
  -- entry j: the page of memory that frame j has, if it is filled
  pub frames : Listing Framed
  -- the page that the lowest free frame is begun for, and how many of its blocks were copied
  pub begun : Option Begun
  pub dram : Contents

abbrev pub state_in : Parameters → Listing Held → Listing Framed → Option Begun → Contents → State
state_in p pool frames begun dram = record { p = p; pool = pool; frames = frames; begun = begun; dram = dram }

-- ---- where pages are

-- the frame that has a page, and the page of the pool that a number is listed at
abbrev pub frame_of : State → ℕ → Option ℕ
frame_of s x = index_of page_key x s.frames

abbrev pub pool_of : State → ℕ → Option ℕ
pool_of s number = index_of number_key number s.pool

-- the page of the pool that frame j goes to
abbrev pub target : State → ℕ → Option ℕ
target s j = pool_of s (s.p.pages + j)

-- the page of the pool that page x has in the next checkpoint, by its frame
abbrev pub next_page_by : State → ℕ → Option ℕ → Option ℕ
next_page_by s x None = pool_of s x
next_page_by s x (Some j) = target s j

abbrev pub next_page : State → ℕ → Option ℕ
next_page s x = next_page_by s x (frame_of s x)

-- a map, empty past the last page; the map of the committed checkpoint, and the map of the next one
abbrev pub table_by : Parameters → (ℕ → Option ℕ) → List (Option ℕ)
table_by p of = map (λ x. if nat_lt x p.pages then of x else None) (range_with_len 0 (8 * map_blocks p))

abbrev pub committed_table : State → List (Option ℕ)
committed_table s = table_by s.p (pool_of s)

abbrev pub next_table : State → List (Option ℕ)
next_table s = table_by s.p (next_page s)

-- ---- blocks

-- where block c of page x was committed, and block b of memory; and what a read of it gives
abbrev pub page_place : State → ℕ → ℕ → ℕ
page_place s x c = pool_place s.p (pool_page (pool_of s x)) c

abbrev pub committed_place : State → ℕ → ℕ
committed_place s b = page_place s (page_of b) (b % 64)

abbrev pub committed_of : State → Device → ℕ → Block
committed_of s n b = newest n (committed_place s b)

-- where block c of frame j goes with the next checkpoint
abbrev pub target_place : State → ℕ → ℕ → ℕ
target_place s j c = pool_place s.p (pool_page (target s j)) c

-- block c of frame j
abbrev pub frame_block : State → ℕ → ℕ → Block
frame_block s j c = block_at s.dram.blocks (frame_place s.p j c)

-- a block as it was stored last, by the frame that has its page
abbrev pub work_by : State → Device → ℕ → Option ℕ → Block
work_by s n b None = committed_of s n b
work_by s n b (Some j) = frame_block s j (b % 64)

abbrev pub work_of : State → Device → ℕ → Block
work_of s n b = work_by s n b (frame_of s (page_of b))

-- ---- what holds

-- a frame is begun for a page that has none; it is the lowest free one
pub record IsBegun (s : State) (b : Begun) : Type 0 where
  pub page : b.page < s.p.pages
  pub unframed : frame_of s b.page ≡ None
  pub few : b.copied ≤ 64
  pub room : 0 < free_count s.frames

-- entry q of the pool lists a number below this one
pub record ListsBelow (pool : Listing Held) (n q : ℕ) : Type 0 where
  pub held : Held
  pub here : entry_at pool q ≡ Some held
  pub below : held.number < n

pub record IsSoundState (s : State) : Type 0 where
  pub range : IsInRange s.p
  pub pool_size : length s.pool.entries ≡ pool_pages s.p
  pub pool_numbers : s.pool.numbers ≡ pool_pages s.p
  pub frames_size : length s.frames.entries ≡ s.p.ptt
  pub frames_numbers : s.frames.numbers ≡ s.p.pages
  pub dram_size : length s.dram.blocks ≡ dram_blocks s.p
  -- no page of the pool is given twice, and no page has two frames
  pub pool_once : IsListing number_key s.pool
  pub frames_once : IsListing page_key s.frames
  -- every page of memory has a page of the pool, and every filled frame one more
  pub mapped : (x : ℕ) → x < s.p.pages → is_some (pool_of s x) ≡ true
  pub claimed : (j : ℕ) → is_some (entry_at s.frames j) ≡ is_some (target s j)
  -- each page of the pool before the one that frame j goes to has a page of memory, or is a lower frame's
  pub lowest : (j q r : ℕ) → target s j ≡ Some q → r < q → ListsBelow s.pool (s.p.pages + j) r
  -- frames are filled from the lowest on
  pub dense : (i j : ℕ) → i < j → is_some (entry_at s.frames j) ≡ true → is_some (entry_at s.frames i) ≡ true
  pub begun : (b : Begun) → s.begun ≡ Some b → IsBegun s b

-- the NVM has the blocks that the places ask for
pub record IsSized (s : State) (n : Device) : Type 0 where
  pub nvm : length n.image ≡ image_blocks s.p
