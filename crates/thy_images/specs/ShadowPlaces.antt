-- Part of the claim.
-- The places of an image of shadow paging: header, commit block, two slots, and after them a pool of pages. A
-- checkpoint has each page of memory in a page of the pool.
use Rattle.std.specs.Prelude.{ℕ, ◌+◌, ◌*◌, ◌/◌, ◌%◌, List, Option, Some, None}
use Rattle.thy_block.specs.declared.parameters.Parameters.{Parameters}
use Rattle.thy_block.specs.Places.{record_blocks}
use Rattle.thy_block.specs.Store.{page_of}
use Rattle.thy_layout.specs.Entries.{entry_at}

-- the number of the scheme, as headers have it
abbrev pub scheme_number : ℕ
scheme_number = 2

-- how many blocks the map of a checkpoint has, eight pages a block
abbrev pub map_blocks : Parameters → ℕ
map_blocks p = (p.pages + 7) / 8

-- how many blocks a slot has: the processor's record, and the map
abbrev pub slot_blocks : Parameters → ℕ
slot_blocks p = record_blocks p + map_blocks p

-- the first block of a slot
abbrev pub slot_place : Parameters → ℕ → ℕ
slot_place p s = 2 + s * slot_blocks p

-- where the pool begins, and how many pages it has: memory's, and one for each frame
abbrev pub first_pool : Parameters → ℕ
first_pool p = 2 + 2 * slot_blocks p

abbrev pub pool_pages : Parameters → ℕ
pool_pages p = p.pages + p.ptt

-- how many blocks an image has
abbrev pub image_blocks : Parameters → ℕ
image_blocks p = first_pool p + 64 * pool_pages p

-- block c of page q of the pool
abbrev pub pool_place : Parameters → ℕ → ℕ → ℕ
pool_place p q c = first_pool p + (64 * q + c)

-- the page of the pool that an entry of a map lists, the first if it lists none
abbrev pub pool_page : Option ℕ → ℕ
pool_page None = 0
pool_page (Some q) = q

-- where block b of memory stands by a map, whose entry x lists the page of the pool that has page x
abbrev pub place_of : Parameters → List (Option ℕ) → ℕ → ℕ
place_of p table b = pool_place p (pool_page (entry_at table (page_of b))) (b % 64)
