-- While no frame is filled, each block loads as it is at its place by the committed map.
use Rattle.std.proofs.Common.{◌≡◌, ℕ, ◌%◌, ◌<◌, List, [], map, Contains, Option, None, sym, ◌∙◌, ap, arith}
use Rattle.std.specs.List.{range_with_len}
use Rattle.std.proofs.lemmas.Simd.{map-map}
use Rattle.thy_block.specs.declared.block.Block.{Block}
use Rattle.thy_block.specs.Device.{Device, block_at, newest}
use Rattle.thy_block.specs.Geometry.{memory_blocks}
use Rattle.thy_block.specs.Store.{page_of}
use Rattle.thy_layout.proofs.AskingLemmas.{map-alike}
use Rattle.thy_layout.specs.Layout.{slot_in, memory_in}
use Rattle.thy_block.proofs.BasicLemmas.{Contains-range}
use Rattle.thy_table.specs.Listing.{lists}
use Rattle.thy_table.proofs.ListingLaws.{index_of-none}
use Rattle.thy_block.proofs.DeviceLemmas.{newest-empty}
use Rattle.thy_images.specs.ShadowPlaces.{pool_place, pool_page, place_of}
use Rattle.thy_images.specs.ShadowSlots.{table_in}
use Rattle.thy_images.specs.ShadowLayout.{shadow_layouts}
use Rattle.thy_images.specs.ShadowCheckpointParts.{memory_places}
use Rattle.thy_shadow_parts.specs.Holding.{works}
use Rattle.thy_shadow_parts.specs.Keys.{page_key}
use Rattle.thy_shadow_parts.specs.State.{State, frame_of, pool_of, committed_place, committed_table, work_by, work_of}
use Rattle.thy_shadow_parts.proofs.TableLemmas.{listed_at-table_by, entry_page}
use Rattle.thy_shadow_parts.specs.Filling.{IsUnframed, HasListed}

-- a block of memory has a number below memory's
pub below : (n b : ℕ) → Contains (range_with_len 0 n) b → b < n
below n b inside = let of = Contains-range 0 n b inside in let l = of.1 in let is = of.2 in omega (arith, l, is)

pub unframed_none : (s : State) (x : ℕ) → IsUnframed s → frame_of s x ≡ None
unframed_none s x h = index_of-none page_key s.frames x (λ j. ap (lists page_key x) (h.free j))

-- a committed block has its place by the committed map
pub place_committed : (s : State) (b : ℕ) → b < memory_blocks s.p → committed_place s b ≡ place_of s.p (committed_table s) b
place_committed s b l =
    let low : page_of b < s.p.pages = omega arith in
    sym (ap (λ (e : Option ℕ). pool_place s.p (pool_page e) (b % 64))
    (listed_at-table_by s.p (pool_of s) (page_of b) (omega (arith, low)) ∙ entry_page s.p (pool_of s) (page_of b) low))

pub work_stands : (s : State) (n : Device) (b : ℕ) → IsUnframed s → b < memory_blocks s.p
    → work_of s n b ≡ newest n (place_of s.p (committed_table s) b)
work_stands s n b h l = ap (work_by s n b) (unframed_none s (page_of b) h) ∙ ap (newest n) (place_committed s b l)

pub works_stand : (s : State) (n : Device) → IsUnframed s → works s n ≡ map (newest n) (memory_places s.p (committed_table s))
works_stand s n h =
    map-alike (work_of s n) (λ (b : ℕ). newest n (place_of s.p (committed_table s) b)) (range_with_len 0 (memory_blocks s.p))
    (λ b inside. work_stands s n b h (below (memory_blocks s.p) b inside))
    ∙ sym (map-map (newest n) (place_of s.p (committed_table s)) (range_with_len 0 (memory_blocks s.p)))

-- with the map of the image's slot listed, memory is the image's
pub works_are_memory : (s : State) (n : Device) (slot : List Block) → HasListed slot s → n.queue ≡ []
    → slot_in (shadow_layouts s.p) n.image ≡ slot → works s n ≡ memory_in (shadow_layouts s.p) n.image
works_are_memory s n slot h settled is =
    works_stand s n h.unframed
    ∙ map-alike (newest n) (block_at n.image) (memory_places s.p (committed_table s)) (λ x inside. newest-empty n x settled)
    ∙ ap (λ (table : List (Option ℕ)). map (block_at n.image) (memory_places s.p table)) (h.table ∙ ap (table_in s.p) (sym is))
