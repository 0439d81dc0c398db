-- Part of the claim.
-- What the boot lists: the pool, with the map of a checkpoint. Nothing is filled: every page stands in the NVM.
use Rattle.std.specs.Prelude.{◌≡◌, ℕ, List, Option, Some, None}
use Rattle.thy_block.specs.declared.block.Block.{Block}
use Rattle.thy_block.specs.declared.parameters.Parameters.{Parameters}
use Rattle.thy_block.specs.Places.{header_place}
use Rattle.thy_isa.specs.Step.{cpu_of}
use Rattle.thy_table.specs.Listing.{entry_at}
use Rattle.thy_checkpoint.specs.Filling.{FillingOf}
use Rattle.thy_layout.specs.TableSlots.{slot_block_of}
use Rattle.thy_images.specs.ShadowSlots.{table_in}
use Rattle.thy_images.specs.ShadowLayout.{shadow_layouts}
use Rattle.thy_shadow_parts.specs.Holding.{works}
use Rattle.thy_shadow_parts.specs.State.{State, IsSoundState, table_by, committed_table}
use Rattle.thy_shadow_parts.specs.Stores.{after_drain}

-- every frame is free, and none is begun
pub record IsUnframed (s : State) : Type 0 where
  pub state : IsSoundState s
  pub free : (j : ℕ) → entry_at s.frames j ≡ None
  pub unbegun : s.begun ≡ None

-- the map of a start: each page of memory has the page of the pool with its number
abbrev pub first_table : Parameters → List (Option ℕ)
first_table p = table_by p (λ x. Some x)

-- a pool when power comes on: no frame is filled or begun, and the map is a start's
pub record IsFresh (s : State) : Type 0 where
  pub unframed : IsUnframed s
  pub first : committed_table s ≡ first_table s.p

-- the map of a slot is listed
pub record HasListed (slot : List Block) (s : State) : Type 0 where
  pub unframed : IsUnframed s
  pub table : committed_table s ≡ table_in s.p slot

abbrev pub filling_shadow : FillingOf State
filling_shadow = record {
  layouts = shadow_layouts;
  p = λ s. s.p;
  dram = λ s. s.dram;
  drained = after_drain;
  fresh = IsFresh;
  lists = λ commit slot s. HasListed slot s;
  filled = λ s n k. Unit {0};
  whole = λ s n. Unit {0};
  next_fill = λ p commit slot from. None;
  most_fills = λ p. 0;
  fill_place = λ s commit k. header_place;
  with_fill = λ commit k block s. s;
  keeps = λ s t. t.dram.room ≡ s.dram.room;
  loads = works;
  first_slot = λ p s k. slot_block_of p (cpu_of s) (first_table p) 0 k;
}
