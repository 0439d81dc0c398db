-- What the controller holds, seen as a store of blocks.
use Rattle.std.proofs.Common.{◌≡◌, ℕ, ◌+◌, ◌<◌, ◌==◌, ◌&&◌, not, Bool, true, false, if◌then◌else◌, [], length, map, replicate, is_none, Option, None, refl, ◌∙◌, ap, arith}
use Rattle.std.specs.List.{range_with_len, count_by}
use Rattle.std.proofs.lemmas.Bool.{eqb-true, eq-eqb, and_parts, and_from, not_from_false, not-true}
use Rattle.std.proofs.lemmas.List.FromFn.{length-map-range_with_len, get_or-map-range_with_len}
use Rattle.std.proofs.lemmas.List.Folds.{sum_by-replicate}
use Rattle.thy_block.specs.declared.block.Block.{Block}
use Rattle.thy_block.specs.declared.parameters.Parameters.{Parameters}
use Rattle.thy_block.specs.Device.{Device, zero_block, block_at}
use Rattle.thy_block.specs.Geometry.{memory_blocks}
use Rattle.thy_table.specs.Places.{image_blocks}
use Rattle.thy_dram.specs.Contents.{Contents}
use Rattle.thy_table.specs.Listing.{passes, empty_table, free_count}
use Rattle.thy_table.proofs.IndexLemmas.{one_if}
use Rattle.thy_table.specs.declared.block_entry.BttEntry.{BttEntry}
use Rattle.thy_control.specs.State.{State, IsSized, work_of, new_state}
use Rattle.thy_control.specs.Holding.{AreWorks, IsNew, works, waits, is_promoted, holding_of}

-- blocks by a function, if a test holds
block_if : (t : Bool) (f : ℕ → Block) (size b : ℕ) → b < length (if t then map f (range_with_len 0 size) else [])
    → (t ≡ true) × (b < size) × (block_at (if t then map f (range_with_len 0 size) else []) b ≡ f b)
block_if true f size b l =
    let inside : b < size = omega (arith, l, length-map-range_with_len f 0 size) in
    let at : 0 + b ≡ b = omega arith in
    (refl, inside, get_or-map-range_with_len f 0 size b b zero_block inside at)
block_if false f size b l = absurd (omega arith)

module _ (s : State) (n : Device) where
  pub AreWorks-holding : (b : ℕ) → b < length (holding_of s n).blocks → AreWorks s n b
  AreWorks-holding b l =
      let e = block_if (length n.image == image_blocks s.p && not n.down) (work_of s n) (memory_blocks s.p) b l in
      let both = and_parts (length n.image == image_blocks s.p) (not n.down) e.0 in
      record {
        sized = record { nvm = eqb-true (length n.image) (image_blocks s.p) both.0 };
        up = not-true n.down both.1;
        inside = e.1;
        block = e.2;
      }

  pub works-sized : IsSized s n → n.down ≡ false → works s n ≡ map (work_of s n) (range_with_len 0 (memory_blocks s.p))
  works-sized sized up = ap (λ (t : Bool). if t then map (work_of s n) (range_with_len 0 (memory_blocks s.p)) else []) (and_from
      (length n.image == image_blocks s.p) (not n.down) (eq-eqb (length n.image) (image_blocks s.p) sized.nvm) (not_from_false n.down up))

  pub length-works : IsSized s n → n.down ≡ false → length (works s n) ≡ memory_blocks s.p
  length-works sized up = ap length (works-sized sized up) ∙ length-map-range_with_len (work_of s n) 0 (memory_blocks s.p)

-- a table of free entries
pub all_free : (size numbers : ℕ) → free_count (empty_table {E = BttEntry} size numbers) ≡ size
all_free size numbers = omega (arith, sum_by-replicate (λ (o : Option BttEntry). one_if (is_none o)) size None)

pub none_passes : {E : Type 0} (test : E → Bool) (size : ℕ) → count_by (passes test) (replicate size None) ≡ 0
none_passes {E} test size = omega (arith, sum_by-replicate (λ (o : Option E). one_if (passes test o)) size None)

pub IsNew-holding : (p : Parameters) (dram : Contents) (n : Device) → IsNew p n (holding_of (new_state p dram) n)
IsNew-holding p dram n = record {
  free = all_free p.btt (memory_blocks p);
  ready = ap (λ (k : ℕ). k == 0 && not n.down) (none_passes is_promoted p.ptt);
  owed = none_passes (λ (e : BttEntry). waits e.pend) p.btt;
}
