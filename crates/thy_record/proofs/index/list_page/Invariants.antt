use Rattle.std.proofs.Common.{◌≡◌, ◌≢◌, ℕ, ◌+◌, ◌*◌, ◌<◌, length, slice_index_or}
use Rattle.thy_table.specs.declared.place.Place.TheVariants.{AlternatePage}
use Rattle.thy_table.specs.Places.{number_of}
use Rattle.thy_block.specs.Store.{page_of}
use Rattle.thy_record.proofs.index.list_page.Given as goal

abbrev pub invariant-loop-block : goal.invariant-loop-block
invariant-loop-block l =
    (length l.index ≡ length l.fn.index)
    × ((k : ℕ) → k < l.block → slice_index_or l.index (64 * l.page + k) 0 ≡ number_of l.geometry (AlternatePage l.entry k))
    × ((b : ℕ) → page_of b ≢ l.page → slice_index_or l.index b 0 ≡ slice_index_or l.fn.index b 0)
