use Rattle.std.proofs.Common.{◌≡◌, ℕ, ◌<◌, length, slice_index_or}
use Rattle.thy_images.specs.JournalPlaces.{home_place}
use Rattle.thy_images.proofs.journal.index.homes.Given as goal

abbrev pub invariant-loop-b : goal.invariant-loop-b
invariant-loop-b l =
    (length l.index.items ≡ l.b) × ((k : ℕ) → k < l.b → slice_index_or l.index.items k 0 ≡ home_place l.geometry k)
