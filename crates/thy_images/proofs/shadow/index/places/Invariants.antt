use Rattle.std.proofs.Common.{◌≡◌, ℕ, ◌<◌, length, slice_index_or}
use Rattle.thy_layout.specs.Files.{blocks_of}
use Rattle.thy_images.specs.ShadowPlaces.{place_of}
use Rattle.thy_images.specs.ShadowSlots.{table_in}
use Rattle.thy_images.proofs.shadow.index.places.Given as goal

abbrev pub invariant-loop-b : goal.invariant-loop-b
invariant-loop-b l =
    (length l.index.items ≡ l.b)
    × ((k : ℕ) → k < l.b → slice_index_or l.index.items k 0 ≡ place_of l.geometry (table_in l.geometry (blocks_of l.slot)) k)
