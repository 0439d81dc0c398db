use Rattle.std.proofs.Common.{◌≡◌, ℕ, ◌<◌, length, slice_index_or}
use Rattle.thy_table.specs.declared.place.Place.TheVariants.{Home}
use Rattle.thy_table.specs.Places.{number_of}
use Rattle.thy_record.proofs.index.homes.Given as goal

abbrev pub invariant-loop-b : goal.invariant-loop-b
invariant-loop-b l =
    (length l.index.items ≡ l.b) × ((k : ℕ) → k < l.b → slice_index_or l.index.items k 0 ≡ number_of l.geometry (Home k))
