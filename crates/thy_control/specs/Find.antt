-- Part of the claim.
-- What a table has for a number, whether or not it lists it.
use Rattle.std.specs.Prelude.{ℕ, Option, Some, None, unwrap_or}
use Rattle.thy_table.specs.Listing.{Listing, entry_at, index_of, added}

module _ {E : Type 0} (key : E → ℕ) (new : ℕ → E) where
  -- the entry at the place that was found, or a new one
  abbrev pub entry_found : Option ℕ → ℕ → Listing E → E
  entry_found None n t = new n
  entry_found (Some i) n t = unwrap_or (entry_at t i) (new n)

  -- the entry that lists a number, or one as a new one would be
  abbrev pub entry_for : ℕ → Listing E → E
  entry_for n t = entry_found (index_of key n t) n t

  -- the place of the entry that lists a number; 0 if there is none
  abbrev pub index_for : ℕ → Listing E → ℕ
  index_for n t = unwrap_or (index_of key n t) 0

  -- a table with an entry for a number, by the place at which it was found: a new one if there was none
  abbrev pub with_found : Option ℕ → ℕ → Listing E → Listing E
  with_found None n t = added (new n) t
  with_found (Some i) n t = t

  abbrev pub with_entry_for : ℕ → Listing E → Listing E
  with_entry_for n t = with_found (index_of key n t) n t
