-- Part of the claim.
-- The faults of a table's entries, in the order in which they are looked for.
use Rattle.std.specs.Prelude.{ℕ, ◌+◌, nat_lt, if◌then◌else◌, List, [], ◌∷◌, take, Option, Some, None}
use Rattle.std.specs.Option.{option_or, option_map}
use Rattle.thy_layout.specs.declared.bad_image.BadImage.{BadImage}
use Rattle.thy_layout.specs.declared.bad_image.BadImage.TheVariants.{TableIndex, TableTwice}
use Rattle.thy_layout.specs.Entries.{entry_of}

-- the fault of an entry that lists a number, by a rule for entry k that lists n
abbrev pub entry_fault : (ℕ → ℕ → Option BadImage) → ℕ → Option ℕ → Option BadImage
entry_fault rule k None = None
entry_fault rule k (Some n) = rule k n

-- the first fault of a table's entries, of which the first has number k
abbrev pub first_clash : (ℕ → ℕ → Option BadImage) → ℕ → List (Option ℕ) → Option BadImage
first_clash rule k [] = None
first_clash rule k (e ∷ es) = option_or (entry_fault rule k e) (first_clash rule (k + 1) es)

-- an entry lists a number that is not below the limit; `before` entries have lower numbers than the table's
abbrev pub index_rule : ℕ → ℕ → ℕ → ℕ → Option BadImage
index_rule before limit i n = if nat_lt n limit then None else Some (TableIndex (before + i))

-- the entry before entry k that lists what that does
abbrev pub twin_of : List (Option ℕ) → ℕ → Option ℕ → Option ℕ
twin_of table k None = None
twin_of table k (Some n) = entry_of (take k table) n

-- the fault of entry k if an earlier entry of the table lists the same number
abbrev pub twice_rule : ℕ → List (Option ℕ) → ℕ → ℕ → Option BadImage
twice_rule before table k n = option_map (λ i. TableTwice (before + i) (before + k)) (twin_of table k (Some n))

-- the fault of the first entry of a table whose number an earlier entry lists
abbrev pub twice_fault : List (Option ℕ) → Option BadImage
twice_fault table = first_clash (twice_rule 0 table) 0 table
