-- What a refusal of one table says: which entries are at fault, and that these are the first. Which entries are wrong by
-- themselves depends on the table.
use Rattle.std.specs.Prelude.{ℕ, ◌<◌, List, Option}
use Rattle.thy_layout.specs.declared.bad_image.BadImage.{BadImage}
use Rattle.thy_layout.specs.declared.bad_image.BadImage.TheVariants.{TableIndex, TableTwice}
use Rattle.thy_layout.specs.Entries.{Lists}

-- two entries, in order, list the same
pub record ListTwice (table : List (Option ℕ)) (i k : ℕ) : Type 0 where
  pub number : ℕ
  pub before : i < k
  pub first : Lists table i number
  pub second : Lists table k number

-- the first entry that is wrong by itself
pub record IsFirstWrong (wrong : ℕ → Type 0) (i : ℕ) : Type 0 where
  pub here : wrong i
  pub least : (k : ℕ) → k < i → ¬ wrong k

-- the first that lists what an earlier one does, and none is wrong by itself
pub record IsFirstTwice (wrong : ℕ → Type 0) (table : List (Option ℕ)) (i k : ℕ) : Type 0 where
  pub here : ListTwice table i k
  pub least : (j m : ℕ) → m < k → ¬ ListTwice table j m
  pub none_wrong : (m : ℕ) → ¬ wrong m

-- what a refusal says; a table has none but these
abbrev pub Says : (ℕ → Type 0) → List (Option ℕ) → BadImage → Type 0
Says wrong table (TableIndex i) = IsFirstWrong wrong i
Says wrong table (TableTwice i k) = IsFirstTwice wrong table i k
Says wrong table _ = ⊥
