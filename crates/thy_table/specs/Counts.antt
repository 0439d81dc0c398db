-- Part of the claim.
-- How often each page was stored to, in this epoch and in the one before, and which pages are above or below a threshold.
use Rattle.std.specs.Prelude.{◌≡◌, ℕ, ◌+◌, ◌-◌, ◌≤◌, nat_lt, nat_le, min, max, Bool, ◌&&◌, List, [], ◌∷◌, length, replicate, take, drop, slice_index, slice_set, All}

pub record Tally : Type 0 where
  -- the stores of each page since the last seal, up to 63
  pub counts : List ℕ
  -- the stores of each page in the epoch that this seal ended
  pub lasts : List ℕ
  -- a page counted above this is stored to densely
  pub high : ℕ
  -- a page counted below this is stored to only rarely
  pub low : ℕ

-- the greatest count of a page
abbrev pub most : ℕ
most = 63

-- the tally of this number of pages, none of which was stored to
abbrev pub uncounted : ℕ → ℕ → ℕ → Tally
uncounted pages high low = record { counts = replicate pages 0; lasts = replicate pages 0; high = high; low = low }

-- the stores to a page
abbrev pub count_at : Tally → ℕ → ℕ
count_at c page = slice_index c.counts page

-- the stores to a page in the epoch before
abbrev pub last_at : Tally → ℕ → ℕ
last_at c page = slice_index c.lasts page

-- the counts after one store more to a page
abbrev pub counted : ℕ → Tally → Tally
counted page c = record c { counts = slice_set c.counts page (min (count_at c page + 1) most) }

-- a tally with another number of stores to a page in the epoch before
abbrev pub with_last : ℕ → ℕ → Tally → Tally
with_last page n c = record c { lasts = slice_set c.lasts page n }

-- a seal: each last takes the count, and all count from 0
abbrev pub reset : Tally → Tally
reset c = record c { counts = replicate (length c.counts) 0; lasts = c.counts }

-- a page is counted above the high threshold
abbrev pub is_dense : Tally → ℕ → Bool
is_dense c page = nat_lt c.high (count_at c page)

-- the greatest of counts and of one more
abbrev pub greatest_of : ℕ → List ℕ → ℕ
greatest_of most [] = most
greatest_of most (n ∷ ns) = greatest_of (max most n) ns

-- no page from one to before another is counted above the high threshold, as the greatest of their counts is not
abbrev pub are_sparse : Tally → ℕ → ℕ → Bool
are_sparse c first end = nat_le (greatest_of 0 (take (end - first) (drop first c.counts))) c.high

-- a page is counted, in this epoch and in the one before, below the low threshold
abbrev pub is_low : Tally → ℕ → Bool
is_low c page = nat_lt (count_at c page) c.low && nat_lt (last_at c page) c.low

-- no count is past the greatest one
abbrev pub AreWithin : List ℕ → Type 0
AreWithin counts = All (λ n. n ≤ most) counts

-- each page has a count and a last, none past that
pub record AreTallied (counts lasts : List ℕ) : Type 0 where
  pub as_many : length lasts ≡ length counts
  pub counts_within : AreWithin counts
  pub lasts_within : AreWithin lasts
