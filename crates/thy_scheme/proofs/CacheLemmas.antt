-- What the number of dirty lines says of the first dirty line.
use Rattle.std.proofs.Common.{◌≡◌, ℕ, ◌<◌, Option, Some, None, option_and_then, refl, ◌∙◌, ap, inl, inr, arith}
use Rattle.std.specs.List.{position}
use Rattle.thy_block.specs.Store.{IsOpenFor, page_of}
use Rattle.thy_cache.specs.declared.line.Line.{Line}
use Rattle.thy_cache.specs.Ways.{line_at, is_dirty, has_dirty}
use Rattle.thy_cache.specs.Contents.{Contents, set_at, dirty_line_in, dirty_line, dirty_count, IsOpenForFlush}
use Rattle.thy_cache.proofs.FlushLaws.{first-dirty, some-dirty}

in_set : (c : Contents) (s : ℕ) (found : Option ℕ) (line : Line) → position is_dirty (set_at c s).lines ≡ found
    → option_and_then (line_at (set_at c s)) found ≡ Some line → 0 < dirty_count c
in_set c s None line e is = absurd (cc)
in_set c s (Some w) line e is = some-dirty c s w (first-dirty (set_at c s) w e)

in_cache : (c : Contents) (found : Option ℕ) (line : Line)
    → option_and_then (λ s. dirty_line_in (set_at c s)) found ≡ Some line → 0 < dirty_count c
in_cache c None line is = absurd (cc)
in_cache c (Some s) line is = in_set c s (position is_dirty (set_at c s).lines) line refl is

-- a first dirty line is counted
pub line_counted : (c : Contents) (line : Line) → dirty_line c ≡ Some line → 0 < dirty_count c
line_counted c line is = in_cache c (position has_dirty c.sets) line is

-- a page that may be open for a flush may be for its line
pub open_for_line : (c : Contents) (page : Option ℕ) (line : Line) → dirty_line c ≡ Some line
    → IsOpenForFlush c page → IsOpenFor line.at page
open_for_line c page line is may = elim may as (λ _. IsOpenFor line.at page) [
  | inl none ↦ inl none
  | inr other ↦ let same : other.0 ≡ line = cc in inr (other.2 ∙ ap (λ (l : Line). Some (page_of l.at)) same)
]

-- without a dirty line no page is open
pub none_for_flush : (c : Contents) (page : Option ℕ) → dirty_count c ≡ 0 → IsOpenForFlush c page → page ≡ None
none_for_flush c page clean may = elim may as (λ _. page ≡ None) [
  | inl none ↦ none
  | inr other ↦ let some = line_counted c other.0 other.1 in absurd (omega (arith, some, clean))
]
