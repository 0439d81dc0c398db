-- How many lines are dirty after a change.
use Rattle.std.proofs.Common.{◌≡◌, ℕ, ◌+◌, ◌^◌, ◌<◌, ◌≤◌, cond, length, Option, None, arith}
use Rattle.std.specs.Prelude.{sum_by}
use Rattle.std.proofs.lemmas.List.Sums.{sum_by-set, sum_by-le-sum_by, count_by-le-length}
use Rattle.thy_cache.specs.declared.line.Line.{Line}
use Rattle.thy_cache.specs.Ways.{Ways, line_at, is_dirty, dirty_lines}
use Rattle.thy_cache.specs.Contents.{Contents, IsSoundCache, no_ways, set_at, with_set, dirty_count}
use Rattle.thy_cache.proofs.AgreeLemmas.{rewritten}

-- a dirty line counts as one
abbrev pub dirt : Option Line → ℕ
dirt o = cond (is_dirty o) 1 0

-- the count of dirty lines after one way was written
pub dirty_lines-rewritten : (ways : Ways) (w : ℕ) (o : Option Line) → w < length ways.lines
    → dirty_lines (rewritten w o ways) + dirt (line_at ways w) ≡ dirty_lines ways + dirt o
dirty_lines-rewritten ways w o inside = sum_by-set dirt ways.lines w o None inside

-- the count of dirty lines after one set has changed
pub dirty_count-with_set : (c : Contents) (s : ℕ) (set : Ways) → s < length c.sets
    → dirty_count (with_set s set c) + dirty_lines (set_at c s) ≡ dirty_count c + dirty_lines set
dirty_count-with_set c s set inside = sum_by-set dirty_lines c.sets s set no_ways inside

-- a set's number of lines
abbrev pub width : Ways → ℕ
width set = length set.lines

-- how many ways there are
abbrev pub way_count : Contents → ℕ
way_count c = sum_by width c.sets

-- the number of ways is as before
pub way_count-with_set : (c : Contents) (s : ℕ) (set : Ways) → s < length c.sets → width set ≡ width (set_at c s)
    → way_count (with_set s set c) ≡ way_count c
way_count-with_set c s set inside same = omega (arith, sum_by-set width c.sets s set no_ways inside, same)

-- no more lines are dirty than there are ways
pub dirty_count-le : (c : Contents) → dirty_count c ≤ way_count c
dirty_count-le c = sum_by-le-sum_by dirty_lines width c.sets (λ set. count_by-le-length is_dirty set.lines)

-- the number of dirty lines fits 64 bits after another set was stored
pub dirty-fits : (c : Contents) (s : ℕ) (set : Ways) (dirty modulus : ℕ) → IsSoundCache c.sets dirty modulus → s < length c.sets
    → width set ≡ width (set_at c s)
    → dirty_count (with_set s set c) < 2 ^ 64
dirty-fits c s set dirty modulus sound inside same =
    omega (arith, sound.fits, way_count-with_set c s set inside same, dirty_count-le (with_set s set c))
