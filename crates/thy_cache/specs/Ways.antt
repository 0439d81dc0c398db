-- Part of the claim.
-- One set of a cache: the lines in its ways, and the order in which the ways were used.
use Rattle.std.specs.Prelude.{ℕ, ◌-◌, ◌<◌, ◌==◌, ◌≡◌, ◌++◌, if◌then◌else◌, Bool, true, false, List, [], ◌∷◌, length, replicate, slice_index, slice_index_or, slice_set, remove, position, count_by, Option, Some, None, is_none, is_some, unwrap_or, option_and_then, All}
use Rattle.std.specs.List.{range_with_len}
use Rattle.std.specs.Option.{option_map, option_map_or}
use Rattle.thy_block.specs.declared.block.Block.{Block}
use Rattle.thy_block.specs.Blocks.{overwritten}
use Rattle.thy_cache.specs.declared.line.Line.{Line}
use Rattle.thy_cache.specs.declared.line.Victim.{Victim}
use Rattle.thy_cache.specs.declared.line.Victim.TheVariants.{Room, Dirty}

pub record Ways : Type 0 where
  -- the line in each way, if there is one
  pub lines : List (Option Line)
  -- the ways as they were last used, the least recently used first
  pub order : List ℕ

-- ways without lines, the lowest first
abbrev pub empty_ways : ℕ → Ways
empty_ways n = record { lines = replicate n None; order = range_with_len 0 n }

-- no two places of a list have the same way
abbrev pub StandOnce : List ℕ → Type 0
StandOnce order = (i j : ℕ) → i < length order → j < length order → slice_index order i ≡ slice_index order j → i ≡ j

-- no two ways have lines of one block
abbrev pub HaveOneLineEach : List (Option Line) → Type 0
HaveOneLineEach lines =
    (w v : ℕ) (line other : Line) → slice_index_or lines w None ≡ Some line → slice_index_or lines v None ≡ Some other → line.at ≡ other.at → w ≡ v

-- what holds of the parts of a set
pub record AreSoundWays (lines : List (Option Line)) (order : List ℕ) (latest : ℕ) : Type 0 where
  pub some_way : 0 < length lines
  pub all_ordered : length order ≡ length lines
  pub ordered : All (λ w. w < length lines) order
  pub once : StandOnce order
  -- the way that no other was used after
  pub used_last : slice_index order (length order - 1) ≡ latest
  pub single : HaveOneLineEach lines

-- the line in a way
abbrev pub line_at : Ways → ℕ → Option Line
line_at ways w = slice_index_or ways.lines w None

-- a way has a line of this block
abbrev pub holds : ℕ → Option Line → Bool
holds b None = false
holds b (Some line) = line.at == b

-- a way has a line that its store does not have yet
abbrev pub is_dirty : Option Line → Bool
is_dirty None = false
is_dirty (Some line) = line.dirty

-- the first way that has a line of this block
abbrev pub way_of : Ways → ℕ → Option ℕ
way_of ways b = position (holds b) ways.lines

-- the first line of this block in a set, if there is one
abbrev pub line_in : Ways → ℕ → Option Line
line_in ways b = option_and_then (line_at ways) (way_of ways b)

-- a list with the first w in it moved to its end
abbrev pub moved_last : ℕ → List ℕ → List ℕ
moved_last w xs = option_map_or (λ at. remove xs at ++ w ∷ []) (position (λ v. v == w) xs) xs

-- a set after a use of a way, which no other way was used after
abbrev pub used : ℕ → Ways → Ways
used w ways = record ways { order = moved_last w ways.order }

-- a set after a line was written into a way
abbrev pub with_line : ℕ → Line → Ways → Ways
with_line w line ways = record ways { lines = slice_set ways.lines w (Some line) }

-- a set after the line in a way was changed
abbrev pub over_line : (Line → Line) → ℕ → Ways → Ways
over_line f w ways = record ways { lines = slice_set ways.lines w (option_map f (line_at ways w)) }

-- the way for the next line: the lowest empty one, else the least recently used
abbrev pub victim_way : Ways → ℕ
victim_way ways = unwrap_or (position is_none ways.lines) (slice_index ways.order 0)

-- what is in the way of the next line
abbrev pub victim_line : Option Line → Victim
victim_line None = Room
victim_line (Some line) = if line.dirty then Dirty line.at else Room

-- a line that its store has
abbrev pub clean : Line → Line
clean line = record line { dirty = false }

-- a line that was written to from a byte on
abbrev pub changed : ℕ → List ℕ → Line → Line
changed at bytes line = record line { block = overwritten at bytes line.block; dirty = true }

-- a block's line with what the store has of the block
abbrev pub fresh_line : ℕ → Block → Line
fresh_line b block = record { at = b; block = block; dirty = false }

-- a set after a use of a block's line
abbrev pub used_for : ℕ → Ways → Ways
used_for b ways = option_map_or (λ w. used w ways) (way_of ways b) ways

-- a set after a write to a block's line
abbrev pub written_to : ℕ → ℕ → List ℕ → Ways → Ways
written_to b at bytes ways = option_map_or (λ w. over_line (changed at bytes) w (used w ways)) (way_of ways b) ways

-- a set after a block was filled in
abbrev pub filled : ℕ → Block → Ways → Ways
filled b block ways = with_line (victim_way ways) (fresh_line b block) (used (victim_way ways) ways)

-- how many lines are dirty
abbrev pub dirty_lines : Ways → ℕ
dirty_lines ways = count_by is_dirty ways.lines

-- a set has a dirty line
abbrev pub has_dirty : Ways → Bool
has_dirty set = is_some (position is_dirty set.lines)
