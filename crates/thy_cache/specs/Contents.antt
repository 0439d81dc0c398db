-- Part of the claim.
-- A cache: its sets, and what each call makes of them.
use Rattle.std.specs.Prelude.{◌≡◌, ◌⊎◌, ℕ, ◌+◌, ◌*◌, ◌≤◌, ◌%◌, ◌^◌, ◌<◌, Bool, true, false, List, [], length, replicate, slice_index_or, slice_set, sum_by, position, All, Option, Some, None, is_some, unwrap_or, option_and_then}
use Rattle.std.specs.Option.{option_map}
use Rattle.thy_block.specs.declared.block.Block.{Block}
use Rattle.thy_block.specs.declared.store.Stored.{Stored}
use Rattle.thy_block.specs.declared.store.Stored.TheVariants.{Done, CopyFirst}
use Rattle.thy_block.specs.Store.{Holding, HasStored, StoresOver, page_of}
use Rattle.thy_cache.specs.declared.line.Line.{Line}
use Rattle.thy_cache.specs.declared.line.LineLocation.{LineLocation}
use Rattle.thy_cache.specs.declared.line.Victim.{Victim}
use Rattle.thy_cache.specs.declared.line.Victim.TheVariants.{Room, Dirty}
use Rattle.thy_cache.specs.declared.line.Flushed.{Flushed}
use Rattle.thy_cache.specs.declared.line.Flushed.TheVariants.{Clean, Line as StoredLine, CopyFirst as CopiedFirst}
use Rattle.thy_cache.specs.Ways.{Ways, empty_ways, line_at, line_in, way_of, is_dirty, dirty_lines, has_dirty, victim_way, victim_line, over_line, clean, used_for, written_to, filled}

pub record Contents : Type 0 where
  pub sets : List Ways

-- a cache without lines
abbrev pub empty_cache : ℕ → ℕ → Contents
empty_cache sets ways = record { sets = replicate sets (empty_ways ways) }

-- what holds of the parts of a cache
pub record IsSoundCache (sets : List Ways) (dirty modulus : ℕ) : Type 0 where
  pub some_set : 0 < length sets
  -- blocks are divided by the number of sets
  pub divides : modulus ≡ length sets
  -- the number counts the dirty lines
  pub counted : dirty ≡ sum_by dirty_lines sets
  pub fits : sum_by (λ (set : Ways). length set.lines) sets < 2 ^ 64

-- the ways of a set past the last one: there are none
abbrev pub no_ways : Ways
no_ways = record { lines = []; order = [] }

-- a set by its number
abbrev pub set_at : Contents → ℕ → Ways
set_at c s = slice_index_or c.sets s no_ways

-- the number of a block's set
abbrev pub index_of : Contents → ℕ → ℕ
index_of c b = b % length c.sets

-- a block's set
abbrev pub set_of : Contents → ℕ → Ways
set_of c b = set_at c (index_of c b)

-- a block's line
abbrev pub line_of : Contents → ℕ → Option Line
line_of c b = line_in (set_of c b) b

-- the location of a block's line, if it has one
abbrev pub location_of : Contents → ℕ → Option LineLocation
location_of c b = option_map (λ way. record { set = index_of c b; way = way }) (way_of (set_of c b) b)

-- what a block's line holds, if it has one
abbrev pub peeked : Contents → ℕ → Option Block
peeked c b = option_map (λ line. line.block) (line_of c b)

-- a block has a line
abbrev pub hits : Contents → ℕ → Bool
hits c b = is_some (line_of c b)

-- the line that is in a block's way, if there is one
abbrev pub victim_line_of : Contents → ℕ → Option Line
victim_line_of c b = line_at (set_of c b) (victim_way (set_of c b))

-- what has to happen before a block can be filled in
abbrev pub victim_of : Contents → ℕ → Victim
victim_of c b = victim_line (victim_line_of c b)

-- the line in the way has to be stored first
abbrev pub is_dirty_victim : Victim → Bool
is_dirty_victim Room = false
is_dirty_victim (Dirty b) = true

-- how many lines are dirty
abbrev pub dirty_count : Contents → ℕ
dirty_count c = sum_by dirty_lines c.sets

-- a cache of this number of sets, with this number of ways in each
pub record IsSized (sets ways : ℕ) (c : Contents) : Type 0 where
  pub set_count : length c.sets ≡ sets
  pub each : All (λ set. length set.lines ≡ ways) c.sets
  -- no more lines are dirty than the size allows
  pub few_dirty : dirty_count c ≤ sets * ways

-- the cache has the same numbers of sets and ways as before
abbrev pub KeepsSize : Contents → Contents → Type 0
KeepsSize old new = (sets ways : ℕ) → IsSized sets ways old → IsSized sets ways new

-- another set in the place of one
abbrev pub with_set : ℕ → Ways → Contents → Contents
with_set s set c = record c { sets = slice_set c.sets s set }

-- a cache after a read of a block
abbrev pub read_from : ℕ → Contents → Contents
read_from b c = with_set (index_of c b) (used_for b (set_of c b)) c

-- a cache after a write to a block
abbrev pub written_at : ℕ → ℕ → List ℕ → Contents → Contents
written_at b at bytes c = with_set (index_of c b) (written_to b at bytes (set_of c b)) c

-- a cache after a block was filled in
abbrev pub filled_with : ℕ → Block → Contents → Contents
filled_with b block c = with_set (index_of c b) (filled b block (set_of c b)) c

-- a cache after the line in a way was stored
abbrev pub cleaned_at : ℕ → ℕ → Contents → Contents
cleaned_at s w c = with_set s (over_line clean w (set_at c s)) c

-- a cache after a store of the line in a way, by the store's answer
abbrev pub stored_at : Stored → ℕ → ℕ → Contents → Contents
stored_at Done s w c = cleaned_at s w c
stored_at CopyFirst s w c = c

-- a cache after an evict for a block
abbrev pub evicted_for : Stored → ℕ → Contents → Contents
evicted_for stored b c = stored_at stored (index_of c b) (victim_way (set_of c b)) c

-- the first set with a dirty line
abbrev pub dirty_set : Contents → ℕ
dirty_set c = unwrap_or (position has_dirty c.sets) 0

-- the first way with a dirty line in the first set that has one
abbrev pub dirty_way : Contents → ℕ
dirty_way c = unwrap_or (position is_dirty (set_at c (dirty_set c)).lines) 0

-- the first dirty line of a set, if it has one
abbrev pub dirty_line_in : Ways → Option Line
dirty_line_in set = option_and_then (line_at set) (position is_dirty set.lines)

-- the first dirty line, if there is one
abbrev pub dirty_line : Contents → Option Line
dirty_line c = option_and_then (λ s. dirty_line_in (set_at c s)) (position has_dirty c.sets)

-- no line is dirty
pub record HasNoneDirty (c : Contents) : Type 0 where
  pub first : dirty_line c ≡ None
  pub none : (s w : ℕ) → is_dirty (line_at (set_at c s) w) ≡ false

-- a cache after a step of a flush
abbrev pub flushed_from : Flushed → Contents → Contents
flushed_from Clean c = c
flushed_from StoredLine c = cleaned_at (dirty_set c) (dirty_way c) c
flushed_from CopiedFirst c = c

-- the store below did a store of this line's block
pub record StoresLine (stored : Stored) (o : Option Line) (old new : Holding) : Type 0 where
  pub line : Line
  pub stands : o ≡ Some line
  pub store : HasStored stored line.at line.block old new

-- this line was stored, by a call of the store that returned this
pub record StoresBy {S N : Type 0} (stores : StoresOver S N) (stored : Stored) (o : Option Line) (a : S) (m : N) (b : S) (n : N) : Type 0 where
  pub line : Line
  pub stands : o ≡ Some line
  pub made : stores line.at line.block stored a m b n

-- a step of a flush stores the first dirty line
abbrev pub FlushesBy : {S N : Type 0} → StoresOver S N → Flushed → Contents → S → N → S → N → Type 0
FlushesBy stores Clean c a m b n = Unit {0}
FlushesBy stores StoredLine c a m b n = StoresBy stores Done (dirty_line c) a m b n
FlushesBy stores CopiedFirst c a m b n = StoresBy stores CopyFirst (dirty_line c) a m b n

-- what a step of a flush does to the store: nothing, or its own store of the first dirty line
abbrev pub HasFlushed : Flushed → Contents → Holding → Holding → Type 0
HasFlushed Clean c old new = new ≡ old
HasFlushed StoredLine c old new = StoresLine Done (dirty_line c) old new
HasFlushed CopiedFirst c old new = StoresLine CopyFirst (dirty_line c) old new

-- a store of a dirty line makes it clean, by the store's answer
abbrev pub CountsStored : Stored → ℕ → ℕ → Type 0
CountsStored Done old new = new + 1 ≡ old
CountsStored CopyFirst old new = new ≡ old

-- a step of a flush makes one line clean if it stored it, and none otherwise
abbrev pub CountsFlushed : Flushed → ℕ → ℕ → Type 0
CountsFlushed Clean old new = new ≡ old
CountsFlushed StoredLine old new = new + 1 ≡ old
CountsFlushed CopiedFirst old new = new ≡ old

-- no page is being copied, or only the page of the first dirty line
abbrev pub IsOpenForFlush : Contents → Option ℕ → Type 0
IsOpenForFlush c page = (page ≡ None) ⊎ ((line : Line) × (dirty_line c ≡ Some line) × (page ≡ Some (page_of line.at)))

-- if that holds before a step of a flush, it holds after it
abbrev pub KeepsOpen : Contents → Holding → Contents → Holding → Type 0
KeepsOpen c old d new = IsOpenForFlush c old.open_page → IsOpenForFlush d new.open_page
