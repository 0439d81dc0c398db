-- Part of the claim.
-- A hart with its cache and what the store below that holds, between two steps.
use Rattle.std.specs.Prelude.{◌≡◌, ◌⊎◌, ℕ, ◌+◌, ◌-◌, ◌*◌, ◌≤◌, Bool, true, false, not, if◌then◌else◌, List, length, Option, Some, None}
use Rattle.thy_block.specs.declared.block.Block.{Block}
use Rattle.thy_block.specs.Geometry.{memory_blocks}
use Rattle.thy_block.specs.Store.{Holding, page_of}
use Rattle.thy_cache.specs.declared.line.Line.{Line}
use Rattle.thy_cache.specs.Contents.{Contents, hits, victim_of, victim_line_of, is_dirty_victim, dirty_count}
use Rattle.thy_cache.specs.Flat.{flat, Agrees}
use Rattle.thy_hart.specs.declared.hand.Hand.{Hand}
use Rattle.thy_hart.specs.declared.hand.Hand.TheVariants.{Nothing, Reading, Securing, Writing, Retiring}
use Rattle.thy_hart.specs.HartState.{HartState, blocks_of, next_block, secured}

pub record Moment : Type 0 where
  pub hart : HartState
  pub cache : Contents
  pub held : Holding

abbrev pub moment : HartState → Contents → Holding → Moment
moment hart cache held = record { hart = hart; cache = cache; held = held }

-- memory, as it is read through the cache
abbrev pub memory_of : Moment → List Block
memory_of m = flat m.cache m.held.blocks

-- the line of a block is not there, and has to be brought before the block is touched
abbrev pub is_missing : Contents → Option ℕ → Bool
is_missing c None = false
is_missing c (Some b) = not (hits c b)

abbrev pub brings_line : Moment → Bool
brings_line m = is_missing m.cache (next_block m.hart)

-- ---- what a step asks for

-- the dirty line that is in the way of a missing block has the page that is being copied
pub record IsOpenInTheWay (c : Contents) (b : ℕ) (page : Option ℕ) : Type 0 where
  pub missing : hits c b ≡ false
  pub line : Line
  pub stands : victim_line_of c b ≡ Some line
  pub dirty : line.dirty ≡ true
  pub own : page ≡ Some (page_of line.at)

-- no page is being copied, or only the page of the line in the way of the block that is touched next
abbrev pub IsOpenFor : Contents → Option ℕ → Option ℕ → Type 0
IsOpenFor c None page = page ≡ None
IsOpenFor c (Some b) page = (page ≡ None) ⊎ IsOpenInTheWay c b page

pub record IsReady (m : Moment) : Type 0 where
  pub blocks : length m.held.blocks ≡ memory_blocks m.hart.geometry
  pub agree : Agrees m.cache m.held.blocks
  pub ready : m.held.ready ≡ true
  -- there is room for every dirty line and for what is secured
  pub room : dirty_count m.cache + secured m.hart.hand ≤ m.held.free
  pub opened : IsOpenFor m.cache (next_block m.hart) m.held.open_page

-- ---- how many steps are left before the instruction retires

-- a step touches its block, one more fills it in first, and one more stores the dirty line in its way
abbrev pub touch_steps : Contents → ℕ → ℕ
touch_steps c b = if hits c b then 1 else (if is_dirty_victim (victim_of c b) then 3 else 2)

abbrev pub touch_left : Contents → Option ℕ → ℕ
touch_left c None = 0
touch_left c (Some b) = touch_steps c b

-- how many moves follow the block that is touched next, at most, the retirement aside
abbrev pub left_behind : Hand → ℕ
left_behind Nothing = 13
left_behind (Reading e from to) = 3 * (blocks_of from - 1) + 7
left_behind (Securing e to) = 1 + 3 * blocks_of to
left_behind (Writing e to done) = 3 * (blocks_of to - 1)
left_behind (Retiring e wrote) = 0

abbrev pub moves_left : Moment → ℕ
moves_left m = touch_left m.cache (next_block m.hart) + left_behind m.hart.hand
