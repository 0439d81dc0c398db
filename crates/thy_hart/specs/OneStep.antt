-- Part of the claim.
-- One step of the hart.
use Rattle.std.specs.Prelude.{◌≡◌, ◌⊎◌, ℕ, ◌+◌, ◌-◌, ◌≤◌, true, false, if◌then◌else◌, List, ◌++◌, drop, Some, None}
use Rattle.thy_block.specs.declared.block.Block.{Block}
use Rattle.thy_block.specs.declared.cause.EndCause.{EndCause}
use Rattle.thy_block.specs.declared.cause.EndCause.TheVariants.{Length, Exhausted, Ended}
use Rattle.thy_block.specs.Device.{block_at}
use Rattle.thy_block.specs.Geometry.{console_room}
use Rattle.thy_block.specs.Store.{Holding}
use Rattle.thy_cache.specs.Contents.{victim_of, dirty_count, KeepsSize}
use Rattle.thy_block.specs.Flat.{AllLong}
use Rattle.thy_block.specs.Spans.{gathered, scattered}
use Rattle.thy_isa.specs.declared.state.Effect.{Effect}
use Rattle.thy_isa.specs.Moves.{outgoing}
use Rattle.thy_isa.specs.OnBlocks.{state_from, effect_in, bytes_in, cpu_after, blocks_after}
use Rattle.thy_isa.specs.Step.{State}
use Rattle.thy_hart.specs.declared.hand.Hand.{Hand}
use Rattle.thy_hart.specs.declared.hand.Hand.TheVariants.{Nothing, Reading, Securing, Writing, Retiring}
use Rattle.thy_hart.specs.declared.hand.HartStep.{HartStep}
use Rattle.thy_hart.specs.declared.hand.HartStep.TheVariants.{Moved, Retired, Waiting, Over}
use Rattle.thy_hart.specs.HartState.{HartState, next_block, secured, has_written}
use Rattle.thy_hart.specs.Outcomes.{Given, acted_by, answer_by, memory_by, cache_by}
use Rattle.thy_hart.specs.Bring.{BringsLine}
use Rattle.thy_hart.specs.Moments.{Moment, memory_of, brings_line, IsReady, moves_left}

-- ---- the plain state

-- the state as it is, without the instruction in hand
unfoldable pub current : HartState → List Block → State
current h memory = state_from h.geometry h.cpu memory

-- the state after an effect that has moved these bytes, over the memory that it leaves
abbrev pub led : List ℕ → HartState → Effect → List ℕ → List Block → State
led input h e bytes memory = state_from h.geometry (cpu_after h.geometry input h.cpu e bytes) memory

-- the state after the instruction at the program counter
abbrev pub led_from_fetch : List ℕ → HartState → List Block → Effect → State
led_from_fetch input h memory e =
    let bytes = bytes_in h.geometry input h.cpu memory e in
    led input h e bytes (blocks_after h.geometry input h.cpu memory e bytes)

abbrev pub coming_by : List ℕ → HartState → List Block → Hand → State
coming_by input h memory Nothing = led_from_fetch input h memory (effect_in h.geometry h.cpu memory)
coming_by input h memory (Reading e from to) =
    let bytes = h.bytes ++ gathered memory from in led input h e bytes (scattered memory to (outgoing e bytes))
coming_by input h memory (Securing e to) = led input h e h.bytes (scattered memory to (outgoing e h.bytes))
coming_by input h memory (Writing e to done) =
    led input h e h.bytes (scattered memory to (drop done (outgoing e h.bytes)))
coming_by input h memory (Retiring e wrote) = led input h e h.bytes memory

-- the state after the instruction in hand, or else after the next one
unfoldable pub coming : List ℕ → HartState → List Block → State
coming input h memory = coming_by input h memory h.hand

-- ---- what a step does

-- a line is brought, and the hart stays as it is; or else the hart acts
abbrev pub hart_after : Given → Moment → HartState
hart_after g m = if brings_line m then m.hart else acted_by g (dirty_count m.cache) (memory_of m) m.hart m.hart.hand

abbrev pub answer_to : Given → Moment → HartStep
answer_to g m = if brings_line m then Moved else answer_by g (dirty_count m.cache) m.hart m.hart.hand

abbrev pub memory_after : Moment → List Block
memory_after m = if brings_line m then memory_of m else memory_by m.hart.bytes (memory_of m) m.hart.hand

-- what is to come is as before
pub record IsOnTheWay (input : List ℕ) (old : HartState) (before : List Block) (new : HartState) (now : List Block) : Type 0 where
  pub cpu : new.cpu ≡ old.cpu
  pub coming : coming input new now ≡ coming input old before

-- the state is the one that was to come
pub record HasCome (input : List ℕ) (old : HartState) (before : List Block) (new : HartState) (now : List Block) : Type 0 where
  pub current : current new now ≡ coming input old before
  pub hand : new.hand ≡ Nothing

-- the instruction was dropped without having written anything
pub record IsDropped (old : HartState) (before : List Block) (new : HartState) (now : List Block) : Type 0 where
  pub cpu : new.cpu ≡ old.cpu
  pub hand : new.hand ≡ Nothing
  pub memory : now ≡ before
  pub unwritten : has_written old.hand ≡ false

-- a hart's state and memory are as they were
pub record IsUnmoved (old : HartState) (before : List Block) (new : HartState) (now : List Block) : Type 0 where
  pub hart : new ≡ old
  pub memory : now ≡ before

abbrev pub LeadsOver : EndCause → List ℕ → HartState → List Block → HartState → List Block → Type 0
LeadsOver Length input old before new now = HasCome input old before new now
LeadsOver (Exhausted free dirty need) input old before new now = IsDropped old before new now
LeadsOver Ended input old before new now = HasCome input old before new now

abbrev pub Leads : HartStep → List ℕ → HartState → List Block → HartState → List Block → Type 0
Leads Moved input old before new now = IsOnTheWay input old before new now
Leads Retired input old before new now = HasCome input old before new now
Leads Waiting input old before new now = IsUnmoved old before new now
Leads (Over cause) input old before new now = LeadsOver cause input old before new now

-- fewer steps are left, or the same number with one copy less owed
abbrev pub ComesNearer : Moment → Moment → Type 0
ComesNearer old new =
    (moves_left new + 1 ≤ moves_left old) ⊎ ((moves_left new ≡ moves_left old) × (new.held.owed + 1 ≤ old.held.owed))

-- a step in which the hart moved leaves less to do before the instruction retires
abbrev pub Nears : HartStep → Moment → Moment → Type 0
Nears Moved old new = ComesNearer old new
Nears Retired old new = Unit {0}
Nears Waiting old new = Unit {0}
Nears (Over cause) old new = Unit {0}

-- while the hart moves, an instruction that has written a block remains one that has
abbrev pub StaysWritten : HartStep → Hand → Hand → Type 0
StaysWritten Moved old new = has_written new ≡ false → has_written old ≡ false
StaysWritten Retired old new = Unit {0}
StaysWritten Waiting old new = Unit {0}
StaysWritten (Over cause) old new = Unit {0}

-- only if the hart moved may a page be open
abbrev pub Closes : HartStep → Holding → Type 0
Closes Moved held = Unit {0}
Closes Retired held = held.open_page ≡ None
Closes Waiting held = held.open_page ≡ None
Closes (Over cause) held = held.open_page ≡ None

pub record IsStep (g : Given) (old new : Moment) (step : HartStep) : Type 0 where
  -- exactly this hart, this result and this memory
  pub hart : new.hart ≡ hart_after g old
  pub says : step ≡ answer_to g old
  pub memory : memory_of new ≡ memory_after old
  -- the plain state after the instruction, and how far that is
  pub leads : Leads step g.input old.hart (memory_of old) new.hart (memory_of new)
  pub nears : Nears step old new
  -- no write before its room is secured, and none but in the block that is touched
  pub unwritten : secured old.hart.hand ≡ 0 → memory_of new ≡ memory_of old
  pub clean : has_written new.hart.hand ≡ false → memory_of new ≡ memory_of old
  pub written : StaysWritten step old.hart.hand new.hart.hand
  pub others : (b : ℕ) → (next_block old.hart ≡ Some b → ⊥) → block_at (memory_of new) b ≡ block_at (memory_of old) b
  -- exactly this cache: the line of the block that is touched is brought nearer, or else was used last, and nothing
  -- else changes
  pub brought : (b : ℕ) → brings_line old ≡ true → next_block old.hart ≡ Some b
      → BringsLine (victim_of old.cache b) b old.cache old.held new.cache
  pub used : brings_line old ≡ false → new.cache ≡ cache_by old.cache old.hart old.hart.hand
  -- no more lines become dirty than secured room is used, and no more room is taken than that makes up for, with the lines
  -- that go clean
  pub tidy : dirty_count new.cache ≤ dirty_count old.cache + (secured old.hart.hand - secured new.hart.hand)
  pub room : dirty_count new.cache + old.held.free
      ≤ dirty_count old.cache + (secured old.hart.hand - secured new.hart.hand) + new.held.free
  -- the store is left alone if no line is brought, and the cache if no block is touched
  pub alone : brings_line old ≡ false → new.held ≡ old.held
  pub untouched : next_block old.hart ≡ None → new.cache ≡ old.cache
  -- what the next step asks for
  pub ready : IsReady new
  pub owed : new.held.owed ≤ old.held.owed
  pub closed : Closes step new.held
  -- what every step keeps
  pub fixed : new.hart.geometry ≡ old.hart.geometry
  pub sized : KeepsSize old.cache new.cache
  pub long : AllLong (memory_of old) → AllLong (memory_of new)
  pub console : old.hart.cpu.console_len ≤ console_room old.hart.geometry
      → new.hart.cpu.console_len ≤ console_room new.hart.geometry
