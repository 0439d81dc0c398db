-- Laws of the hart's steps.
use Rattle.std.specs.Prelude.{◌≡◌, ℕ, ◌+◌, ◌≤◌, true, false, List, length, None}
use Rattle.thy_block.specs.declared.block.Block.{Block}
use Rattle.thy_block.specs.declared.cause.EndCause.{EndCause}
use Rattle.thy_block.specs.declared.cause.EndCause.TheVariants.{Length, Exhausted, Ended}
use Rattle.thy_block.specs.Geometry.{IsInRange, memory_blocks, console_room}
use Rattle.thy_cache.specs.Contents.{dirty_count}
use Rattle.thy_cache.specs.Flat.{Agrees}
use Rattle.thy_isa.specs.OnBlocks.{setting_for}
use Rattle.thy_isa.specs.Step.{State, is_running, step, crossed, cpu_crossed}
use Rattle.thy_hart.specs.declared.hand.Hand.TheVariants.{Nothing}
use Rattle.thy_hart.specs.declared.hand.HartStep.{HartStep}
use Rattle.thy_hart.specs.declared.hand.HartStep.TheVariants.{Moved, Retired, Waiting, Over}
use Rattle.thy_hart.specs.HartState.{HartState, secured, has_written}
use Rattle.thy_hart.specs.Outcomes.{Given}
use Rattle.thy_hart.specs.Moments.{Moment, memory_of, IsReady, moves_left}
use Rattle.thy_hart.specs.OneStep.{current, coming, IsStep}

-- with no page open, a hart is ready if cache and store agree and there is room
abbrev pub ReadyWithNoPageOpen : Type 0
ReadyWithNoPageOpen =
    (m : Moment) → length m.held.blocks ≡ memory_blocks m.hart.geometry → Agrees m.cache m.held.blocks
    → m.held.ready ≡ true → dirty_count m.cache + secured m.hart.hand ≤ m.held.free → m.held.open_page ≡ None → IsReady m

-- an instruction has few steps left
abbrev pub FewMovesAreLeft : Type 0
FewMovesAreLeft = (m : Moment) → moves_left m ≤ 16

-- blocks of memory, and a console within its room
pub record IsSized (h : HartState) (memory : List Block) : Type 0 where
  pub range : IsInRange h.geometry
  pub blocks : length memory ≡ memory_blocks h.geometry
  pub console : h.cpu.console_len ≤ console_room h.geometry

-- with nothing in hand, the state that is to come is the plain machine's next state
abbrev pub NextStateIsToCome : Type 0
NextStateIsToCome =
    (input : List ℕ) (h : HartState) (memory : List Block) → IsSized h memory → h.hand ≡ Nothing → is_running h.cpu.status ≡ true
    → coming input h memory ≡ step (setting_for h.geometry input) (current h memory)

-- the hart is at this state of the plain machine: while the instruction in hand has written nothing, this is its current
-- state, and the state that is to come is the next
pub record Follows (input : List ℕ) (now : State) (h : HartState) (memory : List Block) : Type 0 where
  pub sized : IsSized h memory
  pub current : has_written h.hand ≡ false → current h memory ≡ now
  pub coming : is_running h.cpu.status ≡ true → coming input h memory ≡ step (setting_for h.geometry input) now

-- the plain machine's state that the hart is at after a step
abbrev pub state_over : EndCause → State → State → State
state_over Length now next = next
state_over (Exhausted free dirty need) now next = now
state_over Ended now next = next

abbrev pub state_after : HartStep → State → State → State
state_after Moved now next = now
state_after Retired now next = next
state_after Waiting now next = now
state_after (Over cause) now next = state_over cause now next

-- a step of a hart that runs simulates the plain machine: if an instruction retired, it is at the next state
abbrev pub StepFollowsOn : Type 0
StepFollowsOn =
    (g : Given) (old new : Moment) (s : HartStep) (now : State) → is_running old.hart.cpu.status ≡ true
    → IsStep g old new s → Follows g.input now old.hart (memory_of old)
    → Follows g.input (state_after s now (step (setting_for old.hart.geometry g.input) now)) new.hart (memory_of new)

-- the other hart in front of what a hart holds
abbrev pub hart_crossed : HartState → HartState
hart_crossed h = record h { cpu = cpu_crossed h.cpu }

-- with nothing in hand, a hart that follows a state follows the crossed one once it is crossed
abbrev pub CrossesOn : Type 0
CrossesOn =
    (input : List ℕ) (now : State) (h : HartState) (memory : List Block) → h.hand ≡ Nothing
    → Follows input now h memory → Follows input (crossed now) (hart_crossed h) memory
