-- What a step is, and what every step keeps.
use Rattle.std.specs.Prelude.{◌≡◌, ◌≢◌, ℕ, ◌≤◌, true, List, length, None, is_some}
use Rattle.thy_block.specs.declared.block.Block.{Block}
use Rattle.thy_block.specs.declared.parameters.Parameters.{Parameters}
use Rattle.thy_block.specs.Geometry.{IsInRange, memory_blocks, console_room}
use Rattle.thy_isa.specs.declared.state.CpuState.{CpuState}
use Rattle.thy_isa.specs.declared.state.Status.{Status}
use Rattle.thy_isa.specs.declared.state.Status.TheVariants.{Trapped}
use Rattle.thy_isa.specs.Access.{IsAtomic}
use Rattle.thy_isa.specs.Console.{IsGrown}
use Rattle.thy_isa.specs.Effects.{word_effect}
use Rattle.thy_isa.specs.OnBlocks.{setting_for, state_from, effect_in, bytes_in, cpu_after, blocks_after}
use Rattle.thy_isa.specs.Step.{State, Setting, is_running, word_at, step, crossed, cpu_crossed, step_of}
use Rattle.thy_isa.specs.Storable.{IsStorable, IsReadable}

-- the state after the instruction at the program counter, done over the blocks of memory
abbrev pub state_after : Parameters → List ℕ → CpuState → List Block → State
state_after p input cpu blocks =
    let e = effect_in p cpu blocks in
    let bytes = bytes_in p input cpu blocks e in
    state_from p (cpu_after p input cpu e bytes) (blocks_after p input cpu blocks e bytes)

-- a step on blocks leaves the state that a step of the plain machine leaves
abbrev pub BlocksMakeTheStep : Type 0
BlocksMakeTheStep =
    (p : Parameters) (input : List ℕ) (cpu : CpuState) (blocks : List Block)
    → IsInRange p → length blocks ≡ memory_blocks p → cpu.console_len ≤ console_room p → is_running cpu.status ≡ true
    → state_after p input cpu blocks ≡ step (setting_for p input) (state_from p cpu blocks)

-- a step from a state that can be stored reaches one that can be stored
abbrev pub StepKeepsStorable : Type 0
StepKeepsStorable =
    (g : Setting) (size : ℕ) (s : State) → IsReadable g → IsStorable size s → IsStorable size (step g s)

-- the console only grows
abbrev pub ConsoleGrows : Type 0
ConsoleGrows = (g : Setting) (s : State) → IsGrown s.console (step g s).console

-- the console stays within its room
abbrev pub ConsoleKeepsRoom : Type 0
ConsoleKeepsRoom =
    (g : Setting) (s : State) → length s.console ≤ g.room → length (step g s).console ≤ g.room

-- the cursor stays inside the input
abbrev pub CursorStaysInside : Type 0
CursorStaysInside =
    (g : Setting) (s : State) → s.cursor ≤ length g.input → (step g s).cursor ≤ length g.input

-- a status that is neither trap 4, a misaligned load, nor trap 6, a misaligned store
abbrev pub IsNotMisaligned : Status → Type 0
IsNotMisaligned status = (status ≢ Trapped 4) × (status ≢ Trapped 6)

-- a load or a store may be misaligned: with one hart no step ends with such a trap
abbrev pub MisalignedIsServed : Type 0
MisalignedIsServed =
    (g : Setting) (s : State) → s.other ≡ None → is_running s.status ≡ true → IsNotMisaligned (step g s).status

-- with any number of harts, only a step of an atomic instruction may end with the trap of a misaligned load or store
abbrev pub AccessesAreServed : Type 0
AccessesAreServed =
    (g : Setting) (s : State) → (IsAtomic (word_effect (word_at g.base s) s.pc s.regs) → ⊥) → is_running s.status ≡ true
    → IsNotMisaligned (step g s).status

-- ---- two harts

-- what two changes of the hart in front leave is the state before
abbrev pub CrossedTwice : Type 0
CrossedTwice = (s : State) → crossed (crossed s) ≡ s

-- a change of the hart in front of a processor is one of the state that it makes with any blocks
abbrev pub BlocksCross : Type 0
BlocksCross =
    (p : Parameters) (cpu : CpuState) (blocks : List Block)
    → state_from p (cpu_crossed cpu) blocks ≡ crossed (state_from p cpu blocks)

-- no step adds a hart or takes one away
abbrev pub KeepsHarts : Type 0
KeepsHarts = (g : Setting) (hart : ℕ) (s : State) → is_some (step_of g hart s).other ≡ is_some s.other

-- with one hart it does not matter which hart takes a step
abbrev pub OneHartSteps : Type 0
OneHartSteps = (g : Setting) (hart : ℕ) (s : State) → s.other ≡ None → step_of g hart s ≡ step g s

-- a state that can be stored can be with the other hart in front
abbrev pub CrossingKeepsStorable : Type 0
CrossingKeepsStorable = (size : ℕ) (s : State) → IsStorable size s → IsStorable size (crossed s)
