-- The instructions of a run, one by one.
use Rattle.std.specs.Prelude.{◌≡◌, ◌≤◌, ℕ, ◌+◌, ◌-◌, nat_le, Bool, true, ◌&&◌, if◌then◌else◌, List, [], ◌∷◌, ◌++◌, length, map, fold, Option, Some, None}
use Rattle.thy_block.specs.declared.parameters.Parameters.{Parameters}
use Rattle.thy_block.specs.Bytes.{bytes_of}
use Rattle.thy_block.specs.Inside.{is_inside}
use Rattle.thy_block.specs.LittleEndian.{number_at}
use Rattle.thy_isa.specs.declared.instr.Width.{Width}
use Rattle.thy_isa.specs.declared.state.Effect.{Effect}
use Rattle.thy_isa.specs.declared.state.Effect.TheVariants.{Read, Write, Reserve, Conditional, Modify}
use Rattle.thy_isa.specs.Effects.{size_of, word_effect}
use Rattle.thy_isa.specs.OnBlocks.{setting_for}
use Rattle.thy_isa.specs.Step.{State, Setting, fronted, is_running, state_of}
use Rattle.thy_layout.specs.declared.start.Start.{Start}
use Rattle.thy_run.specs.Watching.{Taken}
use Rattle.thy_observe.specs.declared.changes.Change.{Change}
use Rattle.thy_observe.specs.declared.changes.Change.TheVariants.{Retired}
use Rattle.thy_observe.specs.declared.changes.Dated.{Dated}
use Rattle.thy_observe.specs.declared.tracing.Access.{Access}
use Rattle.thy_observe.specs.declared.tracing.Fetched.{Fetched}
use Rattle.thy_observe.specs.declared.tracing.Traced.{Traced}
use Rattle.thy_observe.specs.declared.tracing.Tracer.{Tracer}
use Rattle.thy_observe.specs.declared.tracing.Window.{Window}
use Rattle.thy_observe.specs.Changes.{changes_of, dated_of}
use Rattle.thy_observe.specs.Replaying.{Executed, IsReplay, executed, executed_after, nothing_executed, state_after}
use Rattle.thy_observe.specs.Trapping.{fetched_word}

-- ---- what an instruction loads or stores

-- how many bytes an effect reads or writes, and at which address
abbrev pub moved : Effect → Option (Width × ℕ)
moved (Read rd width extend pc at) = Some (width, at)
moved (Write width pc at v) = Some (width, at)
moved (Reserve rd width pc at) = Some (width, at)
moved (Conditional rd width pc at v) = Some (width, at)
moved (Modify op rd width pc at v) = Some (width, at)
moved e = None

-- how many bytes the instruction of a word reads or writes, and at which address, with this program counter and these registers
abbrev pub moved_by : Option ℕ → (pc : ℕ) (regs : List ℕ) → Option (Width × ℕ)
moved_by None pc regs = None
moved_by (Some word) pc regs = moved (word_effect word pc regs)

-- the bytes of an access and their number, if they are in memory
abbrev pub access_at : (base : ℕ) → List ℕ → Option (Width × ℕ) → Option Access
access_at base memory None = None
access_at base memory (Some m) =
    if is_inside base (length memory) m.1 (size_of m.0)
    then Some (record { at = m.1; width = size_of m.0; value = number_at (size_of m.0) memory (m.1 - base) })
    else None

-- ---- an instruction

-- what is fetched in a state that has the hart in front: the address, the word, and what it reads or writes
abbrev pub fetched : (base : ℕ) → State → Fetched
fetched base s =
    let word = fetched_word base s.pc s.memory in
    record { pc = s.pc; word = word; moved = moved_by word s.pc s.regs }

-- The instruction that a hart fetched, in a cycle that leads to this state: if it loads or stores, the bytes have the number
-- that is there then. One by which the program ended loads and stores nothing.
abbrev pub traced : (base cycle hart : ℕ) → Fetched → State → Traced
traced base cycle hart f next = record {
  cycle = cycle;
  hart = hart;
  pc = f.pc;
  word = f.word;
  access = if is_running next.status then access_at base next.memory f.moved else None;
}

-- the instruction of a hart that leads from a state, which has hart 0 in front, to the next one
abbrev pub trace_step : (base cycle hart : ℕ) → State → State → Traced
trace_step base cycle hart s next = traced base cycle hart (fetched base (fronted hart s)) next

-- ---- the instructions of a run

-- a count is not above the last one, if there is a last one
abbrev pub is_up_to : Option ℕ → ℕ → Bool
is_up_to None count = true
is_up_to (Some last) count = nat_le count last

-- a count is in a window
abbrev pub is_within : Window → ℕ → Bool
is_within w count = nat_le w.first count && is_up_to w.last count

-- the instruction that a change retires, if its count is in the window: it leads the plain machine from the state before it to
-- the state after it
abbrev pub traced_by : Setting → State → Window → (cycle : ℕ) → Executed → Change → List Traced
traced_by g start w cycle e (Retired hart) =
    if is_within w (start.count + (length e.harts + 1))
    then trace_step g.base cycle hart (state_after g start e.harts) (state_after g start (e.harts ++ hart ∷ [])) ∷ []
    else []
traced_by g start w cycle e change = []

-- what is executed, and which of its instructions are listed
pub record Trace : Type 0 where
  pub executed : Executed
  pub rows : List Traced

abbrev pub no_trace : Trace
no_trace = record { executed = nothing_executed; rows = [] }

-- what is executed and listed after one more change
abbrev pub trace_after : Setting → State → Window → Trace → Dated → Trace
trace_after g start w t d = record {
  executed = executed_after g start t.executed d.change;
  rows = t.rows ++ traced_by g start w d.cycle t.executed d.change;
}

abbrev pub trace_listed : Setting → State → Window → List Dated → Trace
trace_listed g start w listed = fold (trace_after g start w) no_trace listed

-- the instructions in a window that these cycles of a run retired, in order
abbrev pub trace_of : Setting → State → Window → List Taken → List Traced
trace_of g start w seen = (trace_listed g start w (dated_of seen)).rows

-- a trace without bounds lists all instructions that retired, each as often as it did
abbrev pub ListsAll : Type 0
ListsAll =
    (g : Setting) (start : State) (w : Window) (seen : List Taken)
    → w.first ≤ 1 → w.last ≡ None → map (λ t. t.pc) (trace_of g start w seen) ≡ (executed g start (changes_of seen)).pcs

-- ---- as the program has it

abbrev pub trace_by : Parameters → Start → Window → Trace → Dated → Trace
trace_by p start w t d = trace_after (setting_for p (bytes_of start.input)) (state_of start.state) w t d

abbrev pub trace_for : Parameters → Start → Window → List Dated → Trace
trace_for p start w listed = trace_listed (setting_for p (bytes_of start.input)) (state_of start.state) w listed

-- a replay has executed this, and these rows are listed
pub record IsTrace (p : Parameters) (start : Start) (t : Trace) (r : Tracer) : Type 0 where
  pub replay : IsReplay p start t.executed r.replay
  pub rows : r.rows.items ≡ t.rows
