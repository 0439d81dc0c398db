-- The instructions of a run on the plain machine.
use Rattle.std.specs.Prelude.{◌≡◌, ℕ, ◌-◌, ◌<◌, ◌==◌, nat_le, Bool, true, false, if◌then◌else◌, List, [], ◌∷◌, ◌++◌, take, length, fold, count_by, Option, Some, None, unwrap_or}
use Rattle.std.specs.BTreeMap.{BTreeMap, is_at}
use Rattle.std.specs.Map.{lookup}
use Rattle.std.specs.Ordering.{nat_cmp}
use Rattle.thy_block.specs.declared.parameters.Parameters.{Parameters}
use Rattle.thy_block.specs.Bytes.{bytes_of}
use Rattle.thy_isa.specs.OnBlocks.{setting_for}
use Rattle.thy_isa.specs.Step.{State, Setting, state_of, fronted}
use Rattle.thy_layout.specs.declared.start.Start.{Start}
use Rattle.thy_plain.specs.Machine.{Machine, in_state}
use Rattle.thy_computer.specs.Origin.{by_turns}
use Rattle.thy_observe.specs.declared.changes.Change.{Change}
use Rattle.thy_observe.specs.declared.changes.Change.TheVariants.{Loaded, Restored, Retired, Lost}
use Rattle.thy_observe.specs.declared.changes.Dated.{Dated}
use Rattle.thy_observe.specs.declared.replay.Replay.{Replay}

-- ---- what is executed

-- the harts that retired the instructions from the start up to the state, the program counters of all instructions that were
-- retired, in order, and whether the machine is up: in a boot it has no state
pub record Executed : Type 0 where
  pub harts : List ℕ
  pub pcs : List ℕ
  pub up : Bool

abbrev pub nothing_executed : Executed
nothing_executed = record { harts = []; pcs = []; up = false }

-- the plain machine's state once these harts have retired an instruction each, in order
abbrev pub state_after : Setting → State → List ℕ → State
state_after g start harts = by_turns g harts (length harts) start

-- the program counter of a hart in a state that has hart 0 in front
abbrev pub pc_in : ℕ → State → ℕ
pc_in hart s = (fronted hart s).pc

-- what is executed after one more change. If the start is loaded or a checkpoint restored, the instructions after it are lost, and their
-- program counters have been retired all the same
abbrev pub executed_after : Setting → State → Executed → Change → Executed
executed_after g start e Loaded = record e { harts = []; up = true }
executed_after g start e (Restored count) = record e { harts = take (count - start.count) e.harts; up = true }
executed_after g start e (Retired hart) =
    record e { harts = e.harts ++ hart ∷ []; pcs = e.pcs ++ pc_in hart (state_after g start e.harts) ∷ [] }
executed_after g start e Lost = record e { up = false }

-- what is executed in a run whose cycles made these changes
abbrev pub executed : Setting → State → List Change → Executed
executed g start changes = fold (executed_after g start) nothing_executed changes

-- ---- how often

-- how often a table says that a program counter retired: 0 if it does not list it
abbrev pub count_in : List (ℕ × ℕ) → ℕ → ℕ
count_in table pc = unwrap_or (lookup (is_at (nat_cmp pc)) table) 0

-- a table has each of these program counters with how often it is among them, and no other one
pub record AreCounts (table : List (ℕ × ℕ)) (pcs : List ℕ) : Type 0 where
  pub sound : (pc : ℕ) → 0 < unwrap_or (lookup (is_at (nat_cmp pc)) table) 1
  pub counts : (pc : ℕ) → count_in table pc ≡ count_by (λ p. p == pc) pcs

-- ---- as the program has it

-- a table counts one program counter once more
abbrev pub AddsOne : BTreeMap ℕ ℕ → BTreeMap ℕ ℕ → ℕ → Type 0
AddsOne old new pc = (pcs : List ℕ) → AreCounts old.entries pcs → AreCounts new.entries (pcs ++ pc ∷ [])

-- what is executed after one more change, with the start and the numbers as the program has them
abbrev pub executed_by : Parameters → Start → Executed → Change → Executed
executed_by p start e change = executed_after (setting_for p (bytes_of start.input)) (state_of start.state) e change

abbrev pub executed_of : Parameters → Start → List Change → Executed
executed_of p start changes = executed (setting_for p (bytes_of start.input)) (state_of start.state) changes

-- a listed change is in the cycles up to this one, or in any if no cycle is given
abbrev pub is_by : Option ℕ → Dated → Bool
is_by None d = true
is_by (Some cycle) d = nat_le d.cycle cycle

abbrev pub listed_after : Setting → State → Option ℕ → Executed → Dated → Executed
listed_after g start most e d = if is_by most d then executed_after g start e d.change else e

abbrev pub listed_by : Parameters → Start → Option ℕ → Executed → Dated → Executed
listed_by p start most e d = listed_after (setting_for p (bytes_of start.input)) (state_of start.state) most e d

-- what is executed by the changes of a list, up to a cycle
abbrev pub listed : Setting → State → Option ℕ → List Dated → Executed
listed g start most changes = fold (listed_after g start most) nothing_executed changes

abbrev pub listed_of : Parameters → Start → Option ℕ → List Dated → Executed
listed_of p start most changes = listed (setting_for p (bytes_of start.input)) (state_of start.state) most changes

-- the plain machine is where these harts have retired an instruction each, from the start on
abbrev pub IsPlainAt : Parameters → Start → List ℕ → Machine → Type 0
IsPlainAt p start harts m =
    m ≡ in_state p (state_after (setting_for p (bytes_of start.input)) (state_of start.state) harts) (bytes_of start.input)

-- a replay has executed this
pub record IsReplay (p : Parameters) (start : Start) (e : Executed) (r : Replay) : Type 0 where
  pub harts : r.harts.items ≡ e.harts
  pub plain : IsPlainAt p start e.harts r.plain
  pub counts : AreCounts r.counts.entries e.pcs
  pub up : r.up ≡ e.up
