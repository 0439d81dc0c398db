-- The state of a run's machine in a cycle, and at a count.
use Rattle.std.specs.Prelude.{ℕ, ◌-◌, nat_lt, if◌then◌else◌, List, length, take, Option, Some, None}
use Rattle.thy_isa.specs.Step.{State, Setting}
use Rattle.thy_run.specs.Watching.{Taken}
use Rattle.thy_observe.specs.Changes.{changes_of}
use Rattle.thy_observe.specs.Replaying.{Executed, executed, state_after}

-- the state of a machine that is up
abbrev pub standing : Setting → State → Executed → Option State
standing g start e = if e.up then Some (state_after g start e.harts) else None

-- the state after this many of the cycles: none if there are fewer, or if the machine is not up then
abbrev pub state_by : Setting → State → (cycle : ℕ) → List Taken → Option State
state_by g start cycle seen =
    if nat_lt (length seen) cycle then None else standing g start (executed g start (changes_of (take cycle seen)))

-- the state when the first of the instructions that these harts retired have been executed, from the start on
abbrev pub state_along : Setting → State → (most : ℕ) → List ℕ → Option State
state_along g start most harts = if nat_lt (length harts) most then None else Some (state_after g start (take most harts))

-- the state at this count: none if it is below the start's, or above what the cycles kept
abbrev pub state_at : Setting → State → (count : ℕ) → List Taken → Option State
state_at g start count seen =
    if nat_lt count start.count then None
    else state_along g start (count - start.count) (executed g start (changes_of seen)).harts
