-- What the loop promises of its observer.
use Rattle.std.specs.Prelude.{◌≡◌, ℕ, ◌+◌, false, List, length, Result, Ok, Err}
use Rattle.thy_block.specs.Bytes.{bytes_of}
use Rattle.thy_block.specs.Device.{Device}
use Rattle.thy_block.specs.Outside.{Stream}
use Rattle.thy_computer.specs.declared.did.Stepped.{Stepped}
use Rattle.thy_computer.specs.Kind.{KindOf}
use Rattle.thy_run.specs.declared.advance.Outcome.{Outcome}
use Rattle.thy_run.specs.declared.advance.Outcome.TheVariants.{Goes, Cuts, Stops, Breaks}
use Rattle.thy_run.specs.declared.ending.Ending.{Ending}
use Rattle.thy_run.specs.declared.plan.Plan.{Plan}
use Rattle.thy_run.specs.declared.progress.Progress.{Progress}
use Rattle.thy_run.specs.Endings.{HasRun}
use Rattle.thy_run.specs.Going.{origin_of, given_of, world_at, IsStepped, AwaitsCut}
use Rattle.thy_run.specs.Rounds.{Running, ComesTo, RunEnds}
use Rattle.thy_run.specs.Sending.{Sinks}
use Rattle.thy_run.specs.Watching.{Taken, IsListed}
use Rattle.thy_run.specs.World.{Given, Cycle, is_due}
use Rattle.thy_computer.specs.Origin.{Origin}

-- an observer has seen the cycles of the run up to here
abbrev pub Watched : {M O : Type 0} → KindOf M → (O → List Taken → Type 0) → Plan → Device → Progress M → Device → ℕ → List ℕ
    → O → Type 0
Watched K has_seen plan fitted p n cycles turns o =
    (seen : List Taken)
    × IsListed K (origin_of plan) (given_of plan fitted) cycles (world_at p n cycles turns) seen × has_seen o seen

-- an observer has seen the cycles up to here, and keeps the step of the next one
abbrev pub Awaited : {M O : Type 0} → KindOf M → (O → List Taken → Stepped → Type 0) → Plan → Device → Progress M → Device → ℕ
    → List ℕ → Stepped → O → Type 0
Awaited K keeps plan fitted p n cycles turns r o =
    (seen : List Taken)
    × IsListed K (origin_of plan) (given_of plan fitted) cycles (world_at p n cycles turns) seen × keeps o seen r

-- an observer has seen the cycles of this run
abbrev pub HasSeenRun : {M O : Type 0} (K : KindOf M) (has_seen : O → List Taken → Type 0) (o : Origin) (given : Given)
    (new : Device) (e : Ending) (terminal shown report read : Stream)
    → HasRun K o given new e terminal shown report read → O → Type 0
HasSeenRun K has_seen o given new e terminal shown report read h observer =
    (seen : List Taken) × IsListed K o given e.cycles h.stopped.last seen × has_seen observer seen

-- a run of a plan leaves this, and the observer has seen its cycles
abbrev pub RunEndsSeen : {M O : Type 0} → KindOf M → (O → List Taken → Type 0) → Plan → Device → Device → Ending
    → Stream → Stream → Stream → Stream → O → Type 0
RunEndsSeen K has_seen plan fitted new e terminal shown report read observer =
    (h : RunEnds K plan fitted new e terminal shown report read)
    × HasSeenRun K has_seen (origin_of plan) (given_of plan fitted) new e terminal shown report read h observer

-- what an observer has seen after a cycle that came to this, before which some turns were reported, and some after it
abbrev pub SeenBy : {M O : Type 0} → KindOf M → (O → List Taken → Type 0) → (O → List Taken → Stepped → Type 0)
    → Plan → Device → Progress M → Progress M → Device → Device → ℕ → List ℕ → List ℕ → O → O → Outcome → Type 0
SeenBy K has_seen keeps plan fitted p next n new done turns after old_o new_o Goes =
    Watched K has_seen plan fitted next new (done + 1) after new_o
SeenBy K has_seen keeps plan fitted p next n new done turns after old_o new_o (Cuts bytes) =
    (r : Stepped) × AwaitsCut K plan p next n new done turns r (bytes_of bytes)
    × Awaited K keeps plan fitted p n done turns r new_o
SeenBy K has_seen keeps plan fitted p next n new done turns after old_o new_o (Stops stop) =
    Watched K has_seen plan fitted next new (done + 1) after new_o
SeenBy K has_seen keeps plan fitted p next n new done turns after old_o new_o (Breaks stop) = new_o ≡ old_o

-- the cycle is done by this step, no cut fell after it, and then these turns are reported
abbrev pub IsDoneBy : {M : Type 0} → KindOf M → Plan → Progress M → Progress M → Device → Device → ℕ → (turns after : List ℕ)
    → Stepped → Type 0
IsDoneBy K plan p next n new done turns after r =
    (c : Cycle K (origin_of plan) plan.config.cuts plan.config.tears (world_at p n done turns) (world_at next new (done + 1) after))
    × (c.steps.r ≡ r) × (is_due K (origin_of plan) plan.config.cuts c.between ≡ false)

-- a cycle that is done, and after which no cut falls, is the one of this step
abbrev pub StepsBy : {M : Type 0} → KindOf M → Plan → Progress M → Progress M → Device → Device → ℕ → (turns after : List ℕ)
    → Stepped → Outcome → Type 0
StepsBy K plan p next n new done turns after r Goes = IsDoneBy K plan p next n new done turns after r
StepsBy K plan p next n new done turns after r (Cuts bytes) = Unit {0}
StepsBy K plan p next n new done turns after r (Stops stop) = IsDoneBy K plan p next n new done turns after r
StepsBy K plan p next n new done turns after r (Breaks stop) = Unit {0}

-- a cycle of this step came to this, and the observer has seen so
pub record CycleTaken {M O : Type 0} (K : KindOf M) (has_seen : O → List Taken → Type 0)
    (keeps : O → List Taken → Stepped → Type 0) (plan : Plan) (fitted : Device) (p next : Progress M) (n new : Device)
    (done : ℕ) (turns : List ℕ) (terminal showing shown report reading read : Stream) (old_o new_o : O) (r : Stepped)
    (outcome : Outcome) : Type 0 where
  -- the turns that are reported after the cycle
  pub after : List ℕ
  pub comes_to : ComesTo K plan fitted p next n new done turns after terminal showing shown report reading read outcome
  pub seen : SeenBy K has_seen keeps plan fitted p next n new done turns after old_o new_o outcome
  pub by_step : StepsBy K plan p next n new done turns after r outcome

-- a cycle whose step was taken from a run that continues comes to this
abbrev pub Reports : {M O : Type 0} → KindOf M → (O → List Taken → Type 0) → (O → List Taken → Stepped → Type 0)
    → Plan → Progress M → Progress M → Device → Device → ℕ → Stepped → Sinks → Sinks → O → O → Outcome → Type 0
Reports {M = M} K has_seen keeps plan q next m new done r before after old_o new_o outcome =
    (fitted : Device) (p : Progress M) (n : Device) (turns : List ℕ) (t u : Stream)
    → IsStepped K plan p q n m done turns r
    → Running K plan fitted p n done turns t before.terminal u before.report
    → Watched K has_seen plan fitted p n done turns old_o
    → CycleTaken K has_seen keeps plan fitted p next n new done turns t before.terminal after.terminal u before.report
    after.report old_o new_o r outcome

-- after a cut the run continues, and the observer has seen its cycle
pub record CutMade {M O : Type 0} (K : KindOf M) (has_seen : O → List Taken → Type 0) (plan : Plan) (fitted : Device)
    (q : Progress M) (new : Device) (done : ℕ) (terminal shown report read : Stream) (o : O) : Type 0 where
  -- the turns that are reported after the cut
  pub after : List ℕ
  pub running : Running K plan fitted q new (done + 1) after terminal shown report read
  pub watched : Watched K has_seen plan fitted q new (done + 1) after o

-- after a cut the run continues, and the observer has seen its cycle; or it ended, and the observer has seen the others
abbrev pub SeesCut : {M O : Type 0} → KindOf M → (O → List Taken → Type 0) → (O → List Taken → Stepped → Type 0) → Plan
    → Progress M → Device → Device → ℕ → List ℕ → ℕ → Sinks → Sinks → O → O → Result (Progress M) Ending → Type 0
SeesCut {M = M} K has_seen keeps plan next m new done bytes first before after old_o new_o (Ok q) =
    (fitted : Device) (p : Progress M) (n : Device) (turns : List ℕ) (t u : Stream) (r : Stepped)
    → Running K plan fitted p n done turns t before.terminal u before.report
    → Awaited K keeps plan fitted p n done turns r old_o
    → AwaitsCut K plan p next n m done turns r bytes → first ≡ length p.events
    → CutMade K has_seen plan fitted q new done t after.terminal u after.report new_o
SeesCut {M = M} K has_seen keeps plan next m new done bytes first before after old_o new_o (Err e) =
    (fitted : Device) (p : Progress M) (n : Device) (turns : List ℕ) (t u : Stream) (r : Stepped)
    → Running K plan fitted p n done turns t before.terminal u before.report
    → Awaited K keeps plan fitted p n done turns r old_o
    → AwaitsCut K plan p next n m done turns r bytes → first ≡ length p.events
    → RunEndsSeen K has_seen plan fitted new e t after.terminal u after.report new_o

-- what an observer has seen at the end of a run
abbrev pub RunsSeen : {M O : Type 0} → KindOf M → (O → List Taken → Type 0) → Plan → Device → Device → Ending → Sinks → Sinks
    → O → Type 0
RunsSeen K has_seen plan fitted new e before after observer =
    RunEndsSeen K has_seen plan fitted new e before.terminal after.terminal before.report after.report observer
