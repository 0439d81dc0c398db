-- A run without cuts that is made one cycle at a time.
use Rattle.std.specs.Prelude.{◌≡◌, ℕ, ◌+◌, List, Option, Some, None}
use Rattle.thy_block.specs.Device.{Device}
use Rattle.thy_block.specs.Outside.{Stream}
use Rattle.thy_run.specs.declared.plan.Plan.{Plan}
use Rattle.thy_run.specs.declared.progress.Progress.{Progress}
use Rattle.thy_run.specs.declared.singles.SingleCycle.{SingleCycle}
use Rattle.thy_run.specs.declared.singles.SingleCycle.TheVariants.{Goes, Stops, Breaks}
use Rattle.thy_run.specs.Going.{GoesOn, IsStepped, IsStuck}
use Rattle.thy_run.specs.Rounds.{Running, RunEnds, ending_of}
use Rattle.thy_run.specs.Seeing.{IsDoneBy}
use Rattle.thy_run.specs.Sending.{Sinks}
use Rattle.thy_computer.specs.declared.did.Stepped.{Stepped}
use Rattle.thy_computer.specs.Kind.{KindOf}

-- the schedule's next step was taken, or it failed
abbrev pub NextStep : {M : Type 0} → KindOf M → Plan → Progress M → Progress M → Device → Device → ℕ → List ℕ → Option Stepped → Type 0
NextStep K plan p next n new done turns None = IsStuck K plan p next n new turns
NextStep K plan p next n new done turns (Some r) = IsStepped K plan p next n new done turns r

-- from each run that continues
abbrev pub StepsNext : {M : Type 0} → KindOf M → Plan → Progress M → Progress M → Device → Device → ℕ → Option Stepped → Type 0
StepsNext K plan p next n new done result =
    (fitted : Device) (turns : List ℕ) → GoesOn K plan fitted p n done turns → NextStep K plan p next n new done turns result

-- a run continues here, and its sinks took all that was due
abbrev pub IsRunning : {M : Type 0} → KindOf M → Plan → Progress M → Device → ℕ → Sinks → Type 0
IsRunning K plan p n done now =
    (fitted : Device) × (turns : List ℕ) × (t : Stream) × (r : Stream) × Running K plan fitted p n done turns t now.terminal r now.report

-- what a cycle of such a run came to: it is done by the step that is returned, and the run continues; or the run ends
abbrev pub SingleMade : {M : Type 0} → KindOf M → Plan → Device → Progress M → Progress M → Device → Device → ℕ → List ℕ → Stream → Stream → Sinks
    → SingleCycle → Type 0
SingleMade K plan fitted p next n new done turns t r after (Goes stepped) =
    (reported : List ℕ) × Running K plan fitted next new (done + 1) reported t after.terminal r after.report
    × IsDoneBy K plan p next n new done turns reported stepped
SingleMade K plan fitted p next n new done turns t r after (Stops stop) =
    RunEnds K plan fitted new (ending_of stop next (done + 1)) t after.terminal r after.report
SingleMade K plan fitted p next n new done turns t r after (Breaks stop) =
    RunEnds K plan fitted new (ending_of stop next done) t after.terminal r after.report

-- this from each run that continues here
abbrev pub SinglesTo : {M : Type 0} → KindOf M → Plan → Progress M → Progress M → Device → Device → ℕ → Sinks → Sinks → SingleCycle → Type 0
SinglesTo K plan p next n new done before after result =
    (fitted : Device) (turns : List ℕ) (t r : Stream) → Running K plan fitted p n done turns t before.terminal r before.report
    → SingleMade K plan fitted p next n new done turns t r after result
