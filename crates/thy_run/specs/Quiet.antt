-- Cycles with nothing to report, one after another. No sink has a part in them.
use Rattle.std.specs.Prelude.{◌≡◌, ◌≤◌, ◌<◌, ◌+◌, ℕ, false, List, Option, Some, None}
use Rattle.thy_block.specs.declared.mix.Pick.{Pick}
use Rattle.thy_block.specs.Device.{Device}
use Rattle.thy_computer.specs.declared.did.Stepped.{Stepped}
use Rattle.thy_computer.specs.Kind.{KindOf}
use Rattle.thy_run.specs.declared.plan.Plan.{Plan}
use Rattle.thy_run.specs.declared.progress.Progress.{Progress}
use Rattle.thy_run.specs.declared.quiet.Pause.{Pause}
use Rattle.thy_run.specs.declared.quiet.Pause.TheVariants.{Limit, Steps, Stuck}
use Rattle.thy_run.specs.Due.{IsQuiet, AreQuietBelow}
use Rattle.thy_run.specs.Going.{GoesOn, HasDrawn, IsStepped, IsStuck}
use Rattle.thy_run.specs.Seeing.{Watched}
use Rattle.thy_run.specs.Watching.{Taken, Sees, taken}

-- the run continues, and the observer has seen its cycles
abbrev pub IsWatched : {M O : Type 0} → KindOf M → (O → List Taken → Type 0) → Plan → Progress M → Device → ℕ → O → Type 0
IsWatched K has_seen plan p n done o =
    (fitted : Device) × (turns : List ℕ) × GoesOn K plan fitted p n done turns × Watched K has_seen plan fitted p n done turns o

-- any number of cycles without an event or a cut led from p to q, after which `now` are done; the observer has seen them all
pub record IsLed {M O : Type 0} (K : KindOf M) (has_seen : O → List Taken → Type 0) (plan : Plan) (fitted : Device)
    (p q : Progress M) (n : Device) (done now : ℕ) (o : O) : Type 0 where
  -- the turns that are reported at q
  pub turns : List ℕ
  pub goes : GoesOn K plan fitted q n now turns
  pub watched : Watched K has_seen plan fitted q n now turns o
  pub unlisted : q.events ≡ p.events
  pub uncut : q.passed ≡ p.passed
  pub fresh : q.fresh ≡ p.fresh
  pub more : done ≤ now

-- in each run that continues at p and whose cycles the observer has seen, quiet cycles led from p to q, over the same device
abbrev pub LeadsQuietly : {M O : Type 0} → KindOf M → (O → List Taken → Type 0) → Plan → Progress M → Progress M → Device
    → ℕ → ℕ → O → O → Type 0
LeadsQuietly K has_seen plan p q n done now old_o new_o =
    (fitted : Device) (turns : List ℕ) → GoesOn K plan fitted p n done turns
    → Watched K has_seen plan fitted p n done turns old_o → IsLed K has_seen plan fitted p q n done now new_o

-- a row that begins below this cycle has five cycles before the limit, and each of them in which a hart advances is quiet
pub record IsRowEnd {M : Type 0} (plan : Plan) (p : Progress M) (end : ℕ) : Type 0 where
  pub limit : (k : ℕ) → k < end → k + 5 ≤ plan.geometry.limit
  pub quiet : (k : ℕ) → k < end → AreQuietBelow plan.config.cuts p (k + 6)

-- the next cycle is not quiet: its step from q has something to report, or failed; or none is left
abbrev pub StopsAt : {M : Type 0} → KindOf M → Plan → Progress M → Progress M → Device → Device → ℕ → List ℕ → Pause → Type 0
StopsAt K plan q next n new now turns Limit = (now ≡ plan.geometry.limit) × (next ≡ q) × (new ≡ n)
StopsAt K plan q next n new now turns (Steps r) =
    (now < plan.geometry.limit) × IsStepped K plan q next n new now turns r
    × (IsQuiet plan.config.cuts next r (now + 1) → ⊥)
StopsAt K plan q next n new now turns Stuck = (now < plan.geometry.limit) × IsStuck K plan q next n new turns

-- the cycle of this step was quiet, and the observer has seen it
pub record IsQuietCycle {M O : Type 0} (K : KindOf M) (has_seen : O → List Taken → Type 0) (plan : Plan)
    (q next : Progress M) (n new : Device) (now : ℕ) (turns : List ℕ) (old_o new_o : O) : Type 0 where
  pub r : Stepped
  pub stepped : IsStepped K plan q next n new now turns r
  pub quiet : IsQuiet plan.config.cuts next r (now + 1)
  pub sees : Sees has_seen old_o new_o (taken r 0 false)

-- a cycle was quiet, or it is the first that is not, and the observer has not seen it
abbrev pub PassedTo : {M O : Type 0} → KindOf M → (O → List Taken → Type 0) → Plan → Progress M → Progress M
    → Device → Device → ℕ → List ℕ → O → O → Option Pause → Type 0
PassedTo K has_seen plan q next n new now turns old_o new_o None =
    IsQuietCycle K has_seen plan q next n new now turns old_o new_o
PassedTo K has_seen plan q next n new now turns old_o new_o (Some pause) =
    StopsAt K plan q next n new now turns pause × (new_o ≡ old_o)

-- what a quiet cycle leads to, in each run of which the pick was drawn
abbrev pub PassesTo : {M O : Type 0} → KindOf M → (O → List Taken → Type 0) → Plan → Progress M → Progress M
    → Device → Device → ℕ → Pick → O → O → Option Pause → Type 0
PassesTo K has_seen plan q next n new now pick old_o new_o pause =
    (fitted : Device) (turns : List ℕ) (d : HasDrawn K plan fitted q n now turns pick)
    → PassedTo K has_seen plan (record q { mix = d.mix }) next n new now turns old_o new_o pause

-- where the quiet cycles ended, and why
pub record IsPaused {M O : Type 0} (K : KindOf M) (has_seen : O → List Taken → Type 0) (plan : Plan) (fitted : Device)
    (p next : Progress M) (new : Device) (done : ℕ) (o : O) (now : ℕ) (pause : Pause) : Type 0 where
  pub progress : Progress M
  pub device : Device
  pub led : IsLed K has_seen plan fitted p progress device done now o
  pub stops : StopsAt K plan progress next device new now led.turns pause

-- the quiet cycles of a run that continues come to this
abbrev pub RunsQuietly : {M O : Type 0} → KindOf M → (O → List Taken → Type 0) → Plan → Progress M → Progress M
    → Device → Device → ℕ → O → O → ℕ → Pause → Type 0
RunsQuietly K has_seen plan p next n new done old_o new_o now pause =
    (fitted : Device) (turns : List ℕ) → GoesOn K plan fitted p n done turns
    → Watched K has_seen plan fitted p n done turns old_o
    → IsPaused K has_seen plan fitted p next new done new_o now pause
