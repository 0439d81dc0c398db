-- What the functions of the loop promise each other: each from any moment of any run.
use Rattle.std.specs.Prelude.{◌≡◌, ℕ, ◌+◌, ◌<◌, ◌&&◌, true, Bool, List, length, Option, Result, MatchResult, IfOk, OnOk, OnErr, ◌++◌, Box}
use Rattle.std.specs.declared.alloc.Global.{Global}
use Rattle.thy_block.specs.declared.bytes.Bytes.{Bytes}
use Rattle.thy_block.specs.declared.cause.EndCause.{EndCause}
use Rattle.thy_block.specs.declared.mix.Pick.{Pick}
use Rattle.thy_block.specs.declared.nvm.NvmError.{NvmError}
use Rattle.thy_block.specs.Bytes.{bytes_of}
use Rattle.thy_block.specs.Device.{Device}
use Rattle.thy_block.specs.Outside.{Stream}
use Rattle.thy_isa.specs.declared.state.MachState.{MachState}
use Rattle.thy_isa.specs.declared.state.Status.{Status}
use Rattle.thy_text.specs.Event.{Event}
use Rattle.thy_computer.specs.declared.did.Did.{Did}
use Rattle.thy_computer.specs.declared.did.Did.TheVariants.{Restarted, Sealed}
use Rattle.thy_computer.specs.declared.did.Stepped.{Stepped}
use Rattle.thy_computer.specs.declared.error.CoreError.{CoreError}
use Rattle.thy_computer.specs.declared.view.View.{View}
use Rattle.thy_computer.specs.Advances.{stepped_of}
use Rattle.thy_computer.specs.Kind.{IsSnapshot, KindOf}
use Rattle.thy_computer.specs.Origin.{Origin}
use Rattle.thy_computer.specs.Views.{is_between, loads}
use Rattle.thy_run.specs.Due.{due_of}
use Rattle.thy_run.specs.declared.advance.HartCycle.{HartCycle}
use Rattle.thy_run.specs.declared.advance.HartCycle.TheVariants.{Advanced, Left, Failed}
use Rattle.thy_run.specs.declared.advance.Outcome.{Outcome}
use Rattle.thy_run.specs.declared.ending.Ending.{Ending}
use Rattle.thy_run.specs.declared.gather.Readings.{Readings}
use Rattle.thy_run.specs.declared.plan.Plan.{Plan}
use Rattle.thy_run.specs.declared.progress.Progress.{Progress}
use Rattle.thy_run.specs.Going.{origin_of, line_of, turns_then, world_at, GoesOn, HasDrawn, IsStepped, IsStuck, CanGather, MadeSome, Restores, IsEnding, IsEnd, IsGathered, AwaitsCut}
use Rattle.thy_run.specs.Sending.{Sinks}
use Rattle.thy_run.specs.Seeing.{Watched, CycleTaken}
use Rattle.thy_run.specs.Watching.{Taken}
use Rattle.thy_run.specs.Rounds.{Running, RunEnds}
use Rattle.thy_run.specs.World.{seen, turns_behind, did_events, end_events, events_of}

-- ---- a step

-- a hart advanced, and this is the schedule's next step; or it is another actor's cycle, and nothing is done; or it failed
abbrev pub AdvancedTo : {M : Type 0} → KindOf M → Plan → Progress M → Progress M → Progress M → Device → Device → ℕ → List ℕ
    → HartCycle → Type 0
AdvancedTo K plan p q next n new done turns (Advanced a) = IsStepped K plan p next n new done turns (stepped_of a)
AdvancedTo K plan p q next n new done turns Left = (next ≡ q) × (new ≡ n)
AdvancedTo K plan p q next n new done turns Failed = IsStuck K plan p next n new turns

-- what a hart's cycle leads to, in each run of which the pick was drawn
abbrev pub AdvancesOn : {M : Type 0} → KindOf M → Plan → Progress M → Progress M → Device → Device → ℕ → Pick
    → HartCycle → Type 0
AdvancesOn K plan q next n new done pick result =
    (fitted : Device) (turns : List ℕ) (d : HasDrawn K plan fitted q n done turns pick)
    → AdvancedTo K plan (record q { mix = d.mix }) q next n new done turns result

-- a step that succeeded is the schedule's next, and one that failed leaves what its action may leave
abbrev pub StepsOn : {M : Type 0} → KindOf M → Plan → Progress M → Progress M → Device → Device → ℕ → Pick
    → Result Stepped NvmError → Type 0
StepsOn K plan q next n new done pick result =
    (fitted : Device) (turns : List ℕ) (d : HasDrawn K plan fitted q n done turns pick)
    → MatchResult result (IsStepped K plan (record q { mix = d.mix }) next n new done turns)
    (λ _. IsStuck K plan (record q { mix = d.mix }) next n new turns)

-- ---- what is read for a step's events

-- a snapshot is the plain machine's state
abbrev pub BoxesSnapshot : {M : Type 0} → KindOf M → M → Device → Result (Box MachState Global) CoreError → Type 0
BoxesSnapshot K m n result =
    (o : Origin) (k : ℕ) → K.is_at o k m n → is_between (K.view o m n) ≡ true
    → IfOk result (λ s. IsSnapshot o (K.view o m n) s.value)

abbrev pub ReadsRestart : {M : Type 0} → KindOf M → Progress M → Device → Did
    → Result (Option (Box MachState Global)) CoreError → Type 0
ReadsRestart K p n did result =
    (o : Origin) (k : ℕ) (v : View) (r : Stepped) → r.did ≡ did → CanGather K o k v p n r
    → IfOk result (λ s. Restores o did s)

abbrev pub ReadsDue : {M : Type 0} → KindOf M → Progress M → Device → Did → Result Bytes CoreError → Type 0
ReadsDue K p n did result =
    (o : Origin) (k : ℕ) (v : View) (r : Stepped) → r.did ≡ did → CanGather K o k v p n r
    → IfOk result (λ b. bytes_of b ≡ due_of o p.events did (K.view o p.machine n))

abbrev pub ReadsEnd : {M : Type 0} → KindOf M → Progress M → Device → Bool
    → Result (Option (Box MachState Global)) CoreError → Type 0
ReadsEnd K p n ended result =
    (o : Origin) (k : ℕ) (v : View) (r : Stepped) → r.ended ≡ ended → CanGather K o k v p n r
    → IfOk result (λ s. IsEnding o v (K.view o p.machine n) s)

abbrev pub ReportsReload : {M : Type 0} → KindOf M → Progress M → Bool → Type 0
ReportsReload K p reload =
    (o : Origin) (k : ℕ) (v : View) (n : Device) (r : Stepped) → CanGather K o k v p n r
    → reload ≡ (p.fresh && loads (K.view o p.machine n))

abbrev pub GathersAll : {M : Type 0} → KindOf M → Progress M → Device → Stepped → Result Readings CoreError → Type 0
GathersAll K p n stepped result =
    (o : Origin) (k : ℕ) (v : View) → CanGather K o k v p n stepped
    → IfOk result (λ r. IsGathered o v (K.view o p.machine n) p stepped.did r)

-- ---- a step's events

-- the event of a restart is made
abbrev pub NotesRestart : {T E : Type 0} → ℕ → ℕ → Option (Box MachState Global) → List Event → List Event
    → Result T E → Type 0
NotesRestart epoch count restored old new result =
    (o : Origin) (v : View) → Restores o (Restarted epoch count) restored
    → OnOk result (new ≡ old ++ did_events o v (Restarted epoch count) 0)

-- if what was done is an epoch's end, these are the turns after the committed checkpoint
abbrev pub EndsWithTurns : Origin → View → Did → List ℕ → Type 0
EndsWithTurns o v (Sealed epoch count cause) turns = turns_behind o v.done ≡ turns
EndsWithTurns o v did turns = Unit {0}

-- the event of an epoch's end is made
abbrev pub NotesSeal : {T E : Type 0} → ℕ → ℕ → EndCause → List ℕ → List Event → List Event → Result T E → Type 0
NotesSeal epoch count cause turns old new result =
    (o : Origin) (v : View) → EndsWithTurns o v (Sealed epoch count cause) turns
    → OnOk result (new ≡ old ++ did_events o v (Sealed epoch count cause) 0)

-- the events of what a step did are made
abbrev pub NotesDid : {T E : Type 0} → Did → List ℕ → Option (Box MachState Global) → ℕ → List Event → List Event
    → Result T E → Type 0
NotesDid did turns restored cycle old new result =
    (o : Origin) (v : View) → EndsWithTurns o v did turns → Restores o did restored
    → OnOk result (new ≡ old ++ did_events o v did cycle)

-- the event of a run's end is made
abbrev pub NotesEnd : {T E : Type 0} → Option (Box MachState Global) → ℕ → List Event → List Event → Result T E → Type 0
NotesEnd ended cycle old new result =
    (o : Origin) (v next : View) → IsEnding o v next ended → OnOk result (new ≡ old ++ end_events o v next cycle)

-- if the program has ended, its status is returned
abbrev pub AnswersEnd : {E : Type 0} → Option (Box MachState Global) → Result (Option Status) E → Type 0
AnswersEnd ended result =
    (o : Origin) (v next : View) → IsEnding o v next ended → IfOk result (λ s. IsEnd o v next s)

-- all events of a step are made
abbrev pub NotesAll : {T E : Type 0} → Did → List ℕ → Bool → Option (Box MachState Global) → Option (Box MachState Global)
    → ℕ → List Event → List Event → Result T E → Type 0
NotesAll did turns reload restored ended cycle old new result =
    (o : Origin) (fresh : Bool) (v next : View) → reload ≡ (fresh && loads next) → EndsWithTurns o v did turns
    → Restores o did restored → IsEnding o v next ended
    → OnOk result (new ≡ old ++ events_of o fresh v did next cycle)

-- the events of a step are made, or the first ones if memory ran out
abbrev pub NotesSome : {T E : Type 0} → Did → List ℕ → Bool → Option (Box MachState Global) → Option (Box MachState Global)
    → ℕ → List Event → List Event → Result T E → Type 0
NotesSome did turns reload restored ended cycle old new result =
    (o : Origin) (fresh : Bool) (v next : View) → reload ≡ (fresh && loads next) → EndsWithTurns o v did turns
    → Restores o did restored → IsEnding o v next ended
    → OnErr result (MadeSome new (events_of o fresh v did next cycle) old)

-- ---- a cycle

-- a step was taken in a run that continues, in which this many cycles are done
abbrev pub HasStepped : {M : Type 0} → KindOf M → Plan → Progress M → Device → ℕ → Stepped → Type 0
HasStepped {M = M} K plan q m done r =
    (fitted : Device) × (p : Progress M) × (n : Device) × (turns : List ℕ) × GoesOn K plan fitted p n done turns
    × IsStepped K plan p q n m done turns r

-- what was read for the events of a step from p to q
abbrev pub IsGatheredFor : {M : Type 0} → KindOf M → Plan → Progress M → Progress M → Device → Device → ℕ → List ℕ
    → Did → Readings → Type 0
IsGatheredFor K plan p q n m k turns did readings =
    IsGathered (line_of plan (turns_then plan turns did)) (seen K (origin_of plan) (world_at p n k turns))
    (K.view (line_of plan (turns_then plan turns did)) q.machine m) q did readings

-- a step was taken in a run that continues, and all was read for its events
pub record IsReady {M : Type 0} (K : KindOf M) (plan : Plan) (fitted : Device) (p q : Progress M) (n m : Device) (k : ℕ)
    (turns : List ℕ) (r : Stepped) (readings : Readings) (cycle : ℕ) : Type 0 where
  pub goes : GoesOn K plan fitted p n k turns
  pub few : k < plan.geometry.limit
  pub stepped : IsStepped K plan p q n m k turns r
  pub gathered : IsGatheredFor K plan p q n m k turns r.did readings
  pub at_cycle : cycle ≡ k + 1

-- the cycle of a step may be concluded: all was read for its events
abbrev pub CanConclude : {M : Type 0} → KindOf M → Plan → Progress M → Stepped → Readings → ℕ → Type 0
CanConclude {M = M} K plan q r readings cycle =
    (fitted : Device) × (p : Progress M) × (n : Device) × (m : Device) × (k : ℕ) × (turns : List ℕ)
    × IsReady K plan fitted p q n m k turns r readings cycle

-- what the conclusion of a cycle comes to
abbrev pub Concludes : {M O : Type 0} → KindOf M → (O → List Taken → Type 0) → (O → List Taken → Stepped → Type 0)
    → Plan → Progress M → Progress M → Stepped → Readings → ℕ → Sinks → Sinks → O → O → Outcome → Type 0
Concludes {M = M} K has_seen keeps plan q next r readings cycle before after old_o new_o outcome =
    (fitted : Device) (p : Progress M) (n m : Device) (k : ℕ) (turns : List ℕ) (t u : Stream)
    → IsReady K plan fitted p q n m k turns r readings cycle
    → Running K plan fitted p n k turns t before.terminal u before.report
    → Watched K has_seen plan fitted p n k turns old_o
    → CycleTaken K has_seen keeps plan fitted p next n m k turns t before.terminal after.terminal u before.report
    after.report old_o new_o r outcome

-- ---- the loop

-- a run that continues awaits a cut, with these bytes for the terminal
abbrev pub IsAwaiting : {M : Type 0} → KindOf M → Plan → Progress M → Device → ℕ → List ℕ → ℕ → Sinks → Type 0
IsAwaiting {M = M} K plan next m done bytes first now =
    (fitted : Device) × (p : Progress M) × (n : Device) × (turns : List ℕ) × (t : Stream) × (r : Stream)
    × (step : Stepped) × Running K plan fitted p n done turns t now.terminal r now.report
    × AwaitsCut K plan p next n m done turns step bytes × (first ≡ length p.events)

-- a run of a plan leaves this
abbrev pub RunsTo : {M : Type 0} → KindOf M → Plan → Device → Device → Ending → Sinks → Sinks → Type 0
RunsTo K plan fitted new e before after =
    RunEnds K plan fitted new e before.terminal after.terminal before.report after.report
