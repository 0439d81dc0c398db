-- Part of the claim.
-- A comparison: one program, run by each scheme in turn, each time over a device that is fitted again.
use Rattle.std.specs.Prelude.{◌≡◌, ◌⊎◌, ℕ, nat_le, if◌then◌else◌, Bool, true, false, List, [], ◌∷◌, ◌++◌, None, Contains, MatchBool}
use Rattle.thy_base.specs.declared.config.Config.{Config}
use Rattle.thy_block.specs.declared.parameters.SchemeName.{SchemeName}
use Rattle.thy_block.specs.declared.parameters.SchemeName.TheVariants.{Thynvm, Journal, Shadow}
use Rattle.thy_block.specs.Device.{HasFailedToFit}
use Rattle.thy_block.specs.Outside.{Stream}
use Rattle.thy_block.specs.Schemes.{scheme_name, scheme_number}
use Rattle.thy_isa.specs.declared.state.Status.{Status}
use Rattle.thy_isa.specs.Step.{State}
use Rattle.thy_text.specs.Event.{Event, Scheme, Ended}
use Rattle.thy_text.specs.History.{all_of}
use Rattle.thy_text.specs.Marks.{AllLawful}
use Rattle.thy_text.specs.Summary.{scheme_line}
use Rattle.thy_base.specs.Settings.{Job}
use Rattle.thy_run.specs.Cuts.{has_ended}
use Rattle.thy_run.specs.Laws.{course_of, first_marks}
use Rattle.thy_run.specs.Sending.{Sent}
use Rattle.thy_outcome.specs.declared.answer.Answer.{Answer}
use Rattle.thy_outcome.specs.declared.refusal.Refusal.{Refusal}
use Rattle.thy_outcome.specs.declared.refusal.Refusal.TheVariants.{Device as DeviceRefusal, Memory as MemoryRefusal}
use Rattle.thy_outcome.specs.Answering.{Around, Closes, NvmOf, Outside, IsRefused, IsRunOver, outside, outside_of, stop_line, report_of_refusal}
use Rattle.thy_outcome.specs.Machines.{Choice}
use Rattle.thy_outcome.specs.Sources.{IsProgram, ProgramDue, file, origin_for}

-- ---- what a run of a comparison sees

-- a stream that nobody reads
abbrev pub nowhere : Stream
nowhere = record { taken = None; faults = 0 }

-- only the first run writes to the terminal
abbrev pub terminal_for : (first : Bool) → Stream → Stream
terminal_for true terminal = terminal
terminal_for false terminal = nowhere

-- what a run of a comparison sees: only the first one writes to the terminal, and none to the report
abbrev pub seen_by : {N : Type 0} → NvmOf N → (first : Bool) → Around N → Outside
seen_by d first w = outside w.shelf (d.device w.nvm) (terminal_for first w.terminal) nowhere

-- ---- the runs

-- the schemes in the order in which they are compared
abbrev pub compared : List SchemeName
compared = Thynvm ∷ Journal ∷ Shadow ∷ []

-- a configuration with a scheme
abbrev pub with_scheme : SchemeName → Config → Config
with_scheme scheme c = record c { scheme = scheme }

-- a job under a scheme, which saves nothing
abbrev pub under : SchemeName → Job → Job
under scheme job = record job { config = with_scheme scheme job.config; save = None }

-- what is compared: a program file's bytes and its input, each read once
pub record Subject : Type 0 where
  pub name : List ℕ
  pub job : Job
  pub bytes : List ℕ
  pub input : List ℕ

-- between two runs: what is outside, and status and cycles of the run begun last
pub record Stage (N : Type 0) : Type 0 where
  pub around : Around N
  pub status : ℕ
  pub cycles : ℕ

abbrev pub first_stage : {N : Type 0} → Around N → Stage N
first_stage w = record { around = w; status = 0; cycles = 0 }

-- the line of a run that has ended; of any other run there is none
abbrev pub scheme_lines : SchemeName → List Event → (writes : ℕ) → List ℕ
scheme_lines scheme events writes = if has_ended events then scheme_line (scheme_name scheme) events writes else []

-- the status of a run: if it has ended and the report refused its line, the status of a report that failed
abbrev pub line_status : (ended failed : Bool) → ℕ → ℕ
line_status true true status = 6
line_status true false status = status
line_status false failed status = status

-- A run by a scheme was begun, over a device that was fitted for it, and stopped. It is the run of the program that its
-- own command would make, whose report nobody reads. Its event comes first. The report has its line, with the writes
-- that the device has taken, and then its closing line, if there is one, or failed in them.
pub record RunsBy {N : Type 0} (c : Choice) (d : NvmOf N) (x : Subject) (first : Bool) (scheme : SchemeName)
    (old new : Stage N) (events : List Event) : Type 0 where
  pub run : Answer
  pub over : IsRunOver (c scheme).kind (file x.name) (under scheme x.job) (seen_by d first old.around) (seen_by d first new.around) run
  pub same_bytes : over.program.bytes ≡ x.bytes
  pub same_input : over.program.input ≡ x.input
  pub quiet : first ≡ false → new.around.terminal ≡ old.around.terminal
  pub events_are : events ≡ Scheme (scheme_number scheme) ∷ all_of run.events
  pub failed : Bool
  pub lines : Sent failed old.around.report new.around.report
      (scheme_lines scheme (all_of run.events) (d.device new.around.nvm).writes ++ stop_line x.job.config.limit over.ran.seen.ending.stop)
  pub status : new.status ≡ line_status (has_ended (all_of run.events)) failed run.status
  pub cycles : new.cycles ≡ run.cycles

-- why a run was not begun: memory ran out before, and the device was left alone; or the device was not fitted
abbrev pub NotBegun : {N : Type 0} → NvmOf N → N → N → Refusal → Type 0
NotBegun d old new (MemoryRefusal e) = new ≡ old
NotBegun d old new (DeviceRefusal e) = HasFailedToFit e (d.device old) (d.device new)
NotBegun d old new r = ⊥

-- a comparison ends before a run that was not begun, and has no event of it
pub record EndsBefore {N : Type 0} (d : NvmOf N) (old new : Stage N) (events : List Event) : Type 0 where
  pub why : Refusal
  pub due : NotBegun d old.around.nvm new.around.nvm why
  pub none : events ≡ []
  pub shelf : new.around.shelf ≡ old.around.shelf
  pub terminal : new.around.terminal ≡ old.around.terminal
  pub closes : Closes (report_of_refusal why).1 old.around.report new.around.report
  pub status : new.status ≡ (report_of_refusal why).0
  pub cycles : new.cycles ≡ old.cycles

-- runs by these schemes, one after another, up to the first that was not begun or whose status is neither 0 nor 1
abbrev pub RunsThrough : {N : Type 0} → Choice → NvmOf N → Subject → (first : Bool) → List SchemeName → Stage N → Stage N
    → List Event → Type 0
RunsThrough c d x first [] old new events = (new ≡ old) × (events ≡ [])
RunsThrough {N = N} c d x first (scheme ∷ schemes) old new events =
    EndsBefore d old new events
    ⊎ ((middle : Stage N) × (own rest : List Event) × RunsBy c d x first scheme old middle own × (events ≡ own ++ rest)
    × MatchBool (nat_le middle.status 1) (RunsThrough c d x false schemes middle new rest) ((new ≡ middle) × (rest ≡ [])))

-- ---- the comparison

-- any two ends among events have one state
abbrev pub EndAlike : List Event → Type 0
EndAlike events =
    (a b : Status) (k l cycle other : ℕ) (s t : State)
    → Contains events (Ended a k cycle s) → Contains events (Ended b l other t) → s ≡ t

-- A program was compared. All events are lawful against its one course, and with one hart the runs that ended have one
-- last state. With two harts the course depends on the turns, which the schedule of each run chooses.
pub record IsComparison {N : Type 0} (c : Choice) (d : NvmOf N) (name : List ℕ) (job : Job) (before after : Around N) (a : Answer)
    : Type 0 where
  pub program : IsProgram (file name) job before.shelf
  pub last : Stage N
  pub runs : RunsThrough c d (record { name = name; job = job; bytes = program.bytes; input = program.input }) true compared
      (first_stage before) last (all_of a.events)
  pub left : last.around ≡ after
  pub status : a.status ≡ last.status
  pub cycles : a.cycles ≡ last.cycles
  pub events_lawful : AllLawful (course_of (origin_for job program.begins program.input))
      (first_marks (origin_for job program.begins program.input)) (all_of a.events)
  pub ends_alike : job.config.harts ≡ 1 → EndAlike (all_of a.events)

-- the result of a comparison: there is no program, and the device is left alone; or one was compared
abbrev pub CompareAnswered : {N : Type 0} → Choice → NvmOf N → List ℕ → Job → Around N → Around N → Answer → Type 0
CompareAnswered c d name job before after a =
    ((r : Refusal) × ProgramDue (file name) job before.shelf after.shelf r × (after.nvm ≡ before.nvm)
    × IsRefused r (outside_of d before) (outside_of d after) a)
    ⊎ IsComparison c d name job before after a
