-- What the program keeps of a comparison, and what a run adds to it.
use Rattle.std.specs.Prelude.{◌≡◌, ◌⊎◌, ℕ, Bool, true, List, [], ◌∷◌, ◌++◌, None}
use Rattle.thy_block.specs.declared.parameters.SchemeName.{SchemeName}
use Rattle.thy_base.specs.Config.{parameters_of}
use Rattle.thy_block.specs.Outside.{Stock}
use Rattle.thy_block.specs.Schemes.{scheme_number}
use Rattle.thy_text.specs.Event.{Event, Scheme}
use Rattle.thy_text.specs.History.{Recorded, all_of}
use Rattle.thy_base.specs.Settings.{Job}
use Rattle.thy_run.specs.Cuts.{has_ended}
use Rattle.thy_run.specs.Sending.{Sent}
use Rattle.thy_run.specs.declared.plan.Plan.{Plan}
use Rattle.thy_computer.specs.Kind.{KindOf}
use Rattle.thy_outcome.specs.declared.answer.Answer.{Answer}
use Rattle.thy_outcome.specs.declared.answer.Ran.{Ran}
use Rattle.thy_commands.specs.declared.comparing.Compared.{Compared}
use Rattle.thy_outcome.specs.declared.refusal.Refusal.{Refusal}
use Rattle.thy_outcome.specs.Answering.{Around, Closes, NvmOf, Outside, IsRunOverOf, outside, stop_line, report_of_refusal}
use Rattle.thy_outcome.specs.Comparing.{NotBegun, RunsThrough, Stage, Subject, compared, first_stage, line_status, nowhere, scheme_lines, under, with_scheme}
use Rattle.thy_outcome.specs.Machines.{Choice}
use Rattle.thy_execute.specs.Planning.{IsPlanOf}
use Rattle.thy_outcome.specs.Kept.{answer_of}
use Rattle.thy_outcome.specs.Sources.{file}

-- a plan under a scheme
abbrev pub plan_under : SchemeName → Plan → Plan
plan_under scheme p = record p {
  config = with_scheme scheme p.config;
  geometry = parameters_of (with_scheme scheme p.config);
}

-- what was compared so far, with what is outside
abbrev pub stage_of : {N : Type 0} → Around N → Compared → Stage N
stage_of w c = record { around = w; status = c.status; cycles = c.cycles }

-- the events, in two lists
abbrev pub recorded_of : Compared → Recorded
recorded_of c = record { earlier = c.earlier; last = c.last }

abbrev pub events_of : Compared → List Event
events_of c = all_of (recorded_of c)

-- what a run sees whose report nobody reads
abbrev pub seen_alone : {N : Type 0} → NvmOf N → Around N → Outside
seen_alone d w = outside w.shelf (d.device w.nvm) w.terminal nowhere

-- a run of a plan was begun and has stopped
pub record HasRunNext {M N : Type 0} (K : KindOf M) (d : NvmOf N) (name : List ℕ) (p : Plan) (old new : Around N)
    (so_far next : Compared) : Type 0 where
  pub ran : Ran
  pub run : (job : Job) → job.save ≡ None → (h : IsPlanOf (file name) job old.shelf p [])
      → (r : IsRunOverOf K (file name) job (seen_alone d old) h.program (seen_alone d new) (answer_of ran))
      × (r.seen.ending.stop ≡ ran.stop)
  pub events : events_of next ≡ events_of so_far ++ Scheme (scheme_number p.config.scheme) ∷ ran.events
  pub failed : Bool
  pub lines : Sent failed old.report new.report
      (scheme_lines p.config.scheme ran.events (d.device new.nvm).writes ++ stop_line p.geometry.limit ran.stop)
  pub status : next.status ≡ line_status (has_ended ran.events) failed ran.status
  pub cycles : next.cycles ≡ ran.cycles

-- no run of a plan was begun
pub record HasNotRun {N : Type 0} (d : NvmOf N) (old new : Around N) (so_far next : Compared) : Type 0 where
  pub why : Refusal
  pub due : NotBegun d old.nvm new.nvm why
  pub events : events_of next ≡ events_of so_far
  pub shelf : new.shelf ≡ old.shelf
  pub terminal : new.terminal ≡ old.terminal
  pub closes : Closes (report_of_refusal why).1 old.report new.report
  pub status : next.status ≡ (report_of_refusal why).0
  pub cycles : next.cycles ≡ so_far.cycles

abbrev pub RunsNext : {M N : Type 0} → KindOf M → NvmOf N → List ℕ → Plan → Around N → Around N → Compared → Compared → Type 0
RunsNext K d name p old new so_far next =
    HasNotRun d old new so_far next ⊎ HasRunNext K d name p old new so_far next

-- ---- all runs of a plan

-- a plan under a scheme is a plan for a comparison's job
pub record IsPlanFor (x : Subject) (stock : Stock) (p : Plan) (scheme : SchemeName) : Type 0 where
  pub is_plan : IsPlanOf (file x.name) (under scheme x.job) stock (plan_under scheme p) []
  pub same_bytes : is_plan.program.bytes ≡ x.bytes
  pub same_input : is_plan.program.input ≡ x.input
  pub same_limit : p.config.limit ≡ x.job.config.limit

-- what the runs of a plan by each scheme are to a job of which it is the plan under each
abbrev pub Compares : {N : Type 0} → Choice → NvmOf N → List ℕ → Plan → Around N → Around N → Answer → Type 0
Compares {N = N} c d name p before after a =
    (x : Subject) → x.name ≡ name → ((scheme : SchemeName) → IsPlanFor x before.shelf p scheme)
    → (last : Stage N) × RunsThrough c d x true compared (first_stage before) last (all_of a.events)
    × (last.around ≡ after) × (a.status ≡ last.status) × (a.cycles ≡ last.cycles)
