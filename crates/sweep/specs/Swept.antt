-- What a call of the program does outside: it refuses, or it sweeps a run, and then puts OUT.
use Rattle.std.specs.Prelude.{◌≡◌, ◌⊎◌, ℕ, nat_lt, Bool, true, false, List, Ok}
use Rattle.thy_outcome.specs.declared.refusal.Refusal.{Refusal}
use Rattle.thy_outcome.specs.declared.refusal.Refusal.TheVariants.{Words, Device as DeviceRefusal}
use Rattle.thy_outcome.specs.Answering.{Outside, Closes, RunDue, WordsDue, report_of_refusal, with_device}
use Rattle.thy_outcome.specs.Levelling.{IsFoundAs, IsLeftAs}
use Rattle.thy_outcome.specs.Machines.{Choice}
use Rattle.thy_outcome.specs.Sources.{ProgramSource, file as of_file, image as of_image, made as of_made}
use Rattle.thy_block.specs.declared.block.Block.{Block}
use Rattle.thy_block.specs.declared.nvm.FitError.{FitError}
use Rattle.thy_block.specs.Device.{Device, HasFailedToFit, fitted}
use Rattle.thy_block.specs.Outside.{Stream}
use Rattle.thy_execute.specs.Planning.{IsPlanOf, shape_of}
use Rattle.thy_run.specs.declared.plan.Plan.{Plan}
use Rattle.thy_run.specs.Sending.{sinks}
use Rattle.thy_computer.specs.Kind.{KindOf}
use Rattle.thy_base.specs.declared.arguments.words.WordsError.{WordsError}
use Rattle.thy_base.specs.declared.arguments.words.WordsError.TheVariants.{Usage}
use Rattle.thy_base.specs.Settings.{Job, Order, run, resume, bench, settings_of}
use Rattle.sweep.specs.declared.account.Account.{Account}
use Rattle.sweep.specs.declared.asked.Asked.{Asked}
use Rattle.sweep.specs.declared.running.Swept.{Swept}
use Rattle.sweep.specs.Concluding.{IsConcluded, SaysShort}
use Rattle.sweep.specs.Kept.{KeepsRows}
use Rattle.sweep.specs.Naming.{is_refused}
use Rattle.sweep.specs.Sweeping.{SweepsRun}

-- ---- a run that is swept

-- the run goes over the lines that a device holds
abbrev pub levels_of : Plan → Bool
levels_of plan = nat_lt 0 plan.config.gap

-- The run of a plan was swept over a device that was fitted for it, and concluded. It is one of the plan, and each row that is kept
-- says what a cut leaves in this run, and to what images of these led that were tried.
pub record IsSweptOver {M : Type 0} (K : KindOf M) (out : List ℕ) (asked : Asked) (source : ProgramSource) (plan : Plan)
    (before after : Outside) (status : ℕ) : Type 0 where
  pub account : Account
  pub swept : Swept
  -- the report when the run is over
  pub report : Stream
  pub ran : SweepsRun K plan before.device after.device asked (sinks before.terminal before.report) (sinks after.terminal report) swept
  pub rows : KeepsRows K plan before.device (levels_of plan) asked account swept
  pub concluded : IsConcluded out asked source plan.geometry.limit account swept before.shelf after.shelf report after.report status

-- memory ran out before the first cycle of a run
pub record IsShort (before after : Outside) (status : ℕ) : Type 0 where
  pub shelf : after.shelf ≡ before.shelf
  pub terminal : after.terminal ≡ before.terminal
  pub says : SaysShort status before.report after.report

abbrev pub SweepsOver : {M : Type 0} → KindOf M → List ℕ → Asked → ProgramSource → Plan → Outside → Outside → ℕ → Type 0
SweepsOver K out asked source plan before after status =
    IsShort before after status ⊎ IsSweptOver K out asked source plan before after status

-- a line says why no run was begun, and what the shelf holds stays
pub record IsUnrun (r : Refusal) (before after : Outside) (status : ℕ) : Type 0 where
  pub is_status : status ≡ (report_of_refusal r).0
  pub held : after.shelf.held ≡ before.shelf.held
  pub terminal : after.terminal ≡ before.terminal
  pub closes : Closes (report_of_refusal r).1 before.report after.report

-- the device was not fitted, and a line says so
pub record IsUnfitted (e : FitError) (before after : Outside) (status : ℕ) : Type 0 where
  pub failed : HasFailedToFit e before.device after.device
  pub shelf : after.shelf ≡ before.shelf
  pub unrun : IsUnrun (DeviceRefusal e) before after status

-- the run of a plan was swept over the device that it sees, which with a gap is not the one that was handed in, and was fitted
-- with these first blocks
pub record IsSweptSeen {M : Type 0} (K : KindOf M) (out : List ℕ) (asked : Asked) (source : ProgramSource) (plan : Plan) (blocks : List Block)
    (before after : Outside) (status : ℕ) : Type 0 where
  pub found : Device
  pub left : Device
  pub is_found : IsFoundAs plan.config.gap before.device found
  pub is_left : IsLeftAs plan.config.gap after.device left
  pub sweeps : SweepsOver K out asked source plan (with_device (fitted (shape_of K plan) blocks found) before) (with_device left after) status

-- or the device was not fitted
abbrev pub SweepsPlan : {M : Type 0} → KindOf M → List ℕ → Asked → ProgramSource → Plan → List Block → Outside → Outside → ℕ → Type 0
SweepsPlan K out asked source plan blocks before after status =
    ((e : FitError) × IsUnfitted e before after status) ⊎ IsSweptSeen K out asked source plan blocks before after status

-- the run of a job was swept, from what its source means
pub record IsSweptOf {M : Type 0} (K : KindOf M) (out : List ℕ) (asked : Asked) (source : ProgramSource) (job : Job)
    (before after : Outside) (status : ℕ) : Type 0 where
  pub plan : Plan
  pub blocks : List Block
  pub is_plan : IsPlanOf source job before.shelf plan blocks
  pub sweeps : IsSweptSeen K out asked source plan blocks before after status

-- the run of a job was swept, or there is a reason why it was not begun
abbrev pub SweepsJob : {M : Type 0} → KindOf M → List ℕ → Asked → ProgramSource → Job → Outside → Outside → ℕ → Type 0
SweepsJob K out asked source job before after status =
    ((r : Refusal) × RunDue source job before after r × IsUnrun r before after status)
    ⊎ IsSweptOf K out asked source job before after status

-- ---- a call

-- the job of an order that runs the machine once, and the source of its program
abbrev pub IsJobOf : Order → ProgramSource → Job → Type 0
IsJobOf (run file job) source j = (source ≡ of_file file) × (j ≡ job)
IsJobOf (resume image job) source j = (source ≡ of_image image) × (j ≡ job)
IsJobOf (bench n job) source j = (source ≡ of_made n) × (j ≡ job)
IsJobOf order source j = ⊥

-- an order is run, and swept, on the machine of its scheme
pub record SweepsOrder (c : Choice) (out : List ℕ) (asked : Asked) (order : Order) (before after : Outside) (status : ℕ) : Type 0 where
  pub source : ProgramSource
  pub job : Job
  pub is_job : IsJobOf order source job
  pub sweeps : SweepsJob (c job.config.scheme).kind out asked source job before after status

-- why the arguments are refused: what they mean, or OUT or an option
abbrev pub IsRefusedFor : List ℕ → Bool → List (List ℕ) → WordsError → Type 0
IsRefusedFor out torn words e =
    WordsDue words e ⊎ ((order : Order) × (settings_of words ≡ Ok order) × (is_refused out torn order ≡ true) × (e ≡ Usage))

-- the arguments are refused: a line says so, and all else is left alone
pub record IsTurnedDown (e : WordsError) (before after : Outside) (status : ℕ) : Type 0 where
  pub is_status : status ≡ (report_of_refusal (Words e)).0
  pub shelf : after.shelf ≡ before.shelf
  pub device : after.device ≡ before.device
  pub terminal : after.terminal ≡ before.terminal
  pub closes : Closes (report_of_refusal (Words e)).1 before.report after.report

-- the arguments ask for an order, which is swept
abbrev pub SweepsWords : Choice → List ℕ → Asked → List (List ℕ) → Outside → Outside → ℕ → Type 0
SweepsWords c out asked words before after status =
    (order : Order) × (settings_of words ≡ Ok order) × (is_refused out asked.torn order ≡ false) × SweepsOrder c out asked order before after status

-- what a call does, with OUT, these options and these arguments
abbrev pub Sweeps : Choice → List ℕ → Asked → List (List ℕ) → Outside → Outside → ℕ → Type 0
Sweeps c out asked words before after status =
    ((e : WordsError) × IsRefusedFor out asked.torn words e × IsTurnedDown e before after status) ⊎ SweepsWords c out asked words before after status
