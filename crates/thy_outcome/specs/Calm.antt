-- Part of the claim.
-- The result of a call in which nothing fails: the result of the program's own end.
use Rattle.std.specs.Prelude.{◌≡◌, ◌⊎◌, ℕ, ◌+◌, ◌-◌, ◌^◌, ◌<◌, ◌≤◌, List, Some, Ok, false}
use Rattle.thy_block.specs.Outside.{Stock, Files}
use Rattle.thy_isa.specs.Step.{State, is_running}
use Rattle.thy_run.specs.Progress.{tally_of, cycles_for}
use Rattle.thy_run.specs.declared.ending.Stop.TheVariants.{Ended}
use Rattle.thy_run.specs.World.{World, Given, Ran}
use Rattle.thy_text.specs.History.{all_of}
use Rattle.thy_computer.specs.Kind.{KindOf}
use Rattle.thy_computer.specs.Origin.{Origin, at}
use Rattle.thy_base.specs.Settings.{Job, Order, run, resume, bench, settings_of, compare, plain, make}
use Rattle.thy_outcome.specs.Answering.{Outside, stop_status, given_for}
use Rattle.thy_outcome.specs.Sources.{ProgramSource, file, made, image, IsProgram, origin_for}
use Rattle.thy_outcome.specs.declared.answer.Answer.{Answer}
use Rattle.thy_block.specs.declared.parameters.SchemeName.{SchemeName}
use Rattle.thy_block.specs.Device.{Device}
use Rattle.thy_base.specs.Config.{parameters_of}
use Rattle.thy_outcome.specs.Comparing.{under}
use Rattle.thy_outcome.specs.Machines.{Choice}

-- the command that asks for a run of a source
abbrev pub run_of : ProgramSource → Job → Order
run_of (file name) job = run name job
run_of (made n) job = bench n job
run_of (image name) job = resume name job

-- The arguments give this order, on a shelf with known contents; what it asks for is there, or is made, each within
-- the limit, and means a program.
pub record IsAsked (order : Order) (source : ProgramSource) (job : Job) (words : List (List ℕ)) (stock : Stock) : Type 0 where
  pub asked : settings_of words ≡ Ok order
  pub files : Files
  pub holds_files : stock.held ≡ Some files
  pub program : IsProgram source job stock

-- a count of faults stayed, below the last value, at which it would stay after a fault too
pub record Stayed (old new : ℕ) : Type 0 where
  pub same : new ≡ old
  pub counts : old < 2 ^ 64 - 1

-- shelf, device, terminal and report did not fail
pub record IsCalm (before after : Outside) : Type 0 where
  pub shelf : Stayed before.shelf.faults after.shelf.faults
  pub device : Stayed before.device.faults after.device.faults
  pub terminal : Stayed before.terminal.faults after.terminal.faults
  pub report : Stayed before.report.faults after.report.faults

-- the state of the program k instructions after its beginning, without power cuts
abbrev pub left_alone : {source : ProgramSource} {job : Job} {stock : Stock} → IsProgram source job stock → ℕ → State
left_alone {job = job} p k = at (origin_for job p.begins p.input) (p.begins.start.count + k)

-- the status is the status of this state's end, or memory ran out
abbrev pub HasEndOf : State → Answer → Type 0
HasEndOf s a = (a.status ≡ stop_status (Ended s.status)) ⊎ (a.status ≡ 9)

-- With one hart, a program that ends within k instructions ends so on the machine, in spite of all power cuts, if the
-- limit is not below the cycles that the machine promises for k instructions.
abbrev pub RunCompletes : Choice → List (List ℕ) → Outside → Outside → Answer → Type 0
RunCompletes c words before after a =
    (source : ProgramSource) (job : Job) (i : IsAsked (run_of source job) source job words before.shelf) (k : ℕ)
    → IsCalm before after → job.config.harts ≡ 1
    → is_running (left_alone i.program k).status ≡ false
    → cycles_for (c job.config.scheme).kind (parameters_of job.config) job.config.cuts k ≤ job.config.limit
    → HasEndOf (left_alone i.program k) a

-- at least k instructions retired since power came on last, in a run that gave these events in this number of cycles
pub record HasRetired {M : Type 0} (K : KindOf M) (o : Origin) (given : Given) (a : Answer) (k : ℕ) : Type 0 where
  pub last : World M
  pub ran : Ran K o given a.cycles last
  pub events : last.events ≡ all_of a.events
  pub many : k ≤ (tally_of K o given a.cycles last ran).retired

-- With two harts the schedule decides whether and when the program ends. If the limit is not below the cycles that the
-- machine promises for k instructions, it ends, or k have retired, over the device that the run saw.
abbrev pub PairCompletes : Choice → List (List ℕ) → Outside → Outside → Answer → Type 0
PairCompletes c words before after a =
    (source : ProgramSource) (job : Job) (i : IsAsked (run_of source job) source job words before.shelf) (k : ℕ)
    → IsCalm before after → job.config.harts ≡ 2
    → cycles_for (c job.config.scheme).kind (parameters_of job.config) job.config.cuts k ≤ job.config.limit
    → (a.status ≡ 0) ⊎ (a.status ≡ 1) ⊎ (a.status ≡ 9)
    ⊎ ((found : Device) × HasRetired (c job.config.scheme).kind (origin_for job i.program.begins i.program.input)
    (given_for (c job.config.scheme).kind job i.program.begins found) a k)

-- a program that ends within k instructions ends so on the plain machine, if the limit is not below k
abbrev pub PlainCompletes : List (List ℕ) → Outside → Outside → Answer → Type 0
PlainCompletes words before after a =
    (name : List ℕ) (job : Job) (i : IsAsked (plain name job) (file name) job words before.shelf) (k : ℕ)
    → IsCalm before after
    → is_running (left_alone i.program k).status ≡ false
    → k ≤ job.config.limit
    → HasEndOf (left_alone i.program k) a

-- With one hart, a program that ends within k instructions ends so in each run of a comparison, if the limit is not
-- below the cycles that each machine promises for k. The status is the status of the program's end, or memory ran out.
abbrev pub CompareCompletes : Choice → List (List ℕ) → Outside → Outside → Answer → Type 0
CompareCompletes c words before after a =
    (name : List ℕ) (job : Job) (i : IsAsked (compare name job) (file name) job words before.shelf) (k : ℕ)
    → IsCalm before after → job.config.harts ≡ 1
    → is_running (left_alone i.program k).status ≡ false
    → ((scheme : SchemeName) → cycles_for (c scheme).kind (parameters_of (under scheme job).config) job.config.cuts k ≤ job.config.limit)
    → HasEndOf (left_alone i.program k) a

-- a file that is to be made is put, unless memory ran out
abbrev pub MakeCompletes : List (List ℕ) → Outside → Outside → Answer → Type 0
MakeCompletes words before after a =
    (n : ℕ) (name : List ℕ) → settings_of words ≡ Ok (make n name) → IsCalm before after
    → (a.status ≡ 0) ⊎ (a.status ≡ 9)
