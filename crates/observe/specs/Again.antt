-- The run that is made once more, for the accesses of its cycles.
use Rattle.std.specs.Prelude.{◌≡◌, ◌⊎◌, ℕ, List, [], Result, Ok, Err, Some, Vec}
use Rattle.std.specs.declared.alloc.Global.{Global}
use Rattle.thy_block.specs.declared.block.Block.{Block}
use Rattle.thy_block.specs.Device.{Device, fitted}
use Rattle.thy_block.specs.Outside.{Stock, Stream}
use Rattle.thy_text.specs.declared.closing.Closing.TheVariants.{Memory as ClosingMemory}
use Rattle.thy_text.specs.Closings.{closing_of}
use Rattle.thy_base.specs.Settings.{Job, Order, run, resume, bench, compare, plain, make}
use Rattle.thy_computer.specs.Kind.{KindOf}
use Rattle.thy_run.specs.declared.plan.Plan.{Plan}
use Rattle.thy_observe.specs.declared.accesses.Accessed.{Accessed}
use Rattle.thy_observe.specs.declared.tracing.Window.{Window}
use Rattle.thy_observe.specs.Accesses.{HasAccesses}
use Rattle.thy_outcome.specs.declared.refusal.Refusal.{Refusal}
use Rattle.thy_outcome.specs.Answering.{Closes, report_of_refusal}
use Rattle.thy_outcome.specs.Machines.{Choice}
use Rattle.thy_outcome.specs.Sources.{ProgramSource, ProgramDue}
use Rattle.thy_execute.specs.Planning.{IsPlanOf, shape_of}
use Rattle.observe.specs.Beginning.{run_in}

-- a job's run has no cuts
abbrev pub IsUncutJob : Job → Type 0
IsUncutJob job = job.config.cuts ≡ []

-- an order that runs the machine once, without cuts
abbrev pub IsUncut : Order → Type 0
IsUncut (run file job) = IsUncutJob job
IsUncut (resume image job) = IsUncutJob job
IsUncut (bench n job) = IsUncutJob job
IsUncut (compare file job) = ⊥
IsUncut (plain file job) = ⊥
IsUncut (make n name) = ⊥

-- the accesses in a window of a job's run, over some device that was fitted for it
pub record AreAccessesOf {M : Type 0} (K : KindOf M) (source : ProgramSource) (job : Job) (shelf : Stock) (w : Window) (rows : List Accessed)
    : Type 0 where
  pub plan : Plan
  pub blocks : List Block
  pub device : Device
  pub is_plan : IsPlanOf source job shelf plan blocks
  pub accesses : HasAccesses K plan (fitted (shape_of K plan) blocks device) w rows

-- the program of the run could not be read, or is refused: a line says why, and what the shelf holds stays
pub record IsUnmade (source : ProgramSource) (job : Job) (old new : Stock) (before after : Stream) (status : ℕ) : Type 0 where
  pub why : Refusal
  pub due : ProgramDue source job old new why
  pub held : new.held ≡ old.held
  pub is_status : status ≡ (report_of_refusal why).0
  pub closes : Closes (report_of_refusal why).1 before after

-- memory ran out, and a line says so
pub record IsShort (old new : Stock) (before after : Stream) (status : ℕ) : Type 0 where
  pub shelf : new ≡ old
  pub is_status : status ≡ 9
  pub closes : Closes (closing_of ClosingMemory) before after

abbrev pub MakesRows : {M : Type 0} → KindOf M → ProgramSource → Job → Window → Stock → Stock → Stream → Stream
    → Result (Vec Accessed Global) ℕ → Type 0
MakesRows K source job w old new before after (Ok rows) = (new ≡ old) × (after ≡ before) × AreAccessesOf K source job old w rows.items
MakesRows K source job w old new before after (Err status) =
    IsUnmade source job old new before after status ⊎ IsShort old new before after status

-- the accesses in a window of an order's run were listed, or a line says why not
pub record MakesRowsOf (c : Choice) (order : Order) (w : Window) (old new : Stock) (before after : Stream) (result : Result (Vec Accessed Global) ℕ)
    : Type 0 where
  pub source : ProgramSource
  pub job : Job
  pub runs : run_in order ≡ Some (source, job)
  pub makes : MakesRows (c job.config.scheme).kind source job w old new before after result
