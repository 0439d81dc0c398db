-- What the observed run begins with.
use Rattle.std.specs.Prelude.{◌≡◌, Bool, false, is_some, Option, Some, None}
use Rattle.std.specs.Borrow.{Bor}
use Rattle.thy_block.specs.Bytes.{bytes_of}
use Rattle.thy_base.specs.Config.{parameters_of}
use Rattle.thy_block.specs.Outside.{Stock}
use Rattle.thy_isa.specs.Step.{state_of}
use Rattle.thy_computer.specs.Origin.{Origin}
use Rattle.thy_base.specs.declared.arguments.words.Job.{Job as JobStruct}
use Rattle.thy_base.specs.Settings.{Job, Order, run, resume, bench, job_of}
use Rattle.thy_outcome.specs.declared.refusal.Refusal.{Refusal}
use Rattle.thy_outcome.specs.declared.source.ProgramSource.{ProgramSource as SourceValue}
use Rattle.thy_outcome.specs.Kept.{named}
use Rattle.thy_outcome.specs.Sources.{ProgramSource, file, made, image, IsProgram, ProgramDue, origin_for}
use Rattle.observe.specs.declared.beginning.Begun.{Begun}

-- the source of an order's program and its job, if the order runs the machine once
abbrev pub run_in : Order → Option (ProgramSource × Job)
run_in (run name job) = Some (file name, job)
run_in (resume name job) = Some (image name, job)
run_in (bench n job) = Some (made n, job)
run_in order = None

-- an order runs the machine once, if there is an order
abbrev pub has_run : Option Order → Bool
has_run None = false
has_run (Some order) = is_some (run_in order)

-- a source and a job, as the program has them
abbrev pub run_of : SourceValue × Bor JobStruct → ProgramSource × Job
run_of p = (named p.0, job_of p.1.now)

-- the program of an order's run
pub record IsProgramOf (order : Order) (shelf : Stock) : Type 0 where
  pub source : ProgramSource
  pub job : Job
  pub runs : run_in order ≡ Some (source, job)
  pub program : IsProgram source job shelf

-- the origin of an order's run, without its turns
abbrev pub origin_of : {order : Order} {shelf : Stock} → IsProgramOf order shelf → Origin
origin_of p = origin_for p.job p.program.begins p.program.input

-- what a run begins with is a job's program
pub record IsBegun (source : ProgramSource) (job : Job) (shelf : Stock) (b : Begun) : Type 0 where
  pub program : IsProgram source job shelf
  pub state : state_of b.start.state ≡ program.begins.start
  pub input : bytes_of b.start.input ≡ program.input
  pub geometry : b.geometry ≡ parameters_of job.config

-- what a run begins with is an order's program
pub record IsBegunBy (order : Order) (shelf : Stock) (b : Begun) : Type 0 where
  pub source : ProgramSource
  pub job : Job
  pub runs : run_in order ≡ Some (source, job)
  pub begun : IsBegun source job shelf b

-- why an order's run has no program
pub record IsUnreadBy (order : Order) (old new : Stock) (r : Refusal) : Type 0 where
  pub source : ProgramSource
  pub job : Job
  pub runs : run_in order ≡ Some (source, job)
  pub due : ProgramDue source job old new r

-- an order's run begins with this, if there is an order
abbrev pub IsBegunOf : Option Order → Stock → Begun → Type 0
IsBegunOf None shelf b = ⊥
IsBegunOf (Some order) shelf b = IsBegunBy order shelf b

abbrev pub IsUnreadOf : Option Order → Stock → Stock → Refusal → Type 0
IsUnreadOf None old new r = ⊥
IsUnreadOf (Some order) old new r = IsUnreadBy order old new r
