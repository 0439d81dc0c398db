-- What the program keeps of a job: the source of its program, and the plan of its run.
use Rattle.std.specs.Prelude.{◌≡◌, ℕ, ◌<◌, List, length, Option}
use Rattle.thy_block.specs.declared.block.Block.{Block}
use Rattle.thy_block.specs.declared.nvm.FitError.{FitError}
use Rattle.thy_block.specs.declared.nvm.Shape.{Shape}
use Rattle.thy_block.specs.Device.{Device, HasFailedToFit, fitted}
use Rattle.thy_block.specs.Outside.{Stock}
use Rattle.thy_run.specs.Every.{every_of}
use Rattle.thy_run.specs.Cuts.{cuts_among}
use Rattle.thy_run.specs.Going.{origin_of, IsPlanned}
use Rattle.thy_run.specs.declared.plan.Plan.{Plan}
use Rattle.thy_run.specs.Watching.{Taken}
use Rattle.thy_text.specs.Event.{Event}
use Rattle.thy_computer.specs.Kind.{KindOf}
use Rattle.thy_base.specs.Settings.{Job}
use Rattle.thy_outcome.specs.declared.answer.Ran.{Ran}
use Rattle.thy_outcome.specs.Answering.{Outside, with_device, shape_for, IsRunOf, IsRunOverOf}
use Rattle.thy_outcome.specs.Watching.{HasSeenOf, HasSeenOver}
use Rattle.thy_outcome.specs.Sources.{ProgramSource, image, IsProgram, origin_for}
use Rattle.thy_outcome.specs.Kept.{answer_of}
use Rattle.thy_files.specs.Beginnings.{begun_with, Fits}

-- a plan can be run over a device with these first blocks
pub record CanRun (p : Plan) (blocks : List Block) : Type 0 where
  pub planned : IsPlanned p
  pub fits : Fits p.geometry (begun_with p.start blocks)

-- after a run the device has room for one more image; it has an image of each cut reported, and its blocks
pub record HasRoom (n : Device) (events : List Event) (blocks : ℕ) : Type 0 where
  pub room : length n.left < n.left_room
  pub cuts : length n.left ≡ length (cuts_among events)
  pub whole : length n.image ≡ blocks

-- a plan is a job's: its run begins with what the bytes of a source mean
pub record IsPlanOf (source : ProgramSource) (job : Job) (stock : Stock) (p : Plan) (blocks : List Block) : Type 0 where
  pub config : p.config ≡ job.config
  pub digest : p.digest ≡ job.digest
  pub program : IsProgram source job stock
  pub origin : origin_of p ≡ origin_for job program.begins program.input
  pub over : blocks ≡ program.begins.blocks

-- the shape that the device of a plan's machine is fitted with
abbrev pub shape_of : {M : Type 0} → KindOf M → Plan → Shape
shape_of K p = record { blocks = K.blocks p.geometry; queue = p.geometry.nvmq; cuts = length p.config.cuts }

-- a device has the same number of blocks as before, is reached by the same loans, and moves a block after the same number of writes
-- if it levels
pub record HasStayed (old new : Device) : Type 0 where
  pub blocks : length new.image ≡ length old.image
  pub lent : new.lent ≡ old.lent
  pub every : every_of new.wear ≡ every_of old.wear

-- ---- runs of a plan

-- the device was not fitted, for this reason, and nothing else was done
pub record IsUnfitted (e : FitError) (before after : Outside) : Type 0 where
  pub failed : HasFailedToFit e before.device after.device
  pub shelf : after.shelf ≡ before.shelf
  pub terminal : after.terminal ≡ before.terminal
  pub report : after.report ≡ before.report

-- What a run of a plan, over a device that was fitted, is to a job that it is the plan of, whatever device was fitted; and
-- what an observer has seen of it.
abbrev pub RunsFitted : {M O : Type 0} → KindOf M → (O → List Taken → Type 0) → ProgramSource → Option (List ℕ) → Plan
    → Outside → Outside → Ran → O → Type 0
RunsFitted K has_seen source save p before after ran observer =
    (job : Job) (blocks : List Block) (found : Device) → job.save ≡ save → (h : IsPlanOf source job before.shelf p blocks)
    → before.device ≡ fitted (shape_for K job.config) blocks found
    → (r : IsRunOf K source job (with_device found before) h.program after (answer_of ran))
    × (r.ending.stop ≡ ran.stop)
    × HasSeenOf K has_seen source job (with_device found before) h.program after (answer_of ran) r observer

-- a run of a program over the device that it sees, and what an observer has seen of it
abbrev pub RunOverSeen : {M O : Type 0} (K : KindOf M) (has_seen : O → List Taken → Type 0) (source : ProgramSource) (job : Job)
    (before : Outside) → IsProgram source job before.shelf → Outside → Ran → O → Type 0
RunOverSeen K has_seen source job before program after ran observer =
    (r : IsRunOverOf K source job before program after (answer_of ran))
    × (r.seen.ending.stop ≡ ran.stop)
    × HasSeenOver K has_seen source job before program after (answer_of ran) r observer

-- what a run of a plan is to a job that it is the plan of, and what an observer has seen of it
abbrev pub RunsPlan : {M O : Type 0} → KindOf M → (O → List Taken → Type 0) → ProgramSource → Option (List ℕ) → Plan → List Block
    → Outside → Outside → Ran → O → Type 0
RunsPlan K has_seen source save p blocks before after ran observer =
    (job : Job) → job.save ≡ save → (h : IsPlanOf source job before.shelf p blocks)
    → RunOverSeen K has_seen source job before h.program after ran observer
