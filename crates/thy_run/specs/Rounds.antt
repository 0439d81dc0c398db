-- The program's loop over cycles, with what its sinks take.
use Rattle.std.specs.Prelude.{◌≡◌, ℕ, ◌+◌, Bool, true, false, Option, Some, None, List, [], length}
use Rattle.thy_block.specs.declared.nvm.Shape.{Shape}
use Rattle.thy_block.specs.Device.{Device, fitted}
use Rattle.thy_block.specs.Mix.{mix_start}
use Rattle.thy_block.specs.Outside.{Stream, Took}
use Rattle.thy_block.specs.Places.{dram_blocks}
use Rattle.thy_dram.specs.Contents.{fresh}
use Rattle.thy_block.specs.declared.block.Block.{Block}
use Rattle.thy_computer.specs.Kind.{IsFittedFor, KindOf}
use Rattle.thy_text.specs.Lines.{report_of}
use Rattle.thy_run.specs.Laws.{released_of}
use Rattle.thy_run.specs.declared.advance.Outcome.{Outcome}
use Rattle.thy_run.specs.declared.advance.Outcome.TheVariants.{Goes, Cuts, Stops, Breaks}
use Rattle.thy_run.specs.declared.ending.Stop.{Stop}
use Rattle.thy_run.specs.declared.ending.Stop.TheVariants.{Terminal, Report}
use Rattle.thy_run.specs.declared.ending.Ending.{Ending}
use Rattle.thy_run.specs.declared.plan.Plan.{Plan}
use Rattle.thy_run.specs.declared.progress.Progress.{Progress}
use Rattle.thy_block.specs.declared.bytes.Bytes.{Bytes}
use Rattle.thy_block.specs.Bytes.{bytes_of, room_of}
use Rattle.thy_run.specs.Going.{origin_of, given_of, world_at, HasTurnsRoom, GoesOn, reporting_of}
use Rattle.thy_run.specs.World.{World}
use Rattle.thy_run.specs.Endings.{HasRun}

-- a sink that failed stops a run whose cycle is done
abbrev pub sink_stop : (terminal report : Bool) → Option Stop
sink_stop terminal true = Some Report
sink_stop true false = Some Terminal
sink_stop false false = None

-- a device that was fitted for a plan
pub record IsFitted {M : Type 0} (K : KindOf M) (plan : Plan) (n : Device) : Type 0 where
  pub shape : Shape
  pub start : List Block
  pub before : Device
  pub fits : IsFittedFor K (origin_of plan) shape start before
  pub queue : shape.queue ≡ plan.geometry.nvmq
  pub cuts : shape.cuts ≡ length plan.config.cuts
  pub is_fitted : n ≡ fitted shape start before

-- the run continues, and the sinks took all that they had to get so far
pub record Running {M : Type 0} (K : KindOf M) (plan : Plan) (fitted : Device) (p : Progress M) (n : Device) (cycles : ℕ)
    (turns : List ℕ) (terminal shown report read : Stream) : Type 0 where
  pub goes : GoesOn K plan fitted p n cycles turns
  pub shown_all : Took terminal shown (released_of (origin_of plan) p.events)
  pub read_all : Took report read (report_of (reporting_of plan) p.events)

-- what a run of a plan leaves
abbrev pub RunEnds : {M : Type 0} → KindOf M → Plan → Device → Device → Ending
    → Stream → Stream → Stream → Stream → Type 0
RunEnds K plan fitted new e terminal shown report read =
    HasRun K (origin_of plan) (given_of plan fitted) new e terminal shown report read

-- what a run of a plan leaves, and where it stopped
abbrev pub RunEndsAt : {M : Type 0} → KindOf M → Plan → Device → Device → Ending
    → Stream → Stream → Stream → Stream → World M → Type 0
RunEndsAt K plan fitted new e terminal shown report read last =
    (h : RunEnds K plan fitted new e terminal shown report read) × (h.stopped.last ≡ last)

-- the ending of a run that stops there
abbrev pub ending_of : {M : Type 0} → Stop → Progress M → ℕ → Ending
ending_of stop p cycles = record {
  stop = stop;
  events = p.events;
  cycles = cycles;
  terminal_failed = p.terminal_failed;
  report_failed = p.report_failed;
}

-- what a cycle came to, before which some turns were reported, and some after it
abbrev pub ComesTo : {M : Type 0} → KindOf M → Plan → Device → Progress M → Progress M → Device → Device → ℕ
    → List ℕ → List ℕ → Stream → Stream → Stream → Stream → Stream → Stream → Outcome → Type 0
ComesTo K plan fitted p next n new cycles turns after terminal showing shown report reading read Goes =
    Running K plan fitted next new (cycles + 1) after terminal shown report read
ComesTo K plan fitted p next n new cycles turns after terminal showing shown report reading read (Cuts bytes) =
    (shown ≡ showing) × (read ≡ reading)
ComesTo K plan fitted p next n new cycles turns after terminal showing shown report reading read (Stops stop) =
    RunEndsAt K plan fitted new (ending_of stop next (cycles + 1)) terminal shown report read
    (world_at next new (cycles + 1) after)
ComesTo K plan fitted p next n new cycles turns after terminal showing shown report reading read (Breaks stop) =
    RunEndsAt K plan fitted new (ending_of stop next cycles) terminal shown report read (world_at p n cycles turns)

-- a run before its first cycle, with a list for turns
abbrev pub first_progress : {M : Type 0} → Plan → M → Bytes → Progress M
first_progress plan machine turns = record {
  machine = machine;
  mix = mix_start plan.config.mix;
  events = [];
  passed = 0;
  released = 0;
  fresh = false;
  turns = turns;
  terminal_failed = false;
  report_failed = false;
}

-- no turn is listed, and with two harts there is room for the turns of an epoch
pub record IsStarted {M : Type 0} (K : KindOf M) (plan : Plan) (p : Progress M) : Type 0 where
  pub powered : K.powered plan.geometry p.machine
  pub dram : K.dram p.machine ≡ fresh (dram_blocks plan.geometry) plan.geometry.dramq
  pub first : p ≡ first_progress plan p.machine p.turns
  pub empty : bytes_of p.turns ≡ []
  pub room : HasTurnsRoom plan.geometry (room_of p.turns)
