-- Log, engine and boot of a redo journal that a test drives, and the NVM below them.
use Rattle.std.specs.Prelude.{◌≡◌, ℕ, false, [], length}
use Rattle.thy_block.specs.declared.parameters.Parameters.{Parameters}
use Rattle.thy_block.specs.Device.{Device}
use Rattle.thy_block.specs.Geometry.{memory_blocks}
use Rattle.thy_block.specs.Places.{dram_blocks}
use Rattle.thy_isa.specs.Step.{State as Plain}
use Rattle.thy_checkpoint.specs.Boot.{Booting, IsBoot}
use Rattle.thy_checkpoint.specs.Start.{CanStart}
use Rattle.thy_checkpoint.specs.Steps.{CanStep}
use Rattle.thy_images.specs.JournalPlaces.{image_blocks}
use Rattle.thy_computer.specs.declared.round.Round.{Round}
use Rattle.thy_checkpoint.specs.declared.engine_stage.EngineStage.TheVariants.{InRound}
use Rattle.thy_checkpoint.specs.Progress.{Progress, Fits}
use Rattle.thy_journal_parts.specs.Design.{items_journal}
use Rattle.thy_journal_parts.specs.State.{State}
use Rattle.thy_journal_parts.specs.Filling.{filling_journal}
use Rattle.thy_machine_tests.specs.Least.{all, HasRoom, Off}

-- both devices have the sizes of the least memory; the NVM is up, with nothing queued
pub record IsOff (m : Off) : Type 0 where
  pub blocks : memory_blocks m.p ≡ all
  pub dram : length m.dram.blocks ≡ dram_blocks m.p
  pub sized : length m.nvm.image ≡ image_blocks m.p
  pub settled : m.nvm.queue ≡ []
  pub up : m.nvm.down ≡ false
  pub room : HasRoom m.nvm m.cuts

-- a boot may take a step, with this start
pub record Boots (s : Plain) (n : Device) (b : Booting) (c : State) : Type 0 where
  pub start : CanStart b.p s
  pub up : n.down ≡ false
  pub same_p : c.p ≡ b.p
  pub fits : IsBoot filling_journal b
  pub may : CanStep filling_journal s n b c

-- an engine with nothing to do, or with the first position of its tail
pub record IsBegun (p : Parameters) (e : Progress) : Type 0 where
  pub same_p : e.p ≡ p
  pub no_round : (r : Round) → e.stage ≡ InRound r → ⊥

-- a machine of the test after its boot: log, engine and NVM
pub record Parts : Type 0 where
  pub p : Parameters
  pub log : State
  pub engine : Progress
  pub nvm : Device
  pub cuts : ℕ

abbrev pub parts : Parameters → State → Progress → Device → ℕ → Parts
parts p s e n cuts = record { p = p; log = s; engine = e; nvm = n; cuts = cuts }

-- log, engine and NVM are of one geometry, and the NVM is up
pub record AreParts (m : Parts) : Type 0 where
  pub log_p : m.log.p ≡ m.p
  pub fits : Fits filling_journal items_journal m.engine m.log
  pub blocks : memory_blocks m.p ≡ all
  pub sized : length m.nvm.image ≡ image_blocks m.p
  pub up : m.nvm.down ≡ false
  pub room : HasRoom m.nvm m.cuts
