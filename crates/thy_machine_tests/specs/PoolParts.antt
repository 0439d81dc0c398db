-- Pool, engine and boot of shadow paging that a test drives, and the NVM below them.
use Rattle.std.specs.Prelude.{◌≡◌, ℕ, false, [], length}
use Rattle.thy_block.specs.declared.parameters.Parameters.{Parameters}
use Rattle.thy_block.specs.Device.{Device}
use Rattle.thy_block.specs.Geometry.{memory_blocks}
use Rattle.thy_block.specs.Places.{dram_blocks}
use Rattle.thy_isa.specs.Step.{State as Plain}
use Rattle.thy_checkpoint.specs.Boot.{Booting, IsBoot}
use Rattle.thy_checkpoint.specs.Start.{CanStart}
use Rattle.thy_checkpoint.specs.Steps.{CanStep}
use Rattle.thy_images.specs.ShadowPlaces.{image_blocks}
use Rattle.thy_checkpoint.specs.Progress.{Progress, Fits}
use Rattle.thy_shadow_parts.specs.State.{State}
use Rattle.thy_shadow_parts.specs.Filling.{filling_shadow}
use Rattle.thy_shadow_parts.specs.Design.{items_shadow}
use Rattle.thy_machine_tests.specs.Least.{all, HasRoom, Off}

-- both devices have the sizes of the least memory; the NVM is up, with nothing queued
pub record IsOff (m : Off) : Type 0 where
  pub blocks : memory_blocks m.p ≡ all
  pub dram : length m.dram.blocks ≡ dram_blocks m.p
  pub sized : length m.nvm.image ≡ image_blocks m.p
  pub settled : m.nvm.queue ≡ []
  pub up : m.nvm.down ≡ false
  pub room : HasRoom m.nvm m.cuts

-- a boot may take a step, with this start
pub record Boots (s : Plain) (n : Device) (b : Booting) (c : State) : Type 0 where
  pub start : CanStart b.p s
  pub up : n.down ≡ false
  pub same_p : c.p ≡ b.p
  pub fits : IsBoot filling_shadow b
  pub may : CanStep filling_shadow s n b c

-- a machine of the test after its boot: pool, engine and NVM
pub record Parts : Type 0 where
  pub p : Parameters
  pub pool : State
  pub engine : Progress
  pub nvm : Device
  pub cuts : ℕ

abbrev pub parts : Parameters → State → Progress → Device → ℕ → Parts
parts p s e n cuts = record { p = p; pool = s; engine = e; nvm = n; cuts = cuts }

-- pool, engine and NVM are of one geometry, and the NVM is up
pub record AreParts (m : Parts) : Type 0 where
  pub pool_p : m.pool.p ≡ m.p
  pub fits : Fits filling_shadow items_shadow m.engine m.pool
  pub blocks : memory_blocks m.p ≡ all
  pub sized : length m.nvm.image ≡ image_blocks m.p
  pub up : m.nvm.down ≡ false
  pub room : HasRoom m.nvm m.cuts
