-- What holds of every scheme when power comes on, and at the end of a boot.
use Rattle.std.specs.Prelude.{◌≡◌, ℕ, true, false, List, [], length, None}
use Rattle.thy_block.specs.declared.block.Block.{Block}
use Rattle.thy_block.specs.declared.parameters.Parameters.{Parameters}
use Rattle.thy_block.specs.Device.{Device, block_at}
use Rattle.thy_block.specs.Geometry.{IsInRange}
use Rattle.thy_block.specs.Places.{commit_place}
use Rattle.thy_dram.specs.Contents.{Contents}
use Rattle.thy_isa.specs.Step.{State}
use Rattle.thy_layout.specs.Commit.{commit_of}
use Rattle.thy_layout.specs.Layout.{slot_in}
use Rattle.thy_computer.specs.Kind.{IsDramOf}
use Rattle.thy_checkpoint.specs.Boot.{Booting, layout_in}
use Rattle.thy_checkpoint.specs.Filling.{layout_at, first_slot_of}
use Rattle.thy_checkpoint.specs.Recovers.{IsRestored}
use Rattle.thy_checkpoint.specs.Start.{CanStart}
use Rattle.thy_checkpoint.specs.Items.{Phase, Resting, phase_committed}
use Rattle.thy_scheme_parts.specs.Design.{DesignOf}
use Rattle.thy_scheme_parts.specs.Moments.{IsMoment}

-- A boot is over, and an image is kept: for any epoch it is a moment, the committed version is what is loaded, no page is open,
-- and nothing is promoted.
pub record EndsBoot {C : Type 0} (D : DesignOf C) (phase : Phase) (c : C) (n : Device) (g : List Block) : Type 0 where
  pub moment : (epoch : ℕ) → IsMoment D phase epoch c n
  pub keeps : (epoch : ℕ) → D.parts.keeps phase epoch c g
  pub committed : D.parts.committed phase c n ≡ D.filling.loads c n
  pub rests : D.parts.rests true false phase c
  pub closed : D.parts.open_page c ≡ None
  pub whole : D.parts.pages.promoting c ≡ false

pub record IsPowering {C : Type 0} (D : DesignOf C) : Type 0 where
  -- a controller whose power came on is of its geometry, over its DRAM, and lists nothing
  pub power_p : (p : Parameters) (dram : Contents) → D.filling.p (D.parts.powered p dram) ≡ p
  pub power_dram : (p : Parameters) (dram : Contents) → D.filling.dram (D.parts.powered p dram) ≡ dram
  pub power_fresh : (p : Parameters) (dram : Contents) → IsInRange p → IsDramOf p dram → D.filling.fresh (D.parts.powered p dram)
  pub fresh_sound : (c : C) → D.filling.fresh c → D.parts.sound c
  pub drained_sound : (c : C) → D.parts.sound c → D.parts.sound (D.filling.drained c)
  -- listing and filling leave the room of the DRAM's queue, and so do drains
  pub keeps_room : (c d : C) → D.filling.keeps c d → (D.filling.dram d).room ≡ (D.filling.dram c).room
  -- a checkpoint was restored: what follows the commit is still to be written
  pub restores : (c : C) (n : Device) (b : Booting)
      → D.filling.p c ≡ b.p → n.queue ≡ [] → length n.image ≡ (layout_in D.filling b).image_blocks → IsRestored D.filling n b c
      → EndsBoot D (phase_committed D.items) c n n.image
  -- a start was written, which the next image has, to a controller that lists nothing
  pub begins : (c : C) (n : Device) (g : List Block) (s : State)
      → D.filling.fresh c → n.queue ≡ [] → length n.image ≡ (layout_at D.filling (D.filling.p c)).image_blocks
      → CanStart (D.filling.p c) s → block_at g commit_place ≡ commit_of 0
      → slot_in (layout_at D.filling (D.filling.p c)) g ≡ first_slot_of D.filling (D.filling.p c) s
      → EndsBoot D Resting c n g
