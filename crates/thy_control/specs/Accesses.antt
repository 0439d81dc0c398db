-- What one load and one store of a block make exactly.
use Rattle.std.specs.Prelude.{◌≡◌, ℕ, false}
use Rattle.thy_block.specs.declared.block.Block.{Block}
use Rattle.thy_block.specs.declared.store.Stored.{Stored}
use Rattle.thy_block.specs.Device.{Device}
use Rattle.thy_control.specs.Rules.{rule_for, devices_after, state_after}
use Rattle.thy_control.specs.State.{State}
use Rattle.thy_control.specs.StoredTables.{answer_of}

-- a load leaves the controller, and the NVM unless it fails
pub record LeavesAll (s : State) (m : Device) (t : State) (n : Device) : Type 0 where
  pub control : t ≡ s
  pub nvm : n.down ≡ false → n ≡ m

-- a store that succeeds returns its rule's answer, and makes the tables and the one write of its rule
pub record MakesStore (b : ℕ) (block : Block) (stored : Stored) (s : State) (m : Device) (t : State) (n : Device) : Type 0 where
  pub answer : stored ≡ answer_of (rule_for b s)
  pub control : t ≡ state_after b block s m
  pub nvm : n ≡ (devices_after b block s m).nvm
