-- What a call keeps of the versions of all blocks.
use Rattle.std.specs.Prelude.{◌≡◌, ◌≢◌, ℕ, ◌<◌}
use Rattle.thy_block.specs.declared.block.Block.{Block}
use Rattle.thy_block.specs.declared.store.Stored.{Stored}
use Rattle.thy_block.specs.declared.store.Stored.TheVariants.{Done, CopyFirst}
use Rattle.thy_block.specs.Device.{Device}
use Rattle.thy_block.specs.Geometry.{memory_blocks}
use Rattle.thy_control.specs.State.{State, penult_of, last_of, work_of}
use Rattle.thy_control.specs.Stays.{HoldAll}

-- both checkpoints have every block as before
pub record KeepsCheckpoints (s : State) (m : Device) (t : State) (n : Device) : Type 0 where
  pub penult_same : (b : ℕ) → b < memory_blocks s.p → penult_of t n b ≡ penult_of s m b
  pub last_same : (b : ℕ) → b < memory_blocks s.p → last_of t n b ≡ last_of s m b

-- the committed checkpoint has every block as before
pub record KeepsCommitted (s : State) (m : Device) (t : State) (n : Device) : Type 0 where
  pub penult_same : (b : ℕ) → b < memory_blocks s.p → penult_of t n b ≡ penult_of s m b

-- a load of every block gives the same as before
pub record KeepsWork (s : State) (m : Device) (t : State) (n : Device) : Type 0 where
  pub work_same : (b : ℕ) → b < memory_blocks s.p → work_of t n b ≡ work_of s m b

-- both checkpoints and what a load gives are as before; the frames and targets hold what they have to, if they did
pub record KeepsAll (s : State) (m : Device) (t : State) (n : Device) : Type 0 where
  pub checkpoints : KeepsCheckpoints s m t n
  pub work : KeepsWork s m t n
  pub holds : HoldAll s m → HoldAll t n

-- what a load of block b gives after its store: the block that was stored, or as before if a copy came first
abbrev pub work_given : Stored → Block → Block → Block
work_given Done block before = block
work_given CopyFirst block before = before

-- a load of block b gives that, and of every other block what it gave
pub record PutsWork (answer : Stored) (b : ℕ) (block : Block) (s : State) (m : Device) (t : State) (n : Device) : Type 0 where
  pub work_here : work_of t n b ≡ work_given answer block (work_of s m b)
  pub work_others : (k : ℕ) → k < memory_blocks s.p → k ≢ b → work_of t n k ≡ work_of s m k
