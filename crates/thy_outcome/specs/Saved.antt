-- What a file that has a checkpoint is to a run that begins with it.
use Rattle.std.specs.Prelude.{◌≡◌, ℕ, ◌-◌, ◌<◌, ◌≤◌, List, ◌++◌, length, replicate}
use Rattle.std.specs.List.{All}
use Rattle.thy_block.specs.declared.block.Block.{Block}
use Rattle.thy_block.specs.declared.parameters.Parameters.{Parameters}
use Rattle.thy_block.specs.Device.{zero_block}
use Rattle.thy_block.specs.Geometry.{program_size}
use Rattle.thy_block.specs.Flat.{AllLong}
use Rattle.thy_isa.specs.Step.{State, cpu_of}
use Rattle.thy_isa.specs.Storable.{IsByte, IsStorable}
use Rattle.thy_layout.specs.Cpu.{IsRecordable}
use Rattle.thy_layout.specs.Decoded.{At}
use Rattle.thy_layout.specs.Files.{blocks_of}
use Rattle.thy_outcome.specs.Meaning.{decode_of, blocks_of_image, decode_bytes}

-- blocks with zeros after them, up to the length of an image
abbrev pub filled_up : Parameters → List Block → List Block
filled_up p blocks = blocks ++ replicate (blocks_of_image p - length blocks) zero_block

-- filled up with zeros, these blocks are an image of the checkpoint of an epoch with this state
pub record AreOfCheckpoint (p : Parameters) (ceiling epoch : ℕ) (s : State) (blocks : List Block) : Type 0 where
  pub few : length blocks ≤ blocks_of_image p
  pub long : AllLong blocks
  pub decodes : decode_of p ceiling (filled_up p blocks) ≡ At epoch s

-- a run can begin with the state of a checkpoint
pub record CanBegin (p : Parameters) (ceiling epoch : ℕ) (s : State) : Type 0 where
  pub recordable : IsRecordable p ceiling (cpu_of s)
  pub storable : IsStorable (program_size p) s
  pub below : epoch < ceiling

-- the blocks of a file with a checkpoint, filled up, are an image of it, under a higher ceiling too
abbrev pub FileIsImage : Type 0
FileIsImage =
    (p : Parameters) (low high : ℕ) (bytes : List ℕ) (epoch : ℕ) (s : State)
    → low ≤ high → decode_bytes p low bytes ≡ At epoch s → AreOfCheckpoint p high epoch s (blocks_of bytes)

-- a run can begin with the checkpoint of a file
abbrev pub CheckpointCanBegin : Type 0
CheckpointCanBegin =
    (p : Parameters) (ceiling : ℕ) (bytes : List ℕ) (epoch : ℕ) (s : State)
    → All IsByte bytes → decode_bytes p ceiling bytes ≡ At epoch s → CanBegin p ceiling epoch s
