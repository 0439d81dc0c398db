-- From a saved image to the beginning of a run.
use Rattle.std.specs.Prelude.{◌≡◌, ℕ, ◌^◌, List, Some, Ok}
use Rattle.thy_block.specs.declared.block.Block.{Block}
use Rattle.thy_block.specs.declared.parameters.Parameters.{Parameters}
use Rattle.thy_block.specs.Bytes.{bytes_of}
use Rattle.thy_block.specs.Marks.{mark}
use Rattle.thy_isa.specs.Step.{state_of}
use Rattle.thy_layout.specs.declared.found.Found.TheVariants.{At as FoundAt}
use Rattle.thy_layout.specs.Decoded.{At}
use Rattle.thy_layout.specs.Files.{blocks_of, found_in}
use Rattle.thy_outcome.specs.Meaning.{decode_of, blocks_of_image, decode_bytes}
use Rattle.thy_computer.specs.Kind.{KindOf}
use Rattle.thy_files.specs.declared.restoring.Beginning.{Beginning}

-- a check of these bytes has found the checkpoint of this epoch, with epochs and counts below 2^62
pub record IsFoundAt (p : Parameters) (bytes : List ℕ) (epoch : ℕ) : Type 0 where
  pub found : found_in (decode_bytes p (2 ^ 62) bytes) ≡ Ok (FoundAt epoch)

-- a beginning continues from the checkpoint in these bytes, over their blocks, with this input
pub record IsRestored (p : Parameters) (bytes input : List ℕ) (epoch : ℕ) (b : Beginning) : Type 0 where
  pub decodes : decode_bytes p (2 ^ 62) bytes ≡ At epoch (state_of b.start.state)
  pub kept : b.start.kept ≡ Some (mark epoch b.start.state.count)
  pub reads : bytes_of b.start.input ≡ input
  pub blocks : b.blocks.items ≡ blocks_of bytes

-- with these parameters the NVM of these machines has the layout of image files, by the scheme which the parameters
-- name
pub record ReadsFiles {M : Type 0} (K : KindOf M) (p : Parameters) : Type 0 where
  pub decode : (ceiling : ℕ) (image : List Block) → K.decode p ceiling image ≡ decode_of p ceiling image
  pub blocks : K.blocks p ≡ blocks_of_image p
