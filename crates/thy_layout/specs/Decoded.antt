-- Part of the claim.
-- What an image means: nothing, a refusal, or the epoch of its checkpoint and a state.
use Rattle.std.specs.Prelude.{ℕ, List}
use Rattle.thy_block.specs.declared.block.Block.{Block}
use Rattle.thy_block.specs.declared.parameters.Parameters.{Parameters}
use Rattle.thy_isa.specs.Step.{State}
use Rattle.thy_layout.specs.declared.bad_image.BadImage.{BadImage}

pub data Decoded : Type 0 where
  -- no checkpoint was committed
  Nothing : Decoded
  -- the image is refused
  Refused : (bad : BadImage) → Decoded
  -- the epoch of the committed checkpoint, and its state
  At : (epoch : ℕ) (state : State) → Decoded

-- how images are read: for a geometry, with epochs and counts below a ceiling
abbrev pub Reading : Type 0
Reading = Parameters → ℕ → List Block → Decoded
