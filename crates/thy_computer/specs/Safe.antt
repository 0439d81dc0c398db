-- Part of the claim.
-- What a power cut may leave: an image that decodes to a mark, whole.
use Rattle.std.specs.Prelude.{◌≡◌, ◌⊎◌, ℕ, ◌^◌, List, Option, Some, None}
use Rattle.thy_block.specs.declared.block.Block.{Block}
use Rattle.thy_block.specs.Device.{Device, Crash}
use Rattle.thy_layout.specs.Decoded.{Decoded, Nothing, Refused, At, Reading}
use Rattle.thy_block.specs.declared.mark.Mark.{Mark}
use Rattle.thy_block.specs.Marks.{mark}
use Rattle.thy_computer.specs.Origin.{Origin, at}

-- epochs and counts of a run's own images are below this
abbrev pub ceiling : ℕ
ceiling = 2 ^ 63

-- what an image decodes to is one of two marks, or nothing if none is kept
abbrev pub IsOneOf : Origin → Option Mark → Option Mark → Decoded → Type 0
IsOneOf o kept sealed Nothing = kept ≡ None
IsOneOf o kept sealed (Refused bad) = ⊥
IsOneOf o kept sealed (At epoch state) =
    ((kept ≡ Some (mark epoch state.count)) ⊎ (sealed ≡ Some (mark epoch state.count))) × (state ≡ at o state.count)

-- whatever a cut leaves means one of two marks, whole
abbrev pub Safe : Reading → Origin → Option Mark → Option Mark → Device → Type 0
Safe read o kept sealed n = (g : List Block) → Crash n g → IsOneOf o kept sealed (read o.geometry ceiling g)

-- a mark that is kept and in doubt as well is kept: a checkpoint that is written again, in another form, is never in doubt
abbrev pub SameIsNoDoubt : Type 0
SameIsNoDoubt = (read : Reading) (o : Origin) (m : Mark) (n : Device) → Safe read o (Some m) (Some m) n → Safe read o (Some m) None n
