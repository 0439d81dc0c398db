-- What inner images mean by their own registers, and what is seen.
use Rattle.std.specs.Prelude.{◌≡◌, ℕ, ◌-◌, ◌<◌, ◌^◌, false, List, map, length}
use Rattle.thy_block.specs.declared.block.Block.{Block}
use Rattle.thy_block.specs.Device.{Device, Crash}
use Rattle.thy_gap.specs.Lines.{moved_times, unmoved, registers_in}
use Rattle.thy_gap.specs.Seen.{unmapped}

-- the inner image means the image that is seen, if that has any blocks
abbrev pub ImageMeansSeen : Device → Device → Type 0
ImageMeansSeen inner shown = 0 < length shown.image → unmapped inner.image ≡ shown.image

-- what a cut may leave of the inner device means what a cut may leave of the device of lines
abbrev pub CrashMeansSeen : Device → Device → Type 0
CrashMeansSeen inner shown = 0 < length shown.image → (g : List Block) → Crash inner g → Crash shown (unmapped g)

-- the images that cuts left of the inner device mean those that they left of the device of lines
abbrev pub LeftMeansSeen : Device → Device → Type 0
LeftMeansSeen inner shown = 0 < length shown.image → map unmapped inner.left ≡ shown.left

-- the registers in the image of an inner device that is up are what this count of moves makes of the first ones, while the
-- count has not saturated
abbrev pub RegistersMeanMoves : Device → Device → ℕ → Type 0
RegistersMeanMoves inner shown moves =
    0 < length shown.image → inner.down ≡ false → moves < 2 ^ 64 - 1
    → registers_in inner.image ≡ moved_times moves (unmoved (length shown.image))
