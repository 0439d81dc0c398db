-- A schedule after picks that nobody asks for.
use Rattle.std.specs.Prelude.{ℕ, zero, suc}
use Rattle.thy_block.specs.declared.mix.Mix.{Mix}
use Rattle.thy_block.specs.declared.mix.Pick.{Pick}
use Rattle.thy_block.specs.declared.mix.Pick.TheVariants.{Hart, Second, Engine, NvmDrain, DramDrain}
use Rattle.thy_block.specs.Mix.{mix_next}

-- a schedule after this many picks
abbrev pub after_picks : ℕ → ℕ → Mix → Mix
after_picks harts zero mix = mix
after_picks harts (suc k) mix = mix_next harts (after_picks harts k mix)

-- the position of an actor among four, with one hart: what follows hart 1 is what follows hart 0
abbrev pub place_of_four : Pick → ℕ
place_of_four Hart = 0
place_of_four Second = 0
place_of_four Engine = 1
place_of_four NvmDrain = 2
place_of_four DramDrain = 3

-- its position among five, with two
abbrev pub place_of_five : Pick → ℕ
place_of_five Hart = 0
place_of_five Second = 1
place_of_five Engine = 2
place_of_five NvmDrain = 3
place_of_five DramDrain = 4
