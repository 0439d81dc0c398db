-- Part of the claim.
-- The picks of a schedule.
use Rattle.std.specs.Prelude.{ℕ, ◌%◌, ◌==◌, if◌then◌else◌}
use Rattle.thy_block.specs.declared.mix.Mix.{Mix}
use Rattle.thy_block.specs.declared.mix.Mix.TheVariants.{InTurn, Drawn}
use Rattle.thy_block.specs.declared.mix.Pick.{Pick}
use Rattle.thy_block.specs.declared.mix.Pick.TheVariants.{Hart, Second, Engine, NvmDrain, DramDrain}
use Rattle.thy_block.specs.Lcg.{lcg_next, lcg_draw}

-- the actors in turn; hart 1 follows hart 0 if there are two
abbrev pub after_pick : ℕ → Pick → Pick
after_pick harts Hart = if harts == 1 then Engine else Second
after_pick harts Second = Engine
after_pick harts Engine = NvmDrain
after_pick harts NvmDrain = DramDrain
after_pick harts DramDrain = Hart

-- the actor at a position from 0 to 3, with one hart
abbrev pub pick_of_four : ℕ → Pick
pick_of_four n = if n == 0 then Hart else if n == 1 then Engine else if n == 2 then NvmDrain else DramDrain

-- the actor at a position from 0 to 4, with two harts
abbrev pub pick_of_five : ℕ → Pick
pick_of_five n =
    if n == 0 then Hart
    else if n == 1 then Second
    else if n == 2 then Engine
    else if n == 3 then NvmDrain
    else DramDrain

-- the actor that a draw names
abbrev pub pick_of : ℕ → ℕ → Pick
pick_of harts draw = if harts == 1 then pick_of_four (draw % 4) else pick_of_five (draw % 5)

-- the schedule of a seed
abbrev pub mix_start : ℕ → Mix
mix_start seed = if seed == 0 then InTurn Hart else Drawn seed

-- the next pick of a schedule, for one hart or two
abbrev pub mix_pick : ℕ → Mix → Pick
mix_pick harts (InTurn pick) = pick
mix_pick harts (Drawn state) = pick_of harts (lcg_draw (lcg_next state))

-- a schedule after its next pick
abbrev pub mix_next : ℕ → Mix → Mix
mix_next harts (InTurn pick) = InTurn (after_pick harts pick)
mix_next harts (Drawn state) = Drawn (lcg_next state)
