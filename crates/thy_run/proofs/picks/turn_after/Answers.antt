use Rattle.std.proofs.Common.{ℕ, ◌+◌, ◌%◌, ◌∙◌, ap}
use Rattle.thy_block.specs.declared.mix.Mix.TheVariants.{InTurn}
use Rattle.thy_block.specs.Mix.{pick_of_four, pick_of_five}
use Rattle.thy_run.proofs.PicksLemmas.{turn_of_four, turn_of_five}
use Rattle.thy_run.proofs.picks.turn_after.Goals as goal

pub returns-then-harts-eq1 : goal.returns-then-harts-eq1
returns-then-harts-eq1 c =
    ap InTurn c.at_four.ensures ∙ ap (λ (n : ℕ). InTurn (pick_of_four ((n + c.args.picks) % 4))) c.place_of_four.ensures.place
    ∙ turn_of_four c.args.harts c.args.picks c.args.turn c.if-harts-eq1.true c.requires.some

pub returns-else-harts-eq1 : goal.returns-else-harts-eq1
returns-else-harts-eq1 c =
    ap InTurn c.at_five.ensures ∙ ap (λ (n : ℕ). InTurn (pick_of_five n)) c.wrapped.ensures.place
    ∙ ap (λ (n : ℕ). InTurn (pick_of_five ((n + c.args.picks) % 5))) c.place_of_five.ensures.place
    ∙ turn_of_five c.args.harts c.args.picks c.args.turn c.if-harts-eq1.false c.requires.some
