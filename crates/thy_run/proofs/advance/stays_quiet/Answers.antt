use Rattle.std.proofs.lemmas.Bool.{lt-ltb}
use Rattle.thy_run.proofs.advance.stays_quiet.Goals as goal

-- below that cycle each is quiet
pub returns-then-cycle-below : goal.returns-then-cycle-below
returns-then-cycle-below g c = λ a.
    (λ _. c.requires a c.args.cycle c.if-cycle-below.true, λ _. lt-ltb c.args.cycle c.args.below c.if-cycle-below.true)
