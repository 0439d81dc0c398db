use Rattle.std.proofs.Common.{rules, sym, ◌∙◌}
use Rattle.thy_text.proofs.Joining.{joined-take-more, joined-longer}
use Rattle.thy_text.proofs.piece.put_together.Goals as goal

pub loop-piece-preserved : goal.loop-piece-preserved
loop-piece-preserved c =
    c.in_ok-append.ensures.ok ∙ rw c.loop-piece.invariant (sym (joined-take-more _ _ _ _ c.loop-piece-test.true))

pub returns-in_err-append-clause-full : goal.returns-in_err-append-clause-full
returns-in_err-append-clause-full c =
    search (rules, joined-longer _ _ _ _ _ _ c.loop-piece-test.true c.loop-piece.invariant c.in_err-append.ensures.full)
