use Rattle.std.proofs.Common.{rules}
use Rattle.thy_text.proofs.Taking.{Took-more, TookPart-at}
use Rattle.thy_text.proofs.piece.write_each.Goals as goal

pub loop-piece-preserved : goal.loop-piece-preserved
loop-piece-preserved g c =
    Took-more _ _ _ _ _ _ _ c.loop-piece-test.true c.loop-piece.invariant c.in_ok-write_piece.ensures.whole

pub returns-in_err-write_piece : goal.returns-in_err-write_piece
returns-in_err-write_piece g c =
    let at = TookPart-at _ _ _ _ _ _ _ c.loop-piece-test.true c.loop-piece.invariant c.in_err-write_piece.ensures.failed in
    record { whole = search rules; failed = search (rules, at) }
