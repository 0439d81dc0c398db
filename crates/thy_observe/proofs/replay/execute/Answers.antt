use Rattle.std.proofs.Common.{subst, sym, take, arith}
use Rattle.std.proofs.lemmas.List.Sums.{fold_more}
use Rattle.thy_observe.specs.Replaying.{Executed, IsReplay, listed_by, listed_of, nothing_executed}
use Rattle.thy_observe.proofs.replay.execute.Goals as goal

pub loop-dated-preserved : goal.loop-dated-preserved
loop-dated-preserved c =
    let p = c.args.geometry.now in
    let start = c.args.start.now in
    let most = c.args.most in
    let changes = c.args.listed.now in
    let i = c.loop-dated.dated-index in
    subst (λ (e : Executed). IsReplay p start e c.in_ok-replay-2.replay)
    (sym (fold_more (listed_by p start most) nothing_executed changes i _ (omega arith)))
    (c.in_ok-replay-2.ensures (listed_of p start most (take i changes)) c.loop-dated.invariant)
