use Rattle.std.proofs.Common.{◌++◌}
use Rattle.std.specs.Prelude.{codes}
use Rattle.std.specs.Fmt.{decimal}
use Rattle.thy_text.proofs.HartLines.{wrote-with}
use Rattle.thy_text.proofs.line.write_epoch_end.Goals as goal

pub returns-in-Length : goal.returns-in-Length
returns-in-Length g c =
    rw c.in-Length.is (wrote-with _ _ _
    (λ end. codes "epoch " ++ (decimal c.args.epoch ++ (codes " ends at " ++ (decimal c.args.count ++ (codes " by " ++ (codes "length" ++ end))))))
    _ _ c.hart_parts.ensures c.write_pieces.ensures)

pub returns-in-Exhausted : goal.returns-in-Exhausted
returns-in-Exhausted g c =
    let free = c.in-Exhausted.free in
    let dirty = c.in-Exhausted.dirty in
    let need = c.in-Exhausted.need in
    rw c.in-Exhausted.is (wrote-with _ _ _
    (λ end. codes "epoch " ++ (decimal c.args.epoch ++ (codes " ends at " ++ (decimal c.args.count ++ (codes " by "
    ++ (codes "exhausted " ++ (decimal free ++ (codes " " ++ (decimal dirty ++ (codes " " ++ (decimal need ++ end)))))))))))
    _ _ c.hart_parts.ensures c.write_pieces-in-Exhausted.ensures)

pub returns-in-Ended : goal.returns-in-Ended
returns-in-Ended g c =
    rw c.in-Ended.is (wrote-with _ _ _
    (λ end. codes "epoch " ++ (decimal c.args.epoch ++ (codes " ends at " ++ (decimal c.args.count ++ (codes " by " ++ (codes "end" ++ end))))))
    _ _ c.hart_parts.ensures c.write_pieces-in-Ended.ensures)
