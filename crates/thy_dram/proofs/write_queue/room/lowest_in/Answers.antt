use Rattle.std.proofs.Common.{sym, subst}
use Rattle.std.specs.Prelude.{None}
use Rattle.thy_dram.specs.Held.{queued_in}
use Rattle.thy_dram.specs.Lowest.{IsLowestOf, lowest_over}
use Rattle.thy_dram.proofs.LowestLemmas.{IsLowestOf-all}
use Rattle.thy_dram.proofs.write_queue.room.lowest_in.Goals as goal

pub returns-in-Some : goal.returns-in-Some
returns-in-Some c =
    let found = IsLowestOf-all c.in-Some.queue.items c.args.from in
    subst (λ x. IsLowestOf (queued_in c.args.queue.now) c.args.from x) (sym c.lowest_queued.ensures)
    (subst (λ q. IsLowestOf (queued_in q) c.args.from (lowest_over c.args.from None c.in-Some.queue.items)) (sym c.in-Some.is) found)
