use Rattle.std.proofs.Common.{◌<◌, length, subst}
use Rattle.std.specs.Prelude.{IfSome}
use Rattle.thy_dram.specs.Held.{Held, queued_in}
use Rattle.thy_dram.proofs.LowestLemmas.{IsLowestOf-inside}
use Rattle.thy_dram.proofs.write_queue.ring.Ring.next_queued.Goals as goal

pub returns-clause-place : goal.returns-clause-place
returns-clause-place c =
    subst (λ (h : Held). IfSome c.lowest_in.result (λ x. x < length h.image)) c.self.view_is
    (IsLowestOf-inside (queued_in c.self.inside.queue)
    (length c.self.inside.image.items) c.args.from c.lowest_in.result c.self.invariant.placed c.lowest_in.ensures)
