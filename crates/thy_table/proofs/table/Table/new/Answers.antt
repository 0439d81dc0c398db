use Rattle.thy_table.proofs.IndexLemmas.{IsSoundTable-empty}
use Rattle.thy_table.proofs.LiveLemmas.{AreLiveBelow-empty}
use Rattle.thy_table.proofs.table.Table.new.Goals as goal

pub invariant_of-result : goal.invariant_of-result
invariant_of-result g c =
    rw (c.in_ok-entries.ensures, c.in_ok-leaders.ensures, c.in_ok-places.ensures)
    (IsSoundTable-empty g.E.Keyed.key c.args.size c.args.numbers c.requires, AreLiveBelow-empty c.args.size)
