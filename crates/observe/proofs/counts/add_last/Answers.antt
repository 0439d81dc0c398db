use Rattle.std.proofs.Common.{string_bytes}
use Rattle.observe.proofs.CountLemmas.{last-if, no-last}
use Rattle.observe.proofs.counts.add_last.Goals as goal

pub returns-in-None : goal.returns-in-None
returns-in-None c = no-last (string_bytes c.args.text.now) c.args.last c.in-None.is

pub returns-in-Some : goal.returns-in-Some
returns-in-Some c =
    last-if c.add_row.result (string_bytes c.args.text.now) (string_bytes c.add_row.new.text) c.args.last c.in-Some.row c.in-Some.is c.add_row.ensures
