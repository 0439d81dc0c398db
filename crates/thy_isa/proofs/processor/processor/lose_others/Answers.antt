use Rattle.thy_isa.proofs.BankLaws.{written_by-none}
use Rattle.thy_isa.proofs.processor.processor.lose_others.Goals as goal

pub returns-else-is_some_reserving : goal.returns-else-is_some_reserving
returns-else-is_some_reserving c =
    let at = c.args.at in
    let len = c.args.len in
    written_by-none at len c.args.own c.args.banks.now (c.is_some_reserving.ensures at len c.if-is_some_reserving.false)
