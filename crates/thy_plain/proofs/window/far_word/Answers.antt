use Rattle.std.proofs.Common.{sym, ◌∙◌, arith}
use Rattle.thy_isa.proofs.BlockLaws.{fetch_inside}
use Rattle.thy_plain.proofs.window.far_word.Goals as goal

pub overflow_sub-result : goal.overflow_sub-result
overflow_sub-result c =
    let fetched = fetch_inside c.args.base c.len-size.result c.args.pc (sym c.fetch_fault.ensures ∙ c.in-None.is) in
    fetched.0

pub returns-in-None-clause-fits : goal.returns-in-None-clause-fits
returns-in-None-clause-fits c =
    let fetched = fetch_inside c.args.base c.len-size.result c.args.pc (sym c.fetch_fault.ensures ∙ c.in-None.is) in
    omega (arith, fetched.0, fetched.1, c.len-size.ensures)
