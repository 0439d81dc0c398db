use Rattle.std.proofs.Common.{length, sym, ◌∙◌, arith}
use Rattle.thy_isa.proofs.BlockLaws.{fetch_inside}
use Rattle.thy_observe.proofs.trap.fetched_word.Goals as goal

pub overflow_sub-at : goal.overflow_sub-at
overflow_sub-at c =
    let fetched = fetch_inside c.args.base (length c.args.memory.now) c.args.pc (sym c.fetch_fault.ensures ∙ c.in-None.is) in
    fetched.0

pub word-requires : goal.word-requires
word-requires c =
    let fetched = fetch_inside c.args.base (length c.args.memory.now) c.args.pc (sym c.fetch_fault.ensures ∙ c.in-None.is) in
    omega (arith, fetched.0, fetched.1)
