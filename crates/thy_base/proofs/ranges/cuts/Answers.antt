use Rattle.std.proofs.Common.{sym, ◌≤◌, length, arith}
use Rattle.thy_base.proofs.ConfigLemmas.{fault_in-cuts}
use Rattle.thy_base.proofs.ranges.cuts.Goals as goal

pub returns : goal.returns
returns c =
    let few : length c.args.c.now.cuts ≤ 64 = rw (sym c.len-count.ensures) (omega arith) in
    rw (c.or.ensures, c.not_rising.ensures, c.as_slice.ensures, c.product.ensures, c.len-count.ensures) (sym (fault_in-cuts c.args.c.now few))
