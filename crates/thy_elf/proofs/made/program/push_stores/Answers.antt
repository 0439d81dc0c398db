use Rattle.std.proofs.Common.{◌≡◌, arith}
use Rattle.thy_elf.proofs.ProgramLemmas.{all_stay, all_are_there}
use Rattle.thy_elf.proofs.made.program.push_stores.Goals as goal

pub loop-store-preserved : goal.loop-store-preserved
loop-store-preserved c =
    all_stay 2000 c.loop-store._store _ _ _ _ _ _ _ c.loop-store-test.true c.next.ensures.state c.next.ensures.draw c.store.ensures
    c.in_ok-push_all.ensures c.loop-store.invariant

pub returns : goal.returns
returns c =
    let end : c.loop-store._store ≡ 2000 = omega arith in
    all_are_there 2000 c.loop-store._store _ _ _ end c.loop-store.invariant
