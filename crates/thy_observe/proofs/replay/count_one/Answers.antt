use Rattle.std.proofs.Common.{◌≡◌, ◌+◌, ℕ, Some, cond, subst, arith}
use Rattle.std.specs.BTreeMap.{is_at}
use Rattle.std.specs.Map.{lookup}
use Rattle.std.specs.Ordering.{nat_cmp}
use Rattle.thy_observe.proofs.ReplayLemmas.{counts-one}
use Rattle.thy_observe.proofs.replay.count_one.Goals as goal

pub returns-in-Ok : goal.returns-in-Ok
returns-in-Ok c = λ pcs h.
    let old = c.args.counts.now in
    let new = c.insert.new.self in
    let pc = c.args.pc in
    let next : c.in-Some.next ≡ c.unwrap_or-count.result + 1 = omega arith in
    counts-one old new pc c.unwrap_or-count.result pcs (grind arith)
    (subst (λ (n : ℕ). (q : ℕ) → lookup (is_at (nat_cmp q)) new.entries ≡ cond (is_at (nat_cmp pc) q) (Some n) (lookup (is_at (nat_cmp q)) old.entries)) next (λ q. (c.in-Ok.ensures.updates).0 q))
    h
