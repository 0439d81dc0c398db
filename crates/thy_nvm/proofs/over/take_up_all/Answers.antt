use Rattle.std.proofs.Common.{◌≡◌, ◌≤◌, true, length, replicate, sym, ◌∙◌, ap, arith}
use Rattle.std.proofs.lemmas.List.{take_all}
use Rattle.thy_dram.specs.Merged.{merged}
use Rattle.thy_dram.proofs.MergedLemmas.{merged-all}
use Rattle.thy_nvm.proofs.over.take_up_all.Goals as goal

pub returns-clause-image : goal.returns-clause-image
returns-clause-image c =
    let l = c.loop-at in
    let as_long : length l.marks ≡ length c.args.marks.now = l.invariant.as_long in
    let end : length l.marks ≡ l.at = omega (arith, as_long) in
    let blocks : length l.ring.image ≡ l.at = l.invariant.blocks ∙ end in
    let within : length l.marks ≤ l.at = omega (arith, end) in
    let all : l.marks ≡ replicate l.at true = sym (take_all l.at l.marks within) ∙ l.invariant.taken in
    sym (merged-all l.at l.ring.image c.args.below.now blocks)
    ∙ ap (λ ms. merged ms l.ring.image c.args.below.now) (sym all)
    ∙ l.invariant.image
