use Rattle.std.proofs.Common.{rules, ◌≡◌, ◌<◌, length, refl, ap, ◌∙◌, arith}
use Rattle.thy_isa.specs.Processor.{losing}
use Rattle.thy_isa.proofs.BankLaws.{changed_to, losing-is, changed-put, changed-all, length-changed, put-back}
use Rattle.thy_isa.proofs.processor.processor.lose_each.Goals as goal

pub loop-k-init : goal.loop-k-init
unfolding changed_to
loop-k-init c = refl

pub loop-k-preserved : goal.loop-k-preserved
loop-k-preserved c =
    let f = losing c.args.at c.args.len in
    let below : c.loop-k.k < length c.args.banks.now = search rules in
    let same : length c.loop-k.banks ≡ length c.args.banks.now = ap length c.loop-k.invariant ∙ length-changed f c.loop-k.k c.args.banks.now in
    changed-put f c.loop-k.k c.args.banks.now c.loop-k.banks _ c.loop-k.invariant below
    (losing-is c.args.at c.args.len c.loop-k.k c.loop-k.banks _ _ c.left_by.result (omega (arith, same, below)) c.left_by.ensures)

pub returns : goal.returns
returns c =
    let f = losing c.args.at c.args.len in
    let all : c.loop-k.k ≡ length c.args.banks.now = search rules in
    put-back c.args.at c.args.len c.args.own c.args.banks.now c.loop-k.banks _ _
    (c.loop-k.invariant ∙ ap (λ n. changed_to f n c.args.banks.now) all ∙ changed-all f c.args.banks.now) c.requires
