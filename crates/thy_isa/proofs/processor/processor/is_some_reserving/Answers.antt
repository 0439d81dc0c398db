use Rattle.std.proofs.Common.{rules, ◌≡◌, ◌<◌, length, refl, sym, ap, ◌∙◌}
use Rattle.thy_isa.specs.Processor.{losing}
use Rattle.thy_isa.proofs.BankLaws.{changed_to, changed-all, kept-one_more}
use Rattle.thy_isa.proofs.processor.processor.is_some_reserving.Goals as goal

pub loop-k-init : goal.loop-k-init
unfolding changed_to
loop-k-init c at len = refl

pub loop-k-preserved : goal.loop-k-preserved
loop-k-preserved c at len =
    let there : c.loop-k.k < length c.args.banks.now = search rules in
    kept-one_more at len c.loop-k.k c.args.banks.now _ there (c.loop-k.invariant at len) (c.is_reserving.ensures at len c.if-is_reserving.false)

pub returns : goal.returns
returns c at len none =
    let all : c.loop-k.k ≡ length c.args.banks.now = search rules in
    sym (ap (λ n. changed_to (losing at len) n c.args.banks.now) all ∙ changed-all (losing at len) c.args.banks.now)
    ∙ c.loop-k.invariant at len
