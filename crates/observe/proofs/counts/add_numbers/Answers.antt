use Rattle.std.proofs.Common.{◌++◌, string_bytes, arith}
use Rattle.std.specs.Fmt.{decimal}
use Rattle.observe.specs.CountText.{tab}
use Rattle.observe.proofs.CountLemmas.{line-more}
use Rattle.observe.proofs.counts.add_numbers.Goals as goal

pub loop-number-preserved : goal.loop-number-preserved
loop-number-preserved c =
    line-more (λ n. tab ++ decimal n) (string_bytes c.args.text.now) (string_bytes c.loop-number.text) (string_bytes c.add_number.new.text)
    c.args.numbers.now c.loop-number.number-index _ (omega arith) c.loop-number.invariant c.in_ok-add_number.ensures
