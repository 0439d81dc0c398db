use Rattle.std.proofs.Common.{ℕ, List, ◌++◌, ap₂, ◌∙◌, string_bytes, arith}
use Rattle.thy_observe.specs.Ledgers.{count_in}
use Rattle.observe.specs.CountText.{cause_name, count_row}
use Rattle.observe.proofs.CountLemmas.{line-more}
use Rattle.observe.proofs.counts.add_lines.Goals as goal

pub loop-cause-preserved : goal.loop-cause-preserved
loop-cause-preserved c =
    line-more (λ x. count_row (cause_name x) (count_in c.args.ledger.now x)) (string_bytes c.args.text.now) (string_bytes c.loop-cause.text)
    (string_bytes c.add_count.new.text) c.args.causes.now c.loop-cause.cause-index _ (omega arith) c.loop-cause.invariant
    (c.in_ok-add_count.ensures
    ∙ ap₂ (λ (name : List ℕ) (n : ℕ). string_bytes c.loop-cause.text ++ count_row name n) c.name_of.ensures c.of.ensures.counted)
