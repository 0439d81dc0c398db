use Rattle.std.proofs.Common.{ℕ, List, ◌++◌, ap, ◌∙◌, string_bytes, arith}
use Rattle.observe.specs.CountText.{cause_name, tab}
use Rattle.observe.proofs.CountLemmas.{line-more}
use Rattle.observe.proofs.counts.add_names.Goals as goal

pub loop-cause-preserved : goal.loop-cause-preserved
loop-cause-preserved c =
    line-more (λ x. tab ++ cause_name x) (string_bytes c.args.text.now) (string_bytes c.loop-cause.text) (string_bytes c.add_name.new.text)
    c.args.causes.now c.loop-cause.cause-index _ (omega arith) c.loop-cause.invariant
    (c.in_ok-add_name.ensures ∙ ap (λ (name : List ℕ). string_bytes c.loop-cause.text ++ (tab ++ name)) c.name_of.ensures)
