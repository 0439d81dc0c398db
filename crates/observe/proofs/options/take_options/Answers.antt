use Rattle.std.proofs.Common.{map, string_bytes, arith}
use Rattle.observe.specs.Wanting.{options_in}
use Rattle.observe.proofs.OptionLemmas.{read-none, take-all, take-more}
use Rattle.observe.proofs.options.take_options.Goals as goal

pub loop-done-preserved : goal.loop-done-preserved
loop-done-preserved c =
    take-more c.loop-done.done 12 c.loop-done.options c.in_ok-options.options (map string_bytes c.loop-done.words.items) (map string_bytes c.take_one.new.words.items)
    _ (omega arith) c.in_ok-options.ensures c.loop-done.invariant

pub returns : goal.returns
returns c = take-all c.loop-done.done 12 c.loop-done.options (map string_bytes c.loop-done.words.items) _ (omega arith) c.loop-done.invariant

pub returns-in_err-options : goal.returns-in_err-options
returns-in_err-options c =
    read-none c.loop-done.done 12 c.loop-done.options c.in_err-options.field-0.0 (map string_bytes c.loop-done.words.items) (map string_bytes c.take_one.new.words.items)
    (options_in (map string_bytes c.args.words.now.items)) c.from_residual.result (omega arith) c.from_residual.ensures.1 c.in_err-options.ensures c.loop-done.invariant
