use Rattle.std.proofs.Common.{◌≤◌, length, sym, ◌∙◌, ap, string_bytes, arith}
use Rattle.thy_base.specs.Numbers.{number_in}
use Rattle.observe.specs.Wanting.{wish_of}
use Rattle.observe.proofs.OptionLemmas.{take-again, take-numbered}
use Rattle.observe.proofs.options.take_one.Goals as goal

pub returns-then-has : goal.returns-then-has
returns-then-has c =
    let many : 2 ≤ length c.args.words.now.items = omega (arith, c.if-len-lt2.false, c.len.ensures) in
    take-again string_bytes c.args.options c.args.words.now.items c.index.result.now c.in-Some.wish many c.index.ensures
    (ap wish_of (sym c.as_str.ensures.value) ∙ sym c.wish_of.ensures ∙ c.in-Some.is) (sym c.has.ensures ∙ c.if-has.true)

pub returns : goal.returns
returns c =
    let many : 3 ≤ length c.args.words.now.items = omega (arith, c.if-len-lt3.false, c.len-2.ensures) in
    take-numbered string_bytes c.args.options c.with-2.result c.args.words.now.items c.remove-number.new.self.items c.remove-word-2.new.self.items
    c.index.result.now c.index-2.result.now c.in-Some.wish c.in-Some-number.number many c.index.ensures
    (ap wish_of (sym c.as_str.ensures.value) ∙ sym c.wish_of.ensures ∙ c.in-Some.is) (sym c.has.ensures ∙ c.if-has.false)
    (sym c.takes_number.ensures ∙ c.if-not-takes_number.false) c.index-2.ensures
    (ap number_in (sym c.as_str-2.ensures.value) ∙ sym c.number.ensures ∙ c.in-Some-number.is) c.with-2.ensures c.remove-number.ensures.items c.remove-word-2.ensures.items
