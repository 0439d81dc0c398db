use Rattle.std.proofs.Common.{◌≤◌, length, sym, ◌∙◌, ap, string_bytes, arith}
use Rattle.observe.specs.AccessText.{is_accesses}
use Rattle.observe.proofs.NameLemmas.{name-left, name-taken}
use Rattle.observe.proofs.accesses.take_name.Goals as goal

pub returns-then-not-found : goal.returns-then-not-found
returns-then-not-found c =
    let many : 3 ≤ length c.args.words.now.items = omega (arith, c.if-len-lt3.false, c.len.ensures) in
    name-left string_bytes c.args.words.now.items c.index.result.now many c.index.ensures
    (ap is_accesses (sym c.as_str.ensures.value) ∙ sym c.is_accesses-found.ensures ∙ c.if-not-found.true)

pub returns : goal.returns
returns c =
    let many : 3 ≤ length c.args.words.now.items = omega (arith, c.if-len-lt3.false, c.len.ensures) in
    name-taken string_bytes c.args.words.now.items c.remove-name.new.self.items c.remove-word.new.self.items c.index.result.now c.remove-name.result many
    c.index.ensures (ap is_accesses (sym c.as_str.ensures.value) ∙ sym c.is_accesses-found.ensures ∙ c.if-not-found.false) c.remove-name.ensures.value
    c.remove-name.ensures.items c.remove-word.ensures.items
