use Rattle.std.proofs.Common.{◌≤◌, length, string_bytes, sym, ◌∙◌, arith}
use Rattle.sweep.specs.Asking.{texts_of}
use Rattle.sweep.proofs.AskedLemmas.{text-taken}
use Rattle.sweep.proofs.asked.take_text.Goals as goal

pub returns : goal.returns
returns c = λ first.
    let many : 3 ≤ length c.args.words.now.items = omega (arith, c.if-len-lt3.false, c.len.ensures) in
    text-taken string_bytes c.args.name (texts_of c.args.given.now) (texts_of c.take.new.self) c.args.words.now.items
    c.remove-name.new.self.items c.remove-text.new.self.items c.remove-text.result many c.remove-name.ensures.items c.remove-text.ensures.value
    c.remove-text.ensures.items (sym c.take.ensures.first ∙ first) c.take.ensures.kept
