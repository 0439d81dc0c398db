use Rattle.std.proofs.Common.{◌+◌, ◌≤◌, sym, subst}
use Rattle.thy_block.specs.declared.span.Span.{Span}
use Rattle.thy_block.specs.Spans.{first_byte}
use Rattle.thy_block.proofs.SpanLaws.{rest_of-none}
use Rattle.thy_hart.specs.InHand.{span_of}
use Rattle.thy_hart.proofs.HandLemmas.{blocks_of-one}
use Rattle.thy_hart.proofs.in_hand.Access.blocks.Goals as goal

pub returns : goal.returns
returns c =
    let s : Span = span_of c.args.self.now in
    let whole = subst (λ (x : Span). first_byte x + x.len ≤ 64) c.span-whole.ensures.span c.span-whole.ensures.whole in
    sym (blocks_of-one s (rest_of-none s whole))
