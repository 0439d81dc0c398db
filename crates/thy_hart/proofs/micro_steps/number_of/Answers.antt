use Rattle.std.proofs.Common.{◌≡◌, ◌+◌, ◌≤◌, ◌∙◌, ap, subst, arith}
use Rattle.thy_block.specs.LittleEndian.{number_at, number_bytes}
use Rattle.thy_block.specs.declared.span.Span.{Span}
use Rattle.thy_block.specs.Spans.{first_byte}
use Rattle.thy_isa.specs.Effects.{size_of}
use Rattle.thy_hart.specs.InHand.{span_of}
use Rattle.thy_hart.proofs.NumberLemmas.{number_bytes-number_at}
use Rattle.thy_hart.proofs.micro_steps.number_of.Goals as goal

pub returns : goal.returns
returns c =
    let s : Span = span_of c.args.access.now in
    let bytes = c.args.bytes.now in
    let whole : first_byte s + s.len ≤ 64 = subst (λ (x : Span). first_byte x + x.len ≤ 64) c.span.ensures.span c.span.ensures.whole in
    let value : c.number.result ≡ number_at s.len bytes (first_byte s)
    = c.number.ensures
    ∙ ap (λ w. number_at (size_of w) bytes c.first_byte.result) c.width.ensures
    ∙ ap (number_at s.len bytes) (c.first_byte.ensures ∙ ap first_byte c.span.ensures.span) in
    ap (number_bytes s.len) value
    ∙ number_bytes-number_at s.len (first_byte s) bytes (λ n. omega (arith, c.type_inv.bytes n)) (omega (arith, whole, c.requires))
