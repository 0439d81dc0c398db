use Rattle.std.proofs.Common.{◌≡◌, ◌+◌, ◌≤◌, take, ◌∙◌, ap, subst}
use Rattle.thy_cache.specs.Flat.{flat}
use Rattle.thy_block.specs.declared.span.Span.{Span}
use Rattle.thy_block.specs.Spans.{first_byte, head_put}
use Rattle.thy_hart.specs.Outcomes.{written_by}
use Rattle.thy_hart.specs.InHand.{span_of, value_bytes}
use Rattle.thy_hart.proofs.NumberLemmas.{low_bytes}
use Rattle.thy_hart.proofs.micro_steps.HartParts.put_value.Goals as goal

pub returns-clause-whole : goal.returns-clause-whole
returns-clause-whole c = subst (λ (x : Span). first_byte x + x.len ≤ 64) c.span-to.ensures.span c.span-to.ensures.whole

pub returns-clause-cache : goal.returns-clause-cache
returns-clause-cache c =
    let i = c.args.self.now.hand in
    let s : Span = span_of i.access in
    let given = take c.span-to.result.len c.to_le_bytes-bytes.result in
    let bytes : given ≡ value_bytes i
    = ap (λ (x : Span). take x.len c.to_le_bytes-bytes.result) c.span-to.ensures.span
    ∙ ap (take s.len) c.to_le_bytes-bytes.ensures
    ∙ low_bytes i.access.1 i.value in
    c.put.ensures.cache
    ∙ ap (λ (x : Span). written_by c.args.cache.now x given) c.span-to.ensures.span
    ∙ ap (written_by c.args.cache.now s) bytes

pub returns-clause-memory : goal.returns-clause-memory
returns-clause-memory c = λ blocks whole.
    let i = c.args.self.now.hand in
    let s : Span = span_of i.access in
    let given = take c.span-to.result.len c.to_le_bytes-bytes.result in
    let bytes : given ≡ value_bytes i
    = ap (λ (x : Span). take x.len c.to_le_bytes-bytes.result) c.span-to.ensures.span
    ∙ ap (take s.len) c.to_le_bytes-bytes.ensures
    ∙ low_bytes i.access.1 i.value in
    c.put.ensures.memory blocks whole
    ∙ ap (λ (x : Span). head_put (flat c.args.cache.now blocks) x given) c.span-to.ensures.span
    ∙ ap (head_put (flat c.args.cache.now blocks) s) bytes
