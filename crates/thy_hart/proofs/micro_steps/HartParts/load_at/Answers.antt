use Rattle.std.proofs.Common.{◌+◌, ◌<◌, ◌≤◌, length, take, drop, ◌∙◌, ap, subst, arith}
use Rattle.thy_block.specs.Geometry.{memory_blocks}
use Rattle.thy_cache.specs.Flat.{ReadsAs}
use Rattle.thy_block.specs.declared.span.Span.{Span}
use Rattle.thy_block.specs.Spans.{first_block, first_byte}
use Rattle.thy_isa.proofs.MemoryBounds.{length-number_bytes}
use Rattle.thy_hart.specs.HartState.{IsInHand}
use Rattle.thy_hart.specs.InHand.{span_of, hand_by, bytes_by}
use Rattle.thy_hart.proofs.HandLemmas.{first_block-inside}
use Rattle.thy_hart.proofs.InHandLemmas.{load-reads}
use Rattle.thy_hart.proofs.micro_steps.HartParts.load_at.Goals as goal

pub returns-clause-hart : goal.returns-clause-hart
returns-clause-hart g c =
    let i = c.args.self.now.hand in
    let s : Span = span_of i.access in
    let block = c.block_in.result.now in
    let whole : first_byte s + s.len ≤ 64 = subst (λ (x : Span). first_byte x + x.len ≤ 64) c.span.ensures.span c.span.ensures.whole in
    let reading = subst (λ st. IsInHand c.args.self.now.geometry (hand_by st i) (length (bytes_by st i))) c.requires.stage
    c.requires.sound.hart.in_hand in
    let inside : first_block s < memory_blocks c.args.self.now.geometry =
    first_block-inside (memory_blocks c.args.self.now.geometry) s reading.span_from reading.some in
    let reads = subst (λ b. ReadsAs c.args.cache.now b block)
    (c.first_block-b.ensures ∙ ap first_block c.span.ensures.span) c.block_in.ensures.reads in
    load-reads c.args.self.now c.args.cache.now block c.number_of-self.result whole inside reads
    (c.number_of-self.ensures ∙ ap (λ t. take s.len (drop (first_byte s) t)) c.bytes.ensures.bytes)

pub returns-clause-sound : goal.returns-clause-sound
returns-clause-sound g c = record {
  hart = record {
    range = c.requires.sound.hart.range;
    in_hand = omega (arith, length-number_bytes c.args.self.now.hand.access.1 c.number_of-self.result);
  };
  pieces = λ no _. cc no;
}
