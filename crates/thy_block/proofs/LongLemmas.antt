-- Blocks that have 64 bytes of their own.
use Rattle.std.proofs.Common.{◌≡◌, ℕ, ◌+◌, ◌<◌, ◌≤◌, ◌==◌, Bool, true, false, if◌then◌else◌, List, length, take, slice_set, ◌∙◌, ap, inl, inr, arith}
use Rattle.std.proofs.lemmas.Bool.{cases_eq}
use Rattle.std.proofs.lemmas.List.{length-set, length-take, get_or-set_same, get_or-set_other}
use Rattle.thy_block.specs.declared.block.Block.{Block}
use Rattle.thy_block.specs.Blocks.{overwritten}
use Rattle.thy_block.specs.Device.{zero_block, block_at}
use Rattle.thy_block.proofs.BlockLemmas.{length-overwritten}
use Rattle.thy_block.specs.declared.span.Span.{Span}
use Rattle.thy_block.specs.Flat.{AllLong}
use Rattle.thy_block.specs.Spans.{first_block, first_byte, head_len, head_put}

pub AllLong-set : (blocks : List Block) (i : ℕ) (b : Block) → AllLong blocks → length b.0 ≡ 64 → AllLong (slice_set blocks i b)
AllLong-set blocks i b h e = record {
  each = λ k l. let inside : k < length blocks = omega (arith, length-set blocks i b) in
      elim (cases_eq k i) as (λ _. length (block_at (slice_set blocks i b) k).0 ≡ 64) [
        | inl here ↦
            let there : i < length blocks = omega arith in
            ap (λ (c : Block). length c.0) (ap (block_at (slice_set blocks i b)) here ∙ get_or-set_same blocks i b zero_block there) ∙ e
        | inr other ↦ ap (λ (c : Block). length c.0) (get_or-set_other blocks i k b zero_block other) ∙ h.each k inside
      ];
}

if_long : (b : Bool) (old new : List Block) → AllLong old → AllLong new → AllLong (if b then old else new)
if_long true old new p q = p
if_long false old new p q = q

pub AllLong-head_put : (blocks : List Block) (s : Span) (bytes : List ℕ) → AllLong blocks → AllLong (head_put blocks s bytes)
AllLong-head_put blocks s bytes h =
    let piece = take (head_len s) bytes in
    let b = overwritten (first_byte s) piece (block_at blocks (first_block s)) in
    let l : first_byte s + length piece ≤ 64 = omega (arith, length-take (head_len s) bytes) in
    if_long (s.len == 0) blocks (slice_set blocks (first_block s) b) h
    (AllLong-set blocks (first_block s) b h (length-overwritten (first_byte s) piece (block_at blocks (first_block s)) l))
