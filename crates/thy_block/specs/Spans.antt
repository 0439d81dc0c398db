-- Part of the claim.
-- Spans of at most 64 bytes of a list of blocks: one lies in at most two blocks.
use Rattle.std.specs.Prelude.{ℕ, ◌+◌, ◌-◌, ◌*◌, ◌/◌, ◌%◌, ◌≤◌, ◌==◌, if◌then◌else◌, min, List, ◌++◌, take, drop}
use Rattle.thy_block.specs.declared.block.Block.{Block}
use Rattle.thy_block.specs.Blocks.{block_bytes, block_written}
use Rattle.thy_block.specs.Device.{block_at}
use Rattle.thy_block.specs.declared.span.Span.{Span}

-- a span from a byte on
abbrev pub span : ℕ → ℕ → Span
span at len = record { at = at; len = len }

-- a span has at most 64 bytes, and lies within the given number of blocks
pub record IsSpanOf (blocks : ℕ) (s : Span) : Type 0 where
  pub short : s.len ≤ 64
  pub inside : s.at + s.len ≤ 64 * blocks

-- the block in which a span begins, and the byte of it
abbrev pub first_block : Span → ℕ
first_block s = s.at / 64

abbrev pub first_byte : Span → ℕ
first_byte s = s.at % 64

-- how many bytes of a span lie in its first block
abbrev pub head_len : Span → ℕ
head_len s = min s.len (64 - first_byte s)

-- the rest of the span, which lies in the next block or has no bytes
abbrev pub rest_of : Span → Span
rest_of s = span (s.at + head_len s) (s.len - head_len s)

-- ---- reading

-- the bytes of a span that lie in its first block
abbrev pub head_in : Block → Span → List ℕ
head_in block s = take (head_len s) (drop (first_byte s) (block_bytes block))

abbrev pub head_read : List Block → Span → List ℕ
head_read blocks s = head_in (block_at blocks (first_block s)) s

-- the bytes of a span, from the one block or the two blocks in which it lies
unfoldable pub gathered : List Block → Span → List ℕ
gathered blocks s = head_read blocks s ++ head_read blocks (rest_of s)

-- ---- writing

-- the blocks with the bytes that fall into the first block of a span
abbrev pub head_put : List Block → Span → List ℕ → List Block
head_put blocks s bytes =
    if s.len == 0 then blocks else block_written blocks (first_block s) (first_byte s) (take (head_len s) bytes)

-- the blocks with bytes over a span, in its one or two blocks
unfoldable pub scattered : List Block → Span → List ℕ → List Block
scattered blocks s bytes = head_put (head_put blocks s bytes) (rest_of s) (drop (head_len s) bytes)
