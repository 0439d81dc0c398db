-- Part of the claim.
-- A cache over a store, read as one flat list of blocks.
use Rattle.std.specs.Prelude.{◌≡◌, ℕ, ◌+◌, ◌<◌, ◌%◌, if◌then◌else◌, List, length, map, false, Some, unwrap_or}
use Rattle.std.specs.List.{range_with_len}
use Rattle.thy_block.specs.declared.block.Block.{Block}
use Rattle.thy_block.specs.Blocks.{block_written}
use Rattle.thy_block.specs.Device.{block_at}
use Rattle.thy_cache.specs.declared.line.Line.{Line}
use Rattle.thy_cache.specs.Ways.{Ways, line_at, is_dirty}
use Rattle.thy_cache.specs.Contents.{Contents, set_at, line_of, peeked, hits, dirty_count, KeepsSize}

-- a block: its line if it hits, else the store's block
abbrev pub flat_at : Contents → List Block → ℕ → Block
flat_at c blocks b = unwrap_or (peeked c b) (block_at blocks b)

-- every block of the store, read through the cache
unfoldable pub flat : Contents → List Block → List Block
flat c blocks = map (flat_at c blocks) (range_with_len 0 (length blocks))

-- a line of set s of this number of sets is of one of the store's blocks, lies in its set, and is the store's block if
-- it is clean
pub record IsLineOf (sets : ℕ) (blocks : List Block) (s : ℕ) (line : Line) : Type 0 where
  pub inside : line.at < length blocks
  pub own_set : s ≡ line.at % sets
  pub clean : line.dirty ≡ false → line.block ≡ block_at blocks line.at

-- a set and a store agree
pub record SetAgrees (sets : ℕ) (blocks : List Block) (s : ℕ) (set : Ways) : Type 0 where
  pub lines : (w : ℕ) (line : Line) → line_at set w ≡ Some line → IsLineOf sets blocks s line
  -- no block has two lines, since all its lines lie in its set
  pub single : (w v : ℕ) (line other : Line) → line_at set w ≡ Some line → line_at set v ≡ Some other → line.at ≡ other.at → w ≡ v

-- a cache and a store agree
pub record Agrees (c : Contents) (blocks : List Block) : Type 0 where
  pub sets : (s : ℕ) → SetAgrees (length c.sets) blocks s (set_at c s)

-- each block has a line that holds what its line held, or none as before
abbrev pub PeeksSame : Contents → Contents → Type 0
PeeksSame old new = (x : ℕ) → peeked new x ≡ peeked old x

-- each block hits in both caches or in neither
abbrev pub HitsSame : Contents → Contents → Type 0
HitsSame old new = (x : ℕ) → hits new x ≡ hits old x

-- the flat list is the same, over every store
abbrev pub ReadsSame : Contents → Contents → Type 0
ReadsSame old new = (blocks : List Block) → flat new blocks ≡ flat old blocks

-- the flat list has this block, over every store
abbrev pub ReadsAs : Contents → ℕ → Block → Type 0
ReadsAs c b block = (blocks : List Block) → b < length blocks → block_at (flat c blocks) b ≡ block

-- the flat list has these bytes of a block and is else the same, over every store
abbrev pub WritesOver : ℕ → ℕ → List ℕ → Contents → Contents → Type 0
WritesOver b at bytes old new = (blocks : List Block) → b < length blocks
    → flat new blocks ≡ block_written (flat old blocks) b at bytes

-- every store that agreed with the old lines agrees with the new ones
abbrev pub AgreesStill : Contents → Contents → Type 0
AgreesStill old new = (blocks : List Block) → Agrees old blocks → Agrees new blocks

-- no line has changed
pub record KeepsLines (old new : Contents) : Type 0 where
  pub peeks : PeeksSame old new
  pub hits : HitsSame old new
  pub flat : ReadsSame old new
  pub agree : AgreesStill old new
  pub dirty : dirty_count new ≡ dirty_count old
  pub sized : KeepsSize old new

-- these bytes of a block have changed and nothing else, and its line is dirty
pub record IsWritten (b at : ℕ) (bytes : List ℕ) (old new : Contents) : Type 0 where
  pub flat : WritesOver b at bytes old new
  pub hits : HitsSame old new
  pub agree : AgreesStill old new
  pub dirty : dirty_count new + (if is_dirty (line_of old b) then 1 else 0) ≡ dirty_count old + 1
  pub sized : KeepsSize old new

-- every store agrees
abbrev pub AgreesWithAll : Contents → Type 0
AgreesWithAll c = (blocks : List Block) → Agrees c blocks

-- the flat list is the store's list, whatever the store
abbrev pub ReadsAsStore : Contents → Type 0
ReadsAsStore c = (blocks : List Block) → flat c blocks ≡ blocks
