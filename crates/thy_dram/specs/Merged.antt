-- Blocks of which some were written over others. Each place has a mark, which is set once its block was written.
use Rattle.std.specs.Prelude.{◌≡◌, ℕ, Bool, true, false, if◌then◌else◌, List, [], ◌∷◌, drop, slice_index_or}
use Rattle.thy_block.specs.declared.block.Block.{Block}
use Rattle.thy_block.specs.declared.nvm.Write.{Write}
use Rattle.thy_block.specs.Device.{block_at}

-- the block of each place: the one that was written if the place is marked, else the one below
abbrev pub merged : List Bool → List Block → List Block → List Block
merged [] over below = []
merged (m ∷ ms) over below = (if m then block_at over 0 else block_at below 0) ∷ merged ms (drop 1 over) (drop 1 below)

-- whether a place is marked
abbrev pub is_marked : List Bool → ℕ → Bool
is_marked marks x = slice_index_or marks x false

-- each of these writes is for a marked place
abbrev pub AreMarked : List Bool → List Write → Type 0
AreMarked marks [] = Unit {0}
AreMarked marks (w ∷ ws) = (is_marked marks w.at ≡ true) × AreMarked marks ws
