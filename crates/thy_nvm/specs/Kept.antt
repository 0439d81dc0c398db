-- What is kept of the cuts since a device was fitted.
use Rattle.std.specs.Prelude.{◌≡◌, ℕ, ◌*◌, ◌≤◌, suc, zero, List, [], ◌∷◌, ◌++◌, length, take, drop, vec_capacity}
use Rattle.std.specs.Global.{Vec}
use Rattle.thy_block.specs.declared.block.Block.{Block}

pub record Cuts : Type 0 where
  -- how many blocks an image has
  pub size : ℕ
  -- the images that the cuts left, in order
  pub left : List (List Block)
  -- the picks of the cuts
  pub picks : List ℕ
  -- how many cuts can be kept
  pub room : ℕ

-- room for this many cuts that leave images of a size
abbrev pub no_cuts : ℕ → ℕ → Cuts
no_cuts size room = record { size = size; left = []; picks = []; room = room }

-- the cuts with one more
abbrev pub with_cut : Cuts → ℕ → List Block → Cuts
with_cut cuts pick image = record cuts { left = cuts.left ++ image ∷ []; picks = cuts.picks ++ pick ∷ [] }

-- images of one size, one after another
abbrev pub images_of : ℕ → ℕ → List Block → List (List Block)
images_of size zero blocks = []
images_of size (suc count) blocks = take size blocks ∷ images_of size count (drop size blocks)

-- the cuts that lie in these parts
abbrev pub cuts_in : ℕ → List Block → List ℕ → ℕ → Cuts
cuts_in size blocks picks room = record {
  size = size;
  left = images_of size (length picks) blocks;
  picks = picks;
  room = room;
}

-- what holds of the parts
pub record IsSoundKept (size : ℕ) (blocks : Vec Block) (picks : Vec ℕ) (room : ℕ) : Type 0 where
  -- there is an image for each pick
  pub whole : length blocks.items ≡ length picks.items * size
  -- there is space for all images and picks that can be kept
  pub blocks_fit : room * size ≤ vec_capacity blocks
  pub picks_fit : room ≤ vec_capacity picks
