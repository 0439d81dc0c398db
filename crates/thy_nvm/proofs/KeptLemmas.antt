-- Images of one size, one after another.
use Rattle.std.proofs.Common.{◌≡◌, ℕ, ◌+◌, ◌*◌, ◌<◌, ◌≤◌, zero, suc, List, [], ◌∷◌, ◌++◌, length, take, drop, slice_index_or, refl, sym, ◌∙◌, ap, subst, arith, add-one}
use Rattle.std.proofs.lemmas.List.{length-append, length_push, length-drop, nil_from_length, take-append-le, drop-append-le, take_all, get_or-take, get_or-drop}
use Rattle.thy_block.specs.declared.block.Block.{Block}
use Rattle.thy_block.specs.Device.{zero_block, block_at}
use Rattle.thy_nvm.specs.Kept.{Cuts, with_cut, images_of, cuts_in}

pub length-images_of : (size count : ℕ) (blocks : List Block) → length (images_of size count blocks) ≡ count
length-images_of size zero blocks = refl
length-images_of size (suc count) blocks = ap suc (length-images_of size count (drop size blocks))

-- one image more at the end
pub images_of-push : (size count : ℕ) (blocks image : List Block) → length blocks ≡ count * size → length image ≡ size
    → images_of size (suc count) (blocks ++ image) ≡ images_of size count blocks ++ image ∷ []
images_of-push size zero blocks image l s =
    let none : blocks ≡ [] = nil_from_length blocks (omega arith) in
    subst (λ (bs : List Block). images_of size (suc zero) (bs ++ image) ≡ [] ++ image ∷ []) (sym none)
    (ap (λ i. i ∷ []) (take_all size image (omega arith)))
images_of-push size (suc count) blocks image l s =
    let whole : length blocks ≡ size + count * size = grind arith in
    let fits : size ≤ length blocks = omega arith in
    let rest : length (drop size blocks) ≡ count * size = omega (arith, length-drop size blocks) in
    ap (λ i. i ∷ images_of size (suc count) (drop size (blocks ++ image))) (take-append-le size blocks image fits)
    ∙ ap (λ bs. take size blocks ∷ images_of size (suc count) bs) (drop-append-le size blocks image fits)
    ∙ ap (λ is. take size blocks ∷ is) (images_of-push size count (drop size blocks) image rest s)

-- a block of one of the images
pub block_at-images_of : (size count : ℕ) (blocks : List Block) (i at : ℕ) → i < count → at < size
    → block_at (slice_index_or (images_of size count blocks) i []) at ≡ block_at blocks (i * size + at)
block_at-images_of size zero blocks i at il al = absurd (omega arith)
block_at-images_of size (suc count) blocks zero at il al =
    let place : at ≡ zero * size + at = omega arith in
    get_or-take size blocks at zero_block al ∙ ap (block_at blocks) place
block_at-images_of size (suc count) blocks (suc i) at il al =
    let place : size + (i * size + at) ≡ suc i * size + at = grind arith in
    block_at-images_of size count (drop size blocks) i at (omega arith) al
    ∙ get_or-drop size blocks (i * size + at) zero_block
    ∙ ap (block_at blocks) place

-- a place of one of the images is one of all their blocks
pub within_images : (size count i at : ℕ) → i < count → at < size → i * size + at < count * size
within_images size count i at il al = grind arith

-- a cut more can be kept
pub room_to_keep : (size : ℕ) (blocks : List Block) (picks : List ℕ) (room : ℕ) (cuts : Cuts)
    → cuts_in size blocks picks room ≡ cuts → length cuts.left < cuts.room → length picks < room
room_to_keep size blocks picks room cuts e l =
    omega (arith, ap (λ c. length c.left) e, ap (λ c. c.room) e, length-images_of size (length picks) blocks)

-- if one more cut can be kept, there is space for its image
pub space_to_keep : (size count room space : ℕ) → room * size ≤ space → count < room → count * size + size ≤ space
space_to_keep size count room space fits l = grind arith

-- one image more for one pick more
pub whole-with_cut : (size : ℕ) (blocks image : List Block) (picks : List ℕ) (pick : ℕ)
    → length blocks ≡ length picks * size → length image ≡ size → length (blocks ++ image) ≡ length (picks ++ pick ∷ []) * size
whole-with_cut size blocks image picks pick whole same =
    length-append blocks image ∙ omega (arith, whole, same, next) ∙ ap (λ n. n * size) (sym (length_push picks pick))
  where
    next : length picks * size + size ≡ (length picks + 1) * size
    next = grind arith

-- the parts with these hold one cut more
pub cuts_in-with_cut : (size : ℕ) (blocks image : List Block) (picks : List ℕ) (pick room : ℕ)
    → length blocks ≡ length picks * size → length image ≡ size
    → cuts_in size (blocks ++ image) (picks ++ pick ∷ []) room ≡ with_cut (cuts_in size blocks picks room) pick image
cuts_in-with_cut size blocks image picks pick room whole same =
    let images : images_of size (length (picks ++ pick ∷ [])) (blocks ++ image) ≡ images_of size (length picks) blocks ++ image ∷ []
    = ap (λ n. images_of size n (blocks ++ image)) (length_push picks pick ∙ add-one (length picks))
    ∙ images_of-push size (length picks) blocks image whole same in
    ap (λ left. record (with_cut (cuts_in size blocks picks room) pick image) { left = left }) images

-- a block of a kept image is one of all their blocks
pub block_at-kept : (size : ℕ) (blocks : List Block) (picks : List ℕ) (room : ℕ) (cuts : Cuts) (i at : ℕ)
    → cuts_in size blocks picks room ≡ cuts → length blocks ≡ length picks * size → i < length cuts.left → at < cuts.size
    → (i * size + at < length blocks) × (block_at blocks (i * size + at) ≡ block_at (slice_index_or cuts.left i []) at)
block_at-kept size blocks picks room cuts i at e whole il al =
    let image_in : i < length picks = omega (arith, ap (λ c. length c.left) e, length-images_of size (length picks) blocks) in
    let place_in : at < size = omega (arith, ap (λ c. c.size) e) in (
      omega (arith, within_images size (length picks) i at image_in place_in),
      sym (block_at-images_of size (length picks) blocks i at image_in place_in) ∙ ap (λ c. block_at (slice_index_or c.left i []) at) e,
    )
