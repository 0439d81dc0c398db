-- Every image that a power cut can leave of a device whose blocks land whole, each once.
use Rattle.std.specs.Prelude.{◌≡◌, ℕ, ◌+◌, ◌*◌, Bool, true, not, List, [], ◌∷◌, length, map, Contains}
use Rattle.std.specs.List.{filter, flat_map}
use Rattle.std.specs.Str.{bytes_eq}
use Rattle.thy_block.specs.declared.block.Block.{Block}
use Rattle.thy_block.specs.declared.nvm.Write.{Write}
use Rattle.thy_block.specs.Device.{Device, Crash, queued_for}

-- whether two blocks have the same bytes
abbrev pub is_same_block : Block → Block → Bool
is_same_block a b = bytes_eq a.0 b.0

-- the blocks of a list, each once, where it comes first
abbrev pub distinct : List Block → List Block
distinct [] = []
distinct (b ∷ bs) = b ∷ filter (λ c. not (is_same_block b c)) (distinct bs)

-- the blocks that a cut can leave at a place, of which the image has this one: it, and those queued for the place
abbrev pub choices_at : ℕ → Block → List Write → List Block
choices_at x block queue = distinct (block ∷ queued_for queue x)

-- all images of the places from x on: at each of them one of its blocks, whatever is left at the others
abbrev pub images_from : ℕ → List Block → List Write → List (List Block)
images_from x [] queue = [] ∷ []
images_from x (b ∷ bs) queue = flat_map (λ c. map (λ g. c ∷ g) (images_from (x + 1) bs queue)) (choices_at x b queue)

-- how many images there are of the places from x on
abbrev pub count_from : ℕ → List Block → List Write → ℕ
count_from x [] queue = 1
count_from x (b ∷ bs) queue = length (choices_at x b queue) * count_from (x + 1) bs queue

-- the images that a cut can leave of a device whose blocks land whole
abbrev pub crash_images : Device → List (List Block)
crash_images n = images_from 0 n.image n.queue

-- nothing is listed twice
abbrev pub AreDistinct : {X : Type 0} → List X → Type 0
AreDistinct [] = Unit {0}
AreDistinct (x ∷ xs) = (Contains xs x → ⊥) × AreDistinct xs

-- a cut can leave each image that is listed; of a device whose blocks land whole it leaves no other
abbrev pub ListCrashes : Type 0
ListCrashes = (n : Device) (g : List Block) → (Contains (crash_images n) g → Crash n g)
    × (n.whole ≡ true → Crash n g → Contains (crash_images n) g)

-- no image is listed twice
abbrev pub ListEachOnce : Type 0
ListEachOnce = (n : Device) → AreDistinct (crash_images n)

-- the number of images is the product of the choices at all places
abbrev pub CountImages : Type 0
CountImages = (n : Device) → length (crash_images n) ≡ count_from 0 n.image n.queue
