-- The images that a cut can leave of a device, by number: the places for which writes are queued, and the blocks at each.
use Rattle.std.specs.Prelude.{◌≡◌, ℕ, suc, ◌+◌, ◌*◌, ◌/◌, ◌%◌, ◌<◌, ◌==◌, Bool, true, false, if◌then◌else◌, List, [], ◌∷◌, ◌++◌, length, slice_set, slice_index_or}
use Rattle.thy_block.specs.declared.block.Block.{Block}
use Rattle.thy_block.specs.declared.nvm.Write.{Write}
use Rattle.thy_block.specs.Device.{Device, block_at, queued_for}
use Rattle.thy_sweep.specs.declared.choices.Choice.{Choice}
use Rattle.thy_sweep.specs.Images.{is_same_block, distinct, crash_images}

-- a place, and the blocks that a cut can leave there, each once
pub record Place : Type 0 where
  pub at : ℕ
  pub blocks : List Block

abbrev pub place : ℕ → List Block → Place
place at blocks = record { at = at; blocks = blocks }

-- as it lies in memory
abbrev pub place_in : Choice → Place
place_in c = place c.at c.blocks.items

-- whether a block is listed
abbrev pub lists_block : List Block → Block → Bool
lists_block [] c = false
lists_block (b ∷ bs) c = if is_same_block b c then true else lists_block bs c

-- listed, unless it is already
abbrev pub listed : List Block → Block → List Block
listed bs c = if lists_block bs c then bs else bs ++ c ∷ []

-- the block of a write is listed, if that is for this place
abbrev pub with_write : ℕ → Write → List Block → List Block
with_write at w bs = if w.at == at then listed bs w.block else bs

-- a place whose block is this, before others: it is listed if a write is queued for it
abbrev pub with_place : ℕ → Block → List Block → List Place → List Place
with_place x b [] places = places
with_place x b (q ∷ qs) places = place x (distinct (b ∷ q ∷ qs)) ∷ places

-- the places from x on for which writes are queued, by rising number
abbrev pub places_from : ℕ → List Block → List Write → List Place
places_from x [] queue = []
places_from x (b ∷ bs) queue = with_place x b (queued_for queue x) (places_from (x + 1) bs queue)

-- the places of a device
abbrev pub places_of : Device → List Place
places_of n = places_from 0 n.image n.queue

-- how many images there are: at each of the places one of its blocks
abbrev pub count_of : List Place → ℕ
count_of [] = 1
count_of (p ∷ ps) = length p.blocks * count_of ps

-- an image with the blocks of this number, of which the last place's change first
abbrev pub chosen : List Place → ℕ → List Block → List Block
chosen [] i image = image
chosen (p ∷ ps) i image = chosen ps (i % count_of ps) (slice_set image p.at (block_at p.blocks (i / count_of ps)))

-- a device with that image
abbrev pub chosen_on : List Place → ℕ → Device → Device
chosen_on ps i n = record n { image = chosen ps i n.image }

-- the index of a block among others; their number if it is not one of them
abbrev pub index_of : List Block → Block → ℕ
index_of [] c = 0
index_of (b ∷ bs) c = if is_same_block b c then 0 else suc (index_of bs c)

-- the number of an image that has one of the blocks of each of these places there
abbrev pub number_of : List Place → List Block → ℕ
number_of [] image = 0
number_of (p ∷ ps) image = index_of p.blocks (block_at image p.at) * count_of ps + number_of ps image

-- each of these places is below a size
abbrev pub ArePlaces : ℕ → List Place → Type 0
ArePlaces size [] = Unit {0}
ArePlaces size (p ∷ ps) = (p.at < size) × ArePlaces size ps

-- By their numbers from 0 on these are the images that are listed for a device, in their order, and no number is left over.
pub record AreNumbered (n : Device) : Type 0 where
  pub within : ArePlaces (length n.image) (places_of n)
  pub count : count_of (places_of n) ≡ length (crash_images n)
  pub each : (i : ℕ) → i < count_of (places_of n) → slice_index_or (crash_images n) i [] ≡ chosen (places_of n) i n.image

abbrev pub NumberImages : Type 0
NumberImages = (n : Device) → AreNumbered n
