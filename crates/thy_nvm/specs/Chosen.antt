-- What a cut leaves of places for which words are chosen, and a device whose cuts are given their choices.
use Rattle.std.specs.Prelude.{◌≡◌, ℕ, zero, suc, ◌+◌, ◌*◌, ◌%◌, ◌<◌, List, [], ◌∷◌, length, drop, slice_index_or}
use Rattle.thy_block.specs.declared.block.Block.{Block}
use Rattle.thy_block.specs.declared.nvm.Write.{Write}
use Rattle.thy_block.specs.Device.{possible, word_bytes, block_at, queued_for, IsMadeOf}
use Rattle.thy_dram.specs.Held.{Held, device_of, held_by, choice_at, put_at}
use Rattle.thy_nvm.specs.DeviceInMemory.{InMemory}

-- the number at an index of the numbers to come: 0 after the last
abbrev pub number_at : List ℕ → ℕ → ℕ
number_at numbers i = slice_index_or numbers i 0

-- 1 for a place with queued writes
abbrev pub one_if_any : List Block → ℕ
one_if_any [] = 0
one_if_any (b ∷ bs) = 1

-- how many of the places below this one have queued writes
unfoldable pub places_below : List Write → ℕ → ℕ
places_below queue zero = 0
places_below queue (suc x) = places_below queue x + one_if_any (queued_for queue x)

-- of the image's block at a place and those queued for it, oldest first, the one that a number chooses; it wraps around
abbrev pub chosen_at : Held → ℕ → ℕ → Block
chosen_at r at number = choice_at r at (number % (length (queued_for r.queue at) + 1))

-- each word of a block is that word of the block that its number chooses
abbrev pub HasChosenWords : List ℕ → Held → ℕ → Block → Type 0
HasChosenWords numbers r at block = (k : ℕ) → k < 8 → word_bytes block k ≡ word_bytes (chosen_at r at (number_at numbers k)) k

-- one place has the block whose words these numbers choose; it is made of those possible there
pub record IsChosenAt (numbers : List ℕ) (old new : Held) (at : ℕ) : Type 0 where
  pub block : Block
  pub made : IsMadeOf (possible (device_of old) at) block
  pub words : HasChosenWords numbers old at block
  pub is : new ≡ put_at old at block

-- the numbers that are left for a place: each place below it with queued writes has taken eight
abbrev pub numbers_from : List ℕ → List Write → ℕ → List ℕ
numbers_from numbers queue x = drop (8 * places_below queue x) numbers

-- in an image each place has the block whose words the numbers choose
abbrev pub AreChosen : List ℕ → Held → List Block → Type 0
AreChosen numbers old image = (x : ℕ) → x < length old.image → HasChosenWords (numbers_from numbers old.queue x) old x (block_at image x)

-- a device in memory, and the numbers for its cuts that are still to come
pub record Choosing : Type 0 where
  pub nvm : InMemory
  pub numbers : List ℕ

-- a cut has left the words that were chosen, and has taken their numbers
pub record HasCutAsChosen (old new : Choosing) : Type 0 where
  pub words : AreChosen old.numbers (held_by old.nvm.device) new.nvm.device.image
  pub numbers : new.numbers ≡ numbers_from old.numbers old.nvm.device.queue (length old.nvm.device.image)
  pub calls : new.nvm.calls ≡ old.nvm.calls
