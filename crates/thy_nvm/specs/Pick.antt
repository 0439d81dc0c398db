-- The image that a pick leaves when the power of a device in memory is cut.
use Rattle.std.specs.Prelude.{ℕ, zero, suc, ◌+◌, ◌*◌, ◌%◌, ◌==◌, if◌then◌else◌, Bool, List, [], ◌∷◌, length, slice_index_or}
use Rattle.thy_block.specs.declared.block.Block.{Block}
use Rattle.thy_block.specs.declared.nvm.Write.{Write}
use Rattle.thy_block.specs.Blocks.{overwritten}
use Rattle.thy_block.specs.Device.{Device, word_bytes, block_at, queued_for, applied, cut_to}
use Rattle.thy_block.specs.Lcg.{lcg_next, lcg_draw}
use Rattle.thy_dram.specs.Held.{Held, device_of, put_at, unqueued}
use Rattle.thy_nvm.specs.DeviceInMemory.{InMemory, on_device}

-- ---- whole blocks

-- what a place's draw leaves of the image's block there and the blocks queued for it, oldest first
abbrev pub drawn_block : ℕ → Block → List Block → Block
drawn_block seed block [] = block
drawn_block seed block (b ∷ bs) = slice_index_or (block ∷ b ∷ bs) (lcg_draw (lcg_next seed) % length (block ∷ b ∷ bs)) block

-- the state of the draws after that: a place with no queued write takes none
abbrev pub drawn_seed : ℕ → List Block → ℕ
drawn_seed seed [] = seed
drawn_seed seed (b ∷ bs) = lcg_next seed

-- each place with a queued write takes one draw, by rising number from the place x on
abbrev pub drawn : ℕ → ℕ → List Block → List Write → List Block
drawn seed x [] queue = []
drawn seed x (b ∷ bs) queue =
    drawn_block seed b (queued_for queue x) ∷ drawn (drawn_seed seed (queued_for queue x)) (x + 1) bs queue

-- a ring of which one place took its draw
abbrev pub drawn_at : ℕ → ℕ → Held → Held
drawn_at seed x held = put_at held x (drawn_block seed (block_at held.image x) (queued_for held.queue x))

-- ---- torn blocks

-- a block with word k of another one
abbrev pub with_word : ℕ → Block → Block → Block
with_word k from block = overwritten (8 * k) (word_bytes from k) block

-- over a block, a number of words from word k on, each of the block of a draw of its own
unfoldable pub torn_on : ℕ → ℕ → ℕ → Block → List Block → Block → Block
torn_on zero k seed block queued torn = torn
torn_on (suc left) k seed block queued torn =
    torn_on left (k + 1) (lcg_next seed) block queued (with_word k (drawn_block seed block queued) torn)

-- what a place's draws leave of the image's block there and the blocks queued for it, oldest first: eight words
abbrev pub torn_block : ℕ → Block → List Block → Block
torn_block seed block [] = block
torn_block seed block (b ∷ bs) = torn_on 8 0 seed block (b ∷ bs) block

-- the state of the draws after some of them
unfoldable pub after_draws : ℕ → ℕ → ℕ
after_draws zero seed = seed
after_draws (suc count) seed = after_draws count (lcg_next seed)

-- after the draws of a place: one with no queued write takes none
abbrev pub torn_seed : ℕ → List Block → ℕ
torn_seed seed [] = seed
torn_seed seed (b ∷ bs) = after_draws 8 seed

-- each place with a queued write takes eight draws, by rising number from the place x on
abbrev pub torn : ℕ → ℕ → List Block → List Write → List Block
torn seed x [] queue = []
torn seed x (b ∷ bs) queue =
    torn_block seed b (queued_for queue x) ∷ torn (torn_seed seed (queued_for queue x)) (x + 1) bs queue

-- a ring of which one place took its draws
abbrev pub torn_at : ℕ → ℕ → Held → Held
torn_at seed x held = put_at held x (torn_block seed (block_at held.image x) (queued_for held.queue x))

-- ---- picks

-- what draws leave of an image, if blocks land whole and if they may be torn
abbrev pub left_by_draws : Bool → ℕ → List Block → List Write → List Block
left_by_draws whole seed image queue = if whole then drawn seed 0 image queue else torn seed 0 image queue

-- pick 0: no queued write lands; pick 1: all land in order; another is the seed of the draws
abbrev pub picked : Bool → ℕ → List Block → List Write → List Block
picked whole pick image queue =
    if pick == 0 then image else if pick == 1 then applied image queue else left_by_draws whole pick image queue

-- what a pick leaves of a ring
abbrev pub left_by : Bool → ℕ → Held → Held
left_by whole pick held = unqueued (record held { image = picked whole pick held.image held.queue })

-- a device that holds what a ring does, whose blocks land whole or not
abbrev pub landing : Bool → Held → Device
landing whole held = record (device_of held) { whole = whole }

-- a device after its power was cut with this pick
abbrev pub cut_device : ℕ → Device → Device
cut_device pick n = cut_to n pick (picked n.whole pick n.image n.queue) n.wear

-- a device in memory after its power was cut with this pick
abbrev pub cut_by : ℕ → InMemory → InMemory
cut_by pick = on_device (cut_device pick)
