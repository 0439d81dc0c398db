-- What numbers choose, place by place and word by word.
use Rattle.std.proofs.Common.{◌≡◌, ℕ, ◌+◌, ◌*◌, ◌%◌, ◌<◌, ◌≤◌, suc, List, [], ◌∷◌, length, drop, slice_index_or, refl, ◌∙◌, ap, arith}
use Rattle.std.proofs.lemmas.List.{drop-drop, get_or-drop, length-drop}
use Rattle.thy_block.specs.declared.block.Block.{Block}
use Rattle.thy_block.specs.declared.nvm.Write.{Write}
use Rattle.thy_block.specs.Device.{word_bytes, block_at, queued_for}
use Rattle.thy_dram.specs.Held.{Held}
use Rattle.thy_nvm.specs.Chosen.{number_at, one_if_any, places_below, chosen_at, numbers_from, HasChosenWords}

-- ---- the numbers to come

-- of the numbers after some, the one at an index
pub number-drop : (numbers : List ℕ) (n i : ℕ) → number_at (drop n numbers) i ≡ number_at numbers (n + i)
number-drop numbers n i = get_or-drop n numbers i 0

-- the first of the numbers after some
pub number-first : (numbers now : List ℕ) (n : ℕ) → now ≡ drop n numbers → number_at now 0 ≡ number_at numbers n
number-first numbers now n is =
    let same : n + 0 ≡ n = omega arith in
    ap (λ (ns : List ℕ). number_at ns 0) is ∙ number-drop numbers n 0 ∙ ap (number_at numbers) same

-- one number more is taken
pub numbers-more : (numbers now : List ℕ) (n : ℕ) → now ≡ drop n numbers → drop 1 now ≡ drop (n + 1) numbers
numbers-more numbers now n is = ap (drop 1) is ∙ drop-drop 1 n numbers

-- past the last number none is left
past_numbers : (numbers : List ℕ) → length numbers ≡ 0 → numbers ≡ []
past_numbers [] e = refl
past_numbers (n ∷ ns) e = absurd (omega arith)

pub numbers-past : (numbers : List ℕ) (n : ℕ) → length numbers ≤ n → drop n numbers ≡ []
numbers-past numbers n past = past_numbers (drop n numbers) (omega (arith, length-drop n numbers, past))

-- ---- the places with queued writes

pub one_if_any-some : (queued : List Block) → 0 < length queued → one_if_any queued ≡ 1
one_if_any-some [] some = absurd (omega arith)
one_if_any-some (b ∷ bs) some = refl

pub one_if_any-none : (queued : List Block) → length queued ≡ 0 → one_if_any queued ≡ 0
one_if_any-none [] none = refl
one_if_any-none (b ∷ bs) none = absurd (omega arith)

places_below-more : (queue : List Write) (x : ℕ) → places_below queue (x + 1) ≡ places_below queue x + one_if_any (queued_for queue x)
unfolding places_below
places_below-more queue x =
    let next : x + 1 ≡ suc x = omega arith in
    ap (places_below queue) next

pub numbers_from-none : (numbers : List ℕ) (queue : List Write) → numbers ≡ numbers_from numbers queue 0
unfolding places_below
numbers_from-none numbers queue = refl

-- after one place more its numbers are taken
pub numbers_from-more : (numbers now next : List ℕ) (queue start : List Write) (x : ℕ) → queue ≡ start
    → now ≡ numbers_from numbers start x → next ≡ drop (8 * one_if_any (queued_for queue x)) now → next ≡ numbers_from numbers start (x + 1)
numbers_from-more numbers now next queue start x same is taken =
    let more : 8 * places_below start x + 8 * one_if_any (queued_for start x) ≡ 8 * places_below start (x + 1)
    = omega (arith, places_below-more start x) in
    taken
    ∙ ap (λ (q : List Write). drop (8 * one_if_any (queued_for q x)) now) same
    ∙ ap (drop (8 * one_if_any (queued_for start x))) is
    ∙ drop-drop (8 * one_if_any (queued_for start x)) (8 * places_below start x) numbers
    ∙ ap (λ (n : ℕ). drop n numbers) more

-- ---- what is chosen

-- a place without queued writes keeps its block
stands : (block : Block) (queued : List Block) (number : ℕ) → length queued ≡ 0
    → block ≡ slice_index_or (block ∷ queued) (number % (length queued + 1)) block
stands block [] number none =
    let first : 0 ≡ number % (0 + 1) = omega arith in
    ap (λ (i : ℕ). slice_index_or (block ∷ []) i block) first
stands block (b ∷ bs) number none = absurd (omega arith)

pub chosen-none : (numbers : List ℕ) (r : Held) (at : ℕ) → length (queued_for r.queue at) ≡ 0
    → HasChosenWords numbers r at (block_at r.image at)
chosen-none numbers r at none = λ k l.
    ap (λ (b : Block). word_bytes b k) (stands (block_at r.image at) (queued_for r.queue at) (number_at numbers k) none)

-- what a number chooses is the same if the image's block and those queued are
chosen_at-same : (ring start : Held) (x number : ℕ) → block_at ring.image x ≡ block_at start.image x → ring.queue ≡ start.queue
    → chosen_at ring x number ≡ chosen_at start x number
chosen_at-same ring start x number there queued =
    ap (λ (b : Block). slice_index_or (b ∷ queued_for ring.queue x) (number % (length (queued_for ring.queue x) + 1)) b) there
    ∙ ap (λ (q : List Write). slice_index_or (block_at start.image x ∷ queued_for q x) (number % (length (queued_for q x) + 1)) (block_at start.image x)) queued

pub HasChosenWords-same : (numbers others : List ℕ) (ring start : Held) (x : ℕ) (b c : Block) → block_at ring.image x ≡ block_at start.image x
    → ring.queue ≡ start.queue → numbers ≡ others → c ≡ b → HasChosenWords numbers ring x b → HasChosenWords others start x c
HasChosenWords-same numbers others ring start x b c there queued same is words = λ k l.
    ap (λ (d : Block). word_bytes d k) is
    ∙ words k l
    ∙ ap (λ (d : Block). word_bytes d k)
    (chosen_at-same ring start x (number_at numbers k) there queued ∙ ap (λ (ns : List ℕ). chosen_at start x (number_at ns k)) same)
