-- What follows from the definition of blocks that were written over others.
use Rattle.std.proofs.Common.{◌≡◌, ℕ, zero, suc, ◌+◌, ◌<◌, Bool, true, false, if◌then◌else◌, List, [], ◌∷◌, ◌++◌, length, take, drop, replicate, slice_set, refl, sym, ◌∙◌, ap, subst, inl, inr, arith}
use Rattle.std.proofs.lemmas.Bool.{cases_eq, cases_lt, ne_eqb}
use Rattle.std.proofs.lemmas.List.{length-set, get_or-drop, get_or-set_same, get_or-set_other, get_or_past, set-get_or}
use Rattle.thy_block.specs.declared.block.Block.{Block}
use Rattle.thy_block.specs.declared.nvm.Write.{Write}
use Rattle.thy_block.specs.Device.{zero_block, block_at, queued_for, newest_over, applied}
use Rattle.thy_dram.specs.Merged.{merged, is_marked, AreMarked}

-- there is a block for each mark
pub length-merged : (ms : List Bool) (xs ys : List Block) → length (merged ms xs ys) ≡ length ms
length-merged [] xs ys = refl
length-merged (m ∷ ms) xs ys = ap suc (length-merged ms (drop 1 xs) (drop 1 ys))

-- the block at a place
pub block_at-merged : (ms : List Bool) (xs ys : List Block) (x : ℕ) → x < length ms
    → block_at (merged ms xs ys) x ≡ (if is_marked ms x then block_at xs x else block_at ys x)
block_at-merged [] xs ys x l = absurd (omega arith)
block_at-merged (m ∷ ms) xs ys zero l = refl
block_at-merged (m ∷ ms) xs ys (suc x) l =
    let next : 1 + x ≡ suc x = omega arith in
    block_at-merged ms (drop 1 xs) (drop 1 ys) x (omega arith)
    ∙ ap (λ b. if is_marked ms x then b else block_at (drop 1 ys) x) (get_or-drop 1 xs x zero_block ∙ ap (block_at xs) next)
    ∙ ap (λ b. if is_marked ms x then block_at xs (suc x) else b) (get_or-drop 1 ys x zero_block ∙ ap (block_at ys) next)

-- if every place is marked these are the blocks that were written
merged-each : (xs ys : List Block) → merged (replicate (length xs) true) xs ys ≡ xs
merged-each [] ys = refl
merged-each (x ∷ xs) ys = ap (λ bs. x ∷ bs) (merged-each xs (drop 1 ys))

pub merged-all : (n : ℕ) (xs ys : List Block) → length xs ≡ n → merged (replicate n true) xs ys ≡ xs
merged-all n xs ys same = subst (λ (k : ℕ). merged (replicate k true) xs ys ≡ xs) same (merged-each xs ys)

-- if no place is marked these are the blocks below
merged-below : (xs ys : List Block) → merged (replicate (length ys) false) xs ys ≡ ys
merged-below xs [] = refl
merged-below xs (y ∷ ys) = ap (λ bs. y ∷ bs) (merged-below (drop 1 xs) ys)

pub merged-none : (n : ℕ) (xs ys : List Block) → length ys ≡ n → merged (replicate n false) xs ys ≡ ys
merged-none n xs ys same = subst (λ (k : ℕ). merged (replicate k false) xs ys ≡ ys) same (merged-below xs ys)

-- a block that is written at a place, which is marked then
pub merged-write : (ms : List Bool) (xs ys : List Block) (at : ℕ) (block : Block) → length xs ≡ length ms → at < length ms
    → merged (slice_set ms at true) (slice_set xs at block) ys ≡ slice_set (merged ms xs ys) at block
merged-write [] xs ys at block same l = absurd (omega arith)
merged-write (m ∷ ms) [] ys at block same l = absurd (omega arith)
merged-write (m ∷ ms) (x ∷ xs) ys zero block same l = refl
merged-write (m ∷ ms) (x ∷ xs) ys (suc at) block same l =
    ap (λ bs. (if m then x else block_at ys 0) ∷ bs) (merged-write ms xs (drop 1 ys) at block (omega arith) (omega arith))

-- a marked place is one of those that have a mark
pub marked_inside : (ms : List Bool) (x : ℕ) → is_marked ms x ≡ true → x < length ms
marked_inside ms x marked = elim (cases_lt x (length ms)) as (λ _. x < length ms) [
  | inl l ↦ l
  | inr past ↦ let none : is_marked ms x ≡ false = get_or_past ms x false past in absurd (cc)
]

-- a block that is written at a place which is marked already
pub merged-set : (ms : List Bool) (xs ys : List Block) (at : ℕ) (block : Block) → length xs ≡ length ms → is_marked ms at ≡ true
    → merged ms (slice_set xs at block) ys ≡ slice_set (merged ms xs ys) at block
merged-set ms xs ys at block same marked =
    let stays : slice_set ms at true ≡ ms = ap (slice_set ms at) (sym marked) ∙ set-get_or ms at false in
    ap (λ ns. merged ns (slice_set xs at block) ys) (sym stays) ∙ merged-write ms xs ys at block same (marked_inside ms at marked)

-- a block that is copied from below changes nothing
pub merged-copy : (ms : List Bool) (xs ys : List Block) (at : ℕ) → length xs ≡ length ms → at < length ms → is_marked ms at ≡ false
    → merged (slice_set ms at true) (slice_set xs at (block_at ys at)) ys ≡ merged ms xs ys
merged-copy ms xs ys at same l unmarked =
    let here : block_at (merged ms xs ys) at ≡ block_at ys at
    = block_at-merged ms xs ys at l ∙ ap (λ t. if t then block_at xs at else block_at ys at) unmarked in
    merged-write ms xs ys at (block_at ys at) same l
    ∙ ap (slice_set (merged ms xs ys) at) (sym here)
    ∙ set-get_or (merged ms xs ys) at zero_block

-- writes for marked places land on the blocks that were written
pub merged-applied : (ms : List Bool) (xs ys : List Block) (ws : List Write) → length xs ≡ length ms → AreMarked ms ws
    → merged ms (applied xs ws) ys ≡ applied (merged ms xs ys) ws
merged-applied ms xs ys [] same marked = refl
merged-applied ms xs ys (w ∷ ws) same marked =
    merged-applied ms (slice_set xs w.at w.block) ys ws (length-set xs w.at w.block ∙ same) marked.1
    ∙ ap (λ bs. applied bs ws) (merged-set ms xs ys w.at w.block same marked.0)

-- ---- writes for marked places

pub AreMarked-append : (ms : List Bool) (ws vs : List Write) → AreMarked ms ws → AreMarked ms vs → AreMarked ms (ws ++ vs)
AreMarked-append ms [] vs first second = second
AreMarked-append ms (w ∷ ws) vs first second = (first.0, AreMarked-append ms ws vs first.1 second)

pub AreMarked-take : (ms : List Bool) (k : ℕ) (ws : List Write) → AreMarked ms ws → AreMarked ms (take k ws)
AreMarked-take ms zero ws marked = tt
AreMarked-take ms (suc k) [] marked = tt
AreMarked-take ms (suc k) (w ∷ ws) marked = (marked.0, AreMarked-take ms k ws marked.1)

pub AreMarked-drop : (ms : List Bool) (k : ℕ) (ws : List Write) → AreMarked ms ws → AreMarked ms (drop k ws)
AreMarked-drop ms zero ws marked = marked
AreMarked-drop ms (suc k) [] marked = tt
AreMarked-drop ms (suc k) (w ∷ ws) marked = AreMarked-drop ms k ws marked.1

-- a place that is marked in addition
pub marked-set_same : (ms : List Bool) (at : ℕ) → at < length ms → is_marked (slice_set ms at true) at ≡ true
marked-set_same ms at l = get_or-set_same ms at true false l

-- a mark at one place leaves the marks that were there
pub marked-set : (ms : List Bool) (at x : ℕ) → is_marked ms x ≡ true → is_marked (slice_set ms at true) x ≡ true
marked-set ms at x marked = elim (cases_eq x at) as (λ _. is_marked (slice_set ms at true) x ≡ true) [
  | inl e ↦
      let inside : at < length ms = subst (λ (y : ℕ). y < length ms) e (marked_inside ms x marked) in
      ap (is_marked (slice_set ms at true)) e ∙ marked-set_same ms at inside
  | inr other ↦ get_or-set_other ms at x true false other ∙ marked
]

pub AreMarked-set : (ms : List Bool) (at : ℕ) (ws : List Write) → AreMarked ms ws → AreMarked (slice_set ms at true) ws
AreMarked-set ms at [] marked = tt
AreMarked-set ms at (w ∷ ws) marked = (marked-set ms at w.at marked.0, AreMarked-set ms at ws marked.1)

-- for a place without a mark none of them is queued
other_place : (ms : List Bool) (at x : ℕ) → is_marked ms at ≡ true → is_marked ms x ≡ false → (at ≡ x → ⊥)
other_place ms at x marked unmarked e = let same : is_marked ms at ≡ is_marked ms x = ap (is_marked ms) e in absurd (cc)

pub queued_for-unmarked : (ms : List Bool) (ws : List Write) (x : ℕ) → AreMarked ms ws → is_marked ms x ≡ false → queued_for ws x ≡ []
queued_for-unmarked ms [] x marked unmarked = refl
queued_for-unmarked ms (w ∷ ws) x marked unmarked =
    ap (λ t. if t then w.block ∷ queued_for ws x else queued_for ws x) (ne_eqb w.at x (other_place ms w.at x marked.0 unmarked))
    ∙ queued_for-unmarked ms ws x marked.1 unmarked

pub newest_over-unmarked : (block : Block) (ms : List Bool) (ws : List Write) (x : ℕ) → AreMarked ms ws → is_marked ms x ≡ false
    → newest_over block ws x ≡ block
newest_over-unmarked block ms [] x marked unmarked = refl
newest_over-unmarked block ms (w ∷ ws) x marked unmarked =
    ap (λ t. newest_over (if t then w.block else block) ws x) (ne_eqb w.at x (other_place ms w.at x marked.0 unmarked))
    ∙ newest_over-unmarked block ms ws x marked.1 unmarked
