-- The image that a pick leaves is one that a cut may leave.
use Rattle.std.proofs.Common.{◌≡◌, ◌≢◌, ℕ, ◌+◌, ◌-◌, ◌*◌, ◌%◌, ◌<◌, ◌≤◌, zero, suc, false, List, [], ◌∷◌, ◌++◌, length, take, drop, slice_index_or, slice_set, Contains, refl, sym, ◌∙◌, ap, subst, inl, inr, arith}
use Rattle.std.proofs.Math.Seq.{take-add}
use Rattle.std.proofs.lemmas.Bool.{cases_lt, cases_eq, false≢true}
use Rattle.std.proofs.lemmas.List.{append_assoc, length-drop, length-take-le, set-get_or, take_at, take_more_set, drop_at, drop-drop, drop-set-lt, at_drop_more, get_or_past}
use Rattle.std.proofs.lemmas.List.Elements.{Contains-push, Contains-append_left, Contains-get_or}
use Rattle.thy_block.specs.declared.block.Block.{Block}
use Rattle.thy_block.specs.declared.nvm.Write.{Write}
use Rattle.thy_block.specs.Bytes.{written}
use Rattle.thy_block.specs.Device.{Device, word_bytes, IsMadeOf, Crash, IsCut, zero_block, block_at, queued_for, possible, cut_to}
use Rattle.thy_block.specs.Lcg.{lcg_next, lcg_draw}
use Rattle.thy_block.proofs.BlockLemmas.{overwritten-long}
use Rattle.thy_block.proofs.CrashLemmas.{Contains-stands, Crash-of_blocks, CutsWear-same}
use Rattle.thy_block.proofs.MadeLemmas.{IsMadeOf-one}
use Rattle.thy_block.proofs.WrittenLemmas.{drop-written, take-written_behind, take-drop_take}
use Rattle.thy_dram.specs.Held.{Held, device_of, put_at}
use Rattle.thy_nvm.specs.Pick.{drawn_block, drawn_seed, drawn, with_word, torn_on, torn_block, after_draws, torn_seed, torn, torn_at, landing, picked}

-- ---- whole blocks

-- a draw leaves the block that stands or one of those queued for the place
pub Contains-drawn_block : (seed : ℕ) (block : Block) (queued : List Block) → Contains (block ∷ queued) (drawn_block seed block queued)
Contains-drawn_block seed block [] = Contains-push [] block
Contains-drawn_block seed block (b ∷ bs) =
    Contains-get_or (block ∷ b ∷ bs) (lcg_draw (lcg_next seed) % length (block ∷ b ∷ bs)) block (omega arith)

-- the block that is drawn for a place with queued writes is the one at the index that is drawn
pub drawn_block-some : (seed : ℕ) (block : Block) (queued : List Block) → 0 < length queued
    → drawn_block seed block queued ≡ slice_index_or (block ∷ queued) (lcg_draw (lcg_next seed) % (length queued + 1)) block
drawn_block-some seed block [] some = absurd (omega arith)
drawn_block-some seed block (b ∷ bs) some =
    let many : length (block ∷ b ∷ bs) ≡ length (b ∷ bs) + 1 = omega arith in
    ap (λ (n : ℕ). slice_index_or (block ∷ b ∷ bs) (lcg_draw (lcg_next seed) % n) block) many

pub drawn_seed-some : (seed : ℕ) (queued : List Block) → 0 < length queued → drawn_seed seed queued ≡ lcg_next seed
drawn_seed-some seed [] some = absurd (omega arith)
drawn_seed-some seed (b ∷ bs) some = refl

-- draws keep the number of blocks
pub length-drawn : (seed x : ℕ) (blocks : List Block) (queue : List Write) → length (drawn seed x blocks queue) ≡ length blocks
length-drawn seed x [] queue = refl
length-drawn seed x (b ∷ bs) queue = ap suc (length-drawn (drawn_seed seed (queued_for queue x)) (x + 1) bs queue)

-- draws leave at each place a block that is possible there
pub Contains-drawn : (seed from : ℕ) (blocks : List Block) (queue : List Write) (x : ℕ)
    → Contains (block_at blocks x ∷ queued_for queue (from + x)) (block_at (drawn seed from blocks queue) x)
Contains-drawn seed from [] queue x = Contains-append_left (zero_block ∷ []) (queued_for queue (from + x)) zero_block (Contains-push [] zero_block)
Contains-drawn seed from (b ∷ bs) queue zero =
    let at : from ≡ from + zero = omega arith in
    subst (λ (y : ℕ). Contains (b ∷ queued_for queue y) (drawn_block seed b (queued_for queue from))) at
    (Contains-drawn_block seed b (queued_for queue from))
Contains-drawn seed from (b ∷ bs) queue (suc x) =
    let at : from + 1 + x ≡ from + suc x = omega arith in
    let rest : List Block = drawn (drawn_seed seed (queued_for queue from)) (from + 1) bs queue in
    subst (λ (y : ℕ). Contains (block_at bs x ∷ queued_for queue y) (block_at rest x)) at
    (Contains-drawn (drawn_seed seed (queued_for queue from)) (from + 1) bs queue x)

-- draws leave an image that a cut may leave
pub Crash-drawn : (seed : ℕ) (n : Device) → Crash n (drawn seed 0 n.image n.queue)
Crash-drawn seed n =
    Crash-of_blocks n (drawn seed 0 n.image n.queue) (length-drawn seed 0 n.image n.queue)
    (λ x.
    let at : 0 + x ≡ x = omega arith in
    subst (λ (y : ℕ). Contains (block_at n.image x ∷ queued_for n.queue y) (block_at (drawn seed 0 n.image n.queue) x)) at
    (Contains-drawn seed 0 n.image n.queue x))

-- ---- one word of a block over the same word of another

-- of the words of bytes with eight others written at word k that is these
word_here : (xs piece : List ℕ) (k : ℕ) → length xs ≡ 64 → length piece ≡ 8 → k < 8
    → take 8 (drop (8 * k) (written xs (8 * k) piece)) ≡ piece
word_here xs piece k long eight l =
    let rest : List ℕ = drop (8 * k + length piece) xs in
    ap (take 8) (drop_at (take (8 * k) xs) (piece ++ rest) (8 * k) (length-take-le (8 * k) xs (omega (arith, long, l))))
    ∙ take_at piece rest 8 eight

-- the words before the one that was written stay
word_before : (xs piece : List ℕ) (k i : ℕ) → length xs ≡ 64 → length piece ≡ 8 → k < 8 → i < k
    → take 8 (drop (8 * i) (written xs (8 * k) piece)) ≡ take 8 (drop (8 * i) xs)
word_before xs piece k i long eight l before =
    let start : 8 * k + 0 ≡ 8 * k = omega arith in
    let front : take (8 * k) (written xs (8 * k) piece) ≡ take (8 * k) xs =
    ap (λ (at : ℕ). take (8 * k) (written xs at piece)) (sym start) ∙ take-written_behind xs 0 (8 * k) piece (omega (arith, long, l)) in
    sym (take-drop_take (written xs (8 * k) piece) (8 * i) 8 (8 * k) (omega (arith, before)))
    ∙ ap (λ (t : List ℕ). take 8 (drop (8 * i) t)) front
    ∙ take-drop_take xs (8 * i) 8 (8 * k) (omega (arith, before))

-- the draws after it do, too
word_behind : (xs piece : List ℕ) (k i : ℕ) → length xs ≡ 64 → length piece ≡ 8 → k < 8 → k < i
    → take 8 (drop (8 * i) (written xs (8 * k) piece)) ≡ take 8 (drop (8 * i) xs)
word_behind xs piece k i long eight l behind =
    let s : ℕ = 8 * k + 8 in
    let m : ℕ = 8 * i - (8 * k + 8) in
    let e : 8 * k + 8 + (8 * i - (8 * k + 8)) ≡ 8 * i = omega (arith, behind) in
    let rest : drop s (written xs (8 * k) piece) ≡ drop s xs = drop-written xs (8 * k) s piece (omega (arith, eight)) (omega (arith, long, l)) in
    ap (take 8)
    (ap (λ (n : ℕ). drop n (written xs (8 * k) piece)) (sym e)
    ∙ sym (drop-drop m s (written xs (8 * k) piece))
    ∙ ap (drop m) rest
    ∙ drop-drop m s xs
    ∙ ap (λ (n : ℕ). drop n xs) e)

length-word : (b : Block) (k : ℕ) → length b.0 ≡ 64 → k < 8 → length (word_bytes b k) ≡ 8
length-word b k long l = length-take-le 8 (drop (8 * k) b.0) (omega (arith, length-drop (8 * k) b.0, long, l))

module _ (block from : Block) (k : ℕ) (long : length block.0 ≡ 64) (long_from : length from.0 ≡ 64) (l : k < 8) where
  pub word-put : word_bytes (with_word k from block) k ≡ word_bytes from k
  word-put =
      ap (λ (b : Block). word_bytes b k) (overwritten-long (8 * k) (word_bytes from k) block long)
      ∙ word_here block.0 (word_bytes from k) k long (length-word from k long_from l) l

  pub other_word-put : (i : ℕ) → i ≢ k → word_bytes (with_word k from block) i ≡ word_bytes block i
  other_word-put i ne =
      ap (λ (b : Block). word_bytes b i) (overwritten-long (8 * k) (word_bytes from k) block long)
      ∙ (elim (cases_lt i k) as (λ _. take 8 (drop (8 * i) (written block.0 (8 * k) (word_bytes from k))) ≡ take 8 (drop (8 * i) block.0)) [
        | inl before ↦ word_before block.0 (word_bytes from k) k i long (length-word from k long_from l) l before
        | inr behind ↦ word_behind block.0 (word_bytes from k) k i long (length-word from k long_from l) l (omega (arith, behind, ne))
      ])

  -- what was made of some blocks is made of them with a word of one of them
  pub IsMadeOf-put : (blocks : List Block) → Contains blocks from → IsMadeOf blocks block → IsMadeOf blocks (with_word k from block)
  IsMadeOf-put blocks inside made = λ i.
      elim (cases_eq i k) as (λ _. (c : Block) × Contains blocks c × (word_bytes (with_word k from block) i ≡ word_bytes c i)) [
        | inl here ↦ (
          from,
          inside,
          ap (word_bytes (with_word k from block)) here ∙ word-put ∙ ap (word_bytes from) (sym here),
        )
        | inr ne ↦ let of = made i in (of.0, of.1, other_word-put i ne ∙ of.2)
      ]

-- ---- the draws of queued places alone

-- draws leave places for which no write is queued
drawn-skip : (k seed from : ℕ) (blocks : List Block) (queue : List Write) → ((y : ℕ) → from ≤ y → y < from + k → queued_for queue y ≡ [])
    → drawn seed from blocks queue ≡ take k blocks ++ drawn seed (from + k) (drop k blocks) queue
drawn-skip zero seed from blocks queue none =
    let here : from ≡ from + 0 = omega arith in
    ap (λ x. drawn seed x blocks queue) here
drawn-skip (suc k) seed from [] queue none = refl
drawn-skip (suc k) seed from (b ∷ bs) queue none =
    let empty : queued_for queue from ≡ [] = none from (omega arith) (omega arith) in
    let next : from + 1 + k ≡ from + suc k = omega arith in
    ap (λ q. drawn_block seed b q ∷ drawn (drawn_seed seed q) (from + 1) bs queue) empty
    ∙ ap (λ ds. b ∷ ds)
    (drawn-skip k seed (from + 1) bs queue (λ y l m. none y (omega (arith, l)) (omega (arith, m, next)))
    ∙ ap (λ x. take k bs ++ drawn seed x (drop k bs) queue) next)

-- draws leave all blocks from a place on, if no write is queued for them
pub drawn-none : (seed from : ℕ) (blocks : List Block) (queue : List Write) → ((y : ℕ) → from ≤ y → queued_for queue y ≡ [])
    → drawn seed from blocks queue ≡ blocks
drawn-none seed from [] queue none = refl
drawn-none seed from (b ∷ bs) queue none =
    let empty : queued_for queue from ≡ [] = none from (omega arith) in
    ap (λ q. drawn_block seed b q ∷ drawn (drawn_seed seed q) (from + 1) bs queue) empty
    ∙ ap (λ ds. b ∷ ds) (drawn-none seed (from + 1) bs queue (λ y l. none y (omega (arith, l))))

-- the next place for which a write is queued takes its draw
pub drawn-step : (image : List Block) (queue : List Write) (from x draws : ℕ) → from ≤ x → x < length image
    → ((y : ℕ) → from ≤ y → y < x → queued_for queue y ≡ [])
    → take (x + 1) (slice_set image x (drawn_block draws (block_at image x) (queued_for queue x)))
    ++ drawn (drawn_seed draws (queued_for queue x)) (x + 1)
    (drop (x + 1) (slice_set image x (drawn_block draws (block_at image x) (queued_for queue x)))) queue
    ≡ take from image ++ drawn draws from (drop from image) queue
drawn-step image queue from x draws low inside none =
    let k : ℕ = x - from in
    let whole : from + (x - from) ≡ x = omega arith in
    let after : x < x + 1 = omega arith in
    let block : Block = drawn_block draws (block_at image x) (queued_for queue x) in
    let seed : ℕ = drawn_seed draws (queued_for queue x) in
    let skipped : drawn draws from (drop from image) queue ≡ take k (drop from image) ++ drawn draws x (drop x image) queue
    = drawn-skip k draws from (drop from image) queue (λ y l m. none y l (omega (arith, m, whole)))
    ∙ ap (λ n. take k (drop from image) ++ drawn draws n (drop k (drop from image)) queue) whole
    ∙ ap (λ bs. take k (drop from image) ++ drawn draws x bs queue) (drop-drop k from image ∙ ap (λ n. drop n image) whole) in
    let front : take from image ++ take k (drop from image) ≡ take x image = sym (take-add from k image) ∙ ap (λ n. take n image) whole in
    let here : drawn draws x (drop x image) queue ≡ block ∷ drawn seed (x + 1) (drop (x + 1) image) queue
    = at_drop_more (λ bs. drawn draws x bs queue) image x zero_block inside in
    ap (λ bs. bs ++ drawn seed (x + 1) (drop (x + 1) (slice_set image x block)) queue) (take_more_set image x block inside)
    ∙ append_assoc (take x image) (block ∷ []) (drawn seed (x + 1) (drop (x + 1) (slice_set image x block)) queue)
    ∙ ap (λ bs. take x image ++ block ∷ drawn seed (x + 1) bs queue) (drop-set-lt (x + 1) image x block after)
    ∙ ap (λ bs. take x image ++ bs) (sym here)
    ∙ ap (λ bs. bs ++ drawn draws x (drop x image) queue) (sym front)
    ∙ append_assoc (take from image) (take k (drop from image)) (drawn draws x (drop x image) queue)
    ∙ ap (λ bs. take from image ++ bs) (sym skipped)

-- ---- the draws of a place that may be torn

-- the draws of a place that may be torn, after one more word
pub torn_on-more : (k seed : ℕ) (block : Block) (queued : List Block) (torn : Block) → k < 8
    → torn_on (8 - k) k seed block queued torn ≡ torn_on (8 - (k + 1)) (k + 1) (lcg_next seed) block queued
    (with_word k (drawn_block seed block queued) torn)
unfolding torn_on
torn_on-more k seed block queued torn l =
    let left : 8 - k ≡ suc (8 - (k + 1)) = omega (arith, l) in
    ap (λ (n : ℕ). torn_on n k seed block queued torn) left

pub torn_on-none : (k seed : ℕ) (block : Block) (queued : List Block) (torn : Block) → torn_on 0 k seed block queued torn ≡ torn
unfolding torn_on
torn_on-none k seed block queued torn = refl

pub after_draws-more : (k seed : ℕ) → k < 8 → after_draws (8 - k) seed ≡ after_draws (8 - (k + 1)) (lcg_next seed)
unfolding after_draws
after_draws-more k seed l =
    let left : 8 - k ≡ suc (8 - (k + 1)) = omega (arith, l) in
    ap (λ (n : ℕ). after_draws n seed) left

pub after_draws-none : (seed : ℕ) → after_draws 0 seed ≡ seed
unfolding after_draws
after_draws-none seed = refl

pub torn_block-some : (seed : ℕ) (block : Block) (queued : List Block) → 0 < length queued
    → torn_block seed block queued ≡ torn_on 8 0 seed block queued block
torn_block-some seed block [] some = absurd (omega arith)
torn_block-some seed block (b ∷ bs) some = refl

pub torn_seed-some : (seed : ℕ) (queued : List Block) → 0 < length queued → torn_seed seed queued ≡ after_draws 8 seed
torn_seed-some seed [] some = absurd (omega arith)
torn_seed-some seed (b ∷ bs) some = refl

-- a loop takes one draw more for word k
pub torn_on-step : (k seed next : ℕ) (block : Block) (queued : List Block) (chosen torn new : Block) → k < 8
    → chosen ≡ drawn_block seed block queued → next ≡ lcg_next seed → new ≡ with_word k chosen torn
    → torn_on (8 - (k + 1)) (k + 1) next block queued new ≡ torn_on (8 - k) k seed block queued torn
torn_on-step k seed next block queued chosen torn new l is_chosen is_next is_new =
    ap (torn_on (8 - (k + 1)) (k + 1) next block queued) (is_new ∙ ap (λ (b : Block). with_word k b torn) is_chosen)
    ∙ ap (λ (s : ℕ). torn_on (8 - (k + 1)) (k + 1) s block queued (with_word k (drawn_block seed block queued) torn)) is_next
    ∙ sym (torn_on-more k seed block queued torn l)

pub after_draws-step : (k seed next : ℕ) → k < 8 → next ≡ lcg_next seed → after_draws (8 - (k + 1)) next ≡ after_draws (8 - k) seed
after_draws-step k seed next l is_next = ap (after_draws (8 - (k + 1))) is_next ∙ sym (after_draws-more k seed l)

-- a place without queued writes keeps its block
pub torn_block-none : (seed : ℕ) (block : Block) (queued : List Block) → length queued ≡ 0 → torn_block seed block queued ≡ block
torn_block-none seed block [] none = refl
torn_block-none seed block (b ∷ bs) none = absurd (omega arith)

pub torn_seed-none : (seed : ℕ) (queued : List Block) → length queued ≡ 0 → torn_seed seed queued ≡ seed
torn_seed-none seed [] none = refl
torn_seed-none seed (b ∷ bs) none = absurd (omega arith)

pub torn_at-none : (seed x : ℕ) (held : Held) → length (queued_for held.queue x) ≡ 0 → torn_at seed x held ≡ held
torn_at-none seed x held none =
    ap (put_at held x) (torn_block-none seed (block_at held.image x) (queued_for held.queue x) none)
    ∙ ap (λ (i : List Block). record held { image = i }) (set-get_or held.image x zero_block)

-- draws keep the number of blocks
pub length-torn : (seed x : ℕ) (blocks : List Block) (queue : List Write) → length (torn seed x blocks queue) ≡ length blocks
length-torn seed x [] queue = refl
length-torn seed x (b ∷ bs) queue = ap suc (length-torn (torn_seed seed (queued_for queue x)) (x + 1) bs queue)

-- a loop takes the draws of one place more
pub torn-step : (xs : List Block) (i seed next : ℕ) (queue : List Write) → i < length xs → next ≡ torn_seed seed (queued_for queue i)
    → take (i + 1) (slice_set xs i (torn_block seed (block_at xs i) (queued_for queue i)))
    ++ torn next (i + 1) (drop (i + 1) (slice_set xs i (torn_block seed (block_at xs i) (queued_for queue i)))) queue
    ≡ take i xs ++ torn seed i (drop i xs) queue
torn-step xs i seed next queue l e =
    let b : Block = torn_block seed (block_at xs i) (queued_for queue i) in
    let after : i < i + 1 = omega arith in
    let rest : torn seed i (drop i xs) queue ≡ b ∷ torn (torn_seed seed (queued_for queue i)) (i + 1) (drop (i + 1) xs) queue =
    at_drop_more (λ (ys : List Block). torn seed i ys queue) xs i zero_block l in
    ap (λ ys. ys ++ torn next (i + 1) (drop (i + 1) (slice_set xs i b)) queue) (take_more_set xs i b l)
    ∙ append_assoc (take i xs) (b ∷ []) (torn next (i + 1) (drop (i + 1) (slice_set xs i b)) queue)
    ∙ ap (λ ys. take i xs ++ b ∷ torn next (i + 1) ys queue) (drop-set-lt (i + 1) xs i b after)
    ∙ ap (λ n. take i xs ++ b ∷ torn n (i + 1) (drop (i + 1) xs) queue) e
    ∙ ap (λ ys. take i xs ++ ys) (sym rest)

-- what was made of the blocks of a place is made of those that it had, if these are the same
pub IsMadeOf-same : (ring start : Held) (x : ℕ) (b : Block) → block_at ring.image x ≡ block_at start.image x → ring.queue ≡ start.queue
    → IsMadeOf (possible (device_of ring) x) b → IsMadeOf (possible (device_of start) x) b
IsMadeOf-same ring start x b stands queued made =
    subst (λ (c : Block). IsMadeOf (c ∷ queued_for start.queue x) b) stands
    (subst (λ (q : List Write). IsMadeOf (block_at ring.image x ∷ queued_for q x) b) queued made)

-- ---- picks

-- every image whose blocks were made at each place of those possible there may be left, if blocks may be torn
pub Crash-made : (held : Held) (g : List Block) → length g ≡ length held.image
    → ((x : ℕ) → x < length held.image → IsMadeOf (possible (device_of held) x) (block_at g x)) → Crash (landing false held) g
Crash-made held g same made = record {
  same_length = same;
  each = λ x. record {
    words = elim (cases_lt x (length held.image)) as (λ _. IsMadeOf (possible (device_of held) x) (block_at g x)) [
      | inl l ↦ made x l
      | inr past ↦
          subst (IsMadeOf (possible (device_of held) x))
          (get_or_past held.image x zero_block past ∙ sym (get_or_past g x zero_block (omega (arith, past, same))))
          (IsMadeOf-one (possible (device_of held) x) (block_at held.image x) (Contains-stands (device_of held) x))
    ];
    whole = λ e. absurd (false≢true e);
  };
}

-- a device that leaves the image of its pick is cut
pub IsCut-picked : (pick : ℕ) (n old new : Device) → n ≡ old → Crash n (picked n.whole pick n.image n.queue)
    → new ≡ cut_to old pick (picked old.whole pick old.image old.queue) old.wear → IsCut pick old new
IsCut-picked pick n old new same left e =
    subst (IsCut pick old) (sym e)
    (record { crash = subst (λ (d : Device). Crash d (picked d.whole pick d.image d.queue)) same left; wear = CutsWear-same old.down old.wear; device = refl })
