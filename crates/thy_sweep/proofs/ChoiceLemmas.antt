-- The choices of a device, and the images that they give.
use Rattle.std.proofs.Common.{◌≡◌, ◌≢◌, ℕ, zero, suc, ◌+◌, ◌-◌, ◌*◌, ◌/◌, ◌%◌, ◌<◌, ◌≤◌, ◌==◌, ◌^◌, min, Bool, true, false, cond, if◌then◌else◌, List, [], ◌∷◌, ◌++◌, length, take, drop, map, get_or, slice_set, Contains, refl, sym, ◌∙◌, ap, subst, inl, inr, arith, append_assoc, append-nil, length-append}
use Rattle.std.specs.Prelude.{not, slice_index_or}
use Rattle.std.specs.List.{filter, flat_map}
use Rattle.std.proofs.lemmas.Bool.{cases_lt}
use Rattle.std.proofs.lemmas.List.{drop-drop, get_or_append_left, get_or-append_right, get_or-map, at_drop_more, drop_more, length-map}
use Rattle.std.proofs.lemmas.List.Elements.{filter-append, Contains-get_or}
use Rattle.std.proofs.Math.Nat.{add-mul, mul_assoc, mul_comm, suc-mul}
use Rattle.std.proofs.lemmas.Nat.{div-add-mod', div-mul-add, mod-mul-add, mod_below, div_below}
use Rattle.thy_block.specs.declared.block.Block.{Block}
use Rattle.thy_block.specs.declared.nvm.Write.{Write}
use Rattle.thy_block.specs.Device.{Device, Crash, zero_block, block_at, queued_for}
use Rattle.thy_block.proofs.DeviceLemmas.{queued_for-append}
use Rattle.thy_sweep.specs.declared.choices.Choice.{Choice}
use Rattle.thy_sweep.specs.Choices.{Place, place, place_in, lists_block, listed, with_write, with_place, places_from, places_of, count_of, chosen, index_of, ArePlaces, AreNumbered, NumberImages}
use Rattle.thy_sweep.specs.Images.{is_same_block, distinct, choices_at, images_from, count_from, crash_images}
use Rattle.thy_sweep.proofs.ImageLemmas.{same_block, led_by, images-count, lists_crashes}

-- ---- blocks, each once

-- the test by which the repetitions of a block are left out
abbrev differs : Block → Block → Bool
differs b d = not (is_same_block b d)

-- a block that the test lets pass is listed before it as after it
lists-filter : (b c : Block) (ds : List Block) → is_same_block b c ≡ false → lists_block (filter (differs b) ds) c ≡ lists_block ds c
lists-filter b c [] e = refl
lists-filter b c (d ∷ ds) e = elim (is_same_block d c)
    as (λ t. is_same_block d c ≡ t → lists_block (cond (differs b d) (d ∷ filter (differs b) ds) (filter (differs b) ds)) c ≡ (if t then true else lists_block ds c)) [
      | true ↦ λ same.
          let passes : differs b d ≡ true = ap (differs b) (same_block d c same) ∙ ap not e in
          ap (λ t. lists_block (cond t (d ∷ filter (differs b) ds) (filter (differs b) ds)) c) passes
          ∙ ap (λ t. if t then true else lists_block (filter (differs b) ds) c) same
      | false ↦ λ other. elim (differs b d)
          as (λ t. lists_block (cond t (d ∷ filter (differs b) ds) (filter (differs b) ds)) c ≡ lists_block ds c) [
            | true ↦ ap (λ t. if t then true else lists_block (filter (differs b) ds) c) other ∙ lists-filter b c ds e
            | false ↦ lists-filter b c ds e
          ]
    ] refl

-- a block of which the first is a repetition is left out
filter-same : (b c : Block) (ds : List Block) → is_same_block b c ≡ true → filter (differs b) (listed ds c) ≡ filter (differs b) ds
filter-same b c ds e = elim (lists_block ds c) as (λ t. filter (differs b) (if t then ds else ds ++ c ∷ []) ≡ filter (differs b) ds) [
  | true ↦ refl
  | false ↦
      filter-append (differs b) ds (c ∷ [])
      ∙ ap (λ t. filter (differs b) ds ++ cond (not t) (c ∷ []) []) e
      ∙ append-nil (filter (differs b) ds)
]

-- another one stays
filter-other : (b c : Block) (ds : List Block) → is_same_block b c ≡ false → filter (differs b) (listed ds c) ≡ listed (filter (differs b) ds) c
filter-other b c ds e =
    (elim (lists_block ds c)
    as (λ t. filter (differs b) (if t then ds else ds ++ c ∷ []) ≡ (if t then filter (differs b) ds else filter (differs b) ds ++ c ∷ [])) [
      | true ↦ refl
      | false ↦
          filter-append (differs b) ds (c ∷ [])
          ∙ ap (λ t. filter (differs b) ds ++ cond (not t) (c ∷ []) []) e
    ])
    ∙ ap (λ t. if t then filter (differs b) ds else filter (differs b) ds ++ c ∷ []) (sym (lists-filter b c ds e))

-- a first block that is another one
first-apart : (b c : Block) (ds : List Block) → b ∷ listed ds c ≡ (if lists_block ds c then b ∷ ds else (b ∷ ds) ++ c ∷ [])
first-apart b c ds = elim (lists_block ds c) as (λ t. b ∷ (if t then ds else ds ++ c ∷ []) ≡ (if t then b ∷ ds else (b ∷ ds) ++ c ∷ [])) [
  | true ↦ refl
  | false ↦ refl
]

-- with one block more the first stays the first
listed-first : (b c : Block) (ds : List Block) → b ∷ filter (differs b) (listed ds c) ≡ listed (b ∷ filter (differs b) ds) c
listed-first b c ds = elim (is_same_block b c)
    as (λ t. is_same_block b c ≡ t → b ∷ filter (differs b) (listed ds c)
    ≡ (if (if t then true else lists_block (filter (differs b) ds) c) then b ∷ filter (differs b) ds else (b ∷ filter (differs b) ds) ++ c ∷ [])) [
      | true ↦ λ same. ap (λ es. b ∷ es) (filter-same b c ds same)
      | false ↦ λ other. ap (λ es. b ∷ es) (filter-other b c ds other) ∙ first-apart b c (filter (differs b) ds)
    ] refl

-- one block more
pub distinct-one : (bs : List Block) (c : Block) → distinct (bs ++ c ∷ []) ≡ listed (distinct bs) c
distinct-one [] c = refl
distinct-one (b ∷ bs) c = ap (λ es. b ∷ filter (differs b) es) (distinct-one bs c) ∙ listed-first b c (distinct bs)

-- a block that is queued too, or not
choices-by : (b : Block) (qs : List Block) (c : Block) (t : Bool) → (if t then listed (distinct (b ∷ qs)) c else distinct (b ∷ qs)) ≡ distinct (b ∷ (qs ++ (if t then c ∷ [] else [])))
choices-by b qs c true = sym (distinct-one (b ∷ qs) c)
choices-by b qs c false = ap (λ q. distinct (b ∷ q)) (sym (append-nil qs))

-- one write more
pub choices-one : (at : ℕ) (b : Block) (ws : List Write) (w : Write) → with_write at w (choices_at at b ws) ≡ choices_at at b (ws ++ w ∷ [])
choices-one at b ws w =
    let all : queued_for (ws ++ w ∷ []) at ≡ queued_for ws at ++ (if w.at == at then w.block ∷ [] else []) = queued_for-append ws (w ∷ []) at in
    choices-by b (queued_for ws at) w.block (w.at == at) ∙ ap (λ q. distinct (b ∷ q)) (sym all)

-- ---- the places for which writes are queued

-- those for which none is queued are not listed
places-skip : (k from : ℕ) (blocks : List Block) (queue : List Write) → ((y : ℕ) → from ≤ y → y < from + k → queued_for queue y ≡ [])
    → places_from from blocks queue ≡ places_from (from + k) (drop k blocks) queue
places-skip zero from blocks queue none = let here : from ≡ from + 0 = omega arith in ap (λ x. places_from x blocks queue) here
places-skip (suc k) from [] queue none = refl
places-skip (suc k) from (b ∷ bs) queue none =
    let empty : queued_for queue from ≡ [] = none from (omega arith) (omega arith) in
    let next : from + 1 + k ≡ from + suc k = omega arith in
    ap (λ q. with_place from b q (places_from (from + 1) bs queue)) empty
    ∙ places-skip k (from + 1) bs queue (λ y l m. none y (omega (arith, l)) (omega (arith, m, next)))
    ∙ ap (λ x. places_from x (drop k bs) queue) next

-- none is left, if none is queued
pub places-none : (from : ℕ) (blocks : List Block) (queue : List Write) → ((y : ℕ) → from ≤ y → queued_for queue y ≡ []) → places_from from blocks queue ≡ []
places-none from [] queue none = refl
places-none from (b ∷ bs) queue none =
    let empty : queued_for queue from ≡ [] = none from (omega arith) in
    ap (λ q. with_place from b q (places_from (from + 1) bs queue)) empty
    ∙ places-none (from + 1) bs queue (λ y l. none y (omega (arith, l)))

-- a place for which one is queued is listed
with_place-queued : (x : ℕ) (b : Block) (qs : List Block) (places : List Place) → 0 < length qs → with_place x b qs places ≡ place x (distinct (b ∷ qs)) ∷ places
with_place-queued x b [] places l = absurd (omega arith)
with_place-queued x b (q ∷ qs) places l = refl

-- the next place is the lowest for which one is queued
pub places-step : (image : List Block) (queue : List Write) (from x : ℕ) → from ≤ x → x < length image → 0 < length (queued_for queue x)
    → ((y : ℕ) → from ≤ y → y < x → queued_for queue y ≡ [])
    → place x (choices_at x (block_at image x) queue) ∷ places_from (x + 1) (drop (x + 1) image) queue ≡ places_from from (drop from image) queue
places-step image queue from x low inside queued none =
    let k : ℕ = x - from in
    let whole : from + (x - from) ≡ x = omega arith in
    let here : places_from x (drop x image) queue
    ≡ with_place x (block_at image x) (queued_for queue x) (places_from (x + 1) (drop (x + 1) image) queue)
    = at_drop_more (λ bs. places_from x bs queue) image x zero_block inside in
    sym (
    places-skip k from (drop from image) queue (λ y l m. none y l (omega (arith, m, whole)))
    ∙ ap (λ n. places_from n (drop k (drop from image)) queue) whole
    ∙ ap (λ bs. places_from x bs queue) (drop-drop k from image ∙ ap (λ n. drop n image) whole)
    ∙ here
    ∙ with_place-queued x (block_at image x) (queued_for queue x) (places_from (x + 1) (drop (x + 1) image) queue) queued
    )

-- ---- numbers

-- a number of one row more
row-more : (g j : ℕ) → 0 < g → ((g + j) / g ≡ suc (j / g)) × ((g + j) % g ≡ j % g)
row-more g j some =
    let below : j % g < g = mod_below j g some in
    let whole : j / g * g + j % g ≡ j = div-add-mod' j g in
    let row : suc (j / g) * g ≡ g + j / g * g = suc-mul (j / g) g ∙ (let t : j / g * g + g ≡ g + j / g * g = omega arith in t) in
    let split : suc (j / g) * g + j % g ≡ g + j = omega (arith, row, whole) in (
      ap (λ n. n / g) (sym split) ∙ div-mul-add (suc (j / g)) g (j % g) below,
      ap (λ n. n % g) (sym split) ∙ mod-mul-add (suc (j / g)) g (j % g) below,
    )

-- a number of the first row
row-first : (g i : ℕ) → i < g → (i / g ≡ 0) × (i % g ≡ i)
row-first g i l =
    let split : 0 * g + i ≡ i = omega arith in (
      ap (λ n. n / g) (sym split) ∙ div-mul-add 0 g i l,
      ap (λ n. n % g) (sym split) ∙ mod-mul-add 0 g i l,
    )

-- the image of a number among those that begin with one of some blocks
nth-flat : (cs : List Block) (gs : List (List Block)) (i : ℕ) → i < length cs * length gs
    → get_or (flat_map (λ (c : Block). led_by c gs) cs) i [] ≡ block_at cs (i / length gs) ∷ get_or gs (i % length gs) []
nth-flat [] gs i l = absurd (omega (arith, l))
nth-flat (c ∷ cs) gs i l =
    let rest : List (List Block) = flat_map (λ (c : Block). led_by c gs) cs in
    let long : length (led_by c gs) ≡ length gs = length-map gs (λ (h : List Block). c ∷ h) in
    elim (cases_lt i (length gs)) as (λ _. get_or (led_by c gs ++ rest) i [] ≡ block_at (c ∷ cs) (i / length gs) ∷ get_or gs (i % length gs) []) [
      | inl first ↦
          let row = row-first (length gs) i first in
          get_or_append_left (led_by c gs) rest [] i (omega (arith, first, long))
          ∙ get_or-map (λ (h : List Block). c ∷ h) gs i [] [] first
          ∙ ap (λ k. block_at (c ∷ cs) k ∷ get_or gs i []) (sym row.0)
          ∙ ap (λ k. block_at (c ∷ cs) (i / length gs) ∷ get_or gs k []) (sym row.1)
      | inr later ↦
          let more : suc (length cs) * length gs ≡ length gs + length cs * length gs
          = suc-mul (length cs) (length gs) ∙ (let t : length cs * length gs + length gs ≡ length gs + length cs * length gs = omega arith in t) in
          let some : 0 < length gs = elim (length gs) as (λ n. i < suc (length cs) * n → 0 < n) [
            | zero ↦ λ m. absurd (omega (arith, m))
            | suc n ↦ λ m. omega arith
          ] l in
          let whole : length gs + (i - length gs) ≡ i = omega (arith, later) in
          let row = row-more (length gs) (i - length gs) some in
          get_or-append_right (led_by c gs) rest (length gs) i [] long later
          ∙ nth-flat cs gs (i - length gs) (omega (arith, l, more, whole))
          ∙ ap (λ k. block_at (c ∷ cs) k ∷ get_or gs ((i - length gs) % length gs) []) (sym row.0)
          ∙ ap (λ k. block_at (c ∷ cs) ((length gs + (i - length gs)) / length gs) ∷ get_or gs k []) (sym row.1)
          ∙ ap (λ k. block_at (c ∷ cs) (k / length gs) ∷ get_or gs (k % length gs) []) whole
    ]

-- ---- the images of the places

-- their number is the product of the choices from x on
count-places : (x : ℕ) (blocks : List Block) (queue : List Write) → count_of (places_from x blocks queue) ≡ count_from x blocks queue
count-places x [] queue = refl
count-places x (b ∷ bs) queue =
    (elim (queued_for queue x)
    as (λ q. count_of (with_place x b q (places_from (x + 1) bs queue)) ≡ length (distinct (b ∷ q)) * count_of (places_from (x + 1) bs queue)) [
      | [] ↦ let e : count_of (places_from (x + 1) bs queue) ≡ 1 * count_of (places_from (x + 1) bs queue) = omega arith in e
      | q ∷ qs ↦ refl
    ])
    ∙ ap (λ k. length (choices_at x b queue) * k) (count-places (x + 1) bs queue)

-- the image of a number, place by place
abbrev image_at : ℕ → List Block → List Write → ℕ → List Block
image_at x [] queue i = []
image_at x (b ∷ bs) queue i =
    block_at (choices_at x b queue) (i / count_from (x + 1) bs queue) ∷ image_at (x + 1) bs queue (i % count_from (x + 1) bs queue)

-- numbers of the rest are below its count
rest-below : (a b i : ℕ) → i < a * b → i % b < b
rest-below a zero i l = absurd (omega (arith, l))
rest-below a (suc b) i l = mod_below i (suc b) (omega arith)

-- it is the listed one
images-nth : (x : ℕ) (blocks : List Block) (queue : List Write) (i : ℕ) → i < count_from x blocks queue → get_or (images_from x blocks queue) i [] ≡ image_at x blocks queue i
images-nth x [] queue zero l = refl
images-nth x [] queue (suc i) l = absurd (omega arith)
images-nth x (b ∷ bs) queue i l =
    let cs : List Block = choices_at x b queue in
    let gs : List (List Block) = images_from (x + 1) bs queue in
    let count : length gs ≡ count_from (x + 1) bs queue = images-count (x + 1) bs queue in
    let less : i < length cs * length gs = subst (λ (k : ℕ). i < length cs * k) (sym count) l in
    nth-flat cs gs i less
    ∙ ap (λ k. block_at cs (i / k) ∷ get_or gs (i % k) []) count
    ∙ ap (λ g. block_at cs (i / count_from (x + 1) bs queue) ∷ g)
    (images-nth (x + 1) bs queue (i % count_from (x + 1) bs queue) (rest-below (length cs) (count_from (x + 1) bs queue) i l))

-- a block that is set after others
set-behind : (front : List Block) (b c : Block) (bs : List Block) → slice_set (front ++ b ∷ bs) (length front) c ≡ (front ++ c ∷ []) ++ bs
set-behind [] b c bs = refl
set-behind (f ∷ front) b c bs = ap (λ xs. f ∷ xs) (set-behind front b c bs)

-- the blocks that a place without a queued write leaves: its own
alone : (b : Block) (i n : ℕ) → i < 1 * n → (i % n ≡ i) × (block_at (distinct (b ∷ [])) (i / n) ≡ b)
alone b i n l =
    let row = row-first n i (omega (arith, l)) in
    (row.1, ap (block_at (b ∷ [])) row.0)

-- the chosen blocks make it
chosen-image : (front blocks : List Block) (queue : List Write) (x i : ℕ) → length front ≡ x → i < count_from x blocks queue
    → chosen (places_from x blocks queue) i (front ++ blocks) ≡ front ++ image_at x blocks queue i
chosen-image front [] queue x i at l = refl
chosen-image front (b ∷ bs) queue x i at l =
    let rest : List Place = places_from (x + 1) bs queue in
    let many : count_of rest ≡ count_from (x + 1) bs queue = count-places (x + 1) bs queue in
    let on : (c : Block) (k : ℕ) → k < count_from (x + 1) bs queue → chosen rest k ((front ++ c ∷ []) ++ bs) ≡ front ++ c ∷ image_at (x + 1) bs queue k
    = λ c k less.
    chosen-image (front ++ c ∷ []) bs queue (x + 1) k (length-append front (c ∷ []) ∙ omega (arith, at)) less
    ∙ append_assoc front (c ∷ []) (image_at (x + 1) bs queue k) in
    elim (queued_for queue x)
    as (λ q. i < length (distinct (b ∷ q)) * count_from (x + 1) bs queue
    → chosen (with_place x b q rest) i (front ++ b ∷ bs)
    ≡ front ++ block_at (distinct (b ∷ q)) (i / count_from (x + 1) bs queue) ∷ image_at (x + 1) bs queue (i % count_from (x + 1) bs queue)) [
      | [] ↦ λ less.
          let own = alone b i (count_from (x + 1) bs queue) less in
          ap (chosen rest i) (sym (append_assoc front (b ∷ []) bs))
          ∙ on b i (omega (arith, less))
          ∙ ap (λ c. front ++ c ∷ image_at (x + 1) bs queue i) (sym own.1)
          ∙ ap (λ k. front ++ block_at (distinct (b ∷ [])) (i / count_from (x + 1) bs queue) ∷ image_at (x + 1) bs queue k) (sym own.0)
      | q ∷ qs ↦ λ less.
          let cs : List Block = distinct (b ∷ q ∷ qs) in
          ap (λ k. chosen rest (i % k) (slice_set (front ++ b ∷ bs) x (block_at cs (i / k)))) many
          ∙ ap (λ k. chosen rest (i % count_from (x + 1) bs queue) (slice_set (front ++ b ∷ bs) k (block_at cs (i / count_from (x + 1) bs queue)))) (sym at)
          ∙ ap (chosen rest (i % count_from (x + 1) bs queue)) (set-behind front b (block_at cs (i / count_from (x + 1) bs queue)) bs)
          ∙ on (block_at cs (i / count_from (x + 1) bs queue)) (i % count_from (x + 1) bs queue)
          (rest-below (length cs) (count_from (x + 1) bs queue) i less)
    ] l

-- each place is one of the image
places-within : (size x : ℕ) (blocks : List Block) (queue : List Write) → x + length blocks ≤ size → ArePlaces size (places_from x blocks queue)
places-within size x [] queue l = tt
places-within size x (b ∷ bs) queue l =
    let rest : ArePlaces size (places_from (x + 1) bs queue) = places-within size (x + 1) bs queue (omega (arith, l)) in
    elim (queued_for queue x) as (λ q. ArePlaces size (with_place x b q (places_from (x + 1) bs queue))) [
      | [] ↦ rest
      | q ∷ qs ↦ (omega (arith, l), rest)
    ]

pub numbers_images : NumberImages
numbers_images n = record {
  within = places-within (length n.image) 0 n.image n.queue (omega arith);
  count = count-places 0 n.image n.queue ∙ sym (images-count 0 n.image n.queue);
  each = λ i l.
      let less : i < count_from 0 n.image n.queue = subst (λ (k : ℕ). i < k) (count-places 0 n.image n.queue) l in
      images-nth 0 n.image n.queue i less ∙ sym (chosen-image [] n.image n.queue 0 i refl less);
}

-- a cut can leave each of them
pub chosen-crash : (n : Device) (i : ℕ) → i < count_of (places_of n) → Crash n (chosen (places_of n) i n.image)
chosen-crash n i l =
    let numbers : AreNumbered n = numbers_images n in
    let less : i < length (crash_images n) = subst (λ (k : ℕ). i < k) numbers.count l in
    (lists_crashes n (chosen (places_of n) i n.image)).0
    (subst (Contains (crash_images n)) (numbers.each i l) (Contains-get_or (crash_images n) i [] less))

-- ---- products that stop at a last value

-- a number is at most its product with one above 0
less-times : (m c : ℕ) → m ≤ m * suc c
less-times zero c = omega arith
less-times (suc m) c = let rest = less-times m c in let e : suc m * suc c ≡ suc c + m * suc c = suc-mul m (suc c) ∙ (let t : m * suc c + suc c ≡ suc c + m * suc c = omega arith in t) in omega (arith, rest, e)

pub min-below : (a m k : ℕ) → k ≡ min a m → k ≤ m
min-below a m k e = omega (arith, e)

pub min-one : (a m : ℕ) → a ≤ m → min (a * 1) m ≡ a
min-one a m l = omega (arith, l)

pub min-last : (a m : ℕ) → a ≤ m → min (a * 1 + 0) m ≡ a
min-last a m l = omega (arith, l)

-- one digit more
pub min-digit : (m a b i c r : ℕ) → min (min (min (a * b) m + i) m * c + r) m ≡ min (a * (b * c) + (i * c + r)) m
min-digit m a b i zero r =
    let z : b * 0 ≡ 0 = omega arith in
    let none : a * 0 ≡ 0 = omega arith in
    let last : i * 0 ≡ 0 = omega arith in
    let first : min (min (a * b) m + i) m * 0 ≡ 0 = omega arith in
    let all : 0 + r ≡ a * (b * 0) + (i * 0 + r) = omega (arith, ap (λ k. a * k) z ∙ none, last) in
    ap (λ k. min (k + r) m) first ∙ ap (λ k. min k m) all
min-digit m a b i (suc c) r =
    let n : ℕ = a * b in
    let whole : a * (b * suc c) ≡ n * suc c = sym (mul_assoc a b (suc c)) in
    let spread : (n + i) * suc c ≡ n * suc c + i * suc c = add-mul n i (suc c) in
    elim (cases_lt (n + i) m) as (λ _. min (min (min n m + i) m * suc c + r) m ≡ min (a * (b * suc c) + (i * suc c + r)) m) [
      | inl less ↦
          let same : min (min n m + i) m ≡ n + i = omega (arith, less) in
          let all : (n + i) * suc c + r ≡ a * (b * suc c) + (i * suc c + r) = omega (arith, spread, whole) in
          ap (λ k. min (k * suc c + r) m) same ∙ ap (λ k. min k m) all
      | inr more ↦
          let same : min (min n m + i) m ≡ m = omega (arith, more) in
          let left : m ≤ m * suc c = less-times m c in
          let right : n + i ≤ (n + i) * suc c = less-times (n + i) c in
          let at_left : min (m * suc c + r) m ≡ m = omega (arith, left) in
          let at_right : min (a * (b * suc c) + (i * suc c + r)) m ≡ m = omega (arith, whole, spread, right, more) in
          ap (λ k. min (k * suc c + r) m) same ∙ at_left ∙ sym at_right
    ]

pub min-times : (m a b c : ℕ) → min (min (a * b) m * c) m ≡ min (a * (b * c)) m
min-times m a b zero =
    let z : b * 0 ≡ 0 = omega arith in
    let none : a * 0 ≡ 0 = omega arith in
    let nothing : min (a * b) m * 0 ≡ 0 = omega arith in
    ap (λ k. min k m) (nothing ∙ sym (ap (λ k. a * k) z ∙ none))
min-times m a b (suc c) =
    let n : ℕ = a * b in
    let whole : a * (b * suc c) ≡ n * suc c = sym (mul_assoc a b (suc c)) in
    elim (cases_lt n m) as (λ _. min (min n m * suc c) m ≡ min (a * (b * suc c)) m) [
      | inl less ↦
          let same : min n m ≡ n = omega (arith, less) in
          ap (λ k. min (k * suc c) m) same ∙ ap (λ k. min k m) (sym whole)
      | inr more ↦
          let same : min n m ≡ m = omega (arith, more) in
          let left : m ≤ m * suc c = less-times m c in
          let right : n ≤ n * suc c = less-times n c in
          let at_left : min (m * suc c) m ≡ m = omega (arith, left) in
          let at_right : min (n * suc c) m ≡ m = omega (arith, right, more) in
          ap (λ k. min (k * suc c) m) same ∙ at_left ∙ sym at_right ∙ ap (λ k. min k m) (sym whole)
    ]

-- ---- one place of a number

-- both factors of a product above a number are above 0
pub some-each : (a b i : ℕ) → i < a * b → (0 < a) × (0 < b)
some-each zero b i l = absurd (omega (arith, l))
some-each (suc a) zero i l = absurd (omega (arith, l))
some-each (suc a) (suc b) i l = (omega arith, omega arith)

-- a product divided by its first factor
pub quotient : (a b : ℕ) → 0 < a → a * b / a ≡ b
quotient a b some =
    let turned : a * b ≡ b * a + 0 = mul_comm a b ∙ (let t : b * a ≡ b * a + 0 = omega arith in t) in
    ap (λ n. n / a) turned ∙ div-mul-add b a 0 some

-- ---- the choices in memory

-- the next of them
pub places-first : (cs : List Choice) (i : ℕ) (x : Choice) → i < length cs → x ≡ get_or cs i x → map place_in (drop i cs) ≡ place_in x ∷ map place_in (drop (i + 1) cs)
places-first cs i x inside is = ap (map place_in) (drop_more cs i x inside ∙ ap (λ y. y ∷ drop (i + 1) cs) (sym is))

-- the next place has a block, if there is an image
pub some_choice : (cs : List Choice) (i : ℕ) (x : Choice) (rest number : ℕ) → i < length cs → x ≡ get_or cs i x → rest ≡ count_of (map place_in (drop i cs)) → number < rest
    → 0 < length (place_in x).blocks
some_choice cs i x rest number inside is counts l =
    let all : rest ≡ length (place_in x).blocks * count_of (map place_in (drop (i + 1) cs)) = counts ∙ ap count_of (places-first cs i x inside is) in
    (some-each (length (place_in x).blocks) (count_of (map place_in (drop (i + 1) cs))) number (subst (λ (k : ℕ). number < k) all l)).0

-- a number is the index of one of the next place's blocks, and a number of the places after it
pub record IsDigit (p : Place) (places : List Place) (after number : ℕ) : Type 0 where
  pub left : after ≡ count_of places
  pub some_left : 0 < after
  pub inside : number / after < length p.blocks
  pub below : number % after < after

pub is_digit : (cs : List Choice) (i : ℕ) (x : Choice) (rest after number : ℕ) → i < length cs → x ≡ get_or cs i x → rest ≡ count_of (map place_in (drop i cs))
    → number < rest → after ≡ rest / length (place_in x).blocks → IsDigit (place_in x) (map place_in (drop (i + 1) cs)) after number
is_digit cs i x rest after number inside is counts l divided =
    let size : ℕ = length (place_in x).blocks in
    let many : ℕ = count_of (map place_in (drop (i + 1) cs)) in
    let all : rest ≡ size * many = counts ∙ ap count_of (places-first cs i x inside is) in
    let less : number < size * many = subst (λ (k : ℕ). number < k) all l in
    let some = some-each size many number less in
    let left : after ≡ many = divided ∙ ap (λ n. n / size) all ∙ quotient size many some.0 in
    record {
      left = left;
      some_left = subst (λ (k : ℕ). 0 < k) (sym left) some.1;
      inside = subst (λ (k : ℕ). number / k < size) (sym left) (div_below number many size some.1 less);
      below = subst (λ (k : ℕ). number % k < k) (sym left) (mod_below number many some.1);
    }

-- the choices from a position on are places, too
pub ArePlaces-drop : (size : ℕ) (cs : List Choice) (i : ℕ) → ArePlaces size (map place_in cs) → ArePlaces size (map place_in (drop i cs))
ArePlaces-drop size cs zero are = are
ArePlaces-drop size [] (suc i) are = tt
ArePlaces-drop size (c ∷ cs) (suc i) are = ArePlaces-drop size cs i are.1

-- ---- lists of blocks

-- whether a block is one of those from a position on
pub lists-at : (bs : List Block) (c : Block) (i : ℕ) (t : Bool) → i < length bs → is_same_block (block_at bs i) c ≡ t
    → lists_block (drop i bs) c ≡ (if t then true else lists_block (drop (i + 1) bs) c)
lists-at bs c i t inside e =
    at_drop_more (λ xs. lists_block xs c) bs i zero_block inside
    ∙ ap (λ s. if s then true else lists_block (drop (i + 1) bs) c) e

-- the index of a block among others
pub index-at : (bs : List Block) (c : Block) (i : ℕ) (t : Bool) → i < length bs → is_same_block (block_at bs i) c ≡ t
    → index_of (drop i bs) c ≡ (if t then 0 else suc (index_of (drop (i + 1) bs) c))
index-at bs c i t inside e =
    at_drop_more (λ xs. index_of xs c) bs i zero_block inside
    ∙ ap (λ s. if s then 0 else suc (index_of (drop (i + 1) bs) c)) e
