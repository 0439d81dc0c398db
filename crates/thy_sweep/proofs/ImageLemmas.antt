-- The images that are listed for a device are those that a cut can leave.
use Rattle.std.proofs.Common.{◌≡◌, ◌⊎◌, ℕ, zero, suc, ◌+◌, ◌*◌, ◌<◌, ◌≤◌, Bool, true, false, cond, List, [], ◌∷◌, ◌++◌, length, drop, map, Contains, refl, sym, ◌∙◌, ap, subst, inl, inr, arith, length-append}
use Rattle.std.specs.Prelude.{not}
use Rattle.std.specs.List.{filter, flat_map}
use Rattle.std.proofs.lemmas.Bool.{cases_lt}
use Rattle.std.proofs.lemmas.List.{get_or_past, length-map}
use Rattle.std.proofs.lemmas.List.Elements.{Contains-push, Contains-push_cases, Contains-append_left, Contains-append_right, Contains-append_cases}
use Rattle.std.proofs.lemmas.Slice.Eq.{bytes_eq-Decides}
use Rattle.thy_block.specs.declared.block.Block.{Block}
use Rattle.thy_block.specs.declared.nvm.Write.{Write}
use Rattle.thy_block.specs.Device.{Device, Crash, zero_block, block_at, queued_for, possible}
use Rattle.thy_block.proofs.CrashLemmas.{Crash-of_blocks, Crash-whole}
use Rattle.thy_sweep.specs.Images.{is_same_block, distinct, choices_at, images_from, count_from, AreDistinct, ListCrashes, ListEachOnce, CountImages}

-- ---- what a list has

not_in_nil : {X : Type 0} (x : X) → Contains [] x → ⊥
not_in_nil x h = absurd (omega (arith, h.1))

in_here : {X : Type 0} (x : X) (xs : List X) → Contains (x ∷ xs) x
in_here x xs = Contains-append_left (x ∷ []) xs x (Contains-push [] x)

in_rest : {X : Type 0} (x : X) (xs : List X) (y : X) → Contains xs y → Contains (x ∷ xs) y
in_rest x xs y h = Contains-append_right (x ∷ []) xs y h

-- the first, or one of the rest
in_cases : {X : Type 0} (x : X) (xs : List X) (y : X) → Contains (x ∷ xs) y → (x ≡ y) ⊎ Contains xs y
in_cases x xs y h = elim (Contains-append_cases (x ∷ []) xs y h) as (λ _. (x ≡ y) ⊎ Contains xs y) [
  | inl first ↦ elim (Contains-push_cases [] x y first) as (λ _. (x ≡ y) ⊎ Contains xs y) [
    | inl none ↦ absurd (not_in_nil y none)
    | inr same ↦ inl same
  ]
  | inr rest ↦ inr rest
]

in_map : {X Y : Type 0} (f : X → Y) (xs : List X) (x : X) → Contains xs x → Contains (map f xs) (f x)
in_map f [] x h = absurd (not_in_nil x h)
in_map f (y ∷ ys) x h = elim (in_cases y ys x h) as (λ _. Contains (map f (y ∷ ys)) (f x)) [
  | inl same ↦ subst (λ z. Contains (map f (y ∷ ys)) (f z)) same (in_here (f y) (map f ys))
  | inr rest ↦ in_rest (f y) (map f ys) (f x) (in_map f ys x rest)
]

-- an element of a mapped list is what one of the list became
record IsMapped {X Y : Type 0} (f : X → Y) (xs : List X) (z : Y) : Type 0 where
  pub x : X
  pub is_in : Contains xs x
  pub becomes : f x ≡ z

from_map : {X Y : Type 0} (f : X → Y) (xs : List X) (z : Y) → Contains (map f xs) z → IsMapped f xs z
from_map f [] z h = absurd (not_in_nil z h)
from_map f (y ∷ ys) z h = elim (in_cases (f y) (map f ys) z h) as (λ _. IsMapped f (y ∷ ys) z) [
  | inl same ↦ record { x = y; is_in = in_here y ys; becomes = same }
  | inr rest ↦ let r = from_map f ys z rest in record { x = r.x; is_in = in_rest y ys r.x r.is_in; becomes = r.becomes }
]

in_flat_map : {X A : Type 0} (f : X → List A) (xs : List X) (x : X) (a : A) → Contains xs x → Contains (f x) a → Contains (flat_map f xs) a
in_flat_map f [] x a h k = absurd (not_in_nil x h)
in_flat_map f (y ∷ ys) x a h k = elim (in_cases y ys x h) as (λ _. Contains (f y ++ flat_map f ys) a) [
  | inl same ↦ Contains-append_left (f y) (flat_map f ys) a (subst (λ z. Contains (f z) a) (sym same) k)
  | inr rest ↦ Contains-append_right (f y) (flat_map f ys) a (in_flat_map f ys x a rest k)
]

-- an element of lists one after another is one of one of them
record IsJoined {X A : Type 0} (f : X → List A) (xs : List X) (a : A) : Type 0 where
  pub x : X
  pub is_in : Contains xs x
  pub has : Contains (f x) a

from_flat_map : {X A : Type 0} (f : X → List A) (xs : List X) (a : A) → Contains (flat_map f xs) a → IsJoined f xs a
from_flat_map f [] a h = absurd (not_in_nil a h)
from_flat_map f (y ∷ ys) a h = elim (Contains-append_cases (f y) (flat_map f ys) a h) as (λ _. IsJoined f (y ∷ ys) a) [
  | inl first ↦ record { x = y; is_in = in_here y ys; has = first }
  | inr rest ↦ let r = from_flat_map f ys a rest in record { x = r.x; is_in = in_rest y ys r.x r.is_in; has = r.has }
]

in_filter : {X : Type 0} (p : X → Bool) (xs : List X) (x : X) → Contains xs x → p x ≡ true → Contains (filter p xs) x
in_filter p [] x h t = absurd (not_in_nil x h)
in_filter p (y ∷ ys) x h t = elim (in_cases y ys x h) as (λ _. Contains (cond (p y) (y ∷ filter p ys) (filter p ys)) x) [
  | inl same ↦
      let passes : p y ≡ true = ap p same ∙ t in
      subst (λ (b : Bool). Contains (cond b (y ∷ filter p ys) (filter p ys)) x) (sym passes) (subst (Contains (y ∷ filter p ys)) same (in_here y (filter p ys)))
  | inr rest ↦ elim (p y) as (λ b. Contains (cond b (y ∷ filter p ys) (filter p ys)) x) [
    | true ↦ in_rest y (filter p ys) x (in_filter p ys x rest t)
    | false ↦ in_filter p ys x rest t
  ]
]

from_filter : {X : Type 0} (p : X → Bool) (xs : List X) (x : X) → Contains (filter p xs) x → Contains xs x × (p x ≡ true)
from_filter p [] x h = absurd (not_in_nil x h)
from_filter p (y ∷ ys) x h = elim (p y) as (λ b. p y ≡ b → Contains (cond b (y ∷ filter p ys) (filter p ys)) x → Contains (y ∷ ys) x × (p x ≡ true)) [
  | true ↦ λ e k. elim (in_cases y (filter p ys) x k) as (λ _. Contains (y ∷ ys) x × (p x ≡ true)) [
    | inl same ↦ (subst (Contains (y ∷ ys)) same (in_here y ys), ap p (sym same) ∙ e)
    | inr rest ↦ let r = from_filter p ys x rest in (in_rest y ys x r.0, r.1)
  ]
  | false ↦ λ e k. let r = from_filter p ys x k in (in_rest y ys x r.0, r.1)
] refl h

-- ---- blocks, each once

abbrev block_from : List ℕ → Block
block_from bytes = record { 0 = bytes }

pub same_block : (a b : Block) → is_same_block a b ≡ true → a ≡ b
same_block a b h = ap block_from ((bytes_eq-Decides a.0 b.0).0 h)

pub block_same : (a : Block) → is_same_block a a ≡ true
block_same a = (bytes_eq-Decides a.0 a.0).1 refl

in_distinct : (bs : List Block) (c : Block) → Contains bs c → Contains (distinct bs) c
in_distinct [] c h = absurd (not_in_nil c h)
in_distinct (b ∷ bs) c h =
    let rest : List Block = filter (λ (d : Block). not (is_same_block b d)) (distinct bs) in
    elim (is_same_block b c) as (λ t. is_same_block b c ≡ t → Contains (b ∷ rest) c) [
      | true ↦ λ e. subst (Contains (b ∷ rest)) (same_block b c e) (in_here b rest)
      | false ↦ λ e. elim (in_cases b bs c h) as (λ _. Contains (b ∷ rest) c) [
        | inl same ↦ subst (Contains (b ∷ rest)) same (in_here b rest)
        | inr later ↦ in_rest b rest c (in_filter (λ (d : Block). not (is_same_block b d)) (distinct bs) c (in_distinct bs c later) (ap not e))
      ]
    ] refl

from_distinct : (bs : List Block) (c : Block) → Contains (distinct bs) c → Contains bs c
from_distinct [] c h = absurd (not_in_nil c h)
from_distinct (b ∷ bs) c h =
    elim (in_cases b (filter (λ (d : Block). not (is_same_block b d)) (distinct bs)) c h) as (λ _. Contains (b ∷ bs) c) [
      | inl same ↦ subst (Contains (b ∷ bs)) same (in_here b bs)
      | inr rest ↦ in_rest b bs c (from_distinct bs c (from_filter (λ (d : Block). not (is_same_block b d)) (distinct bs) c rest).0)
    ]

-- ---- lists without repetitions

AreDistinct-filter : {X : Type 0} (p : X → Bool) (xs : List X) → AreDistinct xs → AreDistinct (filter p xs)
AreDistinct-filter p [] d = tt
AreDistinct-filter p (y ∷ ys) d = elim (p y) as (λ b. AreDistinct (cond b (y ∷ filter p ys) (filter p ys))) [
  | true ↦ (λ h. d.0 (from_filter p ys y h).0, AreDistinct-filter p ys d.1)
  | false ↦ AreDistinct-filter p ys d.1
]

AreDistinct-distinct : (bs : List Block) → AreDistinct (distinct bs)
AreDistinct-distinct [] = tt
AreDistinct-distinct (b ∷ bs) = (
  λ h.
      let passes : not (is_same_block b b) ≡ true = (from_filter (λ (d : Block). not (is_same_block b d)) (distinct bs) b h).1 in
      let same : not (is_same_block b b) ≡ false = ap not (block_same b) in
      absurd (cc),
  AreDistinct-filter (λ (d : Block). not (is_same_block b d)) (distinct bs) (AreDistinct-distinct bs),
)

AreDistinct-append : {X : Type 0} (xs ys : List X) → AreDistinct xs → AreDistinct ys → ((x : X) → Contains xs x → Contains ys x → ⊥) → AreDistinct (xs ++ ys)
AreDistinct-append [] ys d e apart = e
AreDistinct-append (x ∷ xs) ys d e apart = (
  λ h. elim (Contains-append_cases xs ys x h) as (λ _. ⊥) [ inl here ↦ d.0 here | inr there ↦ apart x (in_here x xs) there ],
  AreDistinct-append xs ys d.1 e (λ y h k. apart y (in_rest x xs y h) k),
)

-- the images that begin with a block
abbrev pub led_by : Block → List (List Block) → List (List Block)
led_by c gs = map (λ (g : List Block). c ∷ g) gs

same_tail : (c : Block) (g h : List Block) → c ∷ g ≡ c ∷ h → g ≡ h
same_tail c g h e = ap (drop 1) e

same_head : (c d : Block) (g h : List Block) → c ∷ g ≡ d ∷ h → c ≡ d
same_head c d g h e = ap (λ (xs : List Block). block_at xs 0) e

AreDistinct-led_by : (c : Block) (gs : List (List Block)) → AreDistinct gs → AreDistinct (led_by c gs)
AreDistinct-led_by c [] d = tt
AreDistinct-led_by c (g ∷ gs) d = (
  λ h.
      let r = from_map (λ (g : List Block). c ∷ g) gs (c ∷ g) h in
      d.0 (subst (Contains gs) (same_tail c r.x g r.becomes) r.is_in),
  AreDistinct-led_by c gs d.1,
)

AreDistinct-flat_map : (cs : List Block) (gs : List (List Block)) → AreDistinct cs → AreDistinct gs → AreDistinct (flat_map (λ (c : Block). led_by c gs) cs)
AreDistinct-flat_map [] gs d e = tt
AreDistinct-flat_map (c ∷ cs) gs d e =
    AreDistinct-append (led_by c gs) (flat_map (λ (c : Block). led_by c gs) cs) (AreDistinct-led_by c gs e) (AreDistinct-flat_map cs gs d.1 e)
    (λ g h k.
    let a = from_map (λ (g : List Block). c ∷ g) gs g h in
    let b = from_flat_map (λ (c : Block). led_by c gs) cs g k in
    let f = from_map (λ (g : List Block). b.x ∷ g) gs g b.has in
    let same : c ≡ b.x = same_head c b.x a.x f.x (a.becomes ∙ sym f.becomes) in
    d.0 (subst (Contains cs) (sym same) b.is_in))

-- ---- images

-- at each place from x on one of its blocks
pub record Chooses (x : ℕ) (blocks : List Block) (queue : List Write) (g : List Block) : Type 0 where
  pub same_length : length g ≡ length blocks
  pub each : (y : ℕ) → y < length blocks → Contains (block_at blocks y ∷ queued_for queue (x + y)) (block_at g y)

Chooses-each : (x : ℕ) (b c : Block) (bs g : List Block) (queue : List Write) → Contains (b ∷ queued_for queue x) c → Chooses (x + 1) bs queue g
    → (y : ℕ) → y < length (b ∷ bs) → Contains (block_at (b ∷ bs) y ∷ queued_for queue (x + y)) (block_at (c ∷ g) y)
Chooses-each x b c bs g queue here rest zero l =
    let e : x ≡ x + 0 = omega arith in
    subst (λ (z : ℕ). Contains (b ∷ queued_for queue z) c) e here
Chooses-each x b c bs g queue here rest (suc y) l =
    let e : x + 1 + y ≡ x + suc y = omega arith in
    subst (λ (z : ℕ). Contains (block_at bs y ∷ queued_for queue z) (block_at g y)) e (rest.each y (omega arith))

Chooses-first : (x : ℕ) (b c : Block) (bs g : List Block) (queue : List Write) → Contains (b ∷ queued_for queue x) c → Chooses (x + 1) bs queue g
    → Chooses x (b ∷ bs) queue (c ∷ g)
Chooses-first x b c bs g queue here rest = record {
  same_length = ap suc rest.same_length;
  each = Chooses-each x b c bs g queue here rest;
}

Chooses-rest : (x : ℕ) (b c : Block) (bs g : List Block) (queue : List Write) → Chooses x (b ∷ bs) queue (c ∷ g)
    → Contains (b ∷ queued_for queue x) c × Chooses (x + 1) bs queue g
Chooses-rest x b c bs g queue is = (
  (let e : x + 0 ≡ x = omega arith in subst (λ (z : ℕ). Contains (b ∷ queued_for queue z) c) e (is.each 0 (omega arith))),
  record {
    same_length = (let l = is.same_length in omega (arith, l));
    each = λ y l.
        let e : x + suc y ≡ x + 1 + y = omega arith in
        subst (λ (z : ℕ). Contains (block_at bs y ∷ queued_for queue z) (block_at g y)) e (is.each (suc y) (omega (arith, l)));
  },
)

from_images : (x : ℕ) (blocks : List Block) (queue : List Write) (g : List Block) → Contains (images_from x blocks queue) g → Chooses x blocks queue g
from_images x [] queue g h = elim (in_cases [] [] g h) as (λ _. Chooses x [] queue g) [
  | inl same ↦ record { same_length = ap length (sym same); each = λ y l. absurd (omega (arith, l)) }
  | inr none ↦ absurd (not_in_nil g none)
]
from_images x (b ∷ bs) queue g h =
    let gs : List (List Block) = images_from (x + 1) bs queue in
    let f = from_flat_map (λ (c : Block). led_by c gs) (choices_at x b queue) g h in
    let m = from_map (λ (g : List Block). f.x ∷ g) gs g f.has in
    subst (Chooses x (b ∷ bs) queue) m.becomes
    (Chooses-first x b f.x bs m.x queue (from_distinct (b ∷ queued_for queue x) f.x f.is_in) (from_images (x + 1) bs queue m.x m.is_in))

in_images : (x : ℕ) (blocks : List Block) (queue : List Write) (g : List Block) → Chooses x blocks queue g → Contains (images_from x blocks queue) g
in_images x [] queue [] is = in_here [] []
in_images x [] queue (c ∷ g) is = let l = is.same_length in absurd (omega (arith, l))
in_images x (b ∷ bs) queue [] is = let l = is.same_length in absurd (omega (arith, l))
in_images x (b ∷ bs) queue (c ∷ g) is =
    let gs : List (List Block) = images_from (x + 1) bs queue in
    let parts = Chooses-rest x b c bs g queue is in
    in_flat_map (λ (d : Block). led_by d gs) (choices_at x b queue) c (c ∷ g) (in_distinct (b ∷ queued_for queue x) c parts.0)
    (in_map (λ (h : List Block). c ∷ h) gs g (in_images (x + 1) bs queue g parts.1))

-- ---- a cut

Crash-chooses : (n : Device) (g : List Block) → Chooses 0 n.image n.queue g → Crash n g
Crash-chooses n g is = Crash-of_blocks n g is.same_length
    (λ x. elim (cases_lt x (length n.image)) as (λ _. Contains (possible n x) (block_at g x)) [
      | inl l ↦ let e : 0 + x ≡ x = omega arith in subst (λ (z : ℕ). Contains (block_at n.image x ∷ queued_for n.queue z) (block_at g x)) e (is.each x l)
      | inr l ↦
          let past : length g ≤ x = omega (arith, l, is.same_length) in
          let same : block_at n.image x ≡ block_at g x = get_or_past n.image x zero_block l ∙ sym (get_or_past g x zero_block past) in
          subst (Contains (possible n x)) same (in_here (block_at n.image x) (queued_for n.queue x))
    ])

chooses-Crash : (n : Device) (g : List Block) → n.whole ≡ true → Crash n g → Chooses 0 n.image n.queue g
chooses-Crash n g whole is = record {
  same_length = is.same_length;
  each = λ y l. let e : y ≡ 0 + y = omega arith in subst (λ (z : ℕ). Contains (block_at n.image y ∷ queued_for n.queue z) (block_at g y)) e (Crash-whole n g whole is y);
}

pub lists_crashes : ListCrashes
lists_crashes n g = (λ h. Crash-chooses n g (from_images 0 n.image n.queue g h), λ whole is. in_images 0 n.image n.queue g (chooses-Crash n g whole is))

images-distinct : (x : ℕ) (blocks : List Block) (queue : List Write) → AreDistinct (images_from x blocks queue)
images-distinct x [] queue = (λ h. not_in_nil [] h, tt)
images-distinct x (b ∷ bs) queue =
    AreDistinct-flat_map (choices_at x b queue) (images_from (x + 1) bs queue) (AreDistinct-distinct (b ∷ queued_for queue x)) (images-distinct (x + 1) bs queue)

pub lists_each_once : ListEachOnce
lists_each_once n = images-distinct 0 n.image n.queue

length-flat : (cs : List Block) (gs : List (List Block)) → length (flat_map (λ (c : Block). led_by c gs) cs) ≡ length cs * length gs
length-flat [] gs = omega arith
length-flat (c ∷ cs) gs =
    let one : length (led_by c gs) ≡ length gs = length-map gs (λ (g : List Block). c ∷ g) in
    let more : suc (length cs) * length gs ≡ length gs + length cs * length gs = omega arith in
    length-append (led_by c gs) (flat_map (λ (c : Block). led_by c gs) cs) ∙ omega (arith, one, length-flat cs gs) ∙ sym more

pub images-count : (x : ℕ) (blocks : List Block) (queue : List Write) → length (images_from x blocks queue) ≡ count_from x blocks queue
images-count x [] queue = refl
images-count x (b ∷ bs) queue =
    length-flat (choices_at x b queue) (images_from (x + 1) bs queue) ∙ ap (λ k. length (choices_at x b queue) * k) (images-count (x + 1) bs queue)

pub counts_images : CountImages
counts_images n = images-count 0 n.image n.queue
