-- Blocks that were written over the blocks of another image, and a device of them, after its calls.
use Rattle.std.proofs.Common.{◌≡◌, ℕ, suc, ◌+◌, ◌<◌, ◌==◌, if◌then◌else◌, Bool, true, false, List, [], ◌∷◌, ◌++◌, length, take, drop, slice_set, slice_index_or, refl, sym, ◌∙◌, ap, subst, inl, inr, arith}
use Rattle.std.proofs.lemmas.Bool.{cases_lt, lt-ltb}
use Rattle.std.proofs.lemmas.List.{get_or_default, get_or_past}
use Rattle.thy_block.specs.declared.block.Block.{Block}
use Rattle.thy_block.specs.declared.nvm.Write.{Write}
use Rattle.thy_block.specs.Device.{Crash, IsCrashOf, CrashAt, zero_block, block_at, queued_for, newest_over, applied, newest, landed, at_rest, surplus, written_to, write_of}
use Rattle.thy_block.proofs.CrashLemmas.{Crash-image}
use Rattle.thy_dram.specs.Held.{Held, device_of, as_device, put_at}
use Rattle.thy_dram.specs.Merged.{merged, is_marked, AreMarked}
use Rattle.thy_dram.proofs.MergedLemmas.{length-merged, block_at-merged, merged-write, merged-applied, merged-copy, AreMarked-append, AreMarked-take, AreMarked-drop, queued_for-unmarked, newest_over-unmarked}
use Rattle.thy_nvm.specs.Overlaid.{over_below}
use Rattle.thy_nvm.specs.Pick.{drawn_block, drawn_seed, drawn, torn_block, torn_seed, torn, left_by_draws, picked, left_by, landing}

-- ---- picks

-- draws change only places that are marked, if each queued write is for one of these
merged-drawn : (ms : List Bool) (xs ys : List Block) (seed from : ℕ) (queue : List Write) → length xs ≡ length ms
    → ((x : ℕ) → is_marked ms x ≡ false → queued_for queue (from + x) ≡ [])
    → merged ms (drawn seed from xs queue) ys ≡ drawn seed from (merged ms xs ys) queue
merged-drawn [] [] ys seed from queue same none = refl
merged-drawn [] (x ∷ xs) ys seed from queue same none = absurd (omega arith)
merged-drawn (m ∷ ms) [] ys seed from queue same none = absurd (omega arith)
merged-drawn (true ∷ ms) (x ∷ xs) ys seed from queue same none =
    let rest : (y : ℕ) → is_marked ms y ≡ false → queued_for queue (from + 1 + y) ≡ []
    = λ y u. let e : from + 1 + y ≡ from + suc y = omega arith in ap (queued_for queue) e ∙ none (suc y) u in
    ap (λ bs. drawn_block seed x (queued_for queue from) ∷ bs)
    (merged-drawn ms xs (drop 1 ys) (drawn_seed seed (queued_for queue from)) (from + 1) queue (omega arith) rest)
merged-drawn (false ∷ ms) (x ∷ xs) ys seed from queue same none =
    let rest : (y : ℕ) → is_marked ms y ≡ false → queued_for queue (from + 1 + y) ≡ []
    = λ y u. let e : from + 1 + y ≡ from + suc y = omega arith in ap (queued_for queue) e ∙ none (suc y) u in
    let here : from ≡ from + 0 = omega arith in
    let empty : queued_for queue from ≡ [] = ap (queued_for queue) here ∙ none 0 refl in
    let below : Block = block_at ys 0 in
    ap (λ b. b ∷ merged ms (drawn (drawn_seed seed (queued_for queue from)) (from + 1) xs queue) (drop 1 ys))
    (sym (ap (drawn_block seed below) empty))
    ∙ ap (λ bs. drawn_block seed below (queued_for queue from) ∷ bs)
    (merged-drawn ms xs (drop 1 ys) (drawn_seed seed (queued_for queue from)) (from + 1) queue (omega arith) rest)

-- draws of words change only these places, too
merged-torn : (ms : List Bool) (xs ys : List Block) (seed from : ℕ) (queue : List Write) → length xs ≡ length ms
    → ((x : ℕ) → is_marked ms x ≡ false → queued_for queue (from + x) ≡ [])
    → merged ms (torn seed from xs queue) ys ≡ torn seed from (merged ms xs ys) queue
merged-torn [] [] ys seed from queue same none = refl
merged-torn [] (x ∷ xs) ys seed from queue same none = absurd (omega arith)
merged-torn (m ∷ ms) [] ys seed from queue same none = absurd (omega arith)
merged-torn (true ∷ ms) (x ∷ xs) ys seed from queue same none =
    let rest : (y : ℕ) → is_marked ms y ≡ false → queued_for queue (from + 1 + y) ≡ []
    = λ y u. let e : from + 1 + y ≡ from + suc y = omega arith in ap (queued_for queue) e ∙ none (suc y) u in
    ap (λ bs. torn_block seed x (queued_for queue from) ∷ bs)
    (merged-torn ms xs (drop 1 ys) (torn_seed seed (queued_for queue from)) (from + 1) queue (omega arith) rest)
merged-torn (false ∷ ms) (x ∷ xs) ys seed from queue same none =
    let rest : (y : ℕ) → is_marked ms y ≡ false → queued_for queue (from + 1 + y) ≡ []
    = λ y u. let e : from + 1 + y ≡ from + suc y = omega arith in ap (queued_for queue) e ∙ none (suc y) u in
    let here : from ≡ from + 0 = omega arith in
    let empty : queued_for queue from ≡ [] = ap (queued_for queue) here ∙ none 0 refl in
    let below : Block = block_at ys 0 in
    ap (λ b. b ∷ merged ms (torn (torn_seed seed (queued_for queue from)) (from + 1) xs queue) (drop 1 ys))
    (sym (ap (torn_block seed below) empty))
    ∙ ap (λ bs. torn_block seed below (queued_for queue from) ∷ bs)
    (merged-torn ms xs (drop 1 ys) (torn_seed seed (queued_for queue from)) (from + 1) queue (omega arith) rest)

-- the draws of a pick leave of the written blocks what they leave of all
merged-draws : (whole : Bool) (seed : ℕ) (ms : List Bool) (xs ys : List Block) (queue : List Write) → length xs ≡ length ms
    → AreMarked ms queue
    → merged ms (left_by_draws whole seed xs queue) ys ≡ left_by_draws whole seed (merged ms xs ys) queue
merged-draws true seed ms xs ys queue same marked =
    merged-drawn ms xs ys seed 0 queue same (λ x u.
    let e : 0 + x ≡ x = omega arith in
    ap (queued_for queue) e ∙ queued_for-unmarked ms queue x marked u)
merged-draws false seed ms xs ys queue same marked =
    merged-torn ms xs ys seed 0 queue same (λ x u.
    let e : 0 + x ≡ x = omega arith in
    ap (queued_for queue) e ∙ queued_for-unmarked ms queue x marked u)

-- a pick over the merged image is the merged image of the pick
pub merged-picked : (whole : Bool) (pick : ℕ) (ms : List Bool) (xs ys : List Block) (queue : List Write) → length xs ≡ length ms
    → AreMarked ms queue
    → merged ms (picked whole pick xs queue) ys ≡ picked whole pick (merged ms xs ys) queue
merged-picked whole pick ms xs ys queue same marked =
    elim (pick == 0)
    as (λ t. merged ms (if t then xs else (if pick == 1 then applied xs queue else left_by_draws whole pick xs queue)) ys
    ≡ (if t then merged ms xs ys else (if pick == 1 then applied (merged ms xs ys) queue else left_by_draws whole pick (merged ms xs ys) queue))) [
      | true ↦ refl
      | false ↦ elim (pick == 1)
          as (λ t. merged ms (if t then applied xs queue else left_by_draws whole pick xs queue) ys
          ≡ (if t then applied (merged ms xs ys) queue else left_by_draws whole pick (merged ms xs ys) queue)) [
            | true ↦ merged-applied ms xs ys queue same marked
            | false ↦ merged-draws whole pick ms xs ys queue same marked
          ]
    ]

-- ---- blocks that are taken up

-- a block is copied from below
pub merged-taken : (ms : List Bool) (xs ys : List Block) (at : ℕ) (d : Block) → length xs ≡ length ms → length ys ≡ length ms
    → at < length ms
    → is_marked ms at ≡ false → merged (slice_set ms at true) (slice_set xs at (slice_index_or ys at d)) ys ≡ merged ms xs ys
merged-taken ms xs ys at d same as_many l unmarked =
    let inside : at < length ys = omega arith in
    ap (λ b. merged (slice_set ms at true) (slice_set xs at b) ys) (get_or_default ys at d zero_block inside)
    ∙ merged-copy ms xs ys at same l unmarked

-- a write is queued if there is room
pub written-room : (held : Held) (w : Write) → length held.queue < held.room
    → as_device (λ n. written_to n w.at w.block) held ≡ record held { queue = held.queue ++ w ∷ [] }
written-room held w l =
    ap (λ t. record {
      image = applied held.image (take (if t then 0 else 1) held.queue);
      queue = drop (if t then 0 else 1) held.queue ++ w ∷ [];
      room = held.room;
    }) (lt-ltb (length held.queue) held.room l)

-- ---- a ring over blocks below

-- rings that hold the same
pub same_held : (a b : Held) → a.image ≡ b.image → a.queue ≡ b.queue → a.room ≡ b.room → a ≡ b
same_held a b image queue room =
    ap (λ i. record { image = i; queue = a.queue; room = a.room }) image
    ∙ ap (λ q. record { image = b.image; queue = q; room = a.room }) queue
    ∙ ap (λ r. record { image = b.image; queue = b.queue; room = r }) room

pub over-left : (whole : Bool) (pick : ℕ) (held : Held) (ms : List Bool) (below : List Block) → length held.image ≡ length ms
    → AreMarked ms held.queue
    → over_below (left_by whole pick held) ms below ≡ left_by whole pick (over_below held ms below)
over-left whole pick held ms below same marked =
    ap (λ i. record { image = i; queue = []; room = held.room }) (merged-picked whole pick ms held.image below held.queue same marked)

-- ---- what may be left of it

-- a block that was possible already
over-stands : (whole : Bool) (held : Held) (ms : List Bool) (below g : List Block) (x : ℕ)
    → block_at (merged ms held.image below) x ≡ block_at (merged ms g below) x
    → CrashAt (landing whole (over_below held ms below)) x (block_at (merged ms g below) x)
over-stands whole held ms below g x same =
    subst (CrashAt (landing whole (over_below held ms below)) x) same ((Crash-image (landing whole (over_below held ms below))).each x)

-- at a place that is marked, or is not
over-place : (whole : Bool) (held : Held) (ms : List Bool) (below g : List Block) (x : ℕ) (t : Bool) → is_marked ms x ≡ t → x < length ms
    → CrashAt (landing whole held) x (block_at g x)
    → CrashAt (landing whole (over_below held ms below)) x (block_at (merged ms g below) x)
over-place whole held ms below g x true is l left =
    let here : block_at held.image x ≡ block_at (merged ms held.image below) x
    = sym (block_at-merged ms held.image below x l ∙ ap (λ t. if t then block_at held.image x else block_at below x) is) in
    let there : block_at g x ≡ block_at (merged ms g below) x
    = sym (block_at-merged ms g below x l ∙ ap (λ t. if t then block_at g x else block_at below x) is) in
    subst (λ (b : Block). IsCrashOf whole (b ∷ queued_for held.queue x) (block_at (merged ms g below) x)) here
    (subst (IsCrashOf whole (block_at held.image x ∷ queued_for held.queue x)) there left)
over-place whole held ms below g x false is l left =
    let here : block_at (merged ms held.image below) x ≡ block_at below x
    = block_at-merged ms held.image below x l ∙ ap (λ t. if t then block_at held.image x else block_at below x) is in
    let there : block_at (merged ms g below) x ≡ block_at below x
    = block_at-merged ms g below x l ∙ ap (λ t. if t then block_at g x else block_at below x) is in
    over-stands whole held ms below g x (here ∙ sym there)

-- what a cut may leave of the written blocks, it may leave of all, with those below
pub Crash-over : (whole : Bool) (held : Held) (ms : List Bool) (below g : List Block) → Crash (landing whole held) g
    → Crash (landing whole (over_below held ms below)) (merged ms g below)
Crash-over whole held ms below g left = record {
  same_length = length-merged ms g below ∙ sym (length-merged ms held.image below);
  each = λ x. elim (cases_lt x (length ms))
      as (λ _. CrashAt (landing whole (over_below held ms below)) x (block_at (merged ms g below) x)) [
        | inl l ↦ over-place whole held ms below g x (is_marked ms x) refl l (left.each x)
        | inr past ↦
            over-stands whole held ms below g x
            (get_or_past (merged ms held.image below) x zero_block (omega (arith, past, length-merged ms held.image below))
            ∙ sym (get_or_past (merged ms g below) x zero_block (omega (arith, past, length-merged ms g below))))
      ];
}

pub over-put : (held : Held) (ms : List Bool) (below : List Block) (at : ℕ) (block : Block) → length held.image ≡ length ms → at < length ms
    → over_below (put_at held at block) (slice_set ms at true) below ≡ put_at (over_below held ms below) at block
over-put held ms below at block same inside =
    ap (λ i. record { image = i; queue = held.queue; room = held.room }) (merged-write ms held.image below at block same inside)

pub over-landed : (k : ℕ) (held : Held) (ms : List Bool) (below : List Block) → length held.image ≡ length ms → AreMarked ms held.queue
    → over_below (as_device (landed k) held) ms below ≡ as_device (landed k) (over_below held ms below)
over-landed k held ms below same marked =
    ap (λ i. record { image = i; queue = drop k held.queue; room = held.room })
    (merged-applied ms held.image below (take k held.queue) same (AreMarked-take ms k held.queue marked))

pub over-settled : (held : Held) (ms : List Bool) (below : List Block) → length held.image ≡ length ms → AreMarked ms held.queue
    → over_below (as_device at_rest held) ms below ≡ as_device at_rest (over_below held ms below)
over-settled held ms below same marked =
    ap (λ i. record { image = i; queue = []; room = held.room }) (merged-applied ms held.image below held.queue same marked)

pub over-written : (held : Held) (ms : List Bool) (below : List Block) (at : ℕ) (block : Block) → length held.image ≡ length ms
    → AreMarked ms held.queue
    → over_below (as_device (λ n. written_to n at block) held) ms below ≡ as_device (λ n. written_to n at block) (over_below held ms below)
over-written held ms below at block same marked =
    let k : ℕ = surplus (device_of held) in
    ap (λ i. record { image = i; queue = drop k held.queue ++ write_of at block ∷ []; room = held.room })
    (merged-applied ms held.image below (take k held.queue) same (AreMarked-take ms k held.queue marked))

-- after one more write for a marked place each queued write is still for one
pub AreMarked-written : (held : Held) (ms : List Bool) (at : ℕ) (block : Block) → is_marked ms at ≡ true → AreMarked ms held.queue
    → AreMarked ms (as_device (λ n. written_to n at block) held).queue
AreMarked-written held ms at block here marked =
    let k : ℕ = surplus (device_of held) in
    AreMarked-append ms (drop k held.queue) (write_of at block ∷ []) (AreMarked-drop ms k held.queue marked) (here, tt)

-- a read of a marked place
pub newest-marked : (held : Held) (ms : List Bool) (below : List Block) (at : ℕ) → at < length ms → is_marked ms at ≡ true
    → newest (device_of held) at ≡ newest (device_of (over_below held ms below)) at
newest-marked held ms below at l marked =
    let here : block_at (merged ms held.image below) at ≡ block_at held.image at
    = block_at-merged ms held.image below at l ∙ ap (λ t. if t then block_at held.image at else block_at below at) marked in
    ap (λ b. newest_over b held.queue at) (sym here)

-- a read of a place without a write over it
pub newest-unmarked : (held : Held) (ms : List Bool) (below : List Block) (at : ℕ) → at < length ms → AreMarked ms held.queue
    → is_marked ms at ≡ false
    → block_at below at ≡ newest (device_of (over_below held ms below)) at
newest-unmarked held ms below at l queued unmarked =
    let here : block_at (merged ms held.image below) at ≡ block_at below at
    = block_at-merged ms held.image below at l ∙ ap (λ t. if t then block_at held.image at else block_at below at) unmarked in
    sym (newest_over-unmarked (block_at (merged ms held.image below) at) ms held.queue at queued unmarked ∙ here)

-- a place of what is held is one of those that have a mark
pub inside_over : (at : ℕ) (held : Held) (ms : List Bool) (below : List Block) {image : List Block} → merged ms held.image below ≡ image
    → at < length image → at < length ms
inside_over at held ms below is l = omega (arith, l, ap length is, length-merged ms held.image below)
