-- The blocks of frames; and what was copied into a frame that is begun: as many agree as were copied, so each does.
use Rattle.std.proofs.Common.{◌≡◌, ◌≢◌, ℕ, ◌<◌, Some, sym, ◌∙◌, ap, arith, zero, suc, ◌==◌, Bool, true, false, if◌then◌else◌, List, [], ◌∷◌, length, get_or, count_by, bytes_eq, Contains, Option, None, refl, subst}
use Rattle.std.proofs.lemmas.List.{get_or-set_same, get_or-set_other}
use Rattle.std.specs.List.{range_with_len}
use Rattle.std.proofs.lemmas.Bool.{eqb-true, eq-eqb}
use Rattle.std.proofs.lemmas.List.FromFn.{length-range_with_len, get_or-range_with_len}
use Rattle.std.proofs.lemmas.List.Sums.{sum_by-cons, count_by-le-length}
use Rattle.std.proofs.lemmas.Slice.Eq.{bytes_eq-Decides}
use Rattle.std.proofs.lemmas.List.Elements.{Contains-append_right}
use Rattle.thy_block.specs.declared.block.Block.{Block}
use Rattle.thy_block.specs.declared.parameters.Parameters.{Parameters}
use Rattle.thy_block.specs.Device.{zero_block, Device, newest}
use Rattle.thy_block.specs.Places.{frame_place}
use Rattle.thy_block.proofs.BasicLemmas.{Contains-range}
use Rattle.thy_table.specs.Listing.{entry_at}
use Rattle.thy_table.proofs.IndexLemmas.{lists-inside, one_if}
use Rattle.thy_table.proofs.ListingLaws.{index_of-lists}
use Rattle.thy_shadow_parts.specs.Commit.{page_by}
use Rattle.thy_shadow_parts.specs.Keys.{page_key, framed}
use Rattle.thy_shadow_parts.specs.State.{State, IsSoundState, frame_of, frame_block, page_place}
use Rattle.thy_shadow_parts.specs.Stores.{put_into, copies_by, copies_for, free_frame}
use Rattle.thy_shadow_parts.proofs.CommitLemmas.{framed_is}
use Rattle.thy_shadow_parts.specs.declared.entry.Begun.{Begun}
use Rattle.thy_shadow_parts.specs.Holding.{agrees, agree_by, copies_agree}

-- ---- blocks of frames

-- blocks of two frames, or two blocks of one, have two numbers
pub apart_frame : (p : Parameters) (i j c d : ℕ) → c < 64 → d < 64 → i ≢ j → frame_place p i c ≢ frame_place p j d
apart_frame p i j c d l k other = λ e. other (omega (arith, e, l, k))

pub apart_block : (p : Parameters) (i j c d : ℕ) → c < 64 → d < 64 → c ≢ d → frame_place p i c ≢ frame_place p j d
apart_block p i j c d l k other = λ e. other (omega (arith, e, l, k))

module _ (s : State) (sound : IsSoundState s) where
  -- a block that is put into a frame is there
  pub put_here : (j c : ℕ) (block : Block) → j < s.p.ptt → c < 64 → frame_block (put_into j c block s) j c ≡ block
  put_here j c block l k =
      get_or-set_same s.dram.blocks (frame_place s.p j c) block zero_block (let size = sound.dram_size in omega (arith, size, l, k))

  -- a frame that has a page is there, and has one
  pub frame_inside : (x j : ℕ) → frame_of s x ≡ Some j → j < s.p.ptt
  frame_inside x j found =
      let inside = lists-inside page_key s.frames.entries j x (index_of-lists page_key s.frames x j found) in
      let size = sound.frames_size in
      omega (arith, inside, size)

pub frame_has : (s : State) (x j : ℕ) → frame_of s x ≡ Some j → entry_at s.frames j ≡ Some (framed x)
frame_has s x j found = framed_is x (entry_at s.frames j) (index_of-lists page_key s.frames x j found)

pub one_page : (s : State) (x y i j : ℕ) → frame_of s x ≡ Some i → frame_of s y ≡ Some j → i ≡ j → x ≡ y
one_page s x y i j a b same =
    sym (ap page_by (frame_has s x i a)) ∙ ap (λ (k : ℕ). page_by (entry_at s.frames k)) same ∙ ap page_by (frame_has s y j b)

-- every other block of a frame is as before
pub put_there : (s : State) (j c : ℕ) (block : Block) (i d : ℕ) → frame_place s.p i d ≢ frame_place s.p j c
    → frame_block (put_into j c block s) i d ≡ frame_block s i d
put_there s j c block i d other =
    get_or-set_other s.dram.blocks (frame_place s.p j c) (frame_place s.p i d) block zero_block other

-- ---- counts

-- if all elements pass a test, the number that pass is the length
all_count : (f : ℕ → Bool) (xs : List ℕ) → ((x : ℕ) → Contains xs x → f x ≡ true) → count_by f xs ≡ length xs
all_count f [] all = refl
all_count f (x ∷ xs) all =
    let rest : count_by f xs ≡ length xs = all_count f xs (λ y inside. all y (Contains-append_right (x ∷ []) xs y inside)) in
    let first : one_if (f x) ≡ 1 = ap one_if (all x (zero, omega arith, refl)) in
    sum_by-cons (λ y. one_if (f y)) x xs ∙ omega (arith, rest, first)

-- if the number of elements that pass is the length, the first one passes
count_first : (f : ℕ → Bool) (x : ℕ) (xs : List ℕ) → count_by f (x ∷ xs) ≡ suc (length xs) → f x ≡ true
count_first f x xs all = by_first (f x) refl where
  by_first : (b : Bool) → f x ≡ b → f x ≡ true
  by_first false e =
      let none : one_if (f x) ≡ 0 = ap one_if e in
      absurd (omega (arith, all, sum_by-cons (λ y. one_if (f y)) x xs, count_by-le-length f xs, none))
  by_first true e = e

count_all : (f : ℕ → Bool) (xs : List ℕ) → count_by f xs ≡ length xs → (k : ℕ) → k < length xs → f (get_or xs k 0) ≡ true
count_all f [] all k l = absurd (omega (arith, l))
count_all f (x ∷ xs) all zero l = count_first f x xs all
count_all f (x ∷ xs) all (suc k) l =
    let one : one_if (f x) ≡ 1 = ap one_if (count_first f x xs all) in
    count_all f xs (omega (arith, all, sum_by-cons (λ y. one_if (f y)) x xs, one)) k (omega (arith, l))

pub all_pass : (f : ℕ → Bool) (m : ℕ) → ((c : ℕ) → c < m → f c ≡ true) → (let n : ℕ = count_by f (range_with_len 0 m) in n == m) ≡ true
all_pass f m each =
    eq-eqb (count_by f (range_with_len 0 m)) m
    (all_count f (range_with_len 0 m)
    (λ c inside. let row = Contains-range 0 m c inside in each c (omega (arith, row.1, row.2)))
    ∙ length-range_with_len 0 m)

pub each_passes : (f : ℕ → Bool) (m : ℕ) → (let n : ℕ = count_by f (range_with_len 0 m) in n == m) ≡ true → (c : ℕ) → c < m → f c ≡ true
each_passes f m h c l =
    let many : count_by f (range_with_len 0 m) ≡ m = eqb-true (count_by f (range_with_len 0 m)) m h in
    let size : length (range_with_len 0 m) ≡ m = length-range_with_len 0 m in
    let here : get_or (range_with_len 0 m) c 0 ≡ c = get_or-range_with_len 0 m c 0 l ∙ omega arith in
    sym (ap f here) ∙ count_all f (range_with_len 0 m) (many ∙ sym size) c (omega (arith, l, size))

-- ---- blocks

abbrev block_from : List ℕ → Block
block_from bytes = record { 0 = bytes }

same_block : (a b : Block) → bytes_eq a.0 b.0 ≡ true → a ≡ b
same_block a b h = ap block_from ((bytes_eq-Decides a.0 b.0).0 h)

pub block_same : (a b : Block) → a ≡ b → bytes_eq a.0 b.0 ≡ true
block_same a b h = (bytes_eq-Decides a.0 b.0).1 (ap (λ (x : Block). x.0) h)

-- ---- what was copied

-- the first k blocks of the lowest free frame are what the NVM has of a page
abbrev pub AreCopied : State → Device → ℕ → ℕ → Type 0
AreCopied s n x k = (c : ℕ) → c < k → frame_block s (free_frame s) c ≡ newest n (page_place s x c)

-- if the copies agree, the frame that is begun has what the NVM has of its page
pub begun_copied : (s : State) (n : Device) (b : Begun) → agree_by s n (Some b) ≡ true → AreCopied s n b.page b.copied
begun_copied s n b agree c l =
    same_block (frame_block s (free_frame s) c) (newest n (page_place s b.page c)) (each_passes (agrees s n b.page) b.copied agree c l)

module _ (s : State) (n : Device) (x : ℕ) where
  copied_page : (b : Begun) (same : Bool) → (let z : Bool = b.page == x in z) ≡ same → agree_by s n (Some b) ≡ true
      → AreCopied s n x (if same then b.copied else 0)
  copied_page b false e agree = λ c l. absurd (omega (arith, l))
  copied_page b true e agree = subst (λ (y : ℕ). AreCopied s n y b.copied) (eqb-true b.page x e) (begun_copied s n b agree)

  copied_by_begun : (b : Option Begun) → agree_by s n b ≡ true → AreCopied s n x (copies_by x b)
  copied_by_begun None agree = λ c l. absurd (omega (arith, l))
  copied_by_begun (Some b) agree = copied_page b (b.page == x) refl agree

  -- if the copies agree, the copies for any page do
  pub are_copied : copies_agree s n ≡ true → AreCopied s n x (copies_for x s)
  are_copied agree = copied_by_begun s.begun agree
