-- What the NVM holds of a checkpoint, by its phase, and memory as it was stored last and as it was committed.
use Rattle.std.proofs.Common.{◌≡◌, ◌≢◌, ℕ, ◌+◌, ◌*◌, ◌%◌, ◌<◌, ◌≤◌, true, length, map, Option, Some, None, is_some, refl, sym, ◌∙◌, ap, subst, arith, ◌⊎◌, zero, ◌/◌, ◌==◌, Bool, false, if◌then◌else◌, List, [], ◌∷◌, count_by, bytes_eq, Contains, inl, inr}
use Rattle.std.specs.List.{range_with_len}
use Rattle.std.proofs.lemmas.Bool.{cases_lt}
use Rattle.std.proofs.lemmas.List.Sums.{sum_by-cons}
use Rattle.std.proofs.lemmas.List.Elements.{Contains-append_right}
use Rattle.thy_block.specs.declared.block.Block.{Block}
use Rattle.thy_block.specs.Device.{Device, newest, written_to}
use Rattle.thy_block.specs.Geometry.{memory_blocks}
use Rattle.thy_block.specs.Store.{page_of}
use Rattle.thy_block.proofs.DeviceLemmas.{newest-written_to_other, newest-written_to}
use Rattle.thy_block.specs.declared.parameters.Parameters.{Parameters}
use Rattle.thy_block.proofs.BasicLemmas.{Contains-range}
use Rattle.thy_table.specs.Listing.{entry_at, lists, mapped}
use Rattle.thy_table.proofs.IndexLemmas.{lists-inside, one_if}
use Rattle.thy_table.proofs.ListingLaws.{entry_at-cleared, index_of-none, index_of-lists}
use Rattle.thy_layout.specs.Entries.{Lists}
use Rattle.thy_scheme_parts.proofs.MemoryLemmas.{map_below, map_places}
use Rattle.thy_images.specs.ShadowPlaces.{map_blocks, pool_pages, first_pool, image_blocks, pool_place, pool_page, place_of}
use Rattle.thy_images.specs.ShadowCheckpointParts.{memory_places}
use Rattle.thy_images.proofs.ShadowLayoutLemmas.{place_behind, same_page}
use Rattle.thy_shadow_parts.specs.Commit.{committed_state}
use Rattle.thy_shadow_parts.specs.Holding.{works, commits, agrees, agree_by, copies_agree}
use Rattle.thy_shadow_parts.specs.Keys.{number_key, page_key, freed_frame}
use Rattle.thy_shadow_parts.specs.State.{State, IsSoundState, IsSized, frame_of, pool_of, target, committed_table, committed_place, target_place, committed_of, work_by, work_of, IsBegun, next_page_by, next_page, next_table, page_place, frame_block}
use Rattle.thy_shadow_parts.proofs.CommitLemmas.{some_of, framed_is}
use Rattle.thy_shadow_parts.proofs.TableLemmas.{listed_at-table_by, entry_page, IsMap-committed, target_free, same_number, committed_table-committed}
use Rattle.thy_shadow_parts.specs.declared.entry.Begun.{Begun}
use Rattle.thy_shadow_parts.specs.Items.{next_block}
use Rattle.thy_shadow_parts.specs.Stores.{free_frame}
use Rattle.thy_shadow_parts.specs.Design.{ArePaged, AllPaged}

-- ---- over another NVM

module _ (s : State) (m n : Device) where
  -- a block in a frame does not depend on the NVM
  work_same : (b : ℕ) (o : Option ℕ) → committed_of s n b ≡ committed_of s m b → work_by s n b o ≡ work_by s m b o
  work_same b None h = h
  work_same b (Some j) h = refl

  -- all blocks load as before if each reads as before where it was committed
  pub works_same : ((b : ℕ) → b < memory_blocks s.p → committed_of s n b ≡ committed_of s m b) → works s n ≡ works s m
  works_same same =
      map_below (memory_blocks s.p) (work_of s n) (work_of s m)
      (λ b l. work_same b (frame_of s (page_of b)) (same b l))

  pub commits_same : ((b : ℕ) → b < memory_blocks s.p → committed_of s n b ≡ committed_of s m b) → commits s n ≡ commits s m
  commits_same same = map_below (memory_blocks s.p) (committed_of s n) (committed_of s m) same

-- ---- places of the committed map

-- a block stands where the committed map has it
pub place_committed : (s : State) (b : ℕ) → b < memory_blocks s.p → place_of s.p (committed_table s) b ≡ committed_place s b
place_committed s b l =
    let low : page_of b < s.p.pages = omega arith in
    let inside : page_of b < 8 * map_blocks s.p = omega (arith, low) in
    ap (λ (e : Option ℕ). pool_place s.p (pool_page e) (b % 64))
    (listed_at-table_by s.p (pool_of s) (page_of b) inside ∙ entry_page s.p (pool_of s) (page_of b) low)

-- a block lies, where it was committed, after the slots, within the image
pub committed_behind : (s : State) (b : ℕ) → IsSoundState s → b < memory_blocks s.p
    → (first_pool s.p ≤ committed_place s b) × (committed_place s b < image_blocks s.p)
committed_behind s b h l =
    subst (λ (y : ℕ). (first_pool s.p ≤ y) × (y < image_blocks s.p)) (place_committed s b l)
    (place_behind s.p (committed_table s) b (IsMap-committed s h) l)

pub committed_inside : (s : State) (m : Device) (b : ℕ) → IsSoundState s → IsSized s m → b < memory_blocks s.p
    → committed_place s b < length m.image
committed_inside s m b h sized l = let inside = (committed_behind s b h l).1 in omega (arith, inside, sized.nvm)

-- a write elsewhere leaves it
pub committed_over : (s : State) (m : Device) (at : ℕ) (block : Block) (b : ℕ) → IsSoundState s → IsSized s m → b < memory_blocks s.p
    → committed_place s b ≢ at
    → committed_of s (written_to m at block) b ≡ committed_of s m b
committed_over s m at block b h sized l other =
    newest-written_to_other m at block (committed_place s b) other (committed_inside s m b h sized l)

-- as it was committed it is read by the committed map
pub commits_placed : (s : State) (n : Device) → map (newest n) (memory_places s.p (committed_table s)) ≡ commits s n
commits_placed s n =
    map_places (memory_blocks s.p) (newest n) (place_of s.p (committed_table s)) (committed_of s n)
    (λ b l. ap (newest n) (place_committed s b l))

-- ---- the pages that frames go to

module _ (s : State) (h : IsSoundState s) where
  -- a filled frame has a page of the pool
  pub target_of : (j : ℕ) → is_some (entry_at s.frames j) ≡ true → (q : ℕ) × (target s j ≡ Some q)
  target_of j some = some_of (target s j) (sym (h.claimed j) ∙ some)

  target_is : (j c : ℕ) (some : is_some (entry_at s.frames j) ≡ true) → target_place s j c ≡ pool_place s.p (target_of j some).0 c
  target_is j c some = ap (λ (o : Option ℕ). pool_place s.p (pool_page o) c) (target_of j some).1

  -- the page that a filled frame goes to is one of the pool's
  pub target_small : (j q : ℕ) → target s j ≡ Some q → q < pool_pages s.p
  target_small j q is =
      subst (λ (n : ℕ). q < n) h.pool_size
      (lists-inside number_key s.pool.entries q (s.p.pages + j) (index_of-lists number_key s.pool (s.p.pages + j) q is))

  pub target_inside : (m : Device) (j c : ℕ) → IsSized s m → c < 64 → is_some (entry_at s.frames j) ≡ true
      → target_place s j c < length m.image
  target_inside m j c sized l some =
      let of = target_of j some in
      let q : ℕ = of.0 in
      let small : q < pool_pages s.p = target_small j q of.1 in
      subst (λ (y : ℕ). y < length m.image) (sym (target_is j c some)) (omega (arith, small, l, sized.nvm))

  -- two blocks of filled frames that go to one place are one block
  pub one_target : (i j c d : ℕ) → c < 64 → d < 64 → is_some (entry_at s.frames i) ≡ true → is_some (entry_at s.frames j) ≡ true
      → target_place s i c ≡ target_place s j d → (i ≡ j) × (c ≡ d)
  one_target i j c d l k a b e =
      let here = target_of i a in
      let there = target_of j b in
      let both : pool_place s.p here.0 c ≡ pool_place s.p there.0 d = sym (target_is i c a) ∙ e ∙ target_is j d b in
      let page : here.0 ≡ there.0 = same_page s.p here.0 there.0 c d l k both in
      let numbers : s.p.pages + i ≡ s.p.pages + j
      = same_number s h (s.p.pages + i) (s.p.pages + j) there.0 (here.1 ∙ ap Some page) there.1 in
      (omega (arith, numbers), omega (arith, both, page))

  -- no block of memory was committed at a place that a filled frame goes to
  pub target_apart : (j c b : ℕ) → c < 64 → is_some (entry_at s.frames j) ≡ true → b < memory_blocks s.p
      → committed_place s b ≢ target_place s j c
  target_apart j c b l some k = λ e.
      let low : page_of b < s.p.pages = omega arith in
      let small : b % 64 < 64 = omega arith in
      let of = target_of j some in
      let listed = (IsMap-committed s h).mapped (page_of b) low in
      let lists = listed.1 in
      let at : place_of s.p (committed_table s) b ≡ pool_place s.p listed.0 (b % 64)
      = ap (λ (o : Option ℕ). pool_place s.p (pool_page o) (b % 64)) lists.is in
      let both : pool_place s.p listed.0 (b % 64) ≡ pool_place s.p of.0 c = sym at ∙ place_committed s b k ∙ e ∙ target_is j c some in
      let page : listed.0 ≡ of.0 = same_page s.p listed.0 of.0 (b % 64) c small l both in
      target_free s h j of.0 of.1 (page_of b) (subst (λ (q : ℕ). Lists (committed_table s) (page_of b) q) page lists)

-- ---- with all frames free

pub frame_of-committed : (s : State) (x : ℕ) → frame_of (committed_state s) x ≡ None
frame_of-committed s x =
    index_of-none page_key (mapped freed_frame s.frames) x
    (λ j. ap (lists page_key x) (entry_at-cleared freed_frame (λ e. refl) s.frames j))

-- with all frames free every block loads as it was committed
pub works-committed : (s : State) (n : Device) → works (committed_state s) n ≡ commits (committed_state s) n
works-committed s n =
    map_below (memory_blocks s.p) (work_of (committed_state s) n)
    (committed_of (committed_state s) n)
    (λ b l. ap (work_by (committed_state s) n b) (frame_of-committed s (page_of b)))

-- ---- the block that is next

-- the next block is the one that is looked for, and its frame is filled
next_by : (from k : ℕ) (some : Bool) → (if some then Some from else None) ≡ Some k → (from ≡ k) × (some ≡ true)
next_by from k true found = (let same : from ≡ k = cc in same, refl)
next_by from k false found = cc

pub next_filled : (s : State) (from k : ℕ) → next_block from s ≡ Some k → (from ≡ k) × (is_some (entry_at s.frames (k / 64)) ≡ true)
next_filled s from k found =
    let of = next_by from k (is_some (entry_at s.frames (from / 64))) found in
    (of.0, sym (ap (λ (x : ℕ). is_some (entry_at s.frames (x / 64))) of.0) ∙ of.1)

next_none_by : (from : ℕ) (some : Bool) → (if some then Some from else None) ≡ None → some ≡ false
next_none_by from true found = cc
next_none_by from false found = refl

pub next_free : (s : State) (from : ℕ) → next_block from s ≡ None → is_some (entry_at s.frames (from / 64)) ≡ false
next_free s from found = next_none_by from (is_some (entry_at s.frames (from / 64))) found

-- ---- places

-- a place at which no block was committed
abbrev pub IsAside : State → ℕ → Type 0
IsAside s x = (b : ℕ) → b < memory_blocks s.p → committed_place s b ≢ x

pub aside_before : (s : State) → IsSoundState s → (x : ℕ) → x < first_pool s.p → IsAside s x
aside_before s sound x low b small q =
    let behind = (committed_behind s b sound small).0 in omega (arith, low, behind, q)

pub aside_page : (s : State) → IsSoundState s → (x : ℕ) → is_some (entry_at s.frames (x / 64)) ≡ true
    → IsAside s (target_place s (x / 64) (x % 64))
aside_page s sound x some b small = target_apart s sound (x / 64) (x % 64) b (omega arith) some small

-- ---- memory

module _ (s : State) (n : Device) (sound : IsSoundState s) (sized : length n.image ≡ image_blocks s.p) where
  -- a write to a place where no block was committed leaves what loads give
  pub works_over : (x : ℕ) (block : Block) → IsAside s x → works s (written_to n x block) ≡ works s n
  works_over x block other = works_same s n (written_to n x block) (λ b l. committed_over s n x block b sound (record { nvm = sized }) l (other b l))

  pub commits_over : (x : ℕ) (block : Block) → IsAside s x → commits s (written_to n x block) ≡ commits s n
  commits_over x block other =
      commits_same s n (written_to n x block) (λ b l. committed_over s n x block b sound (record { nvm = sized }) l (other b l))

  -- each block reads where it was committed as before, over a device that reads the same
  pub committed_reads : (m : Device) → ((x : ℕ) → x < length n.image → newest m x ≡ newest n x) → (b : ℕ) → b < memory_blocks s.p
      → committed_of s m b ≡ committed_of s n b
  committed_reads m reads b small = reads (committed_place s b) (committed_inside s n b sound (record { nvm = sized }) small)

  pub works_reads : (m : Device) → ((x : ℕ) → x < length n.image → newest m x ≡ newest n x) → works s m ≡ works s n
  works_reads m reads = works_same s n m (committed_reads m reads)

  pub commits_reads : (m : Device) → ((x : ℕ) → x < length n.image → newest m x ≡ newest n x) → commits s m ≡ commits s n
  commits_reads m reads = commits_same s n m (committed_reads m reads)

-- ---- what was copied

-- tests that agree on a list count alike
count_alike : (f g : ℕ → Bool) (xs : List ℕ) → ((x : ℕ) → Contains xs x → f x ≡ g x) → count_by f xs ≡ count_by g xs
count_alike f g [] same = refl
count_alike f g (x ∷ xs) same =
    sum_by-cons (λ y. one_if (f y)) x xs
    ∙ ap (λ (b : Bool). one_if b + count_by f xs) (same x (zero, omega arith, refl))
    ∙ ap (λ (k : ℕ). one_if (g x) + k) (count_alike f g xs (λ y inside. same y (Contains-append_right (x ∷ []) xs y inside)))
    ∙ sym (sum_by-cons (λ y. one_if (g y)) x xs)

-- block c of a page stands where block 64 times the page and c of memory does
page_committed : (s : State) (x c : ℕ) → c < 64 → committed_place s (64 * x + c) ≡ page_place s x c
page_committed s x c l =
    let page : page_of (64 * x + c) ≡ x = omega (arith, l) in
    let block : (64 * x + c) % 64 ≡ c = omega (arith, l) in
    ap (λ (y : ℕ). page_place s y ((64 * x + c) % 64)) page ∙ ap (page_place s x) block

module _ (s : State) (m n : Device) (h : IsSoundState s)
    (same : (b : ℕ) → b < memory_blocks s.p → committed_of s n b ≡ committed_of s m b) where
  -- a block of a page reads as before
  page_same : (x c : ℕ) → x < s.p.pages → c < 64 → newest n (page_place s x c) ≡ newest m (page_place s x c)
  page_same x c l k =
      let small : 64 * x + c < memory_blocks s.p = omega (arith, l, k) in
      ap (newest n) (sym (page_committed s x c k)) ∙ same (64 * x + c) small ∙ ap (newest m) (page_committed s x c k)

  agree_same : (b : Option Begun) → s.begun ≡ b → agree_by s n b ≡ agree_by s m b
  agree_same None is = refl
  agree_same (Some b) is =
      let of : IsBegun s b = h.begun b is in
      ap (λ (k : ℕ). k == b.copied)
      (count_alike (agrees s n b.page) (agrees s m b.page) (range_with_len 0 b.copied)
      (λ c inside.
      let row = Contains-range 0 b.copied c inside in
      let small : c < 64 = omega (arith, row.1, row.2, of.few) in
      ap (λ (k : Block). bytes_eq (frame_block s (free_frame s) c).0 k.0) (page_same b.page c of.page small)))

  -- what was copied agrees as before, if every block of a page reads as before
  pub copies_same : copies_agree s n ≡ copies_agree s m
  copies_same = agree_same s.begun refl

-- ---- the pages of the frames

module _ (s : State) (n : Device) (sound : IsSoundState s) (sized : length n.image ≡ image_blocks s.p) where
  -- where block x of the frames goes, and what it is
  abbrev here : ℕ → ℕ
  here x = target_place s (x / 64) (x % 64)

  abbrev block : ℕ → Block
  block x = frame_block s (x / 64) (x % 64)

  there : (j c : ℕ) → c < 64 → is_some (entry_at s.frames j) ≡ true → target_place s j c < length n.image
  there j c l some = target_inside s sound n j c (record { nvm = sized }) l some

  -- one block more in its page of the pool
  pub paged_on : (x : ℕ) → is_some (entry_at s.frames (x / 64)) ≡ true → ArePaged s n x
      → ArePaged s (written_to n (target_place s (x / 64) (x % 64)) (frame_block s (x / 64) (x % 64))) (x + 1)
  paged_on x some h = record { each = each_one } where
    small : x % 64 < 64
    small = omega arith

    each_one : (j c : ℕ) → c < 64 → 64 * j + c < x + 1 → is_some (entry_at s.frames j) ≡ true
        → newest (written_to n (here x) (block x)) (target_place s j c) ≡ frame_block s j c
    each_one j c l low filled =
        elim (cases_lt (64 * j + c) x) as (λ _. newest (written_to n (here x) (block x)) (target_place s j c) ≡ frame_block s j c) [
          | inl less ↦
              newest-written_to_other n (here x) (block x) (target_place s j c)
              (λ q.
              let both = one_target s sound j (x / 64) c (x % 64) l small filled some q in
              omega (arith, both.0, both.1, less))
              (there j c l filled)
              ∙ h.each j c l less filled
          | inr more ↦
              let frame : j ≡ x / 64 = omega (arith, l, low, more) in
              let place : c ≡ x % 64 = omega (arith, l, low, more) in
              ap (λ (i : ℕ). newest (written_to n (here x) (block x)) (target_place s i c)) frame
              ∙ ap (λ (d : ℕ). newest (written_to n (here x) (block x)) (target_place s (x / 64) d)) place
              ∙ newest-written_to n (here x) (block x)
              ∙ ap (λ (i : ℕ). frame_block s i (x % 64)) (sym frame)
              ∙ ap (λ (d : ℕ). frame_block s j d) (sym place)
        ]

  -- filled frames lie below one that is not filled
  pub paged_all : (x : ℕ) → is_some (entry_at s.frames (x / 64)) ≡ false → ArePaged s n x → AllPaged s n
  paged_all x none h = record { each = λ j c l filled. h.each j c l (below j c l filled (cases_lt j (x / 64))) filled } where
    at_once : (j : ℕ) → is_some (entry_at s.frames j) ≡ true → j ≡ x / 64 → ⊥
    at_once j filled is = let both : true ≡ false = sym filled ∙ ap (λ (i : ℕ). is_some (entry_at s.frames i)) is ∙ none in absurd cc

    further : (j : ℕ) → is_some (entry_at s.frames j) ≡ true → x / 64 < j → ⊥
    further j filled l = let both : true ≡ false = sym (sound.dense (x / 64) j l filled) ∙ none in absurd cc

    past : (j : ℕ) → is_some (entry_at s.frames j) ≡ true → x / 64 ≤ j → ⊥
    past j filled l = elim (cases_lt (x / 64) j) as (λ _. ⊥) [
      | inl less ↦ further j filled less
      | inr more ↦ at_once j filled (omega (arith, l, more))
    ]

    below : (j c : ℕ) → c < 64 → is_some (entry_at s.frames j) ≡ true → (j < x / 64) ⊎ (x / 64 ≤ j) → 64 * j + c < x
    below j c l filled (inl less) = omega (arith, l, less)
    below j c l filled (inr more) = absurd (past j filled more)

  -- a write before the pool leaves them
  pub paged_over : (x : ℕ) (new : Block) → x < first_pool s.p → AllPaged s n → AllPaged s (written_to n x new)
  paged_over x new low h = record {
    each = λ j c l filled.
        newest-written_to_other n x new (target_place s j c) (λ q. omega (arith, q, low)) (there j c l filled) ∙ h.each j c l filled;
  }

  -- blocks are in their pages over a device that reads the same
  pub paged_reads : (m : Device) (x : ℕ) → ((y : ℕ) → y < length n.image → newest m y ≡ newest n y) → ArePaged s n x → ArePaged s m x
  paged_reads m x reads h = record {
    each = λ j c l low filled. reads (target_place s j c) (there j c l filled) ∙ h.each j c l low filled;
  }

  pub all_reads : (m : Device) → ((y : ℕ) → y < length n.image → newest m y ≡ newest n y) → AllPaged s n → AllPaged s m
  all_reads m reads h = record { each = λ j c l filled. reads (target_place s j c) (there j c l filled) ∙ h.each j c l filled }

-- ---- memory, at its places by the next map

-- with all frames in their pages, each block reads at its new place as it was stored last
page_reads : (s : State) (n : Device) (b : ℕ) (o : Option ℕ) → AllPaged s n → frame_of s (page_of b) ≡ o
    → newest n (pool_place s.p (pool_page (next_page_by s (page_of b) o)) (b % 64)) ≡ work_by s n b o
page_reads s n b None all found = refl
page_reads s n b (Some j) all found =
    let listed = index_of-lists page_key s.frames (page_of b) j found in
    all.each j (b % 64) (omega arith) (ap is_some (framed_is (page_of b) (entry_at s.frames j) listed))

place_next : (s : State) (b : ℕ) → b < memory_blocks s.p
    → place_of s.p (next_table s) b ≡ pool_place s.p (pool_page (next_page s (page_of b))) (b % 64)
place_next s b l =
    let low : page_of b < s.p.pages = omega arith in
    ap (λ (e : Option ℕ). pool_place s.p (pool_page e) (b % 64))
    (listed_at-table_by s.p (next_page s) (page_of b) (omega (arith, low)) ∙ entry_page s.p (next_page s) (page_of b) low)

pub memory_is_work : (s : State) (n : Device) → AllPaged s n → map (newest n) (memory_places s.p (next_table s)) ≡ works s n
memory_is_work s n all =
    map_places (memory_blocks s.p) (newest n) (place_of s.p (next_table s)) (work_of s n)
    (λ b l. ap (newest n) (place_next s b l) ∙ page_reads s n b (frame_of s (page_of b)) all refl)

-- with all frames in their pages, what a commit makes the committed version is what each block loads
pub commits_are_works : (s : State) (n : Device) → IsSoundState s → AllPaged s n → commits (committed_state s) n ≡ works s n
commits_are_works s n sound all =
    sym (commits_placed (committed_state s) n)
    ∙ ap (λ (t : List (Option ℕ)). map (newest n) (memory_places s.p t)) (committed_table-committed s sound)
    ∙ memory_is_work s n all

pub works_confirm : (s : State) (n : Device) → IsSoundState s → AllPaged s n → works (committed_state s) n ≡ works s n
works_confirm s n sound all = works-committed s n ∙ commits_are_works s n sound all

-- ---- what was committed, by geometry and map alone

abbrev read_by : Device → Parameters → List (Option ℕ) → List Block
read_by n p table = map (newest n) (memory_places p table)

pub commits_alike : (s t : State) (n : Device) → t.p ≡ s.p → committed_table t ≡ committed_table s → commits t n ≡ commits s n
commits_alike s t n p table =
    sym (commits_placed t n)
    ∙ ap (λ (q : Parameters). read_by n q (committed_table t)) p
    ∙ ap (read_by n s.p) table
    ∙ commits_placed s n
