-- Where the parts of an image are: its slot, and the places at which memory is read; which writes leave a checkpoint alone.
use Rattle.std.proofs.Common.{◌≡◌, ◌⊎◌, ℕ, zero, suc, ◌+◌, ◌*◌, ◌/◌, ◌%◌, ◌<◌, ◌≤◌, Bool, true, false, ◌||◌, List, length, drop, slice_index_or, refl, sym, ◌∙◌, ap, arith, ◌==◌, inl, inr, ◌&&◌, if◌then◌else◌, ◌≢◌, ◌∷◌, get_or, Contains, Option, Some, None, subst}
use Rattle.std.proofs.lemmas.Bool.{eqb-true}
use Rattle.std.proofs.lemmas.List.{get_or-take, get_or-drop, length-map, get_or-map, ext_get_or}
use Rattle.thy_block.specs.declared.block.Block.{Block}
use Rattle.thy_block.specs.declared.parameters.Parameters.{Parameters}
use Rattle.thy_layout.specs.declared.layout_version.LayoutVersion.{LayoutVersion}
use Rattle.thy_layout.specs.declared.layout_version.LayoutVersion.TheVariants.{VersionOne, VersionTwo}
use Rattle.thy_block.specs.Places.{record_blocks, hart_blocks}
use Rattle.thy_table.specs.Places.{table_blocks, count_blocks, blocks_one, image_blocks, in_dram, number_of, IsPlace, slot_blocks, slot_place, first_home}
use Rattle.thy_record.specs.VersionSlots.{blocks_of_slot, place_of_slot}
use Rattle.thy_layout.specs.Files.{blocks_of}
use Rattle.thy_layout.specs.Layout.{is_length, slot_places, looked_by}
use Rattle.thy_record.specs.ThynvmLayouts.{older_of, thynvm_layouts}
use Rattle.thy_record.specs.Slots.{count_byte, tables_in}
use Rattle.thy_layout.proofs.FileLemmas.{block_at-blocks_of}
use Rattle.thy_block.specs.Words.{word_of}
use Rattle.thy_layout.specs.Commit.{commit_magic, version_of, epoch_of}
use Rattle.thy_layout.specs.Header.{last_word, knows_version_one}
use Rattle.thy_record.specs.Number.{scheme_number}
use Rattle.std.proofs.lemmas.List.FromFn.{length-range_with_len, get_or-range_with_len}
use Rattle.std.specs.List.{range_with_len}
use Rattle.thy_table.specs.declared.place.Place.{Place}
use Rattle.thy_table.specs.declared.place.Place.TheVariants.{Home, AlternateBlock, AlternatePage}
use Rattle.thy_block.specs.Device.{Device, zero_block, block_at, newest}
use Rattle.thy_block.specs.Geometry.{memory_blocks}
use Rattle.thy_block.specs.Store.{page_of}
use Rattle.thy_table.proofs.PlaceLemmas.{numbers_name, between_slots}
use Rattle.thy_block.proofs.BasicLemmas.{Contains-range}
use Rattle.thy_layout.proofs.LookedLemmas.{not_looked}
use Rattle.thy_record.specs.Images.{slot_in, memory_numbers}
use Rattle.thy_record.specs.Issuing.{Target, SlotBlock, PlaceBlock, target_number, IsTarget, IsUnused, IsFree, HoldsCheckpoint, memory_read, HasMemory}
use Rattle.thy_layout.specs.Entries.{entry_at, Lists, entry_of}
use Rattle.thy_record.specs.Tables.{Tables, place_by_entries, place_of, IsTables}
use Rattle.thy_layout.proofs.EntryLemmas.{entry_of-Some, entry_of-None}
use Rattle.thy_record.proofs.EntryLemmas.{IsPlace-place_of, in_dram-place_of, place_of-own}
use Rattle.thy_layout.proofs.AskingLemmas.{half}
use Rattle.thy_layout.specs.AreLayouts.{Fits, HasPlaces, HasSlot, AreLayouts}
use Rattle.thy_record.proofs.SlotLemmas.{tables_of_slot, cpu_of_slot, slot_fault-higher}

or_cases : (a b : Bool) → (a || b) ≡ true → (a ≡ true) ⊎ (b ≡ true)
or_cases true b h = inl refl
or_cases false b h = inr h

-- with a slot of version 2 it has the blocks of that version
long_of_two : (p : Parameters) (n : ℕ) → is_length (image_blocks p) (older_of p VersionTwo) n ≡ true → n ≡ image_blocks p
long_of_two p n h = eqb-true n (image_blocks p) h

-- a file has at least the blocks of version 1
pub long_enough : (p : Parameters) (version : LayoutVersion) (n : ℕ) → is_length (image_blocks p) (older_of p version) n ≡ true
    → blocks_one p ≤ n
long_enough p VersionOne n h = elim (or_cases (n == image_blocks p) (n == blocks_one p) h) as (λ _. blocks_one p ≤ n) [
  | inl whole ↦ let e : n ≡ image_blocks p = eqb-true _ _ whole in omega arith
  | inr old ↦ let e : n ≡ blocks_one p = eqb-true _ _ old in omega arith
]
long_enough p VersionTwo n h = let e : n ≡ image_blocks p = long_of_two p n h in omega arith

-- a file has at most the blocks of version 2
pub long_most : (p : Parameters) (version : LayoutVersion) (n : ℕ) → is_length (image_blocks p) (older_of p version) n ≡ true
    → n ≤ image_blocks p
long_most p VersionOne n h = elim (or_cases (n == image_blocks p) (n == blocks_one p) h) as (λ _. n ≤ image_blocks p) [
  | inl whole ↦ let e : n ≡ image_blocks p = eqb-true _ _ whole in omega arith
  | inr old ↦ let e : n ≡ blocks_one p = eqb-true _ _ old in omega arith
]
long_most p VersionTwo n h = let e : n ≡ image_blocks p = long_of_two p n h in omega arith

pub slot_inside : (p : Parameters) (version : LayoutVersion) (n s : ℕ) → is_length (image_blocks p) (older_of p version) n ≡ true → s < 2
    → place_of_slot version p s + blocks_of_slot version p ≤ n
slot_inside p VersionOne n zero h l = let most = long_enough p VersionOne n h in omega arith
slot_inside p VersionOne n (suc zero) h l = let most = long_enough p VersionOne n h in omega arith
slot_inside p VersionOne n (suc (suc s)) h l = absurd (omega arith)
slot_inside p VersionTwo n zero h l = let e : n ≡ image_blocks p = long_of_two p n h in omega arith
slot_inside p VersionTwo n (suc zero) h l = let e : n ≡ image_blocks p = long_of_two p n h in omega arith
slot_inside p VersionTwo n (suc (suc s)) h l = absurd (omega arith)

-- byte i of the counts of a slot
pub count_byte-blocks_of : (p : Parameters) (bytes : List ℕ) (i x : ℕ) → length bytes ≡ 64 * blocks_of_slot VersionTwo p
    → i < 64 * count_blocks p
    → x ≡ 64 * (record_blocks p + table_blocks p) + i → slice_index_or bytes x 0 ≡ count_byte p (blocks_of bytes) i
count_byte-blocks_of p bytes i x long l is =
    let at : x ≡ 64 * (record_blocks p + table_blocks p + i / 64) + i % 64 = omega arith in
    ap (λ y. slice_index_or bytes y 0) at
    ∙ sym (ap (λ (b : Block). slice_index_or b.0 (i % 64) 0) (block_at-blocks_of bytes (record_blocks p + table_blocks p + i / 64) (omega arith))
    ∙ get_or-take 64 (drop (64 * (record_blocks p + table_blocks p + i / 64)) bytes) (i % 64) 0 (omega arith)
    ∙ get_or-drop (64 * (record_blocks p + table_blocks p + i / 64)) bytes (i % 64) 0)

-- ---- a commit block names version 1 with one hart only

one_by : (named knows : Bool) → (if named && knows then VersionOne else VersionTwo) ≡ VersionOne → knows ≡ true
one_by true true h = refl
one_by true false h = cc
one_by false knows h = cc

one_record : (p : Parameters) (b : Block) → version_of scheme_number p b ≡ VersionOne → record_blocks p ≡ hart_blocks
one_record p b h =
    let none : last_word scheme_number p ≡ 0
    = eqb-true _ _ (one_by (word_of b 0 == commit_magic VersionOne) (knows_version_one scheme_number p) h) in
    omega (arith, none)

least_with : (f : LayoutVersion) (p : Parameters) → (f ≡ VersionOne → record_blocks p ≡ hart_blocks)
    → record_blocks p + table_blocks p ≤ blocks_of_slot f p
least_with VersionOne p one = let same : record_blocks p ≡ hart_blocks = one refl in omega (arith, same)
least_with VersionTwo p one = omega arith

-- the slot that a commit block names has the record and the tables
pub least_slot : (p : Parameters) (b : Block) → record_blocks p + table_blocks p ≤ blocks_of_slot (version_of scheme_number p b) p
least_slot p b = least_with (version_of scheme_number p b) p (one_record p b)

-- ---- which writes leave a checkpoint alone, and at which places memory is read

-- ---- the numbers of memory's places

module _ (p : Parameters) (t : Tables) where
  pub length-memory_numbers : (let xs : List ℕ = memory_numbers p t in length xs) ≡ memory_blocks p
  length-memory_numbers =
      length-map (range_with_len 0 (memory_blocks p)) (λ b. number_of p (place_of t b)) ∙ length-range_with_len 0 (memory_blocks p)

  -- the k-th is the number of block k's place
  pub memory_number : (k otherwise : ℕ) → k < memory_blocks p
      → (let xs : List ℕ = memory_numbers p t in get_or xs k otherwise) ≡ number_of p (place_of t k)
  memory_number k otherwise l =
      let plain : 0 + k ≡ k = omega arith in
      get_or-map (λ b. number_of p (place_of t b)) (range_with_len 0 (memory_blocks p)) k 0 otherwise
      (omega (arith, length-range_with_len 0 (memory_blocks p)))
      ∙ ap (λ b. number_of p (place_of t b)) (get_or-range_with_len 0 (memory_blocks p) k 0 l ∙ plain)

  -- each number is the number of a block's place
  memory_number_of : (x : ℕ) → Contains (memory_numbers p t) x → (b : ℕ) × (b < memory_blocks p) × (number_of p (place_of t b) ≡ x)
  memory_number_of x (k, l, is) =
      let inside : k < memory_blocks p = omega (arith, length-memory_numbers) in
      (k, inside, sym (memory_number k x inside) ∙ is)

  -- memory lies between the slots of version 1 and the slots of version 2
  pub memory_between : (x : ℕ) → IsTables p t → Contains (memory_numbers p t) x → (first_home p ≤ x) × (x < blocks_one p)
  memory_between x s inside =
      let of = memory_number_of x inside in
      let between = between_slots p (place_of t of.0) (IsPlace-place_of p t of.0 s of.1) (in_dram-place_of t of.0) in
      let low = between.0 in
      let high = between.1 in
      let e = of.2 in
      (subst (λ y. first_home p ≤ y) e low, subst (λ y. y < blocks_one p) e high)

-- a place that no block uses is none of them
unused_apart : (p : Parameters) (t : Tables) (x : Place) → IsTables p t → IsPlace p x → in_dram x ≡ false → IsUnused p t x
    → Contains (memory_numbers p t) (number_of p x) → ⊥
unused_apart p t x s there nvm unused inside =
    let of = memory_number_of p t (number_of p x) inside in
    unused.none of.0 of.1 (numbers_name p (place_of t of.0) x (IsPlace-place_of p t of.0 s of.1) there (in_dram-place_of t of.0 ∙ sym nvm) of.2)

-- slots of version 1 lie before the homes, slots of version 2 after all places
pub old_slot_before : (p : Parameters) (s k : ℕ) → s < 2 → k < blocks_of_slot VersionOne p
    → (2 ≤ place_of_slot VersionOne p s + k) × (place_of_slot VersionOne p s + k < first_home p)
old_slot_before p zero k l m = (omega arith, omega arith)
old_slot_before p (suc zero) k l m = (omega arith, omega arith)
old_slot_before p (suc (suc s)) k l m = absurd (omega arith)

pub slot_behind : (p : Parameters) (s k : ℕ) → blocks_one p ≤ slot_place p s + k
slot_behind p s k = omega arith

slots_apart : (p : Parameters) (s r k i : ℕ) → s < 2 → r < 2 → k < slot_blocks p → i < slot_blocks p → s ≢ r
    → slot_place p s + k ≢ slot_place p r + i
slots_apart p zero zero k i l m n o other = λ e. other refl
slots_apart p zero (suc zero) k i l m n o other = λ e. omega arith
slots_apart p (suc zero) zero k i l m n o other = λ e. omega arith
slots_apart p (suc zero) (suc zero) k i l m n o other = λ e. other refl
slots_apart p (suc (suc s)) r k i l m n o other = absurd (omega arith)
slots_apart p zero (suc (suc r)) k i l m n o other = absurd (omega arith)
slots_apart p (suc zero) (suc (suc r)) k i l m n o other = absurd (omega arith)

-- ---- places that no block uses

home_by : (t : Tables) (b c : ℕ) (entry page : Option ℕ) → place_by_entries entry page c ≡ Home b → (c ≡ b) × (entry ≡ None) × (page ≡ None)
home_by t b c None None e = (cc, refl, refl)
home_by t b c entry page e = cc

pub IsUnused-listed_home : (p : Parameters) (t : Tables) (i b : ℕ) → Lists t.btt i b → IsUnused p t (Home b)
IsUnused-listed_home p t i b l = record {
  none = λ c small e.
      let by = home_by t b c (entry_of t.btt c) (entry_of t.ptt (page_of c)) e in
      entry_of-None t.btt b i (sym (ap (entry_of t.btt) by.0) ∙ by.1) l;
}

pub IsUnused-paged_home : (p : Parameters) (t : Tables) (j b : ℕ) → Lists t.ptt j (page_of b) → IsUnused p t (Home b)
IsUnused-paged_home p t j b l = record {
  none = λ c small e.
      let by = home_by t b c (entry_of t.btt c) (entry_of t.ptt (page_of c)) e in
      entry_of-None t.ptt (page_of b) j (sym (ap (λ x. entry_of t.ptt (page_of x)) by.0) ∙ by.2) l;
}

block_by : (i c : ℕ) (entry page : Option ℕ) → place_by_entries entry page c ≡ AlternateBlock i → entry ≡ Some i
block_by i c None None e = cc
block_by i c entry page e = cc

pub IsUnused-empty_entry : (p : Parameters) (t : Tables) (i : ℕ) → entry_at t.btt i ≡ None → IsUnused p t (AlternateBlock i)
IsUnused-empty_entry p t i empty = record {
  none = λ c small e.
      let l = (entry_of-Some t.btt c i (block_by i c (entry_of t.btt c) (entry_of t.ptt (page_of c)) e)).is in
      cc;
}

page_by : (j k c : ℕ) (entry page : Option ℕ) → place_by_entries entry page c ≡ AlternatePage j k → page ≡ Some j
page_by j k c None None e = cc
page_by j k c entry page e = cc

pub IsUnused-empty_page : (p : Parameters) (t : Tables) (j k : ℕ) → entry_at t.ptt j ≡ None → IsUnused p t (AlternatePage j k)
IsUnused-empty_page p t j k empty = record {
  none = λ c small e.
      let l = (entry_of-Some t.ptt (page_of c) j (page_by j k c (entry_of t.btt c) (entry_of t.ptt (page_of c)) e)).is in
      cc;
}

-- ---- what is free is not looked at

target_behind : (p : Parameters) (x : Target) → IsTarget p x → 2 ≤ target_number p x
target_behind p (SlotBlock s k) there = let behind = slot_behind p s k in omega arith
target_behind p (PlaceBlock x) there = let between = (between_slots p x there.0 there.1).0 in omega arith

free_of_slot : (p : Parameters) (version : LayoutVersion) (epoch : ℕ) (t : Tables) (x : Target) → IsTarget p x → IsFree p version epoch t x
    → (k : ℕ) → k < blocks_of_slot version p → place_of_slot version p (epoch % 2) + k ≢ target_number p x
free_of_slot p VersionOne epoch t (SlotBlock s i) there free k l = λ e.
    let before = (old_slot_before p (epoch % 2) k (half epoch) l).1 in
    let behind = slot_behind p s i in
    omega (arith, before, behind, e)
free_of_slot p VersionTwo epoch t (SlotBlock s i) there free k l = slots_apart p (epoch % 2) s k i (half epoch) there.0 l there.1 (λ e. free (sym e))
free_of_slot p VersionOne epoch t (PlaceBlock x) there free k l = λ e.
    let before = (old_slot_before p (epoch % 2) k (half epoch) l).1 in
    let between = (between_slots p x there.0 there.1).0 in
    omega (arith, before, between, e)
free_of_slot p VersionTwo epoch t (PlaceBlock x) there free k l = λ e.
    let behind = slot_behind p (epoch % 2) k in
    let between = (between_slots p x there.0 there.1).1 in
    omega (arith, behind, between, e)

free_of_memory : (p : Parameters) (version : LayoutVersion) (epoch : ℕ) (t : Tables) (x : Target) → IsTables p t → IsTarget p x
    → IsFree p version epoch t x
    → Contains (memory_numbers p t) (target_number p x) → ⊥
free_of_memory p version epoch t (SlotBlock s k) tables there free inside =
    let behind = slot_behind p s k in
    let between = (memory_between p t (slot_place p s + k) tables inside).1 in
    omega (arith, behind, between)
free_of_memory p VersionOne epoch t (PlaceBlock x) tables there free inside = unused_apart p t x tables there.0 there.1 free inside
free_of_memory p VersionTwo epoch t (PlaceBlock x) tables there free inside = unused_apart p t x tables there.0 there.1 free inside

module _ (p : Parameters) (image : List Block) (version : LayoutVersion) (epoch : ℕ) (t : Tables) (x : Target)
    (meant : HoldsCheckpoint p image version epoch t) (there : IsTarget p x) (free : IsFree p version epoch t x) where
  not_in_slot : Contains (slot_places (thynvm_layouts p) (block_at image 1)) (target_number p x) → ⊥
  not_in_slot inside =
      let of = Contains-range (place_of_slot (version_of scheme_number p (block_at image 1)) p (epoch_of (block_at image 1) % 2))
      (blocks_of_slot (version_of scheme_number p (block_at image 1)) p)
      (target_number p x) inside in
      free_of_slot p version epoch t x there free of.0 (subst (λ f. of.0 < blocks_of_slot f p) meant.of_version of.1)
      (sym (ap (λ f. place_of_slot f p (epoch_of (block_at image 1) % 2) + of.0) meant.of_version
      ∙ ap (λ e. place_of_slot version p (e % 2) + of.0) meant.of_epoch) ∙ of.2)

  not_in_memory : Contains (memory_numbers p (tables_in p (slot_in p image))) (target_number p x) → ⊥
  not_in_memory inside =
      free_of_memory p version epoch t x meant.whole there free (subst (λ u. Contains (memory_numbers p u) (target_number p x)) meant.tables inside)

  pub free_not_looked : Contains (1 ∷ looked_by (thynvm_layouts p) image) (target_number p x) → ⊥
  free_not_looked inside = not_looked (thynvm_layouts p) image (target_number p x) (target_behind p x there) not_in_slot not_in_memory inside

-- ---- how memory is read

module _ (p : Parameters) (t : Tables) (n : Device) where
  -- memory as it is read by tables has all its blocks
  pub length-memory_read : length (memory_read p t n) ≡ memory_blocks p
  length-memory_read = length-map (memory_numbers p t) (newest n) ∙ length-memory_numbers p t

  -- a block of memory as it is read
  pub memory_read-at : (b : ℕ) → b < memory_blocks p → block_at (memory_read p t n) b ≡ newest n (number_of p (place_of t b))
  memory_read-at b l =
      get_or-map (newest n) (memory_numbers p t) b 0 zero_block (omega (arith, length-memory_numbers p t))
      ∙ ap (newest n) (memory_number p t b 0 l)

  -- blocks that are at their places are what is read through the tables
  pub memory_of_places : (memory : List Block) → HasMemory p t n memory → memory_read p t n ≡ memory
  memory_of_places memory has =
      ext_get_or zero_block (memory_read p t n) memory (length-memory_read ∙ sym has.as_long)
      (λ b below.
      let l : b < memory_blocks p = omega (arith, length-memory_read) in
      memory_read-at b l ∙ has.each b l)

  pub places_of_memory : (memory : List Block) → memory_read p t n ≡ memory → HasMemory p t n memory
  places_of_memory memory is = record {
    as_long = ap length (sym is) ∙ length-memory_read;
    each = λ b l. sym (memory_read-at b l) ∙ ap (λ m. block_at m b) is;
  }

-- no block of a slot is one of memory
pub slot_of_memory : (p : Parameters) (t : Tables) (s k : ℕ) → IsTables p t → Contains (memory_numbers p t) (slot_place p s + k) → ⊥
slot_of_memory p t s k tables inside =
    let behind = slot_behind p s k in
    let between = (memory_between p t (slot_place p s + k) tables inside).1 in
    omega (arith, behind, between)

-- ---- what holds of every layout holds of this one

-- ---- the slot

slot_most : (p : Parameters) (version : LayoutVersion) → blocks_of_slot version p ≤ slot_blocks p
slot_most p VersionOne = omega arith
slot_most p VersionTwo = omega arith

after_commit : (p : Parameters) (version : LayoutVersion) (s : ℕ) → 2 ≤ place_of_slot version p s
after_commit p VersionOne s = omega arith
after_commit p VersionTwo s = omega arith

record_fits : (records tables slot : ℕ) → records + tables ≤ slot → records ≤ slot
record_fits records tables slot l = omega arith

has_slot : (p : Parameters) (commit : Block) → HasSlot (thynvm_layouts p) commit
has_slot p commit = record {
  record_inside = record_fits _ _ _ (least_slot p commit);
  most = slot_most p (version_of scheme_number p commit);
  behind = after_commit p (version_of scheme_number p commit) (epoch_of commit % 2);
  inside = λ n long. slot_inside p (version_of scheme_number p commit) n (epoch_of commit % 2) long (half (epoch_of commit));
}

-- ---- memory

place_between : (p : Parameters) (t : Tables) (b : ℕ) → IsTables p t → b < memory_blocks p
    → (first_home p ≤ number_of p (place_of t b)) × (number_of p (place_of t b) < blocks_one p)
place_between p t b s l = between_slots p (place_of t b) (IsPlace-place_of p t b s l) (in_dram-place_of t b)

after_header : (p : Parameters) (x : ℕ) → first_home p ≤ x → 2 ≤ x
after_header p x l = omega arith

below_end : (p : Parameters) (x n : ℕ) → x < blocks_one p → blocks_one p ≤ n → x < n
below_end p x n l m = omega arith

-- what lies between the slots of version 1 and the slots of version 2 is in none of them
slot_apart : (p : Parameters) (version : LayoutVersion) (s k x : ℕ) → s < 2 → k < blocks_of_slot version p → first_home p ≤ x
    → x < blocks_one p
    → x ≢ place_of_slot version p s + k
slot_apart p VersionOne s k x l m low high = λ e. let before = (old_slot_before p s k l m).1 in omega (arith, before, low, e)
slot_apart p VersionTwo s k x l m low high = λ e. let behind = slot_behind p s k in omega (arith, behind, high, e)

has_places : (p : Parameters) (commit : Block) (slot : List Block) → Fits (thynvm_layouts p) commit slot
    → HasPlaces (thynvm_layouts p) commit slot
has_places p commit slot fits =
    let t : Tables = tables_in p slot in
    let tables : IsTables p (tables_in p slot)
    = tables_of_slot (version_of scheme_number p commit) p fits.ceiling (epoch_of commit) slot fits.faultless in
    record {
      behind = λ b l. after_header p (number_of p (place_of t b)) (place_between p t b tables l).0;
      inside = λ b n l long.
          below_end p (number_of p (place_of t b)) n (place_between p t b tables l).1 (long_enough p (version_of scheme_number p commit) n long);
      apart = λ b k l m.
          slot_apart p (version_of scheme_number p commit) (epoch_of commit % 2) k (number_of p (place_of t b)) (half (epoch_of commit)) m
          (place_between p t b tables l).0 (place_between p t b tables l).1;
      once = λ a b l m e.
          place_of-own t a b (numbers_name p (place_of t a) (place_of t b) (IsPlace-place_of p t a tables l) (IsPlace-place_of p t b tables m)
          (in_dram-place_of t a ∙ sym (in_dram-place_of t b)) e);
    }

pub thynvm_are_layouts : AreLayouts thynvm_layouts
thynvm_are_layouts = record {
  of = λ p. refl;
  number = λ p. omega arith;
  slot = has_slot;
  memory = has_places;
  longest = λ p commit n long. long_most p (version_of scheme_number p commit) n long;
  cpu = λ p ceiling commit slot none. cpu_of_slot (version_of scheme_number p commit) p ceiling (epoch_of commit) slot none;
  higher = λ p low high commit slot most none. slot_fault-higher (version_of scheme_number p commit) p slot (epoch_of commit) low high most none;
}
