-- What loading writes: each block at a place of its own, and, with all of them, the start's checkpoint.
use Rattle.std.proofs.Common.{nat_lt, ◌≡◌, ◌≢◌, ℕ, ◌+◌, ◌-◌, ◌<◌, ◌≤◌, Bool, if◌then◌else◌, length, map, slice_index_or, Contains, sym, ◌∙◌, ap, subst, inl, inr, arith}
use Rattle.std.proofs.lemmas.Bool.{cases_lt, lt-ltb, le-ltb}
use Rattle.std.proofs.lemmas.List.{length-map, ext_get_or, get_or_default}
use Rattle.std.proofs.lemmas.List.Elements.{Contains-get_or}
use Rattle.std.proofs.Math.ListN.{get_or-map}
use Rattle.thy_block.specs.declared.block.Block.{Block}
use Rattle.thy_block.specs.Device.{Device, block_at, newest, zero_block}
use Rattle.thy_layout.specs.Fixed.{Reads}
use Rattle.thy_computer.specs.Issuing.{ArePlaced, AreIssued}
use Rattle.thy_computer.specs.Rounds.{AreApart, HasWritten}
use Rattle.thy_checkpoint.specs.Filling.{First}
use Rattle.thy_checkpoint.specs.Loads.{part_at, place_of_first, block_of_first, first_writes}

-- the place to which a block of memory is written
abbrev pub place_in : First → ℕ → ℕ
place_in f b = slice_index_or f.parts.memory b 0

-- each of the parts
module _ {A : Type 0} (m s : ℕ) (first second : ℕ → A) (last : A) where
  part_first : (k : ℕ) → k < m → part_at m s first second last k ≡ first k
  part_first k low = ap (λ (t : Bool). if t then first k else (if nat_lt (k - m) s then second (k - m) else last)) (lt-ltb k m low)

  part_rest : (j : ℕ) → part_at m s first second last (m + j) ≡ (if nat_lt j s then second j else last)
  part_rest j =
      let back : m + j - m ≡ j = omega arith in
      ap (λ (t : Bool). if t then first (m + j) else (if nat_lt (m + j - m) s then second (m + j - m) else last)) (le-ltb (m + j) m (omega arith))
      ∙ ap (λ (x : ℕ). if nat_lt x s then second x else last) back

  part_second : (j : ℕ) → j < s → part_at m s first second last (m + j) ≡ second j
  part_second j low = part_rest j ∙ ap (λ (t : Bool). if t then second j else last) (lt-ltb j s low)

  part_last : part_at m s first second last (m + s) ≡ last
  part_last = part_rest s ∙ ap (λ (t : Bool). if t then second s else last) (le-ltb s s (omega arith))

-- block k of all is one of memory's, of the slot's, or the header
data Which (f : First) (k : ℕ) : Type 0 where
  OfMemory : k < length f.parts.memory → Which f k
  OfSlot : (j : ℕ) → k ≡ length f.parts.memory + j → j < f.parts.slot_blocks → Which f k
  OfHeader : k ≡ length f.parts.memory + f.parts.slot_blocks → Which f k

module _ (f : First) where
  which : (k : ℕ) → k < length f.parts.memory + f.parts.slot_blocks + 1 → Which f k
  which k low = elim (cases_lt k (length f.parts.memory)) as (λ _. Which f k) [
    | inl memory ↦ OfMemory memory
    | inr past ↦ elim (cases_lt (k - length f.parts.memory) f.parts.slot_blocks) as (λ _. Which f k) [
      | inl slot ↦ OfSlot (k - length f.parts.memory) (omega (arith, past)) slot
      | inr behind ↦ OfHeader (omega (arith, past, behind, low))
    ]
  ]

  -- ---- where it goes, and what it is

  abbrev m : ℕ
  m = length f.parts.memory

  abbrev s : ℕ
  s = f.parts.slot_blocks

  abbrev slot_place : ℕ → ℕ
  slot_place j = f.parts.slot_place + j

  place_memory : (b : ℕ) → b < m → place_of_first f b ≡ place_in f b
  place_memory b low = part_first m s (place_in f) slot_place 0 b low

  place_slot : (j : ℕ) → j < s → place_of_first f (m + j) ≡ f.parts.slot_place + j
  place_slot j low = part_second m s (place_in f) slot_place 0 j low

  place_header : place_of_first f (m + s) ≡ 0
  place_header = part_last m s (place_in f) slot_place 0

  abbrev spot : (k : ℕ) → Which f k → ℕ
  spot k (OfMemory low) = place_in f k
  spot k (OfSlot j is low) = f.parts.slot_place + j
  spot k (OfHeader is) = 0

  spot_is : (k : ℕ) (one : Which f k) → place_of_first f k ≡ spot k one
  spot_is k (OfMemory low) = place_memory k low
  spot_is k (OfSlot j is low) = ap (λ (x : ℕ). place_of_first f x) is ∙ place_slot j low
  spot_is k (OfHeader is) = ap (λ (x : ℕ). place_of_first f x) is ∙ place_header

  is_of_memory : (b : ℕ) → b < length f.parts.memory → Contains f.parts.memory (place_in f b)
  is_of_memory b l = Contains-get_or f.parts.memory b 0 l

  -- ---- each place is its own

  module _ (blocks : ℕ) (placed : ArePlaced blocks f.parts)
      (once : (i j : ℕ) → i < length f.parts.memory → j < length f.parts.memory → place_in f i ≡ place_in f j → i ≡ j) where
    behind : (b : ℕ) → b < length f.parts.memory → 2 ≤ place_in f b
    behind b low = placed.memory_behind (place_in f b) (is_of_memory b low)

    inside : (k : ℕ) (one : Which f k) → spot k one < blocks
    inside k (OfMemory low) = placed.memory_inside (place_in f k) (is_of_memory k low)
    inside k (OfSlot j is low) = omega (arith, low, placed.slot_inside)
    inside k (OfHeader is) = omega (arith, placed.slot_behind, placed.slot_inside)

    elsewhere : (k : ℕ) (one : Which f k) → spot k one ≢ 1
    elsewhere k (OfMemory low) e = let past = behind k low in omega (arith, e, past)
    elsewhere k (OfSlot j is low) e = omega (arith, e, placed.slot_behind)
    elsewhere k (OfHeader is) e = omega (arith, e)

    own : (i j : ℕ) (one : Which f i) (other : Which f j) → spot i one ≡ spot j other → i ≡ j
    own i j (OfMemory a) (OfMemory b) e = once i j a b e
    own i j (OfMemory a) (OfSlot y is low) e = absurd (placed.apart y low (subst (λ (x : ℕ). Contains f.parts.memory x) e (is_of_memory i a)))
    own i j (OfMemory a) (OfHeader is) e = let past = behind i a in absurd (omega (arith, past, e))
    own i j (OfSlot x is low) (OfMemory b) e = absurd (placed.apart x low (subst (λ (x : ℕ). Contains f.parts.memory x) (sym e) (is_of_memory j b)))
    own i j (OfSlot x is low) (OfSlot y too less) e = omega (arith, e, is, too)
    own i j (OfSlot x is low) (OfHeader too) e = absurd (omega (arith, e, placed.slot_behind))
    own i j (OfHeader is) (OfMemory b) e = let past = behind j b in absurd (omega (arith, past, e))
    own i j (OfHeader is) (OfSlot y too less) e = absurd (omega (arith, e, placed.slot_behind))
    own i j (OfHeader is) (OfHeader too) e = omega (arith, is, too)

    pub first_apart : AreApart blocks (first_writes f)
    first_apart = record {
      room = omega (arith, placed.slot_behind, placed.slot_inside);
      inside = λ i low. let one = which i low in subst (λ (x : ℕ). x < blocks) (sym (spot_is i one)) (inside i one);
      elsewhere = λ i low e. let one = which i low in elsewhere i one (sym (spot_is i one) ∙ e);
      once = λ i j a b e.
          let one = which i a in
          let other = which j b in
          own i j one other (sym (spot_is i one) ∙ e ∙ spot_is j other);
    }

  -- ---- all of it was issued

  module _ (n : Device) (h : HasWritten (first_writes f) (first_writes f).blocks n) where
    read_as : (k x : ℕ) (block : Block) → k < (first_writes f).blocks → place_of_first f k ≡ x → block_of_first f k ≡ block → Reads n x block
    read_as k x block low place is =
        subst (λ (y : ℕ). Reads n y block) place (subst (λ (b : Block). Reads n (place_of_first f k) b) is (h.each k low))

    memory_read : (b : ℕ) → b < length f.parts.memory → Reads n (place_in f b) (block_at f.memory b)
    memory_read b low = read_as b (place_in f b) (block_at f.memory b) (omega (arith, low)) (place_memory b low)
        (part_first m s (block_at f.memory) f.parts.slot f.header b low)

    pub header_read : Reads n 0 f.header
    header_read = read_as (length f.parts.memory + f.parts.slot_blocks) 0 f.header (omega arith) place_header
        (part_last m s (block_at f.memory) f.parts.slot f.header)

    pub AreIssued-written : (blocks : ℕ) → length n.image ≡ blocks → length f.memory ≡ length f.parts.memory
        → AreIssued blocks f.parts n f.memory f.parts.slot_blocks
    AreIssued-written blocks sized whole =
        let long : length (map (newest n) f.parts.memory) ≡ length f.parts.memory = length-map f.parts.memory (newest n) in
        record {
          sized = sized;
          memory_is = ext_get_or zero_block (map (newest n) f.parts.memory) f.memory (long ∙ sym whole) (λ i below.
              let low : i < length f.parts.memory = omega (arith, below, long) in
              get_or_default (map (newest n) f.parts.memory) i zero_block (newest n 0) below
              ∙ get_or-map (newest n) f.parts.memory i 0 ∙ (memory_read i low).newest_is);
          slot = record {
            each = λ j low.
                read_as (length f.parts.memory + j) (f.parts.slot_place + j) (f.parts.slot j) (omega (arith, low)) (place_slot j low)
                (part_second m s (block_at f.memory) f.parts.slot f.header j low);
          };
        }
