-- What is known of a segment where no refusal is due.
use Rattle.std.proofs.Common.{◌≡◌, ℕ, zero, suc, ◌+◌, ◌<◌, ◌≤◌, Bool, true, false, not, ◌&&◌, ◌||◌, nat_le, ◌==◌, List, [], ◌∷◌, length, None, refl, sym, ◌∙◌, inl, inr, arith}
use Rattle.std.proofs.lemmas.Bool.Decides.{nat_tests}
use Rattle.std.proofs.lemmas.Bool.{cases_lt}
use Rattle.std.specs.List.{flat_map, range_with_len}
use Rattle.thy_block.specs.Demands.{Demand, asked, first_fault}
use Rattle.thy_block.specs.Inside.{is_inside}
use Rattle.thy_block.proofs.DemandLemmas.{first_fault-append}
use Rattle.thy_block.proofs.BasicLemmas.{none_of_two}
use Rattle.thy_elf.specs.declared.error.ElfError.{ElfError}
use Rattle.thy_elf.specs.declared.error.ElfError.TheVariants.{FileOverMemory, SegmentOutsideFile, SegmentOutsideMemory}
use Rattle.thy_elf.specs.declared.program_header.ProgramHeader.{ProgramHeader}
use Rattle.thy_elf.specs.Header.{header_of}
use Rattle.thy_elf.specs.ProgramHeader.{program_header, takes_memory, is_load, segment_demands}
use Rattle.thy_elf.specs.Image.{IsAccepted}

-- the segment of a header that takes memory stands in the file and in memory
pub record Fits (file : List ℕ) (base size : ℕ) (p : ProgramHeader) : Type 0 where
  pub filled : p.file_size ≤ p.memory_size
  pub in_file : 0 < p.file_size → p.offset + p.file_size ≤ length file
  pub above : base ≤ p.address
  pub below : p.address + p.memory_size ≤ base + size

-- if the first fault of three tests is none, none fails
none_of : (a b c : Bool) (d e f : ElfError) → first_fault (asked a d ∷ asked b e ∷ asked c f ∷ []) ≡ None
    → (a ≡ true) × (b ≡ true) × (c ≡ true)
none_of false b c d e f h = absurd cc
none_of true false c d e f h = absurd cc
none_of true true false d e f h = absurd cc
none_of true true true d e f h = (refl, refl, refl)

-- the tests of a header that takes memory, of which none fails, over plain numbers
fits_of : (kind file_size memory_size offset address len base size : ℕ)
    → (kind == 1 && not (memory_size == 0)) ≡ true
    → (not (kind == 1) || nat_le file_size memory_size) ≡ true
    → (not (kind == 1) || (file_size == 0 || nat_le (offset + file_size) len)) ≡ true
    → (not (kind == 1 && not (memory_size == 0)) || is_inside base size address memory_size) ≡ true
    → (file_size ≤ memory_size) × (0 < file_size → offset + file_size ≤ len) × (base ≤ address) × (address + memory_size ≤ base + size)
fits_of kind file_size memory_size offset address len base size takes filled in_file within =
    (grind (arith, nat_tests), grind (arith, nat_tests), grind (arith, nat_tests), grind (arith, nat_tests))

-- if no demand of a program header is refused, its segment fits
pub segment_fits : (file : List ℕ) (base size k : ℕ)
    → first_fault (segment_demands file base size k) ≡ None → takes_memory (program_header file k) ≡ true
    → Fits file base size (program_header file k)
segment_fits file base size k none takes =
    let p = program_header file k in
    let tests = none_of (not (is_load p) || nat_le p.file_size p.memory_size)
    (not (is_load p) || (p.file_size == 0 || nat_le (p.offset + p.file_size) (length file)))
    (not (takes_memory p) || is_inside base size p.address p.memory_size)
    (FileOverMemory k) (SegmentOutsideFile k) (SegmentOutsideMemory k) none in
    let fits = fits_of p.kind p.file_size p.memory_size p.offset p.address (length file) base size takes tests.0 tests.1 tests.2 in
    record { filled = fits.0; in_file = fits.1; above = fits.2; below = fits.3 }

-- if no demand of any program header from a on is refused, none of header k is
demands_at : (demands : ℕ → List (Demand ElfError)) (n a k : ℕ) → first_fault (flat_map demands (range_with_len a n)) ≡ None → a ≤ k
    → k < a + n → first_fault (demands k) ≡ None
demands_at demands zero a k none above below = absurd (omega arith)
demands_at demands (suc n) a k none above below =
    let both = none_of_two (first_fault (demands a)) (first_fault (flat_map demands (range_with_len (a + 1) n)))
    (sym (first_fault-append (demands a) (flat_map demands (range_with_len (a + 1) n))) ∙ none) in
    elim (cases_lt a k) [
      | inl later ↦ demands_at demands n (a + 1) k both.1 (omega arith) (omega arith)
      | inr here ↦ let e : k ≡ a = omega arith in rw e both.0
    ]

-- if a file is accepted, no demand of header k is refused
pub accepted_at : (file : List ℕ) (base size k : ℕ) → IsAccepted file base size → k < (header_of file).count
    → first_fault (segment_demands file base size k) ≡ None
accepted_at file base size k accepted below =
    demands_at (segment_demands file base size) (header_of file).count 0 k accepted.segments (omega arith) (omega arith)
