-- The state that a slot and memory make: a run can begin with it.
use Rattle.std.proofs.Common.{◌≡◌, ℕ, ◌+◌, ◌*◌, ◌/◌, ◌%◌, ◌<◌, ◌≤◌, ◌==◌, ◌&&◌, Bool, true, false, nat_le, nat_lt, if◌then◌else◌, List, length, drop, Option, Some, None, refl, subst, sym, ◌∙◌, lit<, arith}
use Rattle.std.specs.List.{All}
use Rattle.std.proofs.lemmas.Bool.{eq-eqb, eqb-true, leb-true, ltb-true, and_parts}
use Rattle.std.proofs.lemmas.List.{length-take}
use Rattle.std.proofs.lemmas.List.Elements.{All-cons, All-take, All-drop, All-from_get_or}
use Rattle.thy_block.specs.declared.block.Block.{Block}
use Rattle.thy_block.specs.declared.parameters.Parameters.{Parameters}
use Rattle.thy_block.specs.Device.{block_at}
use Rattle.thy_block.specs.Geometry.{program_size, console_room, memory_blocks}
use Rattle.thy_block.specs.Words.{word_of}
use Rattle.thy_block.specs.Flat.{flat}
use Rattle.thy_block.proofs.MemoryLaws.{length-memory_bytes}
use Rattle.thy_isa.specs.declared.instr.Width.TheVariants.{Double}
use Rattle.thy_isa.specs.declared.state.OtherHart.{OtherHart}
use Rattle.thy_isa.specs.declared.state.Reservation.TheVariants.{Nothing, Word, Double as DoubleWord}
use Rattle.thy_isa.specs.declared.state.Status.TheVariants.{Running, Exited, Trapped}
use Rattle.thy_isa.specs.OnBlocks.{state_from}
use Rattle.thy_isa.specs.Step.{State, cpu_of}
use Rattle.thy_isa.specs.Storable.{IsNumber, IsByte, IsStatus, IsReservation, IsOther, IsOtherOf, IsStorable}
use Rattle.thy_isa.proofs.MemoryBounds.{anywhere, number_at-number}
use Rattle.thy_layout.specs.Cpu.{status_of, is_status, record_word, record_words, other_of_record, second_of_record, cpu_of_record, IsOtherRecordable, IsRecordable}
use Rattle.thy_layout.specs.Slots.{status_fault}
use Rattle.thy_layout.proofs.CpuLemmas.{record_words-at, length-record_words, is_status-of}
use Rattle.thy_layout.proofs.AskingLemmas.{status_asks}
use Rattle.thy_outcome.specs.Saved.{CanBegin}
use Rattle.thy_outcome.proofs.BlockLemmas.{AreOfBytes, flat-bytes}

record_word-number : (slot : List Block) (i : ℕ) → AreOfBytes slot → IsNumber (record_word slot i)
unfolding record_word word_of
record_word-number slot i h = number_at-number Double (block_at slot (i / 8)).0 (8 * (i % 8)) (h.each (i / 8))

record_words-numbers : (slot : List Block) (i n : ℕ) → AreOfBytes slot → All IsNumber (record_words slot i n)
record_words-numbers slot i n h =
    All-from_get_or IsNumber (record_words slot i n) 0
    (λ k l. subst IsNumber (sym (record_words-at slot i n k (omega (arith, length-record_words slot i n)))) (record_word-number slot (i + k) h))

IsStatus-tests : (runs exits traps : Bool) (value : ℕ)
    → (if runs then value == 0 else if exits then nat_le value 255 else traps && nat_le value 7) ≡ true
    → IsStatus (if runs then Running else if exits then Exited value else Trapped value)
IsStatus-tests true exits traps value h = tt
IsStatus-tests false true traps value h = omega (arith, leb-true value 255 h)
IsStatus-tests false false traps value h = omega (arith, leb-true value 7 (and_parts traps (nat_le value 7) h).1)

-- a tag and a value that have a meaning are a status
IsStatus-of : (tag value : ℕ) → is_status tag value ≡ true → IsStatus (status_of tag value)
IsStatus-of tag value h = IsStatus-tests (tag == 0) (tag == 1) (tag == 2) value h

-- what a slot without a fault says of its words
record FitsSlot (p : Parameters) (ceiling : ℕ) (slot : List Block) : Type 0 where
  status : is_status (record_word slot 36) (record_word slot 37) ≡ true
  count : record_word slot 32 < ceiling
  console : record_word slot 34 ≤ console_room p

FitsSlot-faultless : (p : Parameters) (ceiling : ℕ) (slot : List Block) → status_fault p ceiling slot ≡ None → FitsSlot p ceiling slot
FitsSlot-faultless p ceiling slot h =
    let passed = status_asks (is_status (record_word slot 36) (record_word slot 37)) (nat_lt (record_word slot 32) ceiling)
    (nat_le (record_word slot 34) (console_room p)) h in
    record {
      status = passed.0;
      count = ltb-true (record_word slot 32) ceiling passed.1;
      console = leb-true (record_word slot 34) (console_room p) passed.2;
    }

-- ---- the other hart

IsReservation-by : (word double : Bool) (at : ℕ) → IsNumber at
    → IsReservation (if word then Word at else if double then DoubleWord at else Nothing at)
IsReservation-by true double at h = h
IsReservation-by false true at h = h
IsReservation-by false false at h = h

IsOther-made : (slot : List Block) → AreOfBytes slot → IsOther (other_of_record slot)
unfolding other_of_record
IsOther-made slot words = record {
  pc = record_word-number slot 40 words;
  registers = omega (arith, length-record_words slot 41 31);
  numbers = All-cons IsNumber 0 (record_words slot 41 31) (lit< tt) (record_words-numbers slot 41 31 words);
  zero_register = refl;
  front = IsReservation-by (record_word slot 72 == 4) (record_word slot 72 == 8) (record_word slot 73) (record_word-number slot 73 words);
  back = IsReservation-by (record_word slot 74 == 4) (record_word slot 74 == 8) (record_word slot 75) (record_word-number slot 75 words);
}

-- the other hart is there exactly with two harts
other_made : (p : Parameters) (two : Bool) (o : OtherHart) → (p.harts == 2) ≡ two → IsOther o
    → IsOtherRecordable p (if two then Some o else None)
other_made p true o e h = (eqb-true p.harts 2 e, h)
other_made p false o e h = λ same. let both : true ≡ false = sym (eq-eqb p.harts 2 same) ∙ e in absurd (cc)

IsOtherRecordable-read : (p : Parameters) (slot : List Block) → AreOfBytes slot → IsOtherRecordable p (second_of_record p slot)
IsOtherRecordable-read p slot words = other_made p (p.harts == 2) (other_of_record slot) refl (IsOther-made slot words)

IsOtherOf-recordable : (p : Parameters) (o : Option OtherHart) → IsOtherRecordable p o → IsOtherOf o
IsOtherOf-recordable p None h = tt
IsOtherOf-recordable p (Some o) h = h.1

-- ---- the state

-- the state that record and memory make can be stored
IsStorable-made : (p : Parameters) (ceiling : ℕ) (slot memory : List Block) → AreOfBytes slot → AreOfBytes memory
    → length memory ≡ memory_blocks p
    → FitsSlot p ceiling slot → IsStorable (program_size p) (state_from p (cpu_of_record p slot) memory)
unfolding state_from cpu_of_record
IsStorable-made p ceiling slot memory words blocks all fits =
    let bytes = flat-bytes memory blocks in
    record {
      pc = record_word-number slot 0 words;
      registers = omega (arith, length-record_words slot 1 31);
      numbers = All-cons IsNumber 0 (record_words slot 1 31) (lit< tt) (record_words-numbers slot 1 31 words);
      zero_register = refl;
      memory_size = length-memory_bytes p memory all;
      memory = All-take IsByte (program_size p) (flat memory) bytes;
      console = All-take IsByte (record_word slot 34) (drop (program_size p) (flat memory)) (All-drop IsByte (program_size p) (flat memory) bytes);
      cursor = record_word-number slot 33 words;
      brk = record_word-number slot 35 words;
      floor = record_word-number slot 39 words;
      status = IsStatus-of (record_word slot 36) (record_word slot 37) fits.status;
      other = IsOtherOf-recordable p (second_of_record p slot) (IsOtherRecordable-read p slot words);
    }

-- the count and the console of a state are small, and it has the geometry's harts
record IsSmallState (p : Parameters) (ceiling : ℕ) (s : State) : Type 0 where
  count : s.count < ceiling
  console : length s.console ≤ console_room p
  other : IsOtherRecordable p s.other

IsSmallState-made : (p : Parameters) (ceiling : ℕ) (slot memory : List Block) → AreOfBytes slot → FitsSlot p ceiling slot
    → IsSmallState p ceiling (state_from p (cpu_of_record p slot) memory)
unfolding state_from cpu_of_record
IsSmallState-made p ceiling slot memory words fits =
    let rest = drop (program_size p) (flat memory) in
    record {
      count = fits.count;
      console = omega (arith, length-take (record_word slot 34) rest, fits.console);
      other = IsOtherRecordable-read p slot words;
    }

-- a storable state with a small count and console, and the geometry's harts, can be recorded
IsRecordable-small : (p : Parameters) (ceiling : ℕ) (s : State) → IsStorable (program_size p) s → IsSmallState p ceiling s
    → IsRecordable p ceiling (cpu_of s)
IsRecordable-small p ceiling s h small = record {
  pc = h.pc;
  regs_length = h.registers;
  regs_zero = h.zero_register;
  regs = anywhere IsNumber (lit< tt) s.regs h.numbers;
  console = small.console;
  cursor = h.cursor;
  brk = h.brk;
  floor = h.floor;
  count = small.count;
  status = is_status-of s.status h.status;
  other = small.other;
}

-- a run can begin with the state of a slot without a fault
pub CanBegin-made : (p : Parameters) (ceiling epoch : ℕ) (slot memory : List Block) (s : State)
    → AreOfBytes slot → AreOfBytes memory → length memory ≡ memory_blocks p → status_fault p ceiling slot ≡ None → epoch < ceiling
    → state_from p (cpu_of_record p slot) memory ≡ s → CanBegin p ceiling epoch s
CanBegin-made p ceiling epoch slot memory s words blocks all none below is =
    let fits = FitsSlot-faultless p ceiling slot none in
    let storable : IsStorable (program_size p) s =
    subst (IsStorable (program_size p)) is (IsStorable-made p ceiling slot memory words blocks all fits) in
    let small : IsSmallState p ceiling s = subst (IsSmallState p ceiling) is (IsSmallState-made p ceiling slot memory words fits) in
    record { recordable = IsRecordable-small p ceiling s storable small; storable = storable; below = below }
