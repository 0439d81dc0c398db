-- Part of the claim.
-- The record of the processor, the first blocks of a slot: five, and five more if there are two harts.
use Rattle.std.specs.Prelude.{◌≡◌, ◌≢◌, ℕ, zero, suc, ◌+◌, ◌*◌, ◌/◌, ◌%◌, ◌^◌, ◌<◌, ◌≤◌, true, Bool, ◌&&◌, ◌==◌, nat_lt, nat_le, if◌then◌else◌, List, [], ◌∷◌, ◌++◌, take, drop, length, map, replicate, slice_index, Option, Some, None, ◌||◌}
use Rattle.std.specs.List.{range_with_len}
use Rattle.thy_block.specs.declared.block.Block.{Block}
use Rattle.thy_block.specs.declared.parameters.Parameters.{Parameters}
use Rattle.thy_block.specs.Demands.{Demand, asked}
use Rattle.thy_block.specs.Device.{block_at}
use Rattle.thy_block.specs.Geometry.{console_room}
use Rattle.thy_block.specs.Places.{record_blocks}
use Rattle.thy_isa.specs.declared.state.CpuState.{CpuState}
use Rattle.thy_isa.specs.Regs.{reg_at}
use Rattle.thy_isa.specs.declared.state.OtherHart.{OtherHart}
use Rattle.thy_isa.specs.declared.state.Reservation.{Reservation}
use Rattle.thy_isa.specs.declared.state.Reservation.TheVariants.{Nothing, Word, Double}
use Rattle.thy_isa.specs.declared.state.Status.{Status}
use Rattle.thy_isa.specs.declared.state.Status.TheVariants.{Running, Exited, Trapped}
use Rattle.thy_layout.specs.declared.bad_image.BadImage.{BadImage}
use Rattle.thy_isa.specs.Storable.{IsOther}
use Rattle.thy_layout.specs.declared.bad_image.BadImage.TheVariants.{Commit, Status as BadStatus, ConsoleLength, Second}
use Rattle.thy_block.specs.Words.{word_of, block_of}

-- a status as two words, a tag and a value
abbrev pub status_tag : Status → ℕ
status_tag Running = 0
status_tag (Exited value) = 1
status_tag (Trapped value) = 2

abbrev pub status_value : Status → ℕ
status_value Running = 0
status_value (Exited value) = value
status_value (Trapped value) = value

abbrev pub status_of : ℕ → ℕ → Status
status_of tag value = if tag == 0 then Running else if tag == 1 then Exited value else Trapped value

-- 0 if the program runs, else the exit's or the trap's number
abbrev pub is_status : ℕ → ℕ → Bool
is_status tag value =
    if tag == 0 then value == 0 else if tag == 1 then nat_le value 255 else tag == 2 && nat_le value 7

-- a reservation as two words: the width of its bytes, 0 if there is none, and the address
abbrev pub width_word : Reservation → ℕ
width_word (Nothing at) = 0
width_word (Word at) = 4
width_word (Double at) = 8

abbrev pub place_word : Reservation → ℕ
place_word (Nothing at) = at
place_word (Word at) = at
place_word (Double at) = at

abbrev pub reservation_of : ℕ → ℕ → Reservation
reservation_of width at = if width == 4 then Word at else if width == 8 then Double at else Nothing at

-- the reservations of both harts, and four zeros
abbrev pub reserved_words : OtherHart → List ℕ
reserved_words o =
    width_word o.front ∷ place_word o.front ∷ width_word o.back ∷ place_word o.back ∷ 0 ∷ 0 ∷ 0 ∷ 0 ∷ []

-- the forty words of the other hart: pc, x1 to x31, the reservations; zeros if there is none, which no record has room for
abbrev pub second_words : Option OtherHart → List ℕ
second_words None = replicate 40 0
second_words (Some o) = o.pc ∷ (map (reg_at o.regs) (range_with_len 1 31) ++ reserved_words o)

-- the words of a record, forty for each hart: pc, x1 to x31, count, cursor, console length, break, status, epoch,
-- floor; the other hart's words come last
abbrev pub cpu_words : CpuState → ℕ → List ℕ
cpu_words c epoch =
    c.pc ∷ (drop 1 c.regs
    ++ (c.count ∷ c.cursor ∷ c.console_len ∷ c.brk ∷ status_tag c.status ∷ status_value c.status ∷ epoch ∷ c.floor
    ∷ second_words c.other))

-- block k of the record
unfoldable pub cpu_block_of : CpuState → ℕ → ℕ → Block
cpu_block_of c epoch k = block_of (take 8 (drop (8 * k) (cpu_words c epoch)))

-- word i of a record
unfoldable pub record_word : List Block → ℕ → ℕ
record_word blocks i = word_of (block_at blocks (i / 8)) (i % 8)

-- n words of a record from word i on
unfoldable pub record_words : List Block → ℕ → ℕ → List ℕ
record_words blocks i zero = []
record_words blocks i (suc n) = record_word blocks i ∷ record_words blocks (i + 1) n

-- these blocks begin with a processor's record
pub record BeginsWithRecord (p : Parameters) (c : CpuState) (epoch : ℕ) (blocks : List Block) : Type 0 where
  pub each : (k : ℕ) → k < record_blocks p → block_at blocks k ≡ cpu_block_of c epoch k

-- the other hart is there exactly if there are two, and it has 32 registers, of which register 0 is zero
abbrev pub HasOther : Parameters → Option OtherHart → Type 0
HasOther p None = p.harts ≡ 1
HasOther p (Some o) = (p.harts ≡ 2) × (length o.regs ≡ 32) × (slice_index o.regs 0 ≡ 0)

-- a processor's state and an epoch of which the record says all: 32 registers, of which register 0 is zero, numbers of
-- 64 bits, and the geometry's number of harts
pub record FitsRecord (p : Parameters) (c : CpuState) (epoch : ℕ) : Type 0 where
  pub regs_length : length c.regs ≡ 32
  pub regs_zero : slice_index c.regs 0 ≡ 0
  pub words : (i : ℕ) → i < 8 * record_blocks p → slice_index (cpu_words c epoch) i < 2 ^ 64
  pub other : HasOther p c.other

-- the epoch in a record
abbrev pub epoch_of_record : List Block → ℕ
epoch_of_record blocks = record_word blocks 38

-- the other hart in a record, whose forty words come after the words of the hart in front
unfoldable pub other_of_record : List Block → OtherHart
other_of_record blocks = record {
  pc = record_word blocks 40;
  regs = 0 ∷ record_words blocks 41 31;
  front = reservation_of (record_word blocks 72) (record_word blocks 73);
  back = reservation_of (record_word blocks 74) (record_word blocks 75);
}

-- if the record is one of two
abbrev pub second_of_record : Parameters → List Block → Option OtherHart
second_of_record p blocks = if p.harts == 2 then Some (other_of_record blocks) else None

-- the processor's state in a record
unfoldable pub cpu_of_record : Parameters → List Block → CpuState
cpu_of_record p blocks = record {
  pc = record_word blocks 0;
  regs = 0 ∷ record_words blocks 1 31;
  console_len = record_word blocks 34;
  cursor = record_word blocks 33;
  brk = record_word blocks 35;
  floor = record_word blocks 39;
  count = record_word blocks 32;
  status = status_of (record_word blocks 36) (record_word blocks 37);
  other = second_of_record p blocks;
}

-- a record is of the commit block's epoch
abbrev pub epoch_demand : ℕ → List Block → Demand BadImage
epoch_demand epoch blocks = asked (epoch_of_record blocks == epoch) Commit

-- the status of a record has a meaning and its count is below the ceiling, and the console is not longer than its pages
abbrev pub status_demands : Parameters → ℕ → List Block → List (Demand BadImage)
status_demands p ceiling blocks =
    asked (is_status (record_word blocks 36) (record_word blocks 37) && nat_lt (record_word blocks 32) ceiling) BadStatus
    ∷ asked (nat_le (record_word blocks 34) (console_room p)) ConsoleLength
    ∷ []

-- a width has a meaning, and the last four words are zero
abbrev pub is_width : ℕ → Bool
is_width w = w == 0 || w == 4 || w == 8

abbrev pub are_zero : List Block → Bool
are_zero blocks =
    (record_word blocks 76 == 0 && record_word blocks 77 == 0) && (record_word blocks 78 == 0 && record_word blocks 79 == 0)

abbrev pub is_second : List Block → Bool
is_second blocks = (is_width (record_word blocks 72) && is_width (record_word blocks 74)) && are_zero blocks

-- with two harts the words of the other one have a meaning
abbrev pub second_demand : Parameters → List Block → Demand BadImage
second_demand p blocks = asked (p.harts == 1 || is_second blocks) Second

-- the other hart is there exactly if there are two, and a record can hold it
abbrev pub IsOtherRecordable : Parameters → Option OtherHart → Type 0
IsOtherRecordable p None = p.harts ≢ 2
IsOtherRecordable p (Some o) = (p.harts ≡ 2) × IsOther o

-- a processor's state that a record can hold, with counts below the ceiling
pub record IsRecordable (p : Parameters) (ceiling : ℕ) (cpu : CpuState) : Type 0 where
  pub pc : cpu.pc < 2 ^ 64
  pub regs_length : length cpu.regs ≡ 32
  pub regs_zero : slice_index cpu.regs 0 ≡ 0
  pub regs : (i : ℕ) → slice_index cpu.regs i < 2 ^ 64
  pub console : cpu.console_len ≤ console_room p
  pub cursor : cpu.cursor < 2 ^ 64
  pub brk : cpu.brk < 2 ^ 64
  pub floor : cpu.floor < 2 ^ 64
  pub count : cpu.count < ceiling
  pub status : is_status (status_tag cpu.status) (status_value cpu.status) ≡ true
  pub other : IsOtherRecordable p cpu.other
