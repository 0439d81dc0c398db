-- Words of a record that are read are written again as they were.
use Rattle.std.proofs.Common.{◌≡◌, ℕ, zero, suc, ◌+◌, ◌-◌, ◌*◌, ◌<◌, ◌≤◌, ◌==◌, ◌&&◌, ◌||◌, Bool, true, false, nat_lt, nat_le, if◌then◌else◌, List, length, slice_index, Option, Some, None, refl, sym, ◌∙◌, ap, inl, inr, arith}
use Rattle.std.proofs.lemmas.Bool.{cases_lt, eq-eqb, ne_eqb, eqb-true, and_parts}
use Rattle.thy_block.specs.declared.block.Block.{Block}
use Rattle.thy_block.specs.declared.parameters.Parameters.{Parameters}
use Rattle.thy_block.specs.Geometry.{IsInRange, console_room}
use Rattle.thy_block.specs.Places.{record_blocks}
use Rattle.thy_block.proofs.RangeLemmas.{harts_least, harts_most}
use Rattle.thy_isa.specs.declared.state.OtherHart.{OtherHart}
use Rattle.thy_isa.specs.declared.state.Reservation.TheVariants.{Nothing, Word, Double}
use Rattle.thy_isa.specs.declared.state.Status.TheVariants.{Running, Exited, Trapped}
use Rattle.thy_layout.specs.declared.bad_image.BadImage.TheVariants.{Second}
use Rattle.thy_layout.specs.Cpu.{status_tag, status_value, status_of, is_status, width_word, place_word, reservation_of, reserved_words, second_words, cpu_words, record_word, other_of_record, cpu_of_record, epoch_of_record, is_width, are_zero, is_second}
use Rattle.thy_layout.specs.Slots.{status_fault, second_fault, cpu_fault}
use Rattle.thy_layout.proofs.CpuLemmas.{rest_words, cpu_words-reg, cpu_words-rest, cpu_words-second, second_words-reg, second_words-reserved, reg_at-some, record_words-at, length-record_words}
use Rattle.thy_layout.proofs.AskingLemmas.{status_asks}
use Rattle.thy_layout.proofs.ReadBackLemmas.{taken}
use Rattle.thy_layout.proofs.EntryFaultLemmas.{neither}

-- word i of a record that was read, as it is written; and word j of the other hart's
abbrev written : Parameters → List Block → ℕ → ℕ
written p blocks i = slice_index (cpu_words (cpu_of_record p blocks) (epoch_of_record blocks)) i

abbrev second_written : List Block → ℕ → ℕ
second_written blocks j = slice_index (second_words (Some (other_of_record blocks))) j

-- the status of a record has a meaning
abbrev FitsStatus : List Block → Type 0
FitsStatus blocks = is_status (record_word blocks 36) (record_word blocks 37) ≡ true

-- ---- a status and a reservation, by the tests that choose them

tag_by : (runs exits traps : Bool) (tag value : ℕ)
    → (runs ≡ true → tag ≡ 0) → (exits ≡ true → tag ≡ 1) → (traps ≡ true → tag ≡ 2)
    → (if runs then value == 0 else if exits then nat_le value 255 else traps && nat_le value 7) ≡ true
    → status_tag (if runs then Running else if exits then Exited value else Trapped value) ≡ tag
tag_by true exits traps tag value a b c h = sym (a refl)
tag_by false true traps tag value a b c h = sym (b refl)
tag_by false false true tag value a b c h = sym (c refl)
tag_by false false false tag value a b c h = cc

tag_again : (tag value : ℕ) → is_status tag value ≡ true → status_tag (status_of tag value) ≡ tag
tag_again tag value h = tag_by (tag == 0) (tag == 1) (tag == 2) tag value (eqb-true tag 0) (eqb-true tag 1) (eqb-true tag 2) h

value_by : (runs exits traps : Bool) (value : ℕ)
    → (if runs then value == 0 else if exits then nat_le value 255 else traps && nat_le value 7) ≡ true
    → status_value (if runs then Running else if exits then Exited value else Trapped value) ≡ value
value_by true exits traps value h = sym (eqb-true value 0 h)
value_by false true traps value h = refl
value_by false false traps value h = refl

value_again : (tag value : ℕ) → is_status tag value ≡ true → status_value (status_of tag value) ≡ value
value_again tag value h = value_by (tag == 0) (tag == 1) (tag == 2) value h

width_by : (word double none : Bool) (w at : ℕ)
    → (word ≡ true → w ≡ 4) → (double ≡ true → w ≡ 8) → (none ≡ true → w ≡ 0)
    → (none || word || double) ≡ true
    → width_word (if word then Word at else if double then Double at else Nothing at) ≡ w
width_by true double none w at a b c h = sym (a refl)
width_by false true none w at a b c h = sym (b refl)
width_by false false true w at a b c h = sym (c refl)
width_by false false false w at a b c h = cc

width_again : (w at : ℕ) → is_width w ≡ true → width_word (reservation_of w at) ≡ w
width_again w at h = width_by (w == 4) (w == 8) (w == 0) w at (eqb-true w 4) (eqb-true w 8) (eqb-true w 0) h

place_by : (word double : Bool) (at : ℕ) → place_word (if word then Word at else if double then Double at else Nothing at) ≡ at
place_by true double at = refl
place_by false true at = refl
place_by false false at = refl

-- the address whatever the width
place_again : (w at : ℕ) → place_word (reservation_of w at) ≡ at
place_again w at = place_by (w == 4) (w == 8) at

-- ---- the words of the other hart

-- what the tests of the other hart's words ask of the words after its registers
record FitsSecond (blocks : List Block) : Type 0 where
  front : is_width (record_word blocks 72) ≡ true
  back : is_width (record_word blocks 74) ≡ true
  first_zero : record_word blocks 76 ≡ 0
  second_zero : record_word blocks 77 ≡ 0
  third_zero : record_word blocks 78 ≡ 0
  last_zero : record_word blocks 79 ≡ 0

FitsSecond-tested : (blocks : List Block) → is_second blocks ≡ true → FitsSecond blocks
FitsSecond-tested blocks h =
    let all = and_parts (is_width (record_word blocks 72) && is_width (record_word blocks 74)) (are_zero blocks) h in
    let widths = and_parts (is_width (record_word blocks 72)) (is_width (record_word blocks 74)) all.0 in
    let zeros = and_parts (record_word blocks 76 == 0 && record_word blocks 77 == 0)
    (record_word blocks 78 == 0 && record_word blocks 79 == 0) all.1 in
    let low = and_parts (record_word blocks 76 == 0) (record_word blocks 77 == 0) zeros.0 in
    let high = and_parts (record_word blocks 78 == 0) (record_word blocks 79 == 0) zeros.1 in
    record {
      front = widths.0;
      back = widths.1;
      first_zero = eqb-true (record_word blocks 76) 0 low.0;
      second_zero = eqb-true (record_word blocks 77) 0 low.1;
      third_zero = eqb-true (record_word blocks 78) 0 high.0;
      last_zero = eqb-true (record_word blocks 79) 0 high.1;
    }

reserved_again : (blocks : List Block) (j : ℕ) → FitsSecond blocks → j < 8
    → slice_index (reserved_words (other_of_record blocks)) j ≡ record_word blocks (72 + j)
unfolding other_of_record
reserved_again blocks zero h l = width_again (record_word blocks 72) (record_word blocks 73) h.front
reserved_again blocks (suc zero) h l = place_again (record_word blocks 72) (record_word blocks 73)
reserved_again blocks (suc (suc zero)) h l = width_again (record_word blocks 74) (record_word blocks 75) h.back
reserved_again blocks (suc (suc (suc zero))) h l = place_again (record_word blocks 74) (record_word blocks 75)
reserved_again blocks (suc (suc (suc (suc zero)))) h l = sym h.first_zero
reserved_again blocks (suc (suc (suc (suc (suc zero))))) h l = sym h.second_zero
reserved_again blocks (suc (suc (suc (suc (suc (suc zero)))))) h l = sym h.third_zero
reserved_again blocks (suc (suc (suc (suc (suc (suc (suc zero))))))) h l = sym h.last_zero
reserved_again blocks (suc (suc (suc (suc (suc (suc (suc (suc j)))))))) h l = absurd (omega arith)

second_reg-again : (blocks : List Block) (j : ℕ) → j < 31 → second_written blocks (suc j) ≡ record_word blocks (40 + suc j)
unfolding other_of_record
second_reg-again blocks j l =
    let e : 41 + j ≡ 40 + suc j = omega arith in
    second_words-reg (other_of_record blocks) (suc j) (omega arith) (omega arith)
    ∙ reg_at-some (other_of_record blocks).regs (suc j) (omega arith)
    ∙ record_words-at blocks 41 31 j l
    ∙ ap (record_word blocks) e

second_again : (blocks : List Block) (j : ℕ) → FitsSecond blocks → j < 40
    → second_written blocks j ≡ record_word blocks (40 + j)
unfolding other_of_record
second_again blocks zero h l = refl
second_again blocks (suc j) h l = elim (cases_lt j 31) as (λ _. second_written blocks (suc j) ≡ record_word blocks (40 + suc j)) [
  | inl low ↦ second_reg-again blocks j low
  | inr high ↦
      let e : 32 + (j - 31) ≡ suc j = omega arith in
      let f : 72 + (j - 31) ≡ 40 + suc j = omega arith in
      ap (second_written blocks) (sym e)
      ∙ second_words-reserved (other_of_record blocks) (j - 31)
      ∙ reserved_again blocks (j - 31) h (omega arith)
      ∙ ap (record_word blocks) f
]

-- ---- the words of the hart in front

rest_again : (p : Parameters) (blocks : List Block) (j : ℕ) → FitsStatus blocks → j < 8
    → slice_index (rest_words (cpu_of_record p blocks) (epoch_of_record blocks)) j ≡ record_word blocks (32 + j)
unfolding cpu_of_record
rest_again p blocks (suc (suc (suc (suc zero)))) h l = tag_again (record_word blocks 36) (record_word blocks 37) h
rest_again p blocks (suc (suc (suc (suc (suc zero))))) h l = value_again (record_word blocks 36) (record_word blocks 37) h
rest_again p blocks (suc (suc (suc (suc (suc (suc (suc (suc j)))))))) h l = absurd (omega arith)
rest_again p blocks j h l = refl

module _ (p : Parameters) (blocks : List Block) where
  registers : length (cpu_of_record p blocks).regs ≡ 32
  unfolding cpu_of_record
  registers = omega (arith, length-record_words blocks 1 31)

  -- words 1 to 31 of a record are written again as they were read
  reg_again : (i : ℕ) → i < 31 → written p blocks (suc i) ≡ record_word blocks (suc i)
  unfolding cpu_of_record
  reg_again i l =
      let e : 1 + i ≡ suc i = omega arith in
      cpu_words-reg (cpu_of_record p blocks) (epoch_of_record blocks) (suc i) registers (omega arith) (omega arith)
      ∙ record_words-at blocks 1 31 i l
      ∙ ap (record_word blocks) e

  first_word : written p blocks 0 ≡ record_word blocks 0
  unfolding cpu_of_record
  first_word = refl

  -- words 32 to 39 of a record are written again as they were read
  behind_again : (i : ℕ) → FitsStatus blocks → 32 ≤ i → i < 40 → written p blocks i ≡ record_word blocks i
  behind_again i h least most =
      let e : 32 + (i - 32) ≡ i = omega arith in
      ap (written p blocks) (sym e)
      ∙ cpu_words-rest (cpu_of_record p blocks) (epoch_of_record blocks) (i - 32) registers
      ∙ rest_again p blocks (i - 32) h (omega arith)
      ∙ ap (record_word blocks) e

  front_again : (i : ℕ) → FitsStatus blocks → i < 40 → written p blocks i ≡ record_word blocks i
  front_again zero h l = first_word
  front_again (suc i) h l =
      elim (cases_lt i 31) as (λ _. written p blocks (suc i) ≡ record_word blocks (suc i)) [
        | inl low ↦ reg_again i low
        | inr high ↦ behind_again (suc i) h (omega arith) l
      ]

  -- ---- both

  other_is : p.harts ≡ 2 → (cpu_of_record p blocks).other ≡ Some (other_of_record blocks)
  unfolding cpu_of_record
  other_is two = taken (p.harts == 2) (Some (other_of_record blocks)) None (eq-eqb p.harts 2 two)

  -- words 40 to 79 of a record are written again as they were read
  back_again : (i : ℕ) → FitsSecond blocks → p.harts ≡ 2 → 40 ≤ i → i < 80 → written p blocks i ≡ record_word blocks i
  back_again i h two least most =
      let e : 40 + (i - 40) ≡ i = omega arith in
      ap (written p blocks) (sym e)
      ∙ cpu_words-second (cpu_of_record p blocks) (epoch_of_record blocks) (i - 40) registers
      ∙ ap (λ (o : Option OtherHart). slice_index (second_words o) (i - 40)) (other_is two)
      ∙ second_again blocks (i - 40) h (omega arith)
      ∙ ap (record_word blocks) e

second_asks : (fits : Bool) → (if fits then None else Some Second) ≡ None → fits ≡ true
second_asks true h = refl
second_asks false h = cc

only_second : (one second : Bool) → one ≡ false → (one || second) ≡ true → second ≡ true
only_second true second a h = cc
only_second false second a h = h

-- with two harts the other hart's words are tested
FitsSecond-faultless : (p : Parameters) (blocks : List Block) → p.harts ≡ 2 → second_fault p blocks ≡ None → FitsSecond blocks
FitsSecond-faultless p blocks two none =
    let other : (p.harts == 1) ≡ false = ne_eqb p.harts 1 (λ e. omega (arith, two, e)) in
    FitsSecond-tested blocks
    (only_second (p.harts == 1) (is_second blocks) other (second_asks (p.harts == 1 || is_second blocks) none))

pub written_again : (p : Parameters) (ceiling : ℕ) (blocks : List Block) (i : ℕ)
    → IsInRange p → cpu_fault p ceiling blocks ≡ None → i < 8 * record_blocks p → written p blocks i ≡ record_word blocks i
written_again p ceiling blocks i range none small =
    let parts = neither (status_fault p ceiling blocks) (second_fault p blocks) none in
    let asks = status_asks (is_status (record_word blocks 36) (record_word blocks 37)) (nat_lt (record_word blocks 32) ceiling)
    (nat_le (record_word blocks 34) (console_room p)) parts.0 in
    elim (cases_lt i 40) as (λ _. written p blocks i ≡ record_word blocks i) [
      | inl low ↦ front_again p blocks i asks.0 low
      | inr high ↦
          let two : p.harts ≡ 2 = omega (arith, harts_least p range, harts_most p range, small, high) in
          back_again p blocks i (FitsSecond-faultless p blocks two parts.1) two high (omega (arith, small, two))
    ]
