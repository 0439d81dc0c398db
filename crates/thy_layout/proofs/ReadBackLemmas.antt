-- What is written reads back, and has no fault.
use Rattle.std.proofs.Common.{◌≡◌, ℕ, zero, suc, ◌+◌, ◌-◌, ◌*◌, ◌/◌, ◌%◌, ◌^◌, ◌<◌, ◌≤◌, ◌==◌, ◌&&◌, ◌||◌, true, false, Bool, nat_lt, if◌then◌else◌, List, ◌∷◌, length, take, drop, slice_index, Option, Some, None, refl, sym, ◌∙◌, ap, subst, inl, inr, arith}
use Rattle.std.proofs.lemmas.Bool.{cases_lt, eq-eqb, ne_eqb, lt-ltb, leb-true, and_from}
use Rattle.std.proofs.lemmas.List.{ext_get_or}
use Rattle.std.proofs.lemmas.Slice.Eq.{bytes_eq-Decides}
use Rattle.std.specs.Prelude.{bytes_eq}
use Rattle.thy_block.specs.declared.block.Block.{Block}
use Rattle.thy_block.specs.declared.parameters.Parameters.{Parameters}
use Rattle.thy_layout.specs.declared.layout_version.LayoutVersion.TheVariants.{VersionOne, VersionTwo}
use Rattle.thy_block.specs.Device.{zero_block}
use Rattle.thy_block.specs.LittleEndian.{number_bytes}
use Rattle.thy_block.specs.Geometry.{IsInRange, console_room}
use Rattle.thy_block.proofs.RangeLemmas.{harts_least, harts_most}
use Rattle.thy_block.specs.Places.{record_blocks}
use Rattle.thy_isa.proofs.MemoryBounds.{anywhere}
use Rattle.thy_isa.specs.Regs.{reg_at}
use Rattle.thy_isa.specs.declared.state.CpuState.{CpuState}
use Rattle.thy_isa.specs.declared.state.OtherHart.{OtherHart}
use Rattle.thy_isa.specs.declared.state.Reservation.{Reservation}
use Rattle.thy_isa.specs.declared.state.Reservation.TheVariants.{Nothing}
use Rattle.thy_isa.specs.declared.state.Status.{Status}
use Rattle.thy_isa.specs.declared.state.Status.TheVariants.{Running, Exited, Trapped}
use Rattle.thy_isa.specs.Storable.{IsNumber, IsReservation, IsOther}
use Rattle.thy_block.specs.Words.{word_of, block_of}
use Rattle.thy_layout.specs.Commit.{commit_magic, named_block, commit_words, commit_of, is_zero, epoch_of, version_of, is_named, has_zero_rest, commit_fault}
use Rattle.thy_layout.specs.Header.{knows_version_one}
use Rattle.thy_layout.specs.Cpu.{status_tag, status_value, status_of, is_status, width_word, place_word, reservation_of, reserved_words, second_words, cpu_words, cpu_block_of, record_word, record_words, BeginsWithRecord, HasOther, FitsRecord, other_of_record, second_of_record, cpu_of_record, epoch_of_record, is_width, is_second, IsOtherRecordable, IsRecordable}
use Rattle.thy_block.proofs.WordLemmas.{word_of-block_of}
use Rattle.thy_layout.proofs.CpuLemmas.{rest_words, cpu_words-reg, cpu_words-rest, cpu_words-second, second_words-reg, second_words-reserved, second_words-none, reserved_words-zero, reg_at-some, block_words, length-block_words, record_words-at, length-record_words}

-- a choice whose test holds
pub taken : {X : Type 0} (t : Bool) (x y : X) → t ≡ true → (if t then x else y) ≡ x
taken t x y h = ap (λ b. if b then x else y) h

pub three : (a b c : Bool) → a ≡ true → b ≡ true → c ≡ true → (a && b && c) ≡ true
three a b c h k l = and_from (a && b) c (and_from a b h k) l

-- ---- the commit block

-- a word of the commit block
commit_word : (epoch i w : ℕ) → i < 8 → slice_index (commit_words epoch) i ≡ w → w < 2 ^ 64 → word_of (commit_of epoch) i ≡ w
commit_word epoch i w l is fits = word_of-block_of (commit_words epoch) i l (subst (λ x. x < 2 ^ 64) (sym is) fits) ∙ is

-- the epoch reads back
pub epoch_of-commit_of : (epoch : ℕ) → epoch < 2 ^ 64 → epoch_of (commit_of epoch) ≡ epoch
epoch_of-commit_of epoch l = commit_word epoch 1 epoch (omega arith) refl l

-- a commit block that is written names version 2
pub version_of-commit_of : (scheme : ℕ) (p : Parameters) (epoch : ℕ) → version_of scheme p (commit_of epoch) ≡ VersionTwo
version_of-commit_of scheme p epoch =
    let name : word_of (commit_of epoch) 0 ≡ commit_magic VersionTwo =
    commit_word epoch 0 (commit_magic VersionTwo) (omega arith) refl (omega arith) in
    ap (λ w. if w == commit_magic VersionOne && knows_version_one scheme p then VersionOne else VersionTwo) name

is_named-commit_of : (header : Block) (epoch : ℕ) → is_named header (commit_of epoch) ≡ true
is_named-commit_of header epoch =
    ap (λ t. t || (word_of (commit_of epoch) 0 == commit_magic VersionOne && word_of header 1 == 1))
    (eq-eqb _ _ (commit_word epoch 0 (commit_magic VersionTwo) (omega arith) refl (omega arith)))

has_zero_rest-commit_of : (epoch : ℕ) → epoch < 2 ^ 64 → has_zero_rest (commit_of epoch) ≡ true
unfolding has_zero_rest
has_zero_rest-commit_of epoch l =
    let name : word_of (commit_of epoch) 0 ≡ commit_magic VersionTwo =
    commit_word epoch 0 (commit_magic VersionTwo) (omega arith) refl (omega arith) in
    ap (λ (n : ℕ). bytes_eq (commit_of epoch).0 (named_block n (epoch_of (commit_of epoch))).0) name
    ∙ ap (λ (e : ℕ). bytes_eq (commit_of epoch).0 (named_block (commit_magic VersionTwo) e).0) (epoch_of-commit_of epoch l)
    ∙ (bytes_eq-Decides (commit_of epoch).0 (commit_of epoch).0).1 refl

-- a commit block of an epoch below the ceiling has no fault after any header
pub commit_fault-commit_of : (header : Block) (epoch ceiling : ℕ) → epoch < ceiling → ceiling ≤ 2 ^ 64
    → commit_fault header (commit_of epoch) ceiling ≡ None
unfolding commit_fault
commit_fault-commit_of header epoch ceiling l most =
    taken _ _ _
    (and_from _ _
    (and_from _ _
    (is_named-commit_of header epoch)
    (ap (λ e. nat_lt e ceiling) (epoch_of-commit_of epoch (omega arith)) ∙ lt-ltb epoch ceiling l))
    (has_zero_rest-commit_of epoch (omega arith)))

-- a commit block isn't zero
pub is_zero-commit_of : (epoch : ℕ) → is_zero (commit_of epoch) ≡ false
unfolding is_zero zero_block block_of number_bytes
is_zero-commit_of epoch = refl

pub is_zero-zero_block : is_zero zero_block ≡ true
unfolding is_zero zero_block
is_zero-zero_block = refl

-- ---- the processor's record

value_fits : (s : Status) → is_status (status_tag s) (status_value s) ≡ true → status_value s < 2 ^ 64
value_fits Running h = omega arith
value_fits (Exited v) h = let l : v ≤ 255 = leb-true v 255 h in omega arith
value_fits (Trapped v) h = let l : v ≤ 7 = leb-true v 7 h in omega arith

tag_fits : (s : Status) → status_tag s < 2 ^ 64
tag_fits Running = omega arith
tag_fits s = omega arith

status_back : (s : Status) → status_of (status_tag s) (status_value s) ≡ s
status_back Running = refl
status_back s = refl

-- the words of a reservation are numbers of 64 bits
place_fits : (r : Reservation) → IsReservation r → place_word r < 2 ^ 64
place_fits (Nothing at) h = h
place_fits r h = h

width_fits : (r : Reservation) → width_word r < 2 ^ 64
width_fits (Nothing at) = omega arith
width_fits r = omega arith

reservation_back : (r : Reservation) → reservation_of (width_word r) (place_word r) ≡ r
reservation_back (Nothing at) = refl
reservation_back r = refl

pub is_width-word : (r : Reservation) → is_width (width_word r) ≡ true
is_width-word (Nothing at) = refl
is_width-word r = refl

-- ---- the other hart's words

reserved_fits : (o : OtherHart) (j : ℕ) → IsOther o → slice_index (reserved_words o) j < 2 ^ 64
reserved_fits o zero h = width_fits o.front
reserved_fits o (suc zero) h = place_fits o.front h.front
reserved_fits o (suc (suc zero)) h = width_fits o.back
reserved_fits o (suc (suc (suc zero))) h = place_fits o.back h.back
reserved_fits o (suc (suc (suc (suc j)))) h =
    subst (λ x. x < 2 ^ 64) (sym (reserved_words-zero o (suc (suc (suc (suc j)))) (omega arith))) (omega arith)

named_fits : (o : OtherHart) (r : ℕ) → IsOther o → zero < r → reg_at o.regs r < 2 ^ 64
named_fits o r h some = subst (λ x. x < 2 ^ 64) (sym (reg_at-some o.regs r some)) (anywhere IsNumber (omega arith) o.regs h.numbers r)

second_fits : (p : Parameters) (o : Option OtherHart) (j : ℕ) → IsOtherRecordable p o → slice_index (second_words o) j < 2 ^ 64
second_fits p None j h = subst (λ x. x < 2 ^ 64) (sym (second_words-none j)) (omega arith)
second_fits p (Some o) zero h = let fits : IsOther o = h.1 in fits.pc
second_fits p (Some o) (suc j) h = elim (cases_lt j 31) as (λ _. slice_index (second_words (Some o)) (suc j) < 2 ^ 64) [
  | inl low ↦ subst (λ x. x < 2 ^ 64) (sym (second_words-reg o (suc j) (omega arith) (omega arith))) (named_fits o (suc j) h.1 (omega arith))
  | inr high ↦
      let e : 32 + (j - 31) ≡ suc j = omega arith in
      subst (λ x. slice_index (second_words (Some o)) x < 2 ^ 64) e
      (subst (λ x. x < 2 ^ 64) (sym (second_words-reserved o (j - 31))) (reserved_fits o (j - 31) h.1))
]

HasOther-recordable : (p : Parameters) (o : Option OtherHart) → IsInRange p → IsOtherRecordable p o → HasOther p o
HasOther-recordable p None range h = elim (cases_lt p.harts 2) as (λ _. p.harts ≡ 1) [
  | inl l ↦ let least = harts_least p range in omega (arith, l, least)
  | inr m ↦ let most = harts_most p range in absurd (h (omega (arith, m, most)))
]
HasOther-recordable p (Some o) range h = let fits : IsOther o = h.1 in (h.0, fits.registers, fits.zero_register)

-- a geometry that fits the harts of a state has one at least
some_hart : (p : Parameters) (o : Option OtherHart) → HasOther p o → 1 ≤ p.harts
some_hart p None h = omega (arith, h)
some_hart p (Some o) h = omega (arith, h.0)

few_harts : (p : Parameters) (o : Option OtherHart) → HasOther p o → p.harts ≤ 2
few_harts p None h = omega (arith, h)
few_harts p (Some o) h = omega (arith, h.0)

-- ---- the words of both

rest_fits : (p : Parameters) (ceiling : ℕ) (c : CpuState) (epoch j : ℕ)
    → IsRecordable p ceiling c → console_room p < 2 ^ 64 → ceiling ≤ 2 ^ 64 → epoch < 2 ^ 64 → slice_index (rest_words c epoch) j < 2 ^ 64
rest_fits p ceiling c epoch zero r room most l = let h : c.count < ceiling = r.count in omega arith
rest_fits p ceiling c epoch (suc zero) r room most l = r.cursor
rest_fits p ceiling c epoch (suc (suc zero)) r room most l = let h : c.console_len ≤ console_room p = r.console in omega arith
rest_fits p ceiling c epoch (suc (suc (suc zero))) r room most l = r.brk
rest_fits p ceiling c epoch (suc (suc (suc (suc zero)))) r room most l = tag_fits c.status
rest_fits p ceiling c epoch (suc (suc (suc (suc (suc zero))))) r room most l = value_fits c.status r.status
rest_fits p ceiling c epoch (suc (suc (suc (suc (suc (suc zero)))))) r room most l = l
rest_fits p ceiling c epoch (suc (suc (suc (suc (suc (suc (suc zero))))))) r room most l = r.floor
rest_fits p ceiling c epoch (suc (suc (suc (suc (suc (suc (suc (suc j)))))))) r room most l = second_fits p c.other j r.other

-- every word of the record is a number of 64 bits
words_fit : (p : Parameters) (ceiling : ℕ) (c : CpuState) (epoch i : ℕ)
    → IsRecordable p ceiling c → console_room p < 2 ^ 64 → ceiling ≤ 2 ^ 64 → epoch < 2 ^ 64 → slice_index (cpu_words c epoch) i < 2 ^ 64
words_fit p ceiling c epoch zero r room most l = r.pc
words_fit p ceiling c epoch (suc i) r room most l = elim (cases_lt i 31) as (λ _. slice_index (cpu_words c epoch) (suc i) < 2 ^ 64) [
  | inl low ↦ subst (λ x. x < 2 ^ 64) (sym (cpu_words-reg c epoch (suc i) r.regs_length (omega arith) (omega arith))) (r.regs (suc i))
  | inr high ↦
      let e : 32 + (i - 31) ≡ suc i = omega arith in
      subst (λ x. slice_index (cpu_words c epoch) x < 2 ^ 64) e
      (subst (λ x. x < 2 ^ 64) (sym (cpu_words-rest c epoch (i - 31) r.regs_length)) (rest_fits p ceiling c epoch (i - 31) r room most l))
]

-- the record says all of a state that it can hold
pub FitsRecord-recordable : (p : Parameters) (ceiling : ℕ) (c : CpuState) (epoch : ℕ)
    → IsInRange p → IsRecordable p ceiling c → console_room p < 2 ^ 64 → ceiling ≤ 2 ^ 64 → epoch < 2 ^ 64 → FitsRecord p c epoch
FitsRecord-recordable p ceiling c epoch range r room most l = record {
  regs_length = r.regs_length;
  regs_zero = r.regs_zero;
  words = λ i small. words_fit p ceiling c epoch i r room most l;
  other = HasOther-recordable p c.other range r.other;
}

-- word i of a record reads back
word_back : (p : Parameters) (c : CpuState) (epoch : ℕ) (blocks : List Block) (i : ℕ)
    → FitsRecord p c epoch → BeginsWithRecord p c epoch blocks → i < 8 * record_blocks p
    → record_word blocks i ≡ slice_index (cpu_words c epoch) i
unfolding record_word cpu_block_of
word_back p c epoch blocks i fits of small =
    let most = few_harts p c.other fits.other in
    let whole : 8 * (i / 8) + i % 8 ≡ i = omega arith in
    let same = block_words c epoch (i / 8) (i % 8) (omega arith) ∙ ap (slice_index (cpu_words c epoch)) whole in
    let eight = length-block_words c epoch (i / 8) fits.regs_length (omega arith) in
    ap (λ b. word_of b (i % 8)) (of.each (i / 8) (omega arith))
    ∙ word_of-block_of (take 8 (drop (8 * (i / 8)) (cpu_words c epoch))) (i % 8) (omega (arith, eight))
    (subst (λ x. x < 2 ^ 64) (sym same) (fits.words i small))
    ∙ same

pub rest_back : (p : Parameters) (c : CpuState) (epoch : ℕ) (blocks : List Block) (j : ℕ)
    → FitsRecord p c epoch → BeginsWithRecord p c epoch blocks → j < 8 → record_word blocks (32 + j) ≡ slice_index (rest_words c epoch) j
rest_back p c epoch blocks j fits of small =
    let least = some_hart p c.other fits.other in
    word_back p c epoch blocks (32 + j) fits of (omega arith) ∙ cpu_words-rest c epoch j fits.regs_length

-- a register reads back
reg_back : (p : Parameters) (c : CpuState) (epoch : ℕ) (blocks : List Block) (i : ℕ)
    → FitsRecord p c epoch → BeginsWithRecord p c epoch blocks → i < 32 → slice_index (0 ∷ record_words blocks 1 31) i ≡ slice_index c.regs i
reg_back p c epoch blocks zero fits of small = sym fits.regs_zero
reg_back p c epoch blocks (suc i) fits of small =
    let least = some_hart p c.other fits.other in
    let e : 1 + i ≡ suc i = omega arith in
    record_words-at blocks 1 31 i (omega arith)
    ∙ ap (record_word blocks) e
    ∙ word_back p c epoch blocks (suc i) fits of (omega arith)
    ∙ cpu_words-reg c epoch (suc i) fits.regs_length (omega arith) small

-- the registers read back, register 0 as the 0 that it is
regs_back : (p : Parameters) (c : CpuState) (epoch : ℕ) (blocks : List Block)
    → FitsRecord p c epoch → BeginsWithRecord p c epoch blocks → 0 ∷ record_words blocks 1 31 ≡ c.regs
regs_back p c epoch blocks fits of =
    let long = length-record_words blocks 1 31 in
    let h = fits.regs_length in
    ext_get_or 0 (0 ∷ record_words blocks 1 31) c.regs (omega (arith, long, h))
    (λ i below. reg_back p c epoch blocks i fits of (omega (arith, long)))

-- ---- the other hart reads back

-- the words of the other hart read back
second_back : (p : Parameters) (c : CpuState) (epoch : ℕ) (blocks : List Block) (j : ℕ)
    → FitsRecord p c epoch → BeginsWithRecord p c epoch blocks → p.harts ≡ 2 → j < 40
    → record_word blocks (40 + j) ≡ slice_index (second_words c.other) j
second_back p c epoch blocks j fits of two small =
    word_back p c epoch blocks (40 + j) fits of (omega arith) ∙ cpu_words-second c epoch j fits.regs_length

-- blocks have the words of a hart after the first forty
abbrev HasSecond : List Block → Option OtherHart → Type 0
HasSecond blocks o = (j : ℕ) → j < 40 → record_word blocks (40 + j) ≡ slice_index (second_words o) j

module _ (o : OtherHart) (blocks : List Block) where
  other_reg_back : (i : ℕ) → HasSecond blocks (Some o) → slice_index o.regs 0 ≡ 0 → i < 32
      → slice_index (0 ∷ record_words blocks 41 31) i ≡ slice_index o.regs i
  other_reg_back zero has zeroed small = sym zeroed
  other_reg_back (suc i) has zeroed small =
      let e : 41 + i ≡ 40 + suc i = omega arith in
      record_words-at blocks 41 31 i (omega arith)
      ∙ ap (record_word blocks) e
      ∙ has (suc i) (omega arith)
      ∙ second_words-reg o (suc i) (omega arith) small
      ∙ reg_at-some o.regs (suc i) (omega arith)

  other_regs_back : HasSecond blocks (Some o) → length o.regs ≡ 32 → slice_index o.regs 0 ≡ 0 → 0 ∷ record_words blocks 41 31 ≡ o.regs
  other_regs_back has h zeroed =
      let long = length-record_words blocks 41 31 in
      ext_get_or 0 (0 ∷ record_words blocks 41 31) o.regs (omega (arith, long, h))
      (λ i below. other_reg_back i has zeroed (omega (arith, long)))

  -- a word after the other hart's registers reads back
  reserved_back : (j : ℕ) → HasSecond blocks (Some o) → j < 8 → record_word blocks (72 + j) ≡ slice_index (reserved_words o) j
  reserved_back j has small =
      let e : 72 + j ≡ 40 + (32 + j) = omega arith in
      ap (record_word blocks) e ∙ has (32 + j) (omega arith) ∙ second_words-reserved o j

abbrev other_with : ℕ → List ℕ → Reservation → Reservation → OtherHart
other_with pc regs front back = record { pc = pc; regs = regs; front = front; back = back }

pub same_other : (pc pc' : ℕ) (regs regs' : List ℕ) (front front' back back' : Reservation) → pc ≡ pc' → regs ≡ regs' → front ≡ front'
    → back ≡ back'
    → other_with pc regs front back ≡ other_with pc' regs' front' back'
same_other pc pc' regs regs' front front' back back' a b c d = λ i. other_with (a i) (b i) (c i) (d i)

other_is : (o : OtherHart) (blocks : List Block) → HasSecond blocks (Some o) → length o.regs ≡ 32 → slice_index o.regs 0 ≡ 0
    → other_of_record blocks ≡ o
unfolding other_of_record
other_is o blocks has h zeroed =
    let at = λ (j : ℕ) (small : j < 8). reserved_back o blocks j has small in
    same_other _ _ _ _ _ _ _ _
    (has 0 (omega arith))
    (other_regs_back o blocks has h zeroed)
    (ap (λ w. reservation_of w (record_word blocks 73)) (at 0 (omega arith)) ∙ ap (reservation_of (width_word o.front)) (at 1 (omega arith))
    ∙ reservation_back o.front)
    (ap (λ w. reservation_of w (record_word blocks 75)) (at 2 (omega arith)) ∙ ap (reservation_of (width_word o.back)) (at 3 (omega arith))
    ∙ reservation_back o.back)

-- with one hart no other hart is read
other_by : (p : Parameters) (o : Option OtherHart) (blocks : List Block) → HasOther p o → (p.harts ≡ 2 → HasSecond blocks o)
    → second_of_record p blocks ≡ o
other_by p None blocks h has = ap (λ t. if t then Some (other_of_record blocks) else None) (ne_eqb p.harts 2 (λ e. omega (arith, h, e)))
other_by p (Some o) blocks h has = taken _ _ _ (eq-eqb p.harts 2 h.0) ∙ ap Some (other_is o blocks (has h.0) h.1 h.2)

-- ---- all of it reads back

abbrev pub cpu_with : ℕ → List ℕ → ℕ → ℕ → ℕ → ℕ → ℕ → Status → Option OtherHart → CpuState
cpu_with pc regs console cursor brk floor count status other =
    record { pc = pc; regs = regs; console_len = console; cursor = cursor; brk = brk; floor = floor; count = count; status = status; other = other }

pub same_cpu : (pc pc' : ℕ) (regs regs' : List ℕ) (console console' cursor cursor' brk brk' floor floor' count count' : ℕ)
    (status status' : Status) (other other' : Option OtherHart)
    → pc ≡ pc' → regs ≡ regs' → console ≡ console' → cursor ≡ cursor' → brk ≡ brk' → floor ≡ floor' → count ≡ count' → status ≡ status'
    → other ≡ other'
    → cpu_with pc regs console cursor brk floor count status other ≡ cpu_with pc' regs' console' cursor' brk' floor' count' status' other'
same_cpu pc pc' regs regs' console console' cursor cursor' brk brk' floor floor' count count' status status' other other' a b c d e f g h i =
    λ x. cpu_with (a x) (b x) (c x) (d x) (e x) (f x) (g x) (h x) (i x)

-- a state reads back from its record
pub cpu_back : (p : Parameters) (c : CpuState) (epoch : ℕ) (blocks : List Block)
    → FitsRecord p c epoch → BeginsWithRecord p c epoch blocks → cpu_of_record p blocks ≡ c
unfolding cpu_of_record
cpu_back p c epoch blocks fits of =
    let least = some_hart p c.other fits.other in
    let rest = λ (j : ℕ) (small : j < 8). rest_back p c epoch blocks j fits of small in
    same_cpu _ _ _ _ _ _ _ _ _ _ _ _ _ _ _ _ _ _
    (word_back p c epoch blocks 0 fits of (omega arith))
    (regs_back p c epoch blocks fits of)
    (rest 2 (omega arith)) (rest 1 (omega arith)) (rest 3 (omega arith)) (rest 7 (omega arith)) (rest 0 (omega arith))
    (ap (λ t. status_of t (record_word blocks 37)) (rest 4 (omega arith))
    ∙ ap (status_of (status_tag c.status)) (rest 5 (omega arith))
    ∙ status_back c.status)
    (other_by p c.other blocks fits.other (λ two j small. second_back p c epoch blocks j fits of two small))

-- an epoch reads back from its record
pub epoch_back : (p : Parameters) (c : CpuState) (epoch : ℕ) (blocks : List Block)
    → FitsRecord p c epoch → BeginsWithRecord p c epoch blocks → epoch_of_record blocks ≡ epoch
epoch_back p c epoch blocks fits of = rest_back p c epoch blocks 6 fits of (omega arith)

-- the other hart's words have a meaning
is_second-back : (o : OtherHart) (blocks : List Block) → HasSecond blocks (Some o) → is_second blocks ≡ true
is_second-back o blocks has =
    let at = λ (j : ℕ) (small : j < 8). reserved_back o blocks j has small in
    and_from _ _
    (and_from _ _
    (ap is_width (at 0 (omega arith)) ∙ is_width-word o.front)
    (ap is_width (at 2 (omega arith)) ∙ is_width-word o.back))
    (and_from _ _
    (and_from _ _ (eq-eqb _ _ (at 4 (omega arith))) (eq-eqb _ _ (at 5 (omega arith))))
    (and_from _ _ (eq-eqb _ _ (at 6 (omega arith))) (eq-eqb _ _ (at 7 (omega arith)))))

either : (a b : Bool) → b ≡ true → (a || b) ≡ true
either true b h = refl
either false b h = h

second_by : (p : Parameters) (o : Option OtherHart) (blocks : List Block) → HasOther p o → (p.harts ≡ 2 → HasSecond blocks o)
    → (p.harts == 1 || is_second blocks) ≡ true
second_by p None blocks h has = ap (λ t. t || is_second blocks) (eq-eqb p.harts 1 h)
second_by p (Some o) blocks h has = either (p.harts == 1) (is_second blocks) (is_second-back o blocks (has h.0))

pub second-back : (p : Parameters) (c : CpuState) (epoch : ℕ) (blocks : List Block)
    → FitsRecord p c epoch → BeginsWithRecord p c epoch blocks → (p.harts == 1 || is_second blocks) ≡ true
second-back p c epoch blocks fits of =
    second_by p c.other blocks fits.other (λ two j small. second_back p c epoch blocks j fits of two small)
