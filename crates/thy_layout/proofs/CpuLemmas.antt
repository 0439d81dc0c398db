-- Words of the processor's record: what was written reads back, and a plain state's record has no fault.
use Rattle.std.proofs.Common.{◌≡◌, ℕ, zero, suc, ◌+◌, ◌*◌, ◌<◌, List, [], ◌∷◌, ◌++◌, length, map, replicate, take, drop, slice_index, slice_set, Option, Some, None, ◌≤◌, ◌-◌, inl, inr, refl, sym, ◌∙◌, ap, arith, if◌then◌else◌, true}
use Rattle.std.proofs.lemmas.Bool.{cases_lt, ne_eqb, le-leb}
use Rattle.std.proofs.lemmas.List.{get_or-drop, get_or-take, get_or_append_left, get_or-append-add, length-append, length-drop, length-take-le, ext_get_or, length-set, take_more_set, length-replicate, get_or-replicate, get_or_past}
use Rattle.std.proofs.lemmas.List.FromFn.{length-map-range_with_len, get_or-map-range_with_len}
use Rattle.std.specs.List.{range_with_len}
use Rattle.thy_block.specs.declared.block.Block.{Block}
use Rattle.std.proofs.Math.Nat.{add-zero}
use Rattle.thy_isa.specs.Regs.{reg_at, regs_with}
use Rattle.thy_isa.specs.declared.state.CpuState.{CpuState}
use Rattle.thy_isa.specs.declared.state.OtherHart.{OtherHart}
use Rattle.thy_isa.specs.Storable.{IsStatus}
use Rattle.thy_isa.specs.declared.state.Status.{Status}
use Rattle.thy_isa.specs.declared.state.Status.TheVariants.{Running, Exited, Trapped}
use Rattle.thy_block.specs.Words.{block_of}
use Rattle.thy_layout.specs.Cpu.{status_tag, status_value, reserved_words, second_words, cpu_words, cpu_block_of, record_word, record_words, is_status}

-- ---- the words of each hart

module _ (pc : ℕ) (named rest : List ℕ) where
  -- the words of a hart: pc, x1 to x31, and what comes after them
  abbrev hart_words : List ℕ
  hart_words = pc ∷ (named ++ rest)

  length-hart_words : length named ≡ 31 → length hart_words ≡ 32 + length rest
  length-hart_words h = omega (arith, length-append named rest)

  -- words 1 to 31 are the registers
  hart_words-reg : (r : ℕ) → length named ≡ 31 → r < 31 → slice_index hart_words (suc r) ≡ slice_index named r
  hart_words-reg r h l = get_or_append_left named rest 0 r (omega arith)

  -- the rest of a hart's words comes after its registers
  hart_words-rest : (i : ℕ) → length named ≡ 31 → slice_index hart_words (32 + i) ≡ slice_index rest i
  hart_words-rest i h =
      let e : 32 + i ≡ suc (length named + i) = omega arith in
      ap (slice_index hart_words) e ∙ get_or-append-add named rest i 0

-- ---- the other hart's words

-- the registers that a record names for the other hart
abbrev named : OtherHart → List ℕ
named o = map (reg_at o.regs) (range_with_len 1 31)

long_named : (o : OtherHart) → length (named o) ≡ 31
long_named o = length-map-range_with_len (reg_at o.regs) 1 31

pub length-second_words : (o : Option OtherHart) → length (second_words o) ≡ 40
length-second_words None = length-replicate {A = ℕ} 40 0
length-second_words (Some o) = length-hart_words o.pc (named o) (reserved_words o) (long_named o)

pub second_words-reg : (o : OtherHart) (r : ℕ) → zero < r → r < 32 → slice_index (second_words (Some o)) r ≡ reg_at o.regs r
second_words-reg o zero some l = absurd (omega arith)
second_words-reg o (suc r) some l =
    hart_words-reg o.pc (named o) (reserved_words o) r (long_named o) (omega arith)
    ∙ get_or-map-range_with_len (reg_at o.regs) 1 31 r (suc r) 0 (omega arith) (omega arith)

pub second_words-reserved : (o : OtherHart) (i : ℕ) → slice_index (second_words (Some o)) (32 + i) ≡ slice_index (reserved_words o) i
second_words-reserved o i = hart_words-rest o.pc (named o) (reserved_words o) i (long_named o)

pub second_words-none : (i : ℕ) → slice_index (second_words None) i ≡ 0
second_words-none i = elim (cases_lt i 40) as (λ _. slice_index (second_words None) i ≡ 0) [
  | inl l ↦ get_or-replicate {A = ℕ} 40 i 0 0 l
  | inr m ↦ get_or_past {X = ℕ} (replicate {A = ℕ} 40 0) i 0 (omega (arith, length-replicate {A = ℕ} 40 0))
]

-- word i of the second hart's record is word j of its reservations, if i is 32 + j
pub reserved_at : (o : OtherHart) (i j w : ℕ) → i ≡ 32 + j → w ≡ slice_index (reserved_words o) j → w ≡ slice_index (second_words (Some o)) i
reserved_at o i j w at is = is ∙ sym (ap (slice_index (second_words (Some o))) at ∙ second_words-reserved o j)

-- the words after the reservations are zeros
pub reserved_words-zero : (o : OtherHart) (i : ℕ) → 4 ≤ i → slice_index (reserved_words o) i ≡ 0
reserved_words-zero o (suc (suc (suc (suc (suc (suc (suc (suc i)))))))) l = refl
reserved_words-zero o (suc (suc (suc (suc i)))) l = refl
reserved_words-zero o i l = absurd (omega arith)

pub behind_reserved : (o : OtherHart) (i : ℕ) → 36 ≤ i → 0 ≡ slice_index (second_words (Some o)) i
behind_reserved o i l =
    let at : i ≡ 32 + (i - 32) = omega arith in
    reserved_at o i (i - 32) 0 at (sym (reserved_words-zero o (i - 32) (omega arith)))

-- ---- the words of both

-- the words after the registers
abbrev pub rest_words : CpuState → ℕ → List ℕ
rest_words c epoch =
    c.count ∷ c.cursor ∷ c.console_len ∷ c.brk ∷ status_tag c.status ∷ status_value c.status ∷ epoch ∷ c.floor ∷ second_words c.other

long_rest : (c : CpuState) → length c.regs ≡ 32 → length (drop 1 c.regs) ≡ 31
long_rest c h = omega (arith, length-drop 1 c.regs)

module _ (c : CpuState) (epoch : ℕ) where
  pub length-cpu_words : length c.regs ≡ 32 → length (cpu_words c epoch) ≡ 80
  length-cpu_words h =
      let long = length-hart_words c.pc (drop 1 c.regs) (rest_words c epoch) (long_rest c h) in omega (arith, long, length-second_words c.other)

  -- words 1 to 31 are the registers
  pub cpu_words-reg : (r : ℕ) → length c.regs ≡ 32 → zero < r → r < 32 → slice_index (cpu_words c epoch) r ≡ slice_index c.regs r
  cpu_words-reg zero h some l = absurd (omega arith)
  cpu_words-reg (suc r) h some l =
      let e : 1 + r ≡ suc r = omega arith in
      hart_words-reg c.pc (drop 1 c.regs) (rest_words c epoch) r (long_rest c h) (omega arith)
      ∙ get_or-drop 1 c.regs r 0 ∙ ap (slice_index c.regs) e

  -- the rest of a record's words comes after the registers
  pub cpu_words-rest : (i : ℕ) → length c.regs ≡ 32 → slice_index (cpu_words c epoch) (32 + i) ≡ slice_index (rest_words c epoch) i
  cpu_words-rest i h = hart_words-rest c.pc (drop 1 c.regs) (rest_words c epoch) i (long_rest c h)

  -- word i of a record is word j of its rest, if i is 32 + j
  pub rest_at : (i j w : ℕ) → length c.regs ≡ 32 → i ≡ 32 + j → w ≡ slice_index (rest_words c epoch) j
      → w ≡ slice_index (cpu_words c epoch) i
  rest_at i j w h at is = is ∙ sym (ap (slice_index (cpu_words c epoch)) at ∙ cpu_words-rest j h)

  -- the eight words of a record between the front hart's registers and the other hart's words
  abbrev first_rest : List ℕ
  first_rest = c.count ∷ c.cursor ∷ c.console_len ∷ c.brk ∷ status_tag c.status ∷ status_value c.status ∷ epoch ∷ c.floor ∷ []

  pub cpu_words-second : (j : ℕ) → length c.regs ≡ 32 → slice_index (cpu_words c epoch) (40 + j) ≡ slice_index (second_words c.other) j
  cpu_words-second j h =
      let e : 40 + j ≡ 32 + (8 + j) = omega arith in
      ap (slice_index (cpu_words c epoch)) e
      ∙ cpu_words-rest (8 + j) h
      ∙ get_or-append-add first_rest (second_words c.other) j 0

-- a word of a record from word 40 on is a word of the other hart
pub second_at : (c : CpuState) (epoch i w : ℕ) → length c.regs ≡ 32 → 40 ≤ i → w ≡ slice_index (second_words c.other) (i - 40)
    → w ≡ slice_index (cpu_words c epoch) i
second_at c epoch i w h l is =
    let e : 40 + (i - 40) ≡ i = omega arith in
    is ∙ sym (cpu_words-second c epoch (i - 40) h) ∙ ap (slice_index (cpu_words c epoch)) e

-- registers other than the first are read and written as places of the list
pub reg_at-some : (regs : List ℕ) (r : ℕ) → zero < r → reg_at regs r ≡ slice_index regs r
reg_at-some regs r l = ap (λ t. if t then 0 else slice_index regs r) (ne_eqb r 0 (λ e. omega arith))

regs_with-some : (regs : List ℕ) (r v : ℕ) → zero < r → regs_with regs r v ≡ slice_set regs r v
regs_with-some regs r v l = ap (λ t. if t then regs else slice_set regs r v) (ne_eqb r 0 (λ e. omega arith))

-- a register as it is read
pub reg_word : (c : CpuState) (epoch i r w : ℕ) → length c.regs ≡ 32 → zero < i → i < 32 → r ≡ i → w ≡ reg_at c.regs r
    → w ≡ slice_index (cpu_words c epoch) i
reg_word c epoch i r w h some l e is =
    is ∙ ap (reg_at c.regs) e ∙ reg_at-some c.regs i some ∙ sym (cpu_words-reg c epoch i h some l)

-- a register of the other hart
pub second_reg : (o : OtherHart) (i r w : ℕ) → zero < i → i < 32 → r ≡ i → w ≡ reg_at o.regs r → w ≡ slice_index (second_words (Some o)) i
second_reg o i r w some l e is = is ∙ ap (reg_at o.regs) e ∙ sym (second_words-reg o i some l)

-- a word of one block of the record
pub block_words : (c : CpuState) (epoch k j : ℕ) → j < 8
    → slice_index (take 8 (drop (8 * k) (cpu_words c epoch))) j ≡ slice_index (cpu_words c epoch) (8 * k + j)
block_words c epoch k j l = get_or-take 8 (drop (8 * k) (cpu_words c epoch)) j 0 l ∙ get_or-drop (8 * k) (cpu_words c epoch) j 0

pub length-block_words : (c : CpuState) (epoch k : ℕ) → length c.regs ≡ 32 → k < 10
    → length (take 8 (drop (8 * k) (cpu_words c epoch))) ≡ 8
length-block_words c epoch k h l =
    length-take-le 8 (drop (8 * k) (cpu_words c epoch)) (omega (arith, length-drop (8 * k) (cpu_words c epoch), length-cpu_words c epoch h))

-- eight words that equal the words of block k are that block
pub same_block_words : (c : CpuState) (epoch k : ℕ) (ws : List ℕ) → length c.regs ≡ 32 → k < 10 → length ws ≡ 8
    → ((j : ℕ) → j < 8 → slice_index ws j ≡ slice_index (cpu_words c epoch) (8 * k + j))
    → block_of ws ≡ cpu_block_of c epoch k
unfolding cpu_block_of
same_block_words c epoch k ws h l eight each =
    ap block_of (ext_get_or 0 ws (take 8 (drop (8 * k) (cpu_words c epoch))) (eight ∙ sym (length-block_words c epoch k h l))
    (λ j below. let small : j < 8 = omega arith in each j small ∙ sym (block_words c epoch k j small)))

-- ---- words of a record in order

pub record_words-more : (blocks : List Block) (i n : ℕ)
    → record_words blocks i (n + 1) ≡ record_words blocks i n ++ record_word blocks (i + n) ∷ []
unfolding record_words
record_words-more blocks i zero = ap (λ x. record_word blocks x ∷ []) (sym (add-zero i))
record_words-more blocks i (suc n) =
    let e : i + 1 + n ≡ i + suc n = omega arith in
    let more : suc n + 1 ≡ suc (n + 1) = omega arith in
    ap (record_words blocks i) more
    ∙ ap (λ ws. record_word blocks i ∷ ws)
    (record_words-more blocks (i + 1) n ∙ ap (λ x. record_words blocks (i + 1) n ++ record_word blocks x ∷ []) e)

pub length-record_words : (blocks : List Block) (i n : ℕ) → length (record_words blocks i n) ≡ n
unfolding record_words
length-record_words blocks i zero = refl
length-record_words blocks i (suc n) = ap suc (length-record_words blocks (i + 1) n)

-- word k of n words from word i on
pub record_words-at : (blocks : List Block) (i n k : ℕ) → k < n → slice_index (record_words blocks i n) k ≡ record_word blocks (i + k)
unfolding record_words
record_words-at blocks i zero k l = absurd (omega arith)
record_words-at blocks i (suc n) zero l = ap (record_word blocks) (sym (add-zero i))
record_words-at blocks i (suc n) (suc k) l =
    let e : i + 1 + k ≡ i + suc k = omega arith in
    record_words-at blocks (i + 1) n k (omega arith) ∙ ap (record_word blocks) e

-- one register more is written
pub regs_more : (blocks : List Block) (first : ℕ) (regs new : List ℕ) (r at w : ℕ) → length regs ≡ 32 → zero < r → r < 32 → at ≡ r
    → take r regs ≡ 0 ∷ record_words blocks first (r - 1) → w ≡ record_word blocks (first + r - 1) → new ≡ regs_with regs at w
    → (length new ≡ 32) × (take (r + 1) new ≡ 0 ∷ record_words blocks first (r + 1 - 1))
regs_more blocks first regs new zero at w h some l e before is after = absurd (omega arith)
regs_more blocks first regs new (suc r) at w h some l e before is after =
    let written : new ≡ slice_set regs (suc r) w = after ∙ ap (λ x. regs_with regs x w) e ∙ regs_with-some regs (suc r) w some in
    let one : first + suc r - 1 ≡ first + r = omega arith in
    let next : suc r + 1 - 1 ≡ r + 1 = omega arith in
    let last : suc r - 1 ≡ r = omega arith in (
      ap length written ∙ length-set regs (suc r) w ∙ h,
      ap (take (suc r + 1)) written
          ∙ take_more_set regs (suc r) w (omega arith)
          ∙ ap (λ ws. ws ++ w ∷ []) (before ∙ ap (λ n. 0 ∷ record_words blocks first n) last)
          ∙ ap (λ x. 0 ∷ (record_words blocks first r ++ x ∷ [])) (is ∙ ap (record_word blocks) one)
          ∙ ap (λ ws. 0 ∷ ws) (sym (record_words-more blocks first r))
          ∙ ap (λ n. 0 ∷ record_words blocks first n) (sym next),
    )

-- a status that can be stored is one that a record may have
pub is_status-of : (status : Status) → IsStatus status → is_status (status_tag status) (status_value status) ≡ true
is_status-of Running h = refl
is_status-of (Exited v) h = le-leb v 255 (omega arith)
is_status-of (Trapped v) h = le-leb v 7 (omega arith)
