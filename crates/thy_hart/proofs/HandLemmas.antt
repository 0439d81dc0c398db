-- What is next of an instruction in hand, by what is left to read and to write.
use Rattle.std.proofs.Common.{◌≡◌, ℕ, ◌+◌, ◌<◌, ◌≤◌, ◌==◌, Bool, true, false, if◌then◌else◌, nat_lt, List, ◌++◌, length, refl, sym, ◌∙◌, ap, subst, arith}
use Rattle.std.proofs.lemmas.List.{length-append}
use Rattle.std.proofs.lemmas.Bool.{eqb-true}
use Rattle.thy_block.specs.declared.block.Block.{Block}
use Rattle.thy_block.specs.declared.parameters.Parameters.{Parameters}
use Rattle.thy_block.specs.Geometry.{IsInRange, memory_blocks, program_size}
use Rattle.thy_block.proofs.BasicLemmas.{not_zero}
use Rattle.thy_block.specs.declared.span.Span.{Span}
use Rattle.thy_block.specs.Spans.{IsSpanOf, span, first_block, first_byte, head_len, rest_of, head_in}
use Rattle.thy_block.proofs.SpanLaws.{head_len-most, rest_of-rest, rest_of-none, length-head_in}
use Rattle.thy_isa.specs.declared.state.CallState.{CallState}
use Rattle.thy_isa.specs.declared.state.CpuState.{CpuState}
use Rattle.thy_isa.specs.declared.state.Effect.{Effect}
use Rattle.thy_isa.specs.declared.state.Effect.TheVariants.{Next, Set, Read, Write, Reserve, Conditional, Fail, Modify, Environment, Trap}
use Rattle.thy_isa.specs.declared.state.Moves.{Moves}
use Rattle.thy_isa.specs.Access.{IsWithin}
use Rattle.thy_isa.specs.Moves.{moves_of, brings, outgoing_len}
use Rattle.thy_isa.specs.OnBlocks.{calls_in}
use Rattle.thy_isa.proofs.MoveLaws.{moves_of-spans, moves_of-enough}
use Rattle.thy_hart.specs.declared.hand.Hand.{Hand}
use Rattle.thy_hart.specs.declared.hand.Hand.TheVariants.{Nothing, Reading, Securing, Writing, Retiring}
use Rattle.thy_hart.specs.HartState.{HartState, blocks_of, secured, read_len, IsReading, IsWriting, IsInHand, IsSoundHart}
use Rattle.thy_hart.specs.Outcomes.{begun, begun_with, written_on, room_secured}

-- ---- choices

if_hand : (P : Hand → Type 0) (b : Bool) (x y : Hand) → (b ≡ true → P x) → (b ≡ false → P y) → P (if b then x else y)
if_hand P true x y p q = p refl
if_hand P false x y p q = q refl

-- a fact of what an effect does that begins or continues
pub begun_by : (P : Hand → Type 0) (e : Effect) (from to : Span) → (0 < from.len → P (Reading e from to))
    → (from.len ≡ 0 → 0 < to.len → P (Securing e to))
    → (from.len ≡ 0 → to.len ≡ 0 → P (Retiring e false)) → P (begun e from to)
unfolding begun
begun_by P e from to reads writes ends =
    if_hand P (from.len == 0) (if to.len == 0 then Retiring e false else Securing e to) (Reading e from to)
    (λ none.
    if_hand P (to.len == 0) (Retiring e false) (Securing e to)
    (λ end. ends (eqb-true from.len 0 none) (eqb-true to.len 0 end))
    (λ some. writes (eqb-true from.len 0 none) (not_zero to.len some)))
    (λ some. reads (not_zero from.len some))

-- a fact of what an effect does that continues after a written block
pub written_by : (P : Hand → Type 0) (e : Effect) (to : Span) (done : ℕ) → (0 < to.len → P (Writing e to done))
    → (to.len ≡ 0 → P (Retiring e true))
    → P (written_on e to done)
unfolding written_on
written_by P e to done writes ends =
    if_hand P (to.len == 0) (Retiring e true) (Writing e to done) (λ end. ends (eqb-true to.len 0 end)) (λ some. writes (not_zero to.len some))

-- ---- spans

pub head_len-some : (s : Span) → 0 < s.len → 0 < head_len s
head_len-some s h = omega arith

pub rest_of-span : (n : ℕ) (s : Span) → IsSpanOf n s → IsSpanOf n (rest_of s)
rest_of-span n s h = record { short = omega (arith, h.short, head_len-most s); inside = omega (arith, h.inside, head_len-most s) }

-- the first block of a span that has bytes
pub first_block-inside : (n : ℕ) (s : Span) → IsSpanOf n s → 0 < s.len → first_block s < n
first_block-inside n s h some = omega (arith, h.inside)

if_number : (P : ℕ → Type 0) (b : Bool) (x y : ℕ) → (b ≡ true → P x) → (b ≡ false → P y) → P (if b then x else y)
if_number P true x y p q = p refl
if_number P false x y p q = q refl

-- a span lies in two blocks at most
pub blocks_of-most : (s : Span) → blocks_of s ≤ 2
blocks_of-most s = if_number (λ n. n ≤ 2) ((rest_of s).len == 0) 1 2 (λ _. omega arith) (λ _. omega arith)

-- a span lies in at least one block
pub blocks_of-least : (s : Span) → 1 ≤ blocks_of s
blocks_of-least s = if_number (λ n. 1 ≤ n) ((rest_of s).len == 0) 1 2 (λ _. omega arith) (λ _. omega arith)

pub blocks_of-one : (s : Span) → (rest_of s).len ≡ 0 → blocks_of s ≡ 1
blocks_of-one s h =
    if_number (λ n. n ≡ 1) ((rest_of s).len == 0) 1 2 (λ _. refl) (λ e. absurd (omega (arith, not_zero (rest_of s).len e)))

pub blocks_of-two : (s : Span) → 0 < (rest_of s).len → blocks_of s ≡ 2
blocks_of-two s h =
    if_number (λ n. n ≡ 2) ((rest_of s).len == 0) 1 2 (λ e. absurd (omega (arith, eqb-true (rest_of s).len 0 e))) (λ _. refl)

-- the rest of a span lies in one block
pub blocks_of-rest : (s : Span) → s.len ≤ 64 → blocks_of (rest_of s) ≡ 1
blocks_of-rest s h = blocks_of-one (rest_of s) (rest_of-rest s h)

-- ---- what is in hand is sound

pub begun-unsecured : (e : Effect) (from to : Span) → secured (begun e from to) ≡ 0
begun-unsecured e from to = begun_by (λ hand. secured hand ≡ 0) e from to (λ _. refl) (λ _ _. refl) (λ _ _. refl)

-- one block less is secured after a written block
pub written_on-secured : (e : Effect) (to : Span) (done : ℕ) → to.len ≤ 64 → secured (written_on e (rest_of to) done) + 1 ≤ blocks_of to
written_on-secured e to done short =
    written_by (λ hand. secured hand + 1 ≤ blocks_of to) e (rest_of to) done
    (λ some. omega (arith, blocks_of-two to some, blocks_of-rest to short))
    (λ end. omega (arith, blocks_of-one to end))

-- bytes that are there and are read fit, and are enough
pub record IsServed (p : Parameters) (e : Effect) (from to : Span) (have : ℕ) : Type 0 where
  pub span_from : IsSpanOf (memory_blocks p) from
  pub span_to : IsSpanOf (memory_blocks p) to
  pub most : have + from.len ≤ 64
  pub least : to.len ≤ outgoing_len e (have + from.len)
  pub number : read_len e ≤ have + from.len

pub begun-sound : (p : Parameters) (e : Effect) (from to : Span) (have : ℕ) → IsServed p e from to have → IsInHand p (begun e from to) have
begun-sound p e from to have h =
    begun_by (λ hand. IsInHand p hand have) e from to
    (λ some. record { span_from = h.span_from; span_to = h.span_to; some = some; most = h.most; least = h.least; number = h.number })
    (λ none some.
    let all : have + from.len ≡ have = omega arith in
    record { span_to = h.span_to; some = some; least = omega (arith, h.least, ap (outgoing_len e) all); number = omega (arith, h.number) })
    (λ none end. omega (arith, h.number))

-- the hand is sound after a block was read
pub read-sound : (p : Parameters) (e : Effect) (from to : Span) (block : Block) (old new : List ℕ) (hand : Hand)
    → IsReading p e from to (length old)
    → new ≡ old ++ head_in block from → hand ≡ begun e (rest_of from) to → IsInHand p hand (length new)
read-sound p e from to block old new hand h bytes is =
    let n : length new ≡ length old + head_len from
    = ap length bytes ∙ length-append old (head_in block from) ∙ ap (λ k. length old + k) (length-head_in block from) in
    let most = head_len-most from in
    let all : length new + (rest_of from).len ≡ length old + from.len = omega (arith, n, most) in
    let served : IsServed p e (rest_of from) to (length new) = record {
      span_from = rest_of-span (memory_blocks p) from h.span_from;
      span_to = h.span_to;
      most = omega (arith, n, most, h.most);
      least = omega (arith, h.least, ap (outgoing_len e) all);
      number = omega (arith, n, most, h.number);
    } in
    subst (λ x. IsInHand p x (length new)) (sym is) (begun-sound p e (rest_of from) to (length new) served)

-- the hand is sound after a block was written
pub write-sound : (p : Parameters) (e : Effect) (to : Span) (done have : ℕ) (hand : Hand) → IsWriting p e to done have
    → hand ≡ written_on e (rest_of to) (done + head_len to) → IsInHand p hand have
write-sound p e to done have hand h is =
    let most = head_len-most to in
    let next : IsInHand p (written_on e (rest_of to) (done + head_len to)) have
    = written_by (λ x. IsInHand p x have) e (rest_of to) (done + head_len to)
    (λ some. record { span_to = rest_of-span (memory_blocks p) to h.span_to; some = some; least = omega (arith, most, h.least); number = h.number })
    (λ end. h.number) in
    subst (λ x. IsInHand p x have) (sym is) next

read_len-enough : (x input : List ℕ) (c : CallState) (e : Effect) → read_len e ≤ length (brings input x c e) + (moves_of x c e).from.len
unfolding moves_of
read_len-enough x input c (Next pc) = omega arith
read_len-enough x input c (Set rd pc v) = omega arith
read_len-enough x input c (Read rd width extend pc at) = omega arith
read_len-enough x input c (Write width pc at v) = omega arith
read_len-enough x input c (Reserve rd width pc at) = omega arith
read_len-enough x input c (Conditional rd width pc at v) = omega arith
read_len-enough x input c (Fail rd pc) = omega arith
read_len-enough x input c (Modify op rd width pc at v) = omega arith
read_len-enough x input c Environment = omega arith
read_len-enough x input c (Trap cause) = omega arith

-- the hand is sound after a fetch
pub fetch-sound : (p : Parameters) (input : List ℕ) (cpu : CpuState) (e : Effect) (calls : CallState) (bytes : List ℕ)
    (m : Moves) (hand : Hand)
    → IsInRange p → IsWithin p.base (program_size p) e → calls ≡ calls_in p cpu (length input) → bytes ≡ brings input cpu.regs calls e
    → m ≡ moves_of cpu.regs calls e → hand ≡ begun e m.from m.to → IsInHand p hand (length bytes)
fetch-sound p input cpu e calls bytes m hand r inside is b moves begins =
    let k = calls_in p cpu (length input) in
    let spans = moves_of-spans p cpu (length input) r cpu.regs e inside in
    let enough = moves_of-enough input k refl cpu.regs e in
    let here : IsServed p e (moves_of cpu.regs k e).from (moves_of cpu.regs k e).to (length (brings input cpu.regs k e)) = record {
      span_from = spans.from;
      span_to = spans.to;
      most = enough.most;
      least = enough.least;
      number = read_len-enough cpu.regs input k e;
    } in
    let there : IsServed p e (moves_of cpu.regs calls e).from (moves_of cpu.regs calls e).to (length (brings input cpu.regs calls e))
    = subst (λ c. IsServed p e (moves_of cpu.regs c e).from (moves_of cpu.regs c e).to (length (brings input cpu.regs c e))) (sym is) here in
    let at_bytes : IsServed p e (moves_of cpu.regs calls e).from (moves_of cpu.regs calls e).to (length bytes)
    = subst (λ t. IsServed p e (moves_of cpu.regs calls e).from (moves_of cpu.regs calls e).to (length t)) (sym b) there in
    let at_moves : IsServed p e m.from m.to (length bytes) = subst (λ (t : Moves). IsServed p e t.from t.to (length bytes)) (sym moves) at_bytes in
    subst (λ x. IsInHand p x (length bytes)) (sym begins) (begun-sound p e m.from m.to (length bytes) at_moves)

if_hart_state : (P : HartState → Type 0) (b : Bool) (x y : HartState) → P x → P y → P (if b then x else y)
if_hart_state P true x y p q = p
if_hart_state P false x y p q = q

-- the hart is sound after it secured room, or found none
pub room_secured-sound : (free dirty : ℕ) (under_way : Bool) (e : Effect) (to : Span) (old new : HartState) → IsSoundHart old
    → IsWriting old.geometry e to 0 (length old.bytes)
    → new ≡ room_secured free under_way dirty e to old → IsSoundHart new
unfolding room_secured
room_secured-sound free dirty under_way e to old new s h is =
    subst IsSoundHart (sym is)
    (if_hart_state IsSoundHart (nat_lt free (dirty + blocks_of to)) _ _
    (if_hart_state IsSoundHart under_way old _ s (record { range = s.range; in_hand = refl }))
    (record { range = s.range; in_hand = h }))

-- ---- an effect that begins

pub begun_with-sound : (input : List ℕ) (e : Effect) (old : HartState) → IsInRange old.geometry
    → IsWithin old.geometry.base (program_size old.geometry) e
    → IsSoundHart (begun_with input e old)
begun_with-sound input e old r inside =
    let calls = calls_in old.geometry old.cpu (length input) in
    let moves = moves_of old.cpu.regs calls e in
    record {
      range = r;
      in_hand = fetch-sound old.geometry input old.cpu e calls (brings input old.cpu.regs calls e) moves
          (begun e moves.from moves.to) r inside refl refl refl refl;
    }

pub begun_with-unsecured : (input : List ℕ) (e : Effect) (old : HartState) → secured (begun_with input e old).hand ≡ 0
begun_with-unsecured input e old =
    let moves = moves_of old.cpu.regs (calls_in old.geometry old.cpu (length input)) e in
    begun-unsecured e moves.from moves.to

pub begun-some : (e : Effect) (from to : Span) → begun e from to ≡ Nothing → ⊥
begun-some e from to = begun_by (λ hand. hand ≡ Nothing → ⊥) e from to (λ _ h. cc h) (λ _ _ h. cc h) (λ _ _ h. cc h)

-- ---- bytes that lie within one block

pub begun-whole : (e : Effect) (s : Span) → first_byte s + s.len ≤ 64 → begun e (rest_of s) (span 0 0) ≡ Retiring e false
begun-whole e s whole =
    let none = rest_of-none s whole in
    begun_by (λ hand. hand ≡ Retiring e false) e (rest_of s) (span 0 0) (λ some. absurd (omega (arith, none)))
    (λ _ some. absurd (omega arith)) (λ _ _. refl)

pub written_on-whole : (e : Effect) (s : Span) (done : ℕ) → first_byte s + s.len ≤ 64 → written_on e (rest_of s) done ≡ Retiring e true
written_on-whole e s done whole =
    let none = rest_of-none s whole in
    written_by (λ hand. hand ≡ Retiring e true) e (rest_of s) done (λ some. absurd (omega (arith, none))) (λ _. refl)
