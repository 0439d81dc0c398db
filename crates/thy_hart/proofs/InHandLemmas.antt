-- The instruction in hand as a few numbers: what its stages stand for.
use Rattle.std.proofs.Common.{◌≡◌, ℕ, ◌+◌, ◌-◌, ◌<◌, ◌≤◌, ◌^◌, false, List, [], length, take, drop, refl, sym, ◌∙◌, ap, arith}
use Rattle.thy_block.specs.declared.block.Block.{Block}
use Rattle.thy_block.specs.Blocks.{block_bytes}
use Rattle.thy_block.specs.Geometry.{memory_blocks}
use Rattle.thy_block.specs.LittleEndian.{number_bytes}
use Rattle.thy_cache.specs.Contents.{Contents}
use Rattle.thy_cache.specs.Flat.{flat, ReadsAs}
use Rattle.thy_block.specs.declared.span.Span.{Span}
use Rattle.thy_block.specs.Spans.{span, first_block, first_byte, head_len, head_in, head_read, rest_of}
use Rattle.thy_isa.specs.declared.instr.Extend.{Extend}
use Rattle.thy_isa.specs.declared.instr.Width.{Width}
use Rattle.thy_isa.specs.declared.instr.Width.TheVariants.{Byte, Half, Word, Double}
use Rattle.thy_isa.specs.declared.state.CallState.{CallState}
use Rattle.thy_isa.specs.declared.state.CpuState.{CpuState}
use Rattle.thy_isa.specs.declared.state.Effect.{Effect}
use Rattle.thy_isa.specs.declared.state.Effect.TheVariants.{Next, Set, Read, Write}
use Rattle.thy_isa.specs.Effects.{size_of}
use Rattle.thy_isa.specs.Moves.{moves_of, brings, number_in}
use Rattle.thy_isa.specs.Regs.{regs_with}
use Rattle.thy_isa.specs.Step.{finished}
use Rattle.thy_hart.specs.declared.hand.Hand.{Hand}
use Rattle.thy_hart.specs.declared.hand.Hand.TheVariants.{Reading, Securing, Retiring}
use Rattle.thy_hart.specs.declared.in_hand.Stage.TheVariants.{Loads}
use Rattle.thy_hart.specs.declared.micro_steps.HartParts.{HartParts}
use Rattle.thy_hart.specs.HartState.{HartState}
use Rattle.thy_hart.specs.Outcomes.{begun, begun_with}
use Rattle.thy_hart.specs.InHand.{span_of, load_of, at_stage}
use Rattle.thy_hart.specs.MicroSteps.{ReadsIn}
use Rattle.thy_hart.proofs.HandLemmas.{begun-whole}
use Rattle.thy_hart.proofs.NumberLemmas.{extended-read}

-- ---- what begins

pub begun-load : (e : Effect) (at : ℕ) (w : Width) → begun e (span at (size_of w)) (span 0 0) ≡ Reading e (span at (size_of w)) (span 0 0)
unfolding begun
begun-load e at Byte = refl
begun-load e at Half = refl
begun-load e at Word = refl
begun-load e at Double = refl

pub begun-store : (e : Effect) (at : ℕ) (w : Width) → begun e (span 0 0) (span at (size_of w)) ≡ Securing e (span at (size_of w))
unfolding begun
begun-store e at Byte = refl
begun-store e at Half = refl
begun-store e at Word = refl
begun-store e at Double = refl

-- ---- an effect that begins

pub begun_with-load : (input : List ℕ) (old : HartState) (rd : ℕ) (w : Width) (x : Extend) (pc at : ℕ) (a : ℕ × Width)
    → a ≡ (at - old.geometry.base, w)
    → record old { hand = Reading (Read rd a.1 x pc at) (span_of a) (span 0 0); bytes = [] } ≡ begun_with input (Read rd w x pc at) old
unfolding moves_of brings
begun_with-load input old rd w x pc at a is =
    ap (λ (b : ℕ × Width). record old { hand = Reading (Read rd b.1 x pc at) (span_of b) (span 0 0); bytes = [] }) is
    ∙ ap (λ (hand : Hand). record old { hand = hand; bytes = [] }) (sym (begun-load (Read rd w x pc at) (at - old.geometry.base) w))

pub begun_with-store : (input : List ℕ) (old : HartState) (w : Width) (pc at v : ℕ) (a : ℕ × Width) → a ≡ (at - old.geometry.base, w)
    → record old { hand = Securing (Write a.1 pc at v) (span_of a); bytes = number_bytes (size_of a.1) v }
    ≡ begun_with input (Write w pc at v) old
unfolding moves_of brings
begun_with-store input old w pc at v a is =
    ap (λ (b : ℕ × Width). record old { hand = Securing (Write b.1 pc at v) (span_of b); bytes = number_bytes (size_of b.1) v }) is
    ∙ ap (λ (hand : Hand). record old { hand = hand; bytes = number_bytes (size_of w) v })
    (sym (begun-store (Write w pc at v) (at - old.geometry.base) w))

-- ---- a load that is read

-- the bytes of an access in its block
head_whole : (block : Block) (s : Span) → first_byte s + s.len ≤ 64 → head_in block s ≡ take s.len (drop (first_byte s) (block_bytes block))
head_whole block s whole =
    let all : head_len s ≡ s.len = omega (arith, whole) in ap (λ n. take n (drop (first_byte s) (block_bytes block))) all

pub load-reads : (h : HartParts) (c : Contents) (block : Block) (value : ℕ) → let s = span_of h.hand.access in
    first_byte s + s.len ≤ 64 → first_block s < memory_blocks h.geometry → ReadsAs c (first_block s) block
    → number_bytes s.len value ≡ take s.len (drop (first_byte s) (block_bytes block))
    → ReadsIn c (load_of h.hand) s (span 0 0) (at_stage Loads h)
    (record (at_stage Loads h) { hand = Retiring (load_of h.hand) false; bytes = number_bytes (size_of h.hand.access.1) value })
load-reads h c block value whole inside reads is blocks all =
    let s : Span = span_of h.hand.access in
    let e : Effect = load_of h.hand in
    let old : HartState = at_stage Loads h in
    let here : first_block s < length blocks = omega (arith, inside, all) in
    let read : head_read (flat c blocks) s ≡ head_in block s = ap (λ b. head_in b s) (reads blocks here) in
    let bytes : number_bytes s.len value ≡ head_read (flat c blocks) s = is ∙ sym (head_whole block s whole) ∙ sym read in
    ap (λ (hand : Hand). record old { hand = hand; bytes = number_bytes s.len value }) (sym (begun-whole e s whole))
    ∙ ap (λ (t : List ℕ). record old { hand = begun e (rest_of s) (span 0 0); bytes = t }) bytes

-- ---- a load that retires

pub finished-loaded : (cpu : CpuState) (rd : ℕ) (w : Width) (x : Extend) (pc at v : ℕ) (calls : CallState) → v < 2 ^ 64
    → finished cpu (Read rd w x pc at) v calls ≡ finished cpu (Read rd w x pc at)
    (number_in (Read rd w x pc at) (number_bytes (size_of w) v)) calls
unfolding finished number_in
finished-loaded cpu rd w x pc at v calls fits =
    ap (λ (n : ℕ). record cpu { pc = pc; regs = regs_with cpu.regs rd n; count = cpu.count + 1 }) (sym (extended-read w x v fits))

-- any other instruction, which reads no number
pub finished-other : (cpu : CpuState) (e k : Effect) (bytes : List ℕ) (calls : CallState) → e ≡ k → number_in k bytes ≡ 0
    → finished cpu e 0 calls ≡ finished cpu e (number_in e bytes) calls
finished-other cpu e k bytes calls is none = ap (λ n. finished cpu e n calls) (sym (ap (λ x. number_in x bytes) is ∙ none))

pub number-jump : (pc : ℕ) (bytes : List ℕ) → number_in (Next pc) bytes ≡ 0
unfolding number_in
number-jump pc bytes = refl

pub number-set : (rd pc v : ℕ) (bytes : List ℕ) → number_in (Set rd pc v) bytes ≡ 0
unfolding number_in
number-set rd pc v bytes = refl

pub number-store : (w : Width) (pc at v : ℕ) (bytes : List ℕ) → number_in (Write w pc at v) bytes ≡ 0
unfolding number_in
number-store w pc at v bytes = refl
