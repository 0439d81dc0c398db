-- The fetch reads one block.
use Rattle.std.proofs.Common.{◌≡◌, ℕ, ◌+◌, ◌-◌, ◌*◌, ◌/◌, ◌%◌, ◌^◌, ◌<◌, ◌≤◌, ◌==◌, Bool, true, false, if◌then◌else◌, List, ◌++◌, length, Option, Some, None, Ok, Err, refl, sym, ◌∙◌, ap, subst, drop, append-nil, arith}
use Rattle.std.proofs.lemmas.Bool.Decides.{nat_tests}
use Rattle.thy_block.specs.declared.block.Block.{Block}
use Rattle.thy_block.specs.declared.parameters.Parameters.{Parameters}
use Rattle.thy_block.specs.Geometry.{IsInRange, memory_blocks, program_size}
use Rattle.thy_block.specs.Inside.{is_inside}
use Rattle.thy_block.specs.Blocks.{block_bytes}
use Rattle.thy_block.specs.LittleEndian.{number_at}
use Rattle.thy_block.proofs.LittleEndianLemmas.{number_at-take, number_at-drop}
use Rattle.thy_block.proofs.RangeLemmas.{base_aligned}
use Rattle.thy_cache.specs.Contents.{Contents}
use Rattle.thy_cache.specs.Flat.{flat, ReadsAs}
use Rattle.thy_block.specs.declared.span.Span.{Span}
use Rattle.thy_block.specs.Spans.{span, first_block, first_byte, head_len, rest_of, head_in, head_read, gathered}
use Rattle.thy_block.proofs.SpanLaws.{gathered-none, gathered-rest, rest_of-none}
use Rattle.thy_isa.specs.declared.state.Cause.{Cause}
use Rattle.thy_isa.specs.declared.state.Cause.TheVariants.{FetchMisaligned, FetchAccess}
use Rattle.thy_isa.specs.declared.state.CpuState.{CpuState}
use Rattle.thy_isa.specs.declared.state.Effect.{Effect}
use Rattle.thy_isa.specs.declared.state.Effect.TheVariants.{Trap}
use Rattle.thy_isa.specs.declared.state.OtherHart.{OtherHart}
use Rattle.thy_isa.specs.Access.{IsWithin}
use Rattle.thy_isa.specs.Effects.{word_effect}
use Rattle.thy_isa.specs.OnBlocks.{effect_in}
use Rattle.thy_isa.specs.Step.{fetch_fault, fetched as unless_trapped, within}
use Rattle.thy_isa.proofs.AccessLaws.{within-is}
use Rattle.thy_isa.proofs.BlockLaws.{fetch_inside}
use Rattle.thy_hart.specs.HartState.{unless_fault, fetched_block}
use Rattle.thy_hart.specs.MicroSteps.{IsFetchedSpan, ReadsWord, FetchesEffect}

-- ---- a word that can be fetched

aligned_by : (a b : Bool) → (if a then (if b then None else Some FetchAccess) else Some FetchMisaligned) ≡ None → a ≡ true
aligned_by true b h = refl
aligned_by false b h = cc

multiple : (pc : ℕ) → (pc % 4 == 0) ≡ true → pc % 4 ≡ 0
multiple pc h = grind (arith, nat_tests)

fetch_aligned : (base size pc : ℕ) → fetch_fault base size pc ≡ None → pc % 4 ≡ 0
unfolding fetch_fault
fetch_aligned base size pc h = multiple pc (aligned_by (pc % 4 == 0) (is_inside base size pc 4) h)

-- a word that can be fetched lies within program memory, and within one block
pub record IsFetched (p : Parameters) (pc : ℕ) : Type 0 where
  pub low : p.base ≤ pc
  pub high : pc + 4 ≤ p.base + program_size p
  pub aligned : pc % 4 ≡ 0

pub fetch_none : (p q : Parameters) (size pc : ℕ) (fault : Option Cause) → q ≡ p → size ≡ program_size p
    → fault ≡ fetch_fault q.base size pc → fault ≡ None → fetch_fault p.base (program_size p) pc ≡ None
fetch_none p q size pc fault same size_is fault_is none =
    let by_base : fetch_fault q.base size pc ≡ fetch_fault p.base size pc = ap (λ (g : Parameters). fetch_fault g.base size pc) same in
    let by_size : fetch_fault p.base size pc ≡ fetch_fault p.base (program_size p) pc = ap (λ (n : ℕ). fetch_fault p.base n pc) size_is in
    sym (by_base ∙ by_size) ∙ sym fault_is ∙ none

pub fetched_inside : (p : Parameters) (pc : ℕ) → fetch_fault p.base (program_size p) pc ≡ None → IsFetched p pc
fetched_inside p pc none =
    let inside = fetch_inside p.base (program_size p) pc none in
    record { low = inside.0; high = inside.1; aligned = fetch_aligned p.base (program_size p) pc none }

inside_by : (a b : Bool) → a ≡ true → b ≡ true → (if a then (if b then None else Some FetchAccess) else Some FetchMisaligned) ≡ None
inside_by true true one two = refl
inside_by true false one two = cc
inside_by false b one two = cc

-- an offset below the size of program memory belongs to an address which is not below the base
pub offset-is : (p : Parameters) (at : ℕ) → IsInRange p → at < 2 ^ 64 → (at + (2 ^ 64 - p.base)) % 2 ^ 64 < program_size p
    → (p.base ≤ at) × ((at + (2 ^ 64 - p.base)) % 2 ^ 64 ≡ at - p.base)
offset-is p at r fits below =
    let base : p.base < 2 ^ 62 = r.0.1 in
    let pages : p.pages ≤ 65536 = r.1.0.1 in
    (omega (arith, base, pages, fits, below), omega (arith, base, pages, fits, below))

-- a word can be fetched at an offset inside, if it is a multiple of four
pub offset-fetched : (p : Parameters) (pc : ℕ) → IsInRange p → pc < 2 ^ 64 → (pc + (2 ^ 64 - p.base)) % 2 ^ 64 < program_size p
    → ((pc + (2 ^ 64 - p.base)) % 2 ^ 64) % 4 ≡ 0 → fetch_fault p.base (program_size p) pc ≡ None
unfolding fetch_fault
offset-fetched p pc r fits below fours =
    let found = offset-is p pc r fits below in
    let base : p.base % 4096 ≡ 0 = base_aligned p r in
    let aligned : pc % 4 ≡ 0 = omega (arith, found.0, found.1, base, fours) in
    let high : pc + 4 ≤ p.base + program_size p = omega (arith, found.0, found.1, below, fours) in
    inside_by (pc % 4 == 0) (is_inside p.base (program_size p) pc 4) (grind (arith, nat_tests)) (grind (arith, nat_tests))

-- an offset that is low with its low two bits in front is low, and they are 0
pub turned-below : (size at : ℕ) → size < 2 ^ 64 → at % 4 * 2 ^ 62 + at / 4 < size / 4 → (at < size) × (at % 4 ≡ 0)
turned-below size at fits h =
    let fours : at % 4 ≡ 0 = omega (arith, fits, h) in
    (omega (arith, h, fours), fours)

-- the span of that word
pub fetched-offset : (p q : Parameters) (size pc : ℕ) → IsInRange p → q ≡ p → size ≡ program_size p → pc < 2 ^ 64
    → (pc + (2 ^ 64 - q.base)) % 2 ^ 64 < size → ((pc + (2 ^ 64 - q.base)) % 2 ^ 64) % 4 ≡ 0
    → (fetch_fault p.base (program_size p) pc ≡ None) × (span ((pc + (2 ^ 64 - q.base)) % 2 ^ 64) 4 ≡ span (pc - p.base) 4)
fetched-offset p q size pc r same size_is fits below fours =
    let base : q.base ≡ p.base = ap (λ (g : Parameters). g.base) same in
    let less : (pc + (2 ^ 64 - p.base)) % 2 ^ 64 < size = subst (λ (b : ℕ). (pc + (2 ^ 64 - b)) % 2 ^ 64 < size) base below in
    let inside : (pc + (2 ^ 64 - p.base)) % 2 ^ 64 < program_size p
    = subst (λ (n : ℕ). (pc + (2 ^ 64 - p.base)) % 2 ^ 64 < n) size_is less in
    let four : ((pc + (2 ^ 64 - p.base)) % 2 ^ 64) % 4 ≡ 0 = subst (λ (b : ℕ). ((pc + (2 ^ 64 - b)) % 2 ^ 64) % 4 ≡ 0) base fours in (
      offset-fetched p pc r fits inside four,
      ap (λ (b : ℕ). span ((pc + (2 ^ 64 - b)) % 2 ^ 64) 4) base ∙ ap (λ (n : ℕ). span n 4) (offset-is p pc r fits inside).1,
    )

pub fetched_low : (p q : Parameters) (size pc : ℕ) (fault : Option Cause) → q ≡ p → size ≡ program_size p
    → fault ≡ fetch_fault q.base size pc → fault ≡ None → q.base ≤ pc
fetched_low p q size pc fault same size_is fault_is none =
    let w = fetched_inside p pc (fetch_none p q size pc fault same size_is fault_is none) in
    omega (arith, w.low, ap (λ (g : Parameters). g.base) same)

whole_word : (p : Parameters) (pc : ℕ) → IsInRange p → IsFetched p pc → first_byte (span (pc - p.base) 4) + 4 ≤ 64
whole_word p pc r w = omega (arith, w.low, w.aligned, base_aligned p r)

pub word_inside : (p : Parameters) (pc : ℕ) → IsFetched p pc → first_block (span (pc - p.base) 4) < memory_blocks p
word_inside p pc w = omega (arith, w.low, w.high)

-- ---- its bytes

-- the bytes of a span within one block
gathered-head : (blocks : List Block) (s : Span) → s.len ≤ 64 → first_byte s + s.len ≤ 64 → head_read blocks s ≡ gathered blocks s
gathered-head blocks s short whole =
    sym (append-nil (head_read blocks s))
    ∙ ap (λ t. head_read blocks s ++ t) (sym (gathered-none blocks (rest_of s) (rest_of-none s whole)))
    ∙ gathered-rest blocks s short

-- the number in the bytes of a span within one block
number_in_head : (block : Block) (at : Span) → at.len ≡ 4 → first_byte at + 4 ≤ 64
    → number_at 4 (head_in block at) 0 ≡ number_at 4 (block_bytes block) (first_byte at)
number_in_head block at four whole =
    let start : first_byte at + 0 ≡ first_byte at = omega arith in
    number_at-take 4 (head_len at) (drop (first_byte at) (block_bytes block)) 0 (omega (arith, four, whole))
    ∙ number_at-drop 4 (first_byte at) (block_bytes block) 0
    ∙ ap (number_at 4 (block_bytes block)) start

pub word_read : (c : Contents) (at : Span) (block : Block) (word : ℕ) → at.len ≡ 4 → first_byte at + 4 ≤ 64
    → ReadsAs c (first_block at) block → word ≡ number_at 4 (block_bytes block) (first_byte at) → ReadsWord c at word
word_read c at block word four whole reads number blocks inside =
    number
    ∙ sym (number_in_head block at four whole)
    ∙ ap (λ b. number_at 4 (head_in b at) 0) (sym (reads blocks inside))
    ∙ ap (λ t. number_at 4 t 0) (gathered-head (flat c blocks) at (omega arith) (omega arith))

-- ---- the effect

pub span_len : (p : Parameters) (cpu : CpuState) (at : Span) → IsFetchedSpan p cpu (Ok at) → at.len ≡ 4
span_len p cpu at h = ap (λ (s : Span). s.len) h.1

pub span_whole : (p : Parameters) (cpu : CpuState) (at : Span) → IsInRange p → IsFetchedSpan p cpu (Ok at) → first_byte at + 4 ≤ 64
span_whole p cpu at r h = subst (λ s. first_byte s + 4 ≤ 64) (sym h.1) (whole_word p cpu.pc r (fetched_inside p cpu.pc h.0))

pub effect_read : (p q : Parameters) (size : ℕ) (cpu : CpuState) (c : Contents) (at : Span) (word : ℕ) (e now : Effect)
    → IsFetchedSpan p cpu (Ok at)
    → q ≡ p → size ≡ program_size p → ReadsWord c at word → e ≡ word_effect word cpu.pc cpu.regs → now ≡ within q.base size cpu.other e
    → FetchesEffect p cpu c now
unfolding effect_in
effect_read p q size cpu c at word e now h same size_is reads means is blocks whole =
    let w = fetched_inside p cpu.pc h.0 in
    let number : ℕ = number_at 4 (gathered (flat c blocks) (span (cpu.pc - p.base) 4)) 0 in
    let here : ReadsWord c (span (cpu.pc - p.base) 4) word = subst (λ s. ReadsWord c s word) h.1 reads in
    let inside : first_block (span (cpu.pc - p.base) 4) < length blocks = omega (arith, word_inside p cpu.pc w, whole) in
    is
    ∙ ap (λ (g : Parameters). within g.base size cpu.other e) same
    ∙ ap (λ (n : ℕ). within p.base n cpu.other e) size_is
    ∙ ap (within p.base (program_size p) cpu.other) (means ∙ ap (λ n. word_effect n cpu.pc cpu.regs) (here blocks inside))
    ∙ ap (λ f. unless_trapped f (within p.base (program_size p) cpu.other (word_effect number cpu.pc cpu.regs))) (sym h.0)

-- a word that can't be fetched has the effect of a trap
pub effect_trapped : (p : Parameters) (cpu : CpuState) (memory : List Block) (cause : Cause) → IsFetchedSpan p cpu (Err cause)
    → effect_in p cpu memory ≡ Trap cause
unfolding effect_in
effect_trapped p cpu memory cause h =
    let number : ℕ = number_at 4 (gathered memory (span (cpu.pc - p.base) 4)) 0 in
    ap (λ f. unless_trapped f (within p.base (program_size p) cpu.other (word_effect number cpu.pc cpu.regs))) h

-- an effect that was tested
pub tested : (p q : Parameters) (size : ℕ) (o : Option OtherHart) (e now : Effect) → q ≡ p → size ≡ program_size p
    → now ≡ within q.base size o e
    → IsWithin p.base (program_size p) now
tested p q size o e now same size_is is =
    let by_base : within q.base size o e ≡ within p.base size o e = ap (λ (g : Parameters). within g.base size o e) same in
    let by_size : within p.base size o e ≡ within p.base (program_size p) o e = ap (λ (n : ℕ). within p.base n o e) size_is in
    subst (IsWithin p.base (program_size p)) (sym (is ∙ by_base ∙ by_size)) (within-is p.base (program_size p) o e)

-- ---- the block of a fetch

pub unless_some : (o : Option Cause) (n b : ℕ) → unless_fault o n ≡ Some b → (o ≡ None) × (n ≡ b)
unless_some None n b h = (refl, cc h)
unless_some (Some cause) n b h = cc h

-- the block of a fetch is touched if there is no fault
pub fetched_some : (p : Parameters) (cpu : CpuState) (at : Span) → IsFetchedSpan p cpu (Ok at) → fetched_block p cpu ≡ Some (first_block at)
unfolding fetched_block
fetched_some p cpu at h = ap (λ f. unless_fault f (first_block (span (cpu.pc - p.base) 4))) h.0 ∙ ap (λ s. Some (first_block s)) (sym h.1)

-- a fetch that faults touches no block
pub fetched_not : (p : Parameters) (cpu : CpuState) (cause : Cause) → IsFetchedSpan p cpu (Err cause) → fetched_block p cpu ≡ None
unfolding fetched_block
fetched_not p cpu cause h = ap (λ f. unless_fault f (first_block (span (cpu.pc - p.base) 4))) h
