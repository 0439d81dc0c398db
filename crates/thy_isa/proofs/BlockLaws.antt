-- A step over the blocks of memory is a step over its bytes.
use Rattle.std.proofs.Common.{◌≡◌, ℕ, ◌+◌, ◌-◌, ◌%◌, ◌≤◌, ◌==◌, Bool, true, false, if◌then◌else◌, List, ◌++◌, length, take, drop, Option, Some, None, refl, sym, ◌∙◌, ap, append-nil, arith}
use Rattle.std.proofs.lemmas.List.{length-take-le, length-drop}
use Rattle.thy_block.specs.declared.block.Block.{Block}
use Rattle.thy_block.specs.declared.parameters.Parameters.{Parameters}
use Rattle.thy_block.specs.Bytes.{written}
use Rattle.thy_block.specs.Geometry.{IsInRange, memory_blocks, program_size, console_room}
use Rattle.thy_block.specs.Inside.{is_inside}
use Rattle.thy_block.specs.LittleEndian.{number_at, number_bytes}
use Rattle.thy_block.proofs.InsideLemmas.{is_inside-true}
use Rattle.thy_block.proofs.LittleEndianLemmas.{number_at-take, number_at-drop}
use Rattle.thy_block.proofs.WrittenLemmas.{take-written, drop-written, take-written_behind, drop-written_behind, take-written_end, take-drop_take}
use Rattle.thy_block.specs.Flat.{flat, memory_bytes, console_bytes}
use Rattle.thy_block.specs.Spans.{span, IsSpanOf, gathered, scattered}
use Rattle.thy_block.proofs.MemoryLaws.{size_inside, room_inside, length-memory_bytes, length-console_bytes}
use Rattle.thy_block.proofs.SpanLaws.{gathered-none, gathered-flat, scattered-none, flat-scattered}
use Rattle.thy_isa.specs.declared.instr.Amo.{Amo}
use Rattle.thy_isa.specs.declared.instr.Width.{Width}
use Rattle.thy_isa.specs.declared.state.Cause.{Cause}
use Rattle.thy_isa.specs.declared.state.Cause.TheVariants.{FetchMisaligned, FetchAccess}
use Rattle.thy_isa.specs.declared.state.Call.{Call}
use Rattle.thy_isa.specs.declared.state.Call.TheVariants.{Answer, Exit, Break, Take, Give}
use Rattle.thy_isa.specs.declared.state.CallState.{CallState}
use Rattle.thy_isa.specs.declared.state.CpuState.{CpuState}
use Rattle.thy_isa.specs.declared.state.Effect.{Effect}
use Rattle.thy_isa.specs.declared.state.Effect.TheVariants.{Next, Set, Read, Write, Reserve, Conditional, Fail, Modify, Environment, Trap}
use Rattle.thy_isa.specs.Access.{IsWithin}
use Rattle.thy_isa.specs.Atomics.{modified}
use Rattle.thy_isa.specs.Calls.{IsFit, call_of}
use Rattle.thy_isa.specs.Effects.{size_of, word_effect}
use Rattle.thy_isa.specs.Moves.{call_moves, moves_of, call_brings, brings, number_in, outgoing}
use Rattle.thy_isa.specs.OnBlocks.{setting_for, state_from, calls_in, effect_in, bytes_in, cpu_after, blocks_after}
use Rattle.thy_isa.specs.Step.{State, Setting, cpu_of, state_with, call_state_of, fetch_fault, fetched, within, effect_at, read_by, call_at, memory_served, console_served, memory_by, console_by, served, finished, performed, advanced, is_running, step}
use Rattle.thy_isa.proofs.AccessLaws.{within-is, fetched-within}
use Rattle.thy_isa.proofs.CallLaws.{call_of-fit}
use Rattle.thy_isa.proofs.MemoryBounds.{length-number_bytes}
use Rattle.thy_isa.proofs.MoveLaws.{size_of-most}
use Rattle.thy_isa.proofs.StepLaws.{step-running}
use Rattle.thy_block.proofs.RangeLemmas.{console_below}

fetched_none : (a b : Bool) → (if a then (if b then None else Some FetchAccess) else Some FetchMisaligned) ≡ None → b ≡ true
fetched_none true true h = refl
fetched_none true false h = cc
fetched_none false b h = cc

-- a word that can be fetched lies in memory
pub fetch_inside : (base size pc : ℕ) → fetch_fault base size pc ≡ None → (base ≤ pc) × (pc + 4 ≤ base + size)
unfolding fetch_fault
fetch_inside base size pc h = is_inside-true base size pc 4 (fetched_none (pc % 4 == 0) (is_inside base size pc 4) h)

-- if the fetch faults the word does not matter
fetched_same : (fault : Option Cause) (e f : Effect) → (fault ≡ None → e ≡ f) → fetched fault e ≡ fetched fault f
fetched_same None e f h = h refl
fetched_same (Some cause) e f h = refl

-- the instruction at the program counter reads and writes within memory
pub effect_in-within : (p : Parameters) (cpu : CpuState) (blocks : List Block) → IsWithin p.base (program_size p) (effect_in p cpu blocks)
unfolding effect_in
effect_in-within p cpu blocks =
    fetched-within p.base (program_size p) (fetch_fault p.base (program_size p) cpu.pc) _ (within-is p.base (program_size p) cpu.other _)

-- ---- spans of the blocks of memory

module _ (p : Parameters) (blocks : List Block) (at : ℕ) where
  -- at most 64 bytes within program memory are a span of its blocks
  program_span : (len : ℕ) → length blocks ≡ memory_blocks p → len ≤ 64 → at + len ≤ program_size p
      → IsSpanOf (length blocks) (span at len)
  program_span len whole short l = record { short = short; inside = omega (arith, whole) }

  -- what is read of them is read of the bytes
  gathered-memory : (len : ℕ) → length blocks ≡ memory_blocks p → len ≤ 64 → at + len ≤ program_size p
      → gathered blocks (span at len) ≡ take len (drop at (memory_bytes p blocks))
  gathered-memory len whole short l =
      gathered-flat blocks (span at len) (program_span len whole short l)
      ∙ sym (take-drop_take (flat blocks) at len (program_size p) l)

  -- a number that is read of memory's blocks is the number in its bytes
  number-memory : (n : ℕ) → length blocks ≡ memory_blocks p → n ≤ 64 → at + n ≤ program_size p
      → number_at n (gathered blocks (span at n)) 0 ≡ number_at n (memory_bytes p blocks) at
  number-memory n whole short l =
      let e : at + 0 ≡ at = omega arith in
      ap (λ bs. number_at n bs 0) (gathered-memory n whole short l)
      ∙ number_at-take n n (drop at (memory_bytes p blocks)) 0 (omega arith)
      ∙ number_at-drop n at (memory_bytes p blocks) 0
      ∙ ap (number_at n (memory_bytes p blocks)) e

  -- a piece over a span of program memory
  memory-scattered : (piece : List ℕ) → length blocks ≡ memory_blocks p → length piece ≤ 64 → at + length piece ≤ program_size p
      → memory_bytes p (scattered blocks (span at (length piece)) piece) ≡ written (memory_bytes p blocks) at piece
  memory-scattered piece whole short l =
      ap (take (program_size p)) (flat-scattered blocks (span at (length piece)) piece (program_span (length piece) whole short l) refl)
      ∙ take-written (flat blocks) at (program_size p) piece l (size_inside p blocks whole)

  -- a piece over a span of program memory leaves the console
  console-scattered : (piece : List ℕ) (n : ℕ) → length blocks ≡ memory_blocks p → length piece ≤ 64 → at + length piece ≤ program_size p
      → console_bytes p (scattered blocks (span at (length piece)) piece) n ≡ console_bytes p blocks n
  console-scattered piece n whole short l =
      ap (λ bs. take n (drop (program_size p) bs))
      (flat-scattered blocks (span at (length piece)) piece (program_span (length piece) whole short l) refl)
      ∙ ap (take n) (drop-written (flat blocks) at (program_size p) piece l (size_inside p blocks whole))

module _ (p : Parameters) (blocks : List Block) (n : ℕ) where
  console_span : (len : ℕ) → IsInRange p → length blocks ≡ memory_blocks p → len ≤ 64 → n + len ≤ console_room p
      → IsSpanOf (length blocks) (span (program_size p + n) len)
  console_span len r whole short l = record { short = short; inside = omega (arith, whole, console_below p r) }

  -- a piece after the first n bytes of the console leaves program memory
  memory-behind : (piece : List ℕ) → IsInRange p → length blocks ≡ memory_blocks p → length piece ≤ 64 → n + length piece ≤ console_room p
      → memory_bytes p (scattered blocks (span (program_size p + n) (length piece)) piece) ≡ memory_bytes p blocks
  memory-behind piece r whole short l =
      ap (take (program_size p))
      (flat-scattered blocks (span (program_size p + n) (length piece)) piece (console_span (length piece) r whole short l) refl)
      ∙ take-written_behind (flat blocks) n (program_size p) piece (size_inside p blocks whole)

  -- a piece after the first n bytes of the console is added to these bytes
  console-behind : (piece : List ℕ) → IsInRange p → length blocks ≡ memory_blocks p → length piece ≤ 64
      → n + length piece ≤ console_room p
      → console_bytes p (scattered blocks (span (program_size p + n) (length piece)) piece) (n + length piece)
      ≡ console_bytes p blocks n ++ piece
  console-behind piece r whole short l =
      let pages = drop (program_size p) (flat blocks) in
      ap (λ bs. take (n + length piece) (drop (program_size p) bs))
      (flat-scattered blocks (span (program_size p + n) (length piece)) piece (console_span (length piece) r whole short l) refl)
      ∙ ap (take (n + length piece)) (drop-written_behind (flat blocks) n (program_size p) piece (size_inside p blocks whole))
      ∙ take-written_end pages n piece (omega (arith, length-drop (program_size p) (flat blocks), room_inside p blocks r whole))

-- ---- one effect

module _ (p : Parameters) (input : List ℕ) (cpu : CpuState) (blocks : List Block) (r : IsInRange p) (whole : length blocks ≡ memory_blocks p)
    (room : cpu.console_len ≤ console_room p) where
  abbrev calls : CallState
  calls = calls_in p cpu (length input)

  abbrev g : Setting
  g = setting_for p input

  -- the state that processor and blocks make
  abbrev now : State
  now = state_with cpu (memory_bytes p blocks) (console_bytes p blocks cpu.console_len)

  -- the rest of the state, by the length of its console
  rest_with : ℕ → CpuState
  rest_with n = record cpu { console_len = n }

  cpu_same : cpu_of now ≡ cpu
  unfolding rest_with
  cpu_same = ap rest_with (length-console_bytes p blocks cpu.console_len r whole room)

  -- what a call is decided by, by the lengths of console and memory
  calls_with : ℕ → ℕ → CallState
  calls_with n size = record calls { console_len = n; room = console_room p - n; size = size }

  calls_same : call_state_of g now ≡ calls
  unfolding calls_with
  calls_same =
      ap (λ n. calls_with n (length (memory_bytes p blocks))) (length-console_bytes p blocks cpu.console_len r whole room)
      ∙ ap (calls_with cpu.console_len) (length-memory_bytes p blocks whole)

  -- the bytes that a call moves
  abbrev call_bytes : Call → List ℕ
  call_bytes k = call_brings input calls k ++ gathered blocks (call_moves calls k).from

  -- what is taken of the input
  abbrev taken : ℕ → List ℕ
  taken len = take len (drop cpu.cursor input)

  length-taken : (len : ℕ) → cpu.cursor + len ≤ length input → length (taken len) ≡ len
  length-taken len l = length-take-le len (drop cpu.cursor input) (omega (arith, length-drop cpu.cursor input))

  Take-bytes : (at len : ℕ) → call_bytes (Take at len) ≡ taken len
  unfolding call_brings call_moves
  Take-bytes at len = ap (λ bs. taken len ++ bs) (gathered-none blocks (span 0 0) refl) ∙ append-nil (taken len)

  -- what is given from memory
  abbrev given : ℕ → ℕ → List ℕ
  given at len = take len (drop (at - p.base) (memory_bytes p blocks))

  Give-bytes : (at len : ℕ) → IsFit calls (Give at len) → call_bytes (Give at len) ≡ given at len
  unfolding call_brings call_moves
  Give-bytes at len f = gathered-memory p blocks (at - p.base) len whole f.0.most (omega (arith, f.0.low, f.0.high))

  length-Give : (at len : ℕ) → IsFit calls (Give at len) → length (given at len) ≡ len
  length-Give at len f =
      length-take-le len (drop (at - p.base) (memory_bytes p blocks))
      (omega (arith, length-drop (at - p.base) (memory_bytes p blocks), length-memory_bytes p blocks whole, f.0.low, f.0.high))

  call_blocks : Call → List Block
  call_blocks k = scattered blocks (call_moves calls k).to (call_bytes k)

  Take-blocks : (at len : ℕ) → IsFit calls (Take at len)
      → call_blocks (Take at len) ≡ scattered blocks (span (at - p.base) (length (taken len))) (taken len)
  unfolding call_blocks call_moves
  Take-blocks at len f =
      ap (scattered blocks (span (at - p.base) len)) (Take-bytes at len)
      ∙ ap (λ n. scattered blocks (span (at - p.base) n) (taken len)) (sym (length-taken len f.1))

  Give-blocks : (at len : ℕ) → IsFit calls (Give at len)
      → call_blocks (Give at len) ≡ scattered blocks (span (program_size p + cpu.console_len) (length (given at len))) (given at len)
  unfolding call_blocks call_moves
  Give-blocks at len f =
      ap (scattered blocks (span (program_size p + cpu.console_len) len)) (Give-bytes at len f)
      ∙ ap (λ n. scattered blocks (span (program_size p + cpu.console_len) n) (given at len)) (sym (length-Give at len f))

  same_blocks : (k : Call) → (call_moves calls k).to ≡ span 0 0 → call_blocks k ≡ blocks
  unfolding call_blocks
  same_blocks k e = ap (λ t. scattered blocks t (call_bytes k)) e ∙ scattered-none blocks (span 0 0) (call_bytes k) refl

  call-memory : (k : Call) → IsFit calls k → memory_bytes p (call_blocks k) ≡ memory_served g now k
  unfolding memory_served call_moves
  call-memory (Answer v) f = ap (memory_bytes p) (same_blocks (Answer v) refl)
  call-memory (Exit v) f = ap (memory_bytes p) (same_blocks (Exit v) refl)
  call-memory (Break at) f = ap (memory_bytes p) (same_blocks (Break at) refl)
  call-memory (Take at len) f =
      let l = length-taken len f.1 in
      ap (memory_bytes p) (Take-blocks at len f)
      ∙ memory-scattered p blocks (at - p.base) (taken len) whole (omega (arith, l, f.0.most)) (omega (arith, l, f.0.low, f.0.high))
  call-memory (Give at len) f =
      let l = length-Give at len f in
      ap (memory_bytes p) (Give-blocks at len f)
      ∙ memory-behind p blocks cpu.console_len (given at len) r whole (omega (arith, l, f.0.most)) (omega (arith, l, f.1))

  call-console : (k : Call) → IsFit calls k → console_bytes p (call_blocks k) (served cpu k).console_len ≡ console_served g now k
  unfolding console_served served call_moves
  call-console (Answer v) f = ap (λ bs. console_bytes p bs cpu.console_len) (same_blocks (Answer v) refl)
  call-console (Exit v) f = ap (λ bs. console_bytes p bs cpu.console_len) (same_blocks (Exit v) refl)
  call-console (Break at) f = ap (λ bs. console_bytes p bs cpu.console_len) (same_blocks (Break at) refl)
  call-console (Take at len) f =
      let l = length-taken len f.1 in
      ap (λ bs. console_bytes p bs cpu.console_len) (Take-blocks at len f)
      ∙ console-scattered p blocks (at - p.base) (taken len) cpu.console_len whole (omega (arith, l, f.0.most)) (omega (arith, l, f.0.low, f.0.high))
  call-console (Give at len) f =
      let l = length-Give at len f in
      ap (λ bs. console_bytes p bs (cpu.console_len + len)) (Give-blocks at len f)
      ∙ ap (λ n. console_bytes p (scattered blocks (span (program_size p + cpu.console_len) (length (given at len))) (given at len))
      (cpu.console_len + n)) (sym l)
      ∙ console-behind p blocks cpu.console_len (given at len) r whole (omega (arith, l, f.0.most)) (omega (arith, l, f.1))

  -- ---- what an effect makes of the bytes

  abbrev moved : Effect → List ℕ
  moved e = brings input cpu.regs calls e ++ gathered blocks (moves_of cpu.regs calls e).from

  abbrev after : Effect → List Block
  after e = scattered blocks (moves_of cpu.regs calls e).to (outgoing e (moved e))

  effect-number : (e : Effect) → IsWithin p.base (program_size p) e → number_in e (moved e) ≡ read_by p.base (memory_bytes p blocks) e
  unfolding number_in read_by brings moves_of
  effect-number (Next pc) h = refl
  effect-number (Set rd pc v) h = refl
  effect-number (Read rd width extend pc at) h =
      number-memory p blocks (at - p.base) (size_of width) whole (omega (arith, size_of-most width)) (omega (arith, h.0, h.1))
  effect-number (Write width pc at v) h = refl
  effect-number (Reserve rd width pc at) h =
      number-memory p blocks (at - p.base) (size_of width) whole (omega (arith, size_of-most width)) (omega (arith, h.0, h.1))
  effect-number (Conditional rd width pc at v) h = refl
  effect-number (Fail rd pc) h = refl
  effect-number (Modify op rd width pc at v) h =
      number-memory p blocks (at - p.base) (size_of width) whole (omega (arith, size_of-most width)) (omega (arith, h.0, h.1))
  effect-number Environment h = refl
  effect-number (Trap cause) h = refl

  -- the bytes of a number that is stored
  Write-bytes : (pc at : ℕ) (width : Width) (v : ℕ) → moved (Write width pc at v) ≡ number_bytes (size_of width) v
  unfolding brings moves_of
  Write-bytes pc at width v =
      ap (λ bs. number_bytes (size_of width) v ++ bs) (gathered-none blocks (span 0 0) refl) ∙ append-nil (number_bytes (size_of width) v)

  Write-blocks : (pc at : ℕ) (width : Width) (v : ℕ)
      → after (Write width pc at v) ≡ scattered blocks (span (at - p.base) (length (number_bytes (size_of width) v)))
      (number_bytes (size_of width) v)
  unfolding moves_of
  Write-blocks pc at width v =
      ap (scattered blocks (span (at - p.base) (size_of width))) (Write-bytes pc at width v)
      ∙ ap (λ n. scattered blocks (span (at - p.base) n) (number_bytes (size_of width) v)) (sym (length-number_bytes width v))

  Conditional-blocks : (rd pc at : ℕ) (width : Width) (v : ℕ)
      → after (Conditional rd width pc at v) ≡ scattered blocks (span (at - p.base) (length (number_bytes (size_of width) v)))
      (number_bytes (size_of width) v)
  unfolding moves_of brings
  Conditional-blocks rd pc at width v = Write-blocks pc at width v

  -- the number that an AMO writes
  abbrev changed : Amo → Width → ℕ → ℕ → ℕ
  changed op width at v = modified op width (number_at (size_of width) (memory_bytes p blocks) (at - p.base)) v

  Modify-blocks : (op : Amo) (rd pc at : ℕ) (width : Width) (v : ℕ) → IsWithin p.base (program_size p) (Modify op rd width pc at v)
      → after (Modify op rd width pc at v)
      ≡ scattered blocks (span (at - p.base) (length (number_bytes (size_of width) (changed op width at v))))
      (number_bytes (size_of width) (changed op width at v))
  unfolding moves_of brings
  Modify-blocks op rd pc at width v h =
      ap (λ n. scattered blocks (span (at - p.base) (size_of width)) (number_bytes (size_of width) (modified op width n v)))
      (number-memory p blocks (at - p.base) (size_of width) whole (omega (arith, size_of-most width)) (omega (arith, h.0, h.1)))
      ∙ ap (λ n. scattered blocks (span (at - p.base) n) (number_bytes (size_of width) (changed op width at v)))
      (sym (length-number_bytes width (changed op width at v)))

  effect_same : (e : Effect) → (moves_of cpu.regs calls e).to ≡ span 0 0 → after e ≡ blocks
  effect_same e h =
      ap (λ t. scattered blocks t (outgoing e (moved e))) h ∙ scattered-none blocks (span 0 0) (outgoing e (moved e)) refl

  call_is : call_at g now ≡ call_of cpu.regs calls
  call_is = ap (call_of cpu.regs) calls_same

  Environment-memory : memory_bytes p (after Environment) ≡ memory_served g now (call_at g now)
  unfolding moves_of brings call_blocks
  Environment-memory = call-memory (call_of cpu.regs calls) (call_of-fit cpu.regs calls) ∙ ap (memory_served g now) (sym call_is)

  Environment-console : console_bytes p (after Environment) (served cpu (call_of cpu.regs calls)).console_len
      ≡ console_served g now (call_at g now)
  unfolding moves_of brings call_blocks
  Environment-console = call-console (call_of cpu.regs calls) (call_of-fit cpu.regs calls) ∙ ap (console_served g now) (sym call_is)

  effect-memory : (e : Effect) → IsWithin p.base (program_size p) e → memory_bytes p (after e) ≡ memory_by g now e
  unfolding memory_by moves_of
  effect-memory (Next pc) h = ap (memory_bytes p) (effect_same (Next pc) refl)
  effect-memory (Set rd pc v) h = ap (memory_bytes p) (effect_same (Set rd pc v) refl)
  effect-memory (Read rd width extend pc at) h = ap (memory_bytes p) (effect_same (Read rd width extend pc at) refl)
  effect-memory (Write width pc at v) h =
      let l = length-number_bytes width v in
      ap (memory_bytes p) (Write-blocks pc at width v)
      ∙ memory-scattered p blocks (at - p.base) (number_bytes (size_of width) v) whole (omega (arith, l, size_of-most width))
      (omega (arith, l, h.0, h.1))
  effect-memory (Reserve rd width pc at) h = ap (memory_bytes p) (effect_same (Reserve rd width pc at) refl)
  effect-memory (Conditional rd width pc at v) h =
      let l = length-number_bytes width v in
      ap (memory_bytes p) (Conditional-blocks rd pc at width v)
      ∙ memory-scattered p blocks (at - p.base) (number_bytes (size_of width) v) whole (omega (arith, l, size_of-most width))
      (omega (arith, l, h.0, h.1))
  effect-memory (Fail rd pc) h = ap (memory_bytes p) (effect_same (Fail rd pc) refl)
  effect-memory (Modify op rd width pc at v) h =
      let l = length-number_bytes width (changed op width at v) in
      ap (memory_bytes p) (Modify-blocks op rd pc at width v h)
      ∙ memory-scattered p blocks (at - p.base) (number_bytes (size_of width) (changed op width at v)) whole
      (omega (arith, l, size_of-most width)) (omega (arith, l, h.0, h.1))
  effect-memory Environment h = Environment-memory
  effect-memory (Trap cause) h = ap (memory_bytes p) (effect_same (Trap cause) refl)

  effect-console : (e : Effect) (n : ℕ) → IsWithin p.base (program_size p) e
      → console_bytes p (after e) (finished cpu e n calls).console_len ≡ console_by g now e
  unfolding console_by moves_of finished
  effect-console (Next pc) n h = ap (λ bs. console_bytes p bs cpu.console_len) (effect_same (Next pc) refl)
  effect-console (Set rd pc v) n h = ap (λ bs. console_bytes p bs cpu.console_len) (effect_same (Set rd pc v) refl)
  effect-console (Read rd width extend pc at) n h = ap (λ bs. console_bytes p bs cpu.console_len) (effect_same (Read rd width extend pc at) refl)
  effect-console (Write width pc at v) n h =
      let l = length-number_bytes width v in
      ap (λ bs. console_bytes p bs cpu.console_len) (Write-blocks pc at width v)
      ∙ console-scattered p blocks (at - p.base) (number_bytes (size_of width) v) cpu.console_len whole
      (omega (arith, l, size_of-most width)) (omega (arith, l, h.0, h.1))
  effect-console (Reserve rd width pc at) n h = ap (λ bs. console_bytes p bs cpu.console_len) (effect_same (Reserve rd width pc at) refl)
  effect-console (Conditional rd width pc at v) n h =
      let l = length-number_bytes width v in
      ap (λ bs. console_bytes p bs cpu.console_len) (Conditional-blocks rd pc at width v)
      ∙ console-scattered p blocks (at - p.base) (number_bytes (size_of width) v) cpu.console_len whole
      (omega (arith, l, size_of-most width)) (omega (arith, l, h.0, h.1))
  effect-console (Fail rd pc) n h = ap (λ bs. console_bytes p bs cpu.console_len) (effect_same (Fail rd pc) refl)
  effect-console (Modify op rd width pc at v) n h =
      let l = length-number_bytes width (changed op width at v) in
      ap (λ bs. console_bytes p bs cpu.console_len) (Modify-blocks op rd pc at width v h)
      ∙ console-scattered p blocks (at - p.base) (number_bytes (size_of width) (changed op width at v)) cpu.console_len whole
      (omega (arith, l, size_of-most width)) (omega (arith, l, h.0, h.1))
  effect-console Environment n h = Environment-console
  effect-console (Trap cause) n h = ap (λ bs. console_bytes p bs cpu.console_len) (effect_same (Trap cause) refl)

  -- an effect over blocks is the effect over bytes
  pub state_from-performed : (e : Effect) → IsWithin p.base (program_size p) e
      → state_from p (cpu_after p input cpu e (bytes_in p input cpu blocks e))
      (blocks_after p input cpu blocks e (bytes_in p input cpu blocks e))
      ≡ performed g (state_from p cpu blocks) e
  unfolding state_from cpu_after blocks_after bytes_in performed
  state_from-performed e h =
      let read = read_by p.base (memory_bytes p blocks) e in
      ap (λ m. state_with (finished cpu e (number_in e (moved e)) calls) m
      (console_bytes p (after e) (finished cpu e (number_in e (moved e)) calls).console_len)) (effect-memory e h)
      ∙ ap (state_with (finished cpu e (number_in e (moved e)) calls) (memory_by g now e)) (effect-console e (number_in e (moved e)) h)
      ∙ ap (λ n. state_with (finished cpu e n calls) (memory_by g now e) (console_by g now e)) (effect-number e h)
      ∙ ap (λ k. state_with (finished cpu e read k) (memory_by g now e) (console_by g now e)) (sym calls_same)
      ∙ ap (λ c. state_with (finished c e read (call_state_of g now)) (memory_by g now e) (console_by g now e)) (sym cpu_same)

  -- the instruction at the program counter is the same over both
  pub effect_in-flat : effect_in p cpu blocks ≡ effect_at p.base (state_from p cpu blocks)
  unfolding effect_in effect_at state_from
  effect_in-flat =
      let word = λ (n : ℕ). within p.base (program_size p) cpu.other (word_effect n cpu.pc cpu.regs) in
      let blockwise : ℕ = number_at 4 (gathered blocks (span (cpu.pc - p.base) 4)) 0 in
      let flatly : ℕ = number_at 4 (memory_bytes p blocks) (cpu.pc - p.base) in
      fetched_same (fetch_fault p.base (program_size p) cpu.pc) (word blockwise) (word flatly)
      (λ none.
      let inside = fetch_inside p.base (program_size p) cpu.pc none in
      ap word (number-memory p blocks (cpu.pc - p.base) 4 whole (omega arith) (omega (arith, inside.0, inside.1))))
      ∙ ap (λ n. fetched (fetch_fault p.base n cpu.pc) (within p.base n cpu.other (word_effect flatly cpu.pc cpu.regs)))
      (sym (length-memory_bytes p blocks whole))

  advanced_is : performed g (state_from p cpu blocks) (effect_at p.base (state_from p cpu blocks)) ≡ advanced g (state_from p cpu blocks)
  unfolding advanced
  advanced_is = refl

  runs : is_running cpu.status ≡ true → is_running (state_from p cpu blocks).status ≡ true
  unfolding state_from
  runs h = h

  -- an instruction over blocks is a step over bytes
  pub state_from-step : is_running cpu.status ≡ true
      → state_from p (cpu_after p input cpu (effect_in p cpu blocks) (bytes_in p input cpu blocks (effect_in p cpu blocks)))
      (blocks_after p input cpu blocks (effect_in p cpu blocks) (bytes_in p input cpu blocks (effect_in p cpu blocks)))
      ≡ step g (state_from p cpu blocks)
  state_from-step running =
      state_from-performed (effect_in p cpu blocks) (effect_in-within p cpu blocks)
      ∙ ap (performed g (state_from p cpu blocks)) effect_in-flat
      ∙ advanced_is
      ∙ sym (step-running g (state_from p cpu blocks) (runs running))

-- a state has retired what its processor has
pub count-state_from : (p : Parameters) (cpu : CpuState) (blocks : List Block) → (state_from p cpu blocks).count ≡ cpu.count
unfolding state_from
count-state_from p cpu blocks = refl
