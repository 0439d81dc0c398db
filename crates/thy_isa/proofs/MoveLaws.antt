-- What an effect moves are spans of the blocks of memory, and it has as many bytes as it writes.
use Rattle.std.proofs.Common.{◌≡◌, ℕ, ◌+◌, ◌-◌, ◌≤◌, List, [], length, take, drop, arith}
use Rattle.std.proofs.lemmas.List.{length-take-le, length-drop}
use Rattle.thy_block.specs.declared.parameters.Parameters.{Parameters}
use Rattle.thy_block.specs.Geometry.{IsInRange, memory_blocks, program_size}
use Rattle.thy_block.specs.Spans.{span, IsSpanOf}
use Rattle.thy_isa.specs.declared.instr.Width.{Width}
use Rattle.thy_isa.specs.declared.instr.Width.TheVariants.{Byte, Half, Word, Double}
use Rattle.thy_isa.specs.declared.state.Call.{Call}
use Rattle.thy_isa.specs.declared.state.Call.TheVariants.{Answer, Exit, Break, Take, Give}
use Rattle.thy_isa.specs.declared.state.CallState.{CallState}
use Rattle.thy_isa.specs.declared.state.CpuState.{CpuState}
use Rattle.thy_isa.specs.declared.state.Effect.{Effect}
use Rattle.thy_isa.specs.declared.state.Effect.TheVariants.{Next, Set, Read, Write, Reserve, Conditional, Fail, Modify, Environment, Trap}
use Rattle.thy_isa.specs.declared.state.Moves.{Moves}
use Rattle.thy_isa.specs.Access.{IsWithin}
use Rattle.thy_isa.specs.Calls.{IsFit, call_of}
use Rattle.thy_isa.specs.Effects.{size_of}
use Rattle.thy_isa.specs.Moves.{no_moves, call_moves, moves_of, call_brings, brings, outgoing_len}
use Rattle.thy_isa.specs.OnBlocks.{calls_in}
use Rattle.thy_isa.proofs.CallLaws.{call_of-fit}
use Rattle.thy_isa.proofs.MemoryBounds.{length-number_bytes}
use Rattle.thy_block.proofs.RangeLemmas.{console_below}

-- what is moved are spans of the given number of blocks
pub record AreSpans (blocks : ℕ) (m : Moves) : Type 0 where
  pub from : IsSpanOf blocks m.from
  pub to : IsSpanOf blocks m.to

pub size_of-most : (w : Width) → size_of w ≤ 8
size_of-most Byte = omega arith
size_of-most Half = omega arith
size_of-most Word = omega arith
size_of-most Double = omega arith

no_span : (blocks : ℕ) → IsSpanOf blocks (span 0 0)
no_span blocks = record { short = omega arith; inside = omega arith }

none : (blocks : ℕ) → AreSpans blocks no_moves
none blocks = record { from = no_span blocks; to = no_span blocks }

module _ (p : Parameters) (cpu : CpuState) (n : ℕ) (r : IsInRange p) where
  program : (at len : ℕ) → len ≤ 64 → p.base ≤ at → at + len ≤ p.base + program_size p → IsSpanOf (memory_blocks p) (span (at - p.base) len)
  program at len short low high = record { short = short; inside = omega arith }

  call_moves-spans : (k : Call) → IsFit (calls_in p cpu n) k → AreSpans (memory_blocks p) (call_moves (calls_in p cpu n) k)
  unfolding call_moves
  call_moves-spans (Answer v) f = none (memory_blocks p)
  call_moves-spans (Exit v) f = none (memory_blocks p)
  call_moves-spans (Break at) f = none (memory_blocks p)
  call_moves-spans (Take at len) f = record { from = no_span (memory_blocks p); to = program at len f.0.most f.0.low f.0.high }
  call_moves-spans (Give at len) f = record {
    from = program at len f.0.most f.0.low f.0.high;
    to = record { short = f.0.most; inside = omega (arith, f.1, f.0.some, console_below p r) };
  }

  -- the spans of an effect within memory lie within the blocks of memory
  pub moves_of-spans : (x : List ℕ) (e : Effect) → IsWithin p.base (program_size p) e
      → AreSpans (memory_blocks p) (moves_of x (calls_in p cpu n) e)
  unfolding moves_of
  moves_of-spans x (Next pc) h = none (memory_blocks p)
  moves_of-spans x (Set rd pc v) h = none (memory_blocks p)
  moves_of-spans x (Read rd width extend pc at) h =
      record { from = program at (size_of width) (omega (arith, size_of-most width)) h.0 h.1; to = no_span (memory_blocks p) }
  moves_of-spans x (Write width pc at v) h =
      record { from = no_span (memory_blocks p); to = program at (size_of width) (omega (arith, size_of-most width)) h.0 h.1 }
  moves_of-spans x (Reserve rd width pc at) h =
      record { from = program at (size_of width) (omega (arith, size_of-most width)) h.0 h.1; to = no_span (memory_blocks p) }
  moves_of-spans x (Conditional rd width pc at v) h =
      record { from = no_span (memory_blocks p); to = program at (size_of width) (omega (arith, size_of-most width)) h.0 h.1 }
  moves_of-spans x (Fail rd pc) h = none (memory_blocks p)
  moves_of-spans x (Modify op rd width pc at v) h =
      let short : size_of width ≤ 64 = omega (arith, size_of-most width) in
      record { from = program at (size_of width) short h.0 h.1; to = program at (size_of width) short h.0 h.1 }
  moves_of-spans x Environment h = call_moves-spans (call_of x (calls_in p cpu n)) (call_of-fit x (calls_in p cpu n))
  moves_of-spans x (Trap cause) h = none (memory_blocks p)

-- ---- how many bytes

-- what is brought along and what is read are at most 64 bytes, and what is written of them is long enough
pub record IsEnough (e : Effect) (brought : List ℕ) (m : Moves) : Type 0 where
  pub most : length brought + m.from.len ≤ 64
  pub least : m.to.len ≤ outgoing_len e (length brought + m.from.len)

-- a call brings along and reads at most 64 bytes, and at least the bytes that it writes
record IsEnoughFor (brought : List ℕ) (m : Moves) : Type 0 where
  pub most : length brought + m.from.len ≤ 64
  pub least : m.to.len ≤ length brought + m.from.len

enough_none : IsEnoughFor [] no_moves
enough_none = record { most = omega arith; least = omega arith }

module _ (input : List ℕ) (c : CallState) (same : c.input_len ≡ length input) where
  call_enough : (k : Call) → IsFit c k → IsEnoughFor (call_brings input c k) (call_moves c k)
  unfolding call_brings call_moves
  call_enough (Answer v) f = enough_none
  call_enough (Exit v) f = enough_none
  call_enough (Break at) f = enough_none
  call_enough (Take at len) f =
      let l : length (take len (drop c.cursor input)) ≡ len =
      length-take-le len (drop c.cursor input) (omega (arith, length-drop c.cursor input, f.1)) in
      record { most = omega (arith, l, f.0.most); least = omega (arith, l) }
  call_enough (Give at len) f = record { most = omega (arith, f.0.most); least = omega arith }

  pub moves_of-enough : (x : List ℕ) (e : Effect) → IsEnough e (brings input x c e) (moves_of x c e)
  unfolding brings moves_of
  moves_of-enough x (Next pc) = record { most = omega arith; least = omega arith }
  moves_of-enough x (Set rd pc v) = record { most = omega arith; least = omega arith }
  moves_of-enough x (Read rd width extend pc at) = record { most = omega (arith, size_of-most width); least = omega arith }
  moves_of-enough x (Write width pc at v) =
      let l = length-number_bytes width v in
      record { most = omega (arith, l, size_of-most width); least = omega (arith, l) }
  moves_of-enough x (Reserve rd width pc at) = record { most = omega (arith, size_of-most width); least = omega arith }
  moves_of-enough x (Conditional rd width pc at v) =
      let l = length-number_bytes width v in
      record { most = omega (arith, l, size_of-most width); least = omega (arith, l) }
  moves_of-enough x (Fail rd pc) = record { most = omega arith; least = omega arith }
  moves_of-enough x (Modify op rd width pc at v) = record { most = omega (arith, size_of-most width); least = omega arith }
  moves_of-enough x Environment =
      let enough = call_enough (call_of x c) (call_of-fit x c) in
      record { most = enough.most; least = enough.least }
  moves_of-enough x (Trap cause) = record { most = omega arith; least = omega arith }
