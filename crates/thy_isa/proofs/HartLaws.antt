-- The hart in front: what it means to put the other one there, and a step of a hart.
use Rattle.std.proofs.Common.{◌≡◌, ℕ, zero, suc, false, Option, Some, None, is_some, refl, ap, ◌∙◌}
use Rattle.std.proofs.lemmas.Bool.{true≢false}
use Rattle.thy_isa.specs.declared.state.CallState.{CallState}
use Rattle.thy_isa.specs.declared.state.Call.{Call}
use Rattle.thy_isa.specs.declared.state.Call.TheVariants.{Answer, Exit, Break, Take, Give}
use Rattle.thy_isa.specs.declared.state.CpuState.{CpuState}
use Rattle.thy_isa.specs.declared.state.Effect.{Effect}
use Rattle.thy_isa.specs.declared.state.Effect.TheVariants.{Next, Set, Read, Write, Reserve, Conditional, Fail, Modify, Environment, Trap}
use Rattle.thy_isa.specs.declared.state.OtherHart.{OtherHart}
use Rattle.thy_isa.specs.declared.state.Reservation.{Reservation}
use Rattle.thy_isa.specs.declared.state.Reservation.TheVariants.{Nothing}
use Rattle.thy_isa.specs.Calls.{call_of}
use Rattle.thy_isa.specs.Effects.{size_of}
use Rattle.thy_isa.specs.Reservations.{reservation, written_past, reserving}
use Rattle.thy_isa.specs.Laws.{CrossedTwice, BlocksCross, KeepsHarts, OneHartSteps, CrossingKeepsStorable}
use Rattle.thy_isa.specs.OnBlocks.{state_from}
use Rattle.thy_isa.specs.Step.{State, Setting, crossed, fronted, step_of, call_state_of, cpu_of, effect_at, read_by, served, finished, performed, advanced, is_running, step}
use Rattle.thy_isa.specs.Storable.{IsStorable}
use Rattle.thy_isa.proofs.StorableLaws.{if_state}

-- a state with this other hart
abbrev with_other : State → Option OtherHart → State
with_other s o = record s { other = o }

twice_with : (s : State) (o : Option OtherHart) → crossed (crossed (with_other s o)) ≡ with_other s o
twice_with s None = refl
twice_with s (Some o) = refl

pub crossed-twice : CrossedTwice
crossed-twice s = twice_with s s.other

pub blocks-cross : BlocksCross
unfolding state_from
blocks-cross p cpu blocks = refl

storable_with : (size : ℕ) (s : State) (o : Option OtherHart) → IsStorable size (with_other s o) → IsStorable size (crossed (with_other s o))
storable_with size s None h = h
storable_with size s (Some o) h = record {
  pc = h.other.pc;
  registers = h.other.registers;
  numbers = h.other.numbers;
  zero_register = h.other.zero_register;
  memory_size = h.memory_size;
  memory = h.memory;
  console = h.console;
  cursor = h.cursor;
  brk = h.brk;
  floor = h.floor;
  status = h.status;
  other = record {
    pc = h.pc;
    registers = h.registers;
    numbers = h.numbers;
    zero_register = h.zero_register;
    front = h.other.back;
    back = h.other.front;
  };
}

pub crossed-storable : CrossingKeepsStorable
crossed-storable size s h = storable_with size s s.other h

-- ---- how many harts there are

crossed_with : (s : State) (o : Option OtherHart) → is_some (crossed (with_other s o)).other ≡ is_some o
crossed_with s None = refl
crossed_with s (Some o) = refl

pub crossed-harts : (s : State) → is_some (crossed s).other ≡ is_some s.other
crossed-harts s = crossed_with s s.other

fronted-harts : (hart : ℕ) (s : State) → is_some (fronted hart s).other ≡ is_some s.other
fronted-harts zero s = refl
fronted-harts (suc hart) s = crossed-harts s

written-harts : (at len : ℕ) (o : Option OtherHart) → is_some (written_past at len o) ≡ is_some o
written-harts at len None = refl
written-harts at len (Some o) = refl

reserving-harts : (r : Reservation) (o : Option OtherHart) → is_some (reserving r o) ≡ is_some o
reserving-harts r None = refl
reserving-harts r (Some o) = refl

served-harts : (c : CpuState) (call : Call) → is_some (served c call).other ≡ is_some c.other
unfolding served
served-harts c (Answer v) = refl
served-harts c (Exit v) = refl
served-harts c (Break at) = refl
served-harts c (Take at len) = written-harts at len c.other
served-harts c (Give at len) = refl

finished-harts : (c : CpuState) (e : Effect) (number : ℕ) (calls : CallState) → is_some (finished c e number calls).other ≡ is_some c.other
unfolding finished
finished-harts c (Next pc) number calls = refl
finished-harts c (Set rd pc v) number calls = refl
finished-harts c (Read rd width extend pc at) number calls = refl
finished-harts c (Write width pc at v) number calls = written-harts at (size_of width) c.other
finished-harts c (Reserve rd width pc at) number calls = reserving-harts (reservation width at) c.other
finished-harts c (Conditional rd width pc at v) number calls =
    reserving-harts (Nothing 0) (written_past at (size_of width) c.other) ∙ written-harts at (size_of width) c.other
finished-harts c (Fail rd pc) number calls = reserving-harts (Nothing 0) c.other
finished-harts c (Modify op rd width pc at v) number calls = written-harts at (size_of width) c.other
finished-harts c Environment number calls = served-harts c (call_of c.regs calls)
finished-harts c (Trap cause) number calls = refl

advanced-harts : (g : Setting) (s : State) → is_some (advanced g s).other ≡ is_some s.other
unfolding advanced performed
advanced-harts g s =
    let e = effect_at g.base s in
    finished-harts (cpu_of s) e (read_by g.base s.memory e) (call_state_of g s)

pub step-harts : (g : Setting) (s : State) → is_some (step g s).other ≡ is_some s.other
unfolding step
step-harts g s =
    if_state (λ t. is_some t.other ≡ is_some s.other) (is_running s.status) (advanced g s) s (advanced-harts g s) refl

pub step_of-harts : KeepsHarts
unfolding step_of
step_of-harts g hart s =
    fronted-harts hart (step g (fronted hart s)) ∙ step-harts g (fronted hart s) ∙ fronted-harts hart s

-- ---- one hart

none_of : (o : Option OtherHart) → is_some o ≡ false → o ≡ None
none_of None e = refl
none_of (Some o) e = absurd (true≢false e)

alone_with : (s : State) (o : Option OtherHart) → o ≡ None → crossed (with_other s o) ≡ with_other s o
alone_with s None e = refl
alone_with s (Some o) e = absurd (true≢false (ap is_some e))

pub crossed-alone : (s : State) → s.other ≡ None → (crossed s).other ≡ None
crossed-alone s e = ap (λ (t : State). t.other) (alone_with s s.other e) ∙ e

pub step-alone : (g : Setting) (s : State) → s.other ≡ None → (step g s).other ≡ None
step-alone g s e = none_of (step g s).other (step-harts g s ∙ ap is_some e)

fronted-alone : (hart : ℕ) (s : State) → s.other ≡ None → fronted hart s ≡ s
fronted-alone zero s e = refl
fronted-alone (suc hart) s e = alone_with s s.other e

pub step_of-alone : OneHartSteps
unfolding step_of
step_of-alone g hart s e =
    ap (λ (t : State). fronted hart (step g t)) (fronted-alone hart s e)
    ∙ fronted-alone hart (step g s) (step-alone g s e)
