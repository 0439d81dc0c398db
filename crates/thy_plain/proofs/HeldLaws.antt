-- A state as the plain machine keeps it: an effect of one of its harts is that effect of the state with this hart in front.
use Rattle.std.proofs.Common.{◌≡◌, ◌≢◌, ◌≤◌, ◌<◌, ℕ, zero, suc, List, length, nat_lt, true, refl, ap, sym, ◌∙◌, arith}
use Rattle.std.proofs.lemmas.Bool.Decides.{nat_tests}
use Rattle.thy_block.specs.Bytes.{bytes_of}
use Rattle.thy_isa.specs.declared.state.CallState.{CallState}
use Rattle.thy_isa.specs.declared.state.CpuState.{CpuState}
use Rattle.thy_isa.specs.declared.state.Effect.{Effect}
use Rattle.thy_isa.specs.declared.state.Effect.TheVariants.{Environment}
use Rattle.thy_isa.specs.Step.{State, Setting, state_with, call_state_of, call_at, memory_served, console_served, memory_by, console_by, read_by, finished, performed, fronted, step, step_of}
use Rattle.thy_isa.proofs.HartLaws.{step_of-alone}
use Rattle.thy_plain.specs.declared.held.Held.{Held}
use Rattle.thy_plain.specs.Machine.{stepped, stepped_by}
use Rattle.thy_plain.specs.Held.{IsSeat, any_calls, state_at, taken}
use Rattle.thy_isa.specs.Processor.{ProcessorState, processor_finished, cpu_at}
use Rattle.thy_isa.proofs.ProcessorLaws.{finished-harts, finished-front, finished-as_cpu, crossed-as_cpu, alone-few}

-- an effect leaves each hart where it is
pub seat-kept : (h : ℕ) (p q : ProcessorState) (e : Effect) (n : ℕ) (c : CallState) → IsSeat h p → q ≡ processor_finished h p e n c → IsSeat h q
seat-kept h p q e n c seat is =
    let same : length q.harts ≡ length p.harts = ap (λ (r : ProcessorState). length r.harts) is ∙ finished-harts h p e n c in
    (omega (arith, same, seat.0), omega (arith, same, seat.1))

-- an effect that is no environment call
pub taken-is : (h : ℕ) (m : Held) (q : ProcessorState) (e : Effect) (n : ℕ) → IsSeat h m.processor → e ≢ Environment
    → q ≡ processor_finished h m.processor e n any_calls → state_at h (record m { processor = q }) ≡ taken (state_at h m) e n
taken-is h m q e n seat alone is =
    let len : ℕ = length (bytes_of m.console) in
    ap (λ (c : CpuState). state_with c (bytes_of m.memory) (bytes_of m.console))
    (ap (cpu_at h len) is ∙ finished-front h len m.processor e n any_calls seat.1 seat.0 alone)

-- an environment call
pub served-is : (h : ℕ) (g : Setting) (m after : Held) (p : ProcessorState) (calls : CallState) → IsSeat h m.processor
    → calls ≡ call_state_of g (state_at h m) → p ≡ m.processor → after.processor ≡ processor_finished h p Environment 0 calls
    → bytes_of after.memory ≡ memory_served g (state_at h m) (call_at g (state_at h m))
    → bytes_of after.console ≡ console_served g (state_at h m) (call_at g (state_at h m))
    → state_at h after ≡ performed g (state_at h m) Environment
unfolding performed memory_by console_by read_by
served-is h g m after p calls seat are same is memory console =
    let s : State = state_at h m in
    let now : CallState = call_state_of g s in
    let done : CpuState = finished (cpu_at h (length (bytes_of m.console)) m.processor) Environment 0 now in
    ap (λ (q : ProcessorState). state_with (cpu_at h (length (bytes_of after.console)) q) (bytes_of after.memory) (bytes_of after.console))
    (is ∙ ap (λ (q : ProcessorState). processor_finished h q Environment 0 calls) same ∙ ap (processor_finished h m.processor Environment 0) are)
    ∙ ap (λ (c : CpuState). state_with c (bytes_of after.memory) (bytes_of after.console))
    (finished-as_cpu h m.processor Environment 0 now seat.1 seat.0)
    ∙ ap (λ (l : List ℕ). state_with done l (bytes_of after.console)) memory
    ∙ ap (λ (l : List ℕ). state_with done (memory_served g s (call_at g s)) l) console

-- ---- the hart in front

-- a hart that is there
pub front-there : (h : ℕ) (m : Held) → h ≤ 1 → IsSeat h m.processor → state_at h m ≡ fronted h (state_at 0 m)
front-there zero m few seat = refl
front-there (suc zero) m few seat =
    let two : length m.processor.harts ≡ 2 = omega (arith, seat.0, seat.1) in
    sym (ap (λ (c : CpuState). state_with c (bytes_of m.memory) (bytes_of m.console)) (crossed-as_cpu (length (bytes_of m.console)) m.processor two).0)
front-there (suc (suc h)) m few seat = absurd (omega (arith, few))

-- hart 0 comes back in front of it
pub front-back : (h : ℕ) (m : Held) → h ≤ 1 → IsSeat h m.processor → fronted h (state_at h m) ≡ state_at 0 m
front-back zero m few seat = refl
front-back (suc zero) m few seat =
    let two : length m.processor.harts ≡ 2 = omega (arith, seat.0, seat.1) in
    ap (λ (c : CpuState). state_with c (bytes_of m.memory) (bytes_of m.console)) (crossed-as_cpu (length (bytes_of m.console)) m.processor two).1
front-back (suc (suc h)) m few seat = absurd (omega (arith, few))

-- ---- a machine after a step of a hart

-- that is there
pub stepped-there : (h : ℕ) (g : Setting) (m after : Held) → h ≤ 1 → IsSeat h m.processor → IsSeat h after.processor
    → state_at h after ≡ step g (state_at h m)
    → record { setting = g; state = state_at 0 after } ≡ stepped_by h (record { setting = g; state = state_at 0 m })
unfolding step_of
stepped-there h g m after few seat still is =
    ap (λ (s : State). record { setting = g; state = s })
    (sym (front-back h after few still) ∙ ap (fronted h) (is ∙ ap (step g) (front-there h m few seat)))

-- that is hart 0, or is not there
pub stepped-first : (h : ℕ) (g : Setting) (m : Held) → h ≤ 1 → IsSeat 0 m.processor → (0 < h → length m.processor.harts ≤ h)
    → stepped (record { setting = g; state = state_at 0 m }) ≡ stepped_by h (record { setting = g; state = state_at 0 m })
unfolding step_of
stepped-first zero g m few seat none = refl
stepped-first (suc h) g m few seat none =
    let one : nat_lt (length m.processor.harts) 2 ≡ true = grind (arith, nat_tests, none (omega arith), few) in
    ap (λ (s : State). record { setting = g; state = s })
    (sym (step_of-alone g (suc h) (state_at 0 m) (alone-few 0 m.processor.harts seat.0 seat.1 one)))
