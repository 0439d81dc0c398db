-- The start of a test can be recorded, and what cuts leave of room and DRAM.
use Rattle.std.proofs.Common.{◌≡◌, ℕ, ◌+◌, ◌^◌, ◌≤◌, ◌<◌, inl, inr, replicate, slice_index, List, [], ◌∷◌, length, sym, ◌∙◌, ap, subst, arith}
use Rattle.std.proofs.lemmas.Bool.{cases_lt}
use Rattle.std.proofs.lemmas.List.{length-replicate, get_or-replicate, get_or_past}
use Rattle.thy_block.specs.declared.parameters.Parameters.{Parameters}
use Rattle.thy_block.specs.Device.{Device, IsFramed}
use Rattle.thy_block.specs.Geometry.{IsInRange}
use Rattle.thy_isa.specs.declared.state.Status.{Status}
use Rattle.thy_isa.specs.Step.{State as Plain}
use Rattle.thy_layout.specs.Cpu.{status_tag, status_value, is_status, IsOtherRecordable}
use Rattle.thy_checkpoint.specs.Start.{CanStart}
use Rattle.thy_machine_tests.specs.Least.{HasRoom}
use Rattle.thy_test_support.specs.Starts.{IsLeastStart}

-- the start of a test fits the least memory, and can be recorded
pub CanStart-least : (p : Parameters) (s : Plain) → IsInRange p → p.pages ≡ 8 → p.console ≡ 1 → p.harts ≡ 1 → IsLeastStart s → CanStart p s
CanStart-least p s range pages room one h = record {
  geometry = range;
  start = record {
    regs = ap length h.regs ∙ length-replicate {A = ℕ} 32 0;
    memory = (let size = h.memory in grind (arith, pages, room, size));
    console = (let size = h.console in grind (arith, room, size));
  };
  recordable = record {
    pc = (let e = h.pc in omega (arith, e));
    regs_length = ap length h.regs ∙ length-replicate {A = ℕ} 32 0;
    regs_zero = ap (λ (xs : List ℕ). slice_index xs 0) h.regs;
    regs = λ i. subst (λ (xs : List ℕ). slice_index xs i < 2 ^ 64) (sym h.regs) (zero_below i);
    console = (let size = h.console in grind (arith, room, size));
    cursor = (let e = h.cursor in omega (arith, e));
    brk = (let e = h.brk in omega (arith, e));
    floor = (let e = h.floor in omega (arith, e));
    count = (let e = h.count in omega (arith, e));
    status = ap (λ (x : Status). is_status (status_tag x) (status_value x)) h.status;
    other = subst (IsOtherRecordable p) (sym h.alone) (λ two. omega (arith, one, two));
  };
} where
  zero_below : (i : ℕ) → slice_index (replicate 32 0) i < 2 ^ 64
  zero_below i = elim (cases_lt i 32) as (λ _. slice_index (replicate 32 0) i < 2 ^ 64) [
    | inl inside ↦ let e : slice_index (replicate 32 0) i ≡ 0 = get_or-replicate 32 i 0 0 inside in omega (arith, e)
    | inr past ↦
        let size : length (replicate {A = ℕ} 32 0) ≡ 32 = length-replicate {A = ℕ} 32 0 in
        let e : slice_index (replicate 32 0) i ≡ 0 = get_or_past (replicate 32 0) i 0 (omega (arith, size, past)) in omega (arith, e)
  ]

-- the room for cuts stays but for a cut
pub HasRoom-framed : (m n : Device) (cuts : ℕ) → HasRoom m cuts → IsFramed m n → HasRoom n cuts
HasRoom-framed m n cuts room frame =
    subst (λ (k : ℕ). length n.left + cuts ≤ k) (sym frame.left_room)
    (subst (λ l. length l + cuts ≤ m.left_room) (sym frame.left) room)
