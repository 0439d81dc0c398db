-- Two processors that `==` finds the same are.
use Rattle.std.proofs.Common.{◌≡◌, ℕ, true, List, Option, Some, None, refl, ◌∙◌, ap}
use Rattle.std.proofs.lemmas.Bool.{and_parts, eqb-true}
use Rattle.std.proofs.lemmas.Bool.Decides.{Decides-eqb}
use Rattle.std.proofs.lemmas.Slice.Eq.{slice_eq-Decides}
use Rattle.std.specs.Option.{option_eq}
use Rattle.thy_isa.specs.contracts.state.CpuStatePartialEq.TheImpl as cpu
use Rattle.thy_isa.specs.contracts.state.OtherHartPartialEq.TheImpl as hart
use Rattle.thy_isa.specs.contracts.state.ReservationPartialEq.TheImpl as reservation
use Rattle.thy_isa.specs.contracts.state.StatusPartialEq.TheImpl as status
use Rattle.thy_isa.specs.declared.state.CpuState.{CpuState}
use Rattle.thy_isa.specs.declared.state.OtherHart.{OtherHart}
use Rattle.thy_isa.specs.declared.state.Reservation.{Reservation}
use Rattle.thy_isa.specs.declared.state.Reservation.TheVariants.{Nothing, Word, Double}
use Rattle.thy_isa.specs.declared.state.Status.{Status}
use Rattle.thy_isa.specs.declared.state.Status.TheVariants.{Running, Exited, Trapped}

same_status : (a b : Status) → (status.ghosts).eq a b ≡ true → a ≡ b
same_status Running Running e = refl
same_status Running (Exited v) e = absurd (cc)
same_status Running (Trapped v) e = absurd (cc)
same_status (Exited v) Running e = absurd (cc)
same_status (Exited v) (Exited w) e = ap Exited (eqb-true v w e)
same_status (Exited v) (Trapped w) e = absurd (cc)
same_status (Trapped v) Running e = absurd (cc)
same_status (Trapped v) (Exited w) e = absurd (cc)
same_status (Trapped v) (Trapped w) e = ap Trapped (eqb-true v w e)

same_reservation : (a b : Reservation) → (reservation.ghosts).eq a b ≡ true → a ≡ b
same_reservation (Nothing v) (Nothing w) e = ap Nothing (eqb-true v w e)
same_reservation (Nothing v) (Word w) e = absurd (cc)
same_reservation (Nothing v) (Double w) e = absurd (cc)
same_reservation (Word v) (Nothing w) e = absurd (cc)
same_reservation (Word v) (Word w) e = ap Word (eqb-true v w e)
same_reservation (Word v) (Double w) e = absurd (cc)
same_reservation (Double v) (Nothing w) e = absurd (cc)
same_reservation (Double v) (Word w) e = absurd (cc)
same_reservation (Double v) (Double w) e = ap Double (eqb-true v w e)

abbrev hart_from : ℕ → List ℕ → Reservation → Reservation → OtherHart
hart_from pc regs front back = record { pc = pc; regs = regs; front = front; back = back }

same_hart : (a b : OtherHart) → (hart.ghosts).eq a b ≡ true → a ≡ b
same_hart a b e =
    let one = and_parts _ _ e in
    let two = and_parts _ _ one.1 in
    let three = and_parts _ _ two.1 in
    let pc : a.pc ≡ b.pc = eqb-true a.pc b.pc one.0 in
    let regs : a.regs ≡ b.regs = (slice_eq-Decides Decides-eqb a.regs b.regs _ refl).0 two.0 in
    let front : a.front ≡ b.front = same_reservation a.front b.front three.0 in
    let back : a.back ≡ b.back = same_reservation a.back b.back three.1 in
    ap (λ x. hart_from x a.regs a.front a.back) pc ∙ ap (λ x. hart_from b.pc x a.front a.back) regs
    ∙ ap (λ x. hart_from b.pc b.regs x a.back) front ∙ ap (λ x. hart_from b.pc b.regs b.front x) back

same_other : (a b : Option OtherHart) → option_eq (hart.ghosts).eq a b ≡ true → a ≡ b
same_other None None e = refl
same_other None (Some b) e = absurd (cc)
same_other (Some a) None e = absurd (cc)
same_other (Some a) (Some b) e = ap Some (same_hart a b e)

abbrev cpu_from : ℕ → List ℕ → ℕ → ℕ → ℕ → ℕ → ℕ → Status → Option OtherHart → CpuState
cpu_from pc regs console_len cursor brk floor count status other = record {
  pc = pc;
  regs = regs;
  console_len = console_len;
  cursor = cursor;
  brk = brk;
  floor = floor;
  count = count;
  status = status;
  other = other;
}

pub same_cpu : (a b : CpuState) → (cpu.ghosts).eq a b ≡ true → a ≡ b
same_cpu a b e =
    let one = and_parts _ _ e in
    let two = and_parts _ _ one.1 in
    let three = and_parts _ _ two.1 in
    let four = and_parts _ _ three.1 in
    let five = and_parts _ _ four.1 in
    let six = and_parts _ _ five.1 in
    let seven = and_parts _ _ six.1 in
    let eight = and_parts _ _ seven.1 in
    let pc : a.pc ≡ b.pc = eqb-true a.pc b.pc one.0 in
    let regs : a.regs ≡ b.regs = (slice_eq-Decides Decides-eqb a.regs b.regs _ refl).0 two.0 in
    let console_len : a.console_len ≡ b.console_len = eqb-true a.console_len b.console_len three.0 in
    let cursor : a.cursor ≡ b.cursor = eqb-true a.cursor b.cursor four.0 in
    let brk : a.brk ≡ b.brk = eqb-true a.brk b.brk five.0 in
    let floor : a.floor ≡ b.floor = eqb-true a.floor b.floor six.0 in
    let count : a.count ≡ b.count = eqb-true a.count b.count seven.0 in
    let status : a.status ≡ b.status = same_status a.status b.status eight.0 in
    let other : a.other ≡ b.other = same_other a.other b.other eight.1 in
    ap (λ x. cpu_from x a.regs a.console_len a.cursor a.brk a.floor a.count a.status a.other) pc
    ∙ ap (λ x. cpu_from b.pc x a.console_len a.cursor a.brk a.floor a.count a.status a.other) regs
    ∙ ap (λ x. cpu_from b.pc b.regs x a.cursor a.brk a.floor a.count a.status a.other) console_len
    ∙ ap (λ x. cpu_from b.pc b.regs b.console_len x a.brk a.floor a.count a.status a.other) cursor
    ∙ ap (λ x. cpu_from b.pc b.regs b.console_len b.cursor x a.floor a.count a.status a.other) brk
    ∙ ap (λ x. cpu_from b.pc b.regs b.console_len b.cursor b.brk x a.count a.status a.other) floor
    ∙ ap (λ x. cpu_from b.pc b.regs b.console_len b.cursor b.brk b.floor x a.status a.other) count
    ∙ ap (λ x. cpu_from b.pc b.regs b.console_len b.cursor b.brk b.floor b.count x a.other) status
    ∙ ap (λ x. cpu_from b.pc b.regs b.console_len b.cursor b.brk b.floor b.count b.status x) other
