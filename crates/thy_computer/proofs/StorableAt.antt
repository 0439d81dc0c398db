-- Every state of a run can be stored, and its processor recorded.
use Rattle.std.proofs.Common.{◌≡◌, ℕ, ◌^◌, ◌<◌, ◌≤◌, true, List, length, slice_index, Option, Some, None, is_some, refl, sym, ap, ◌∙◌, subst, inl, inr, arith}
use Rattle.std.proofs.lemmas.Bool.{true≢false, cases_lt}
use Rattle.std.proofs.lemmas.List.{get_or_past}
use Rattle.thy_block.specs.declared.block.Block.{Block}
use Rattle.thy_block.specs.declared.parameters.Parameters.{Parameters}
use Rattle.thy_block.specs.Geometry.{console_room, program_size}
use Rattle.thy_isa.specs.declared.state.CpuState.{CpuState}
use Rattle.thy_isa.specs.declared.state.OtherHart.{OtherHart}
use Rattle.thy_isa.specs.OnBlocks.{state_from}
use Rattle.thy_isa.specs.Step.{State}
use Rattle.thy_isa.specs.Storable.{IsOtherOf, IsStorable}
use Rattle.thy_isa.proofs.HartLaws.{step-harts, crossed-harts, crossed-storable}
use Rattle.thy_isa.proofs.StorableLaws.{step-storable}
use Rattle.thy_layout.specs.Cpu.{IsOtherRecordable, IsRecordable}
use Rattle.thy_layout.proofs.CpuLemmas.{is_status-of}
use Rattle.thy_computer.specs.Origin.{Origin, IsOrigin, setting_of, at}
use Rattle.thy_computer.specs.Safe.{ceiling}
use Rattle.thy_computer.proofs.TurnLaws.{at-holds}

pub at-storable : (o : Origin) (k : ℕ) → IsOrigin o → IsStorable (program_size o.geometry) (at o k)
at-storable o k h =
    at-holds (IsStorable (program_size o.geometry)) o (record {
      steps = λ s there. step-storable (setting_of o) (program_size o.geometry) s h.readable there;
      crosses = λ s there. crossed-storable (program_size o.geometry) s there;
    }) h.storable k

-- each state of a run has the start's number of harts
pub at-harts : (o : Origin) (k : ℕ) → is_some (at o k).other ≡ is_some o.start.other
at-harts o k =
    at-holds (λ s. is_some s.other ≡ is_some o.start.other) o (record {
      steps = λ s same. step-harts (setting_of o) s ∙ same;
      crosses = λ s same. crossed-harts s ∙ same;
    }) refl k

recordable_other : (p : Parameters) (a b : Option OtherHart) → IsOtherOf a → is_some a ≡ is_some b → IsOtherRecordable p b
    → IsOtherRecordable p a
recordable_other p None None there same h = h
recordable_other p None (Some b) there same h = absurd (true≢false (sym same))
recordable_other p (Some a) None there same h = absurd (true≢false same)
recordable_other p (Some a) (Some b) there same h = (h.0, there)

-- the other hart of each state of a run can be recorded
pub at-other : (o : Origin) (k : ℕ) → IsOrigin o → IsOtherRecordable o.geometry (at o k).other
at-other o k h =
    recordable_other o.geometry (at o k).other o.start.other (at-storable o k h).other (at-harts o k) h.recordable.other

recordable_there : (p : Parameters) (cpu : CpuState) (memory : List Block) (size : ℕ) → IsStorable size (state_from p cpu memory)
    → IsOtherRecordable p cpu.other
    → cpu.console_len ≤ console_room p → cpu.count < ceiling → IsRecordable p ceiling cpu
unfolding state_from
recordable_there p cpu memory size there other console count = record {
  pc = there.pc;
  regs_length = there.registers;
  regs_zero = there.zero_register;
  regs = λ i. elim (cases_lt i (length cpu.regs)) as (λ _. slice_index cpu.regs i < 2 ^ 64) [
    | inl l ↦ there.numbers i 0 l
    | inr l ↦ let past : slice_index cpu.regs i ≡ 0 = get_or_past cpu.regs i 0 l in omega arith
  ];
  console = console;
  cursor = there.cursor;
  brk = there.brk;
  floor = there.floor;
  count = count;
  status = is_status-of cpu.status there.status;
  other = other;
}

other_from : (p : Parameters) (cpu : CpuState) (memory : List Block) → (state_from p cpu memory).other ≡ cpu.other
unfolding state_from
other_from p cpu memory = refl

-- a processor that makes a state of the run can be recorded if its console and its count fit
pub IsRecordable-at : (o : Origin) (k : ℕ) (cpu : CpuState) (memory : List Block) → IsOrigin o → state_from o.geometry cpu memory ≡ at o k
    → cpu.console_len ≤ console_room o.geometry → cpu.count < ceiling → IsRecordable o.geometry ceiling cpu
IsRecordable-at o k cpu memory origin is console count =
    recordable_there o.geometry cpu memory (program_size o.geometry)
    (subst (IsStorable (program_size o.geometry)) (sym is) (at-storable o k origin))
    (subst (IsOtherRecordable o.geometry) (sym (sym (other_from o.geometry cpu memory) ∙ ap (λ (s : State). s.other) is)) (at-other o k origin))
    console count
