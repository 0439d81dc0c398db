-- The entries of a slot, that a record which was written has no fault, and what one without a fault says.
use Rattle.std.proofs.Common.{◌≡◌, ℕ, ◌+◌, ◌<◌, ◌≤◌, nat_lt, nat_le, List, length, None, sym, ◌∙◌, ap, subst, arith}
use Rattle.std.proofs.lemmas.Bool.{eq-eqb, lt-ltb, ltb-true, le-leb, leb-true, and_from}
use Rattle.std.proofs.lemmas.List.FromFn.{length-map-range_with_len, get_or-map-range_with_len}
use Rattle.thy_block.specs.declared.block.Block.{Block}
use Rattle.thy_block.specs.declared.parameters.Parameters.{Parameters}
use Rattle.thy_block.specs.Geometry.{console_room}
use Rattle.thy_isa.specs.declared.state.CpuState.{CpuState}
use Rattle.thy_layout.specs.Cpu.{status_tag, is_status, record_word, cpu_of_record, BeginsWithRecord, FitsRecord, IsRecordable}
use Rattle.thy_layout.specs.Entries.{entry_at, entry_from}
use Rattle.thy_layout.specs.Slots.{entries_in, epoch_fault, status_fault, second_fault, cpu_fault}
use Rattle.thy_layout.proofs.ReadBackLemmas.{taken, rest_back, epoch_back, second-back}
use Rattle.thy_layout.proofs.AskingLemmas.{status_asks}
use Rattle.thy_layout.proofs.EntryFaultLemmas.{neither, both_none}

module _ (slot : List Block) (first n : ℕ) where
  pub length-entries_in : length (entries_in slot first n) ≡ n
  length-entries_in = length-map-range_with_len (λ i. entry_from (record_word slot (first + i))) 0 n

  pub entry_at-entries_in : (i : ℕ) → i < n → entry_at (entries_in slot first n) i ≡ entry_from (record_word slot (first + i))
  entry_at-entries_in i l = get_or-map-range_with_len (λ i. entry_from (record_word slot (first + i))) 0 n i i None l (omega arith)

pub epoch_fault-back : (p : Parameters) (cpu : CpuState) (epoch : ℕ) (slot : List Block)
    → FitsRecord p cpu epoch → BeginsWithRecord p cpu epoch slot → epoch_fault epoch slot ≡ None
epoch_fault-back p cpu epoch slot fits of = taken _ _ _ (eq-eqb _ _ (epoch_back p cpu epoch slot fits of))

pub status_fault-back : (p : Parameters) (ceiling : ℕ) (cpu : CpuState) (epoch : ℕ) (slot : List Block)
    → IsRecordable p ceiling cpu → FitsRecord p cpu epoch → BeginsWithRecord p cpu epoch slot → status_fault p ceiling slot ≡ None
status_fault-back p ceiling cpu epoch slot r fits of =
    let rest = λ (j : ℕ) (small : j < 8). rest_back p cpu epoch slot j fits of small in
    taken _ _ _ (and_from _ _
    (ap (λ t. is_status t (record_word slot 37)) (rest 4 (omega arith)) ∙ ap (is_status (status_tag cpu.status)) (rest 5 (omega arith)) ∙ r.status)
    (lt-ltb _ _ (subst (λ x. x < ceiling) (sym (rest 0 (omega arith))) r.count)))
    ∙ taken _ _ _ (le-leb _ _ (subst (λ x. x ≤ console_room p) (sym (rest 2 (omega arith))) r.console))

pub second_fault-back : (p : Parameters) (cpu : CpuState) (epoch : ℕ) (slot : List Block)
    → FitsRecord p cpu epoch → BeginsWithRecord p cpu epoch slot → second_fault p slot ≡ None
second_fault-back p cpu epoch slot fits of = taken _ _ _ (second-back p cpu epoch slot fits of)

pub cpu_fault-back : (p : Parameters) (ceiling : ℕ) (cpu : CpuState) (epoch : ℕ) (slot : List Block)
    → IsRecordable p ceiling cpu → FitsRecord p cpu epoch → BeginsWithRecord p cpu epoch slot → cpu_fault p ceiling slot ≡ None
cpu_fault-back p ceiling cpu epoch slot r fits of =
    both_none _ _ (status_fault-back p ceiling cpu epoch slot r fits of) (second_fault-back p cpu epoch slot fits of)

-- a processor without a fault has a count and a console that fit
pub fits_cpu : (p q : Parameters) (ceiling : ℕ) (slot : List Block) → cpu_fault p ceiling slot ≡ None
    → ((cpu_of_record q slot).count < ceiling) × ((cpu_of_record q slot).console_len ≤ console_room p)
unfolding cpu_of_record
fits_cpu p q ceiling slot none =
    let status = (neither (status_fault p ceiling slot) (second_fault p slot) none).0 in
    let passed = status_asks (is_status (record_word slot 36) (record_word slot 37)) (nat_lt (record_word slot 32) ceiling)
    (nat_le (record_word slot 34) (console_room p)) status in
    (ltb-true (record_word slot 32) ceiling passed.1, leb-true (record_word slot 34) (console_room p) passed.2)
