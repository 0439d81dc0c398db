-- What a copy, and the write of a block of a page, make of controller and NVM, as the position that is next.
use Rattle.std.proofs.Common.{◌≡◌, ℕ, true, false, is_some, Option, Some, None, refl, sym, ◌∙◌, ap, subst, inl, inr}
use Rattle.thy_block.specs.Device.{Device, written_to, HasFailedToWrite}
use Rattle.thy_block.proofs.DeviceLemmas.{no_more-with_queued}
use Rattle.thy_table.specs.declared.place.Place.{Place}
use Rattle.thy_table.specs.Places.{in_dram, number_of}
use Rattle.thy_table.specs.Devices.{devices_of}
use Rattle.thy_table.specs.Cells.{seat_of, frame_at, target, last}
use Rattle.thy_computer.specs.Action.{after, FailsTo}
use Rattle.thy_control.specs.Copies.{next_copy, block_listed, devices_copied, after_next_copy, devices_after_copy, FailsNextCopy}
use Rattle.thy_control.specs.Moves.{FailsMove}
use Rattle.thy_control.specs.Pages.{next_page, block_to_write, devices_issued, after_next_write, devices_after_write, FailsNextWrite}
use Rattle.thy_control.specs.Positions.{position_by, next_position}
use Rattle.thy_control.specs.State.{State, cell_of, reads}
use Rattle.thy_thynvm_parts.specs.Design.{block_by, source_by, action_next, written_by, written_next}
use Rattle.thy_thynvm_parts.proofs.HeldLemmas.{written-nvm, target-in_nvm}
use Rattle.thy_thynvm_parts.proofs.ItemLemmas.{copied_is, issued_is}

-- a move that failed may have written its target
move_fails : (s : State) (from to : Place) (m n : Device) → FailsMove s.p from to (devices_of m s.dram) (devices_of n s.dram)
    → HasFailedToWrite (number_of s.p to) (reads s m from) m n
move_fails s from to m n f = elim f.failed as (λ _. HasFailedToWrite (number_of s.p to) (reads s m from) m n) [
  | inl r ↦ record {
    down = r.failed.down;
    no_more = λ x b h. no_more-with_queued m (number_of s.p to) (reads s m from) x b (r.failed.no_more x b h);
    counts = r.failed.counts;
  }
  | inr w ↦ w.failed
]

-- the NVM after a write of the place for these options
abbrev device_by : State → Device → Option ℕ → Option ℕ → Device
device_by s m i j = written_to m (number_of s.p (target (cell_of s (block_by s i j)))) (reads s m (source_by s i j))

abbrev FailsBy : State → Device → Device → Option ℕ → Option ℕ → Type 0
FailsBy s m n i j = HasFailedToWrite (number_of s.p (target (cell_of s (block_by s i j)))) (reads s m (source_by s i j)) m n

-- ---- a copy

pub some_copy : (s : State) → is_some (next_copy s) ≡ true → (i : ℕ) × (next_copy s ≡ Some i)
some_copy s h = by_next (next_copy s) refl h where
  by_next : (o : Option ℕ) → next_copy s ≡ o → is_some o ≡ true → (i : ℕ) × (next_copy s ≡ Some i)
  by_next None e is = cc
  by_next (Some i) e is = (i, e)

pub no_copy : (s : State) → is_some (next_copy s) ≡ false → next_copy s ≡ None
no_copy s h = by_next (next_copy s) refl h where
  by_next : (o : Option ℕ) → next_copy s ≡ o → is_some o ≡ false → next_copy s ≡ None
  by_next None e is = e
  by_next (Some i) e is = cc

module _ (s : State) (m : Device) where
  pub copy_state : (i : ℕ) → next_copy s ≡ Some i → after_next_copy (next_copy s) s m ≡ written_next s
  copy_state i found =
      ap (λ (o : Option ℕ). after_next_copy o s m) found ∙ copied_is (block_listed i s) s m
      ∙ sym (ap (λ (o : Option ℕ). written_by s o (next_page s)) found)

  pub copy_device : (i : ℕ) → next_copy s ≡ Some i → devices_after_copy (next_copy s) s m ≡ after m.writes (action_next s m) m
  unfolding devices_copied
  copy_device i found =
      let b : ℕ = block_listed i s in
      let y : Place = target (cell_of s b) in
      ap (λ (o : Option ℕ). devices_after_copy o s m) found
      ∙ written-nvm (in_dram y) (number_of s.p y) (reads s m (last (cell_of s b))) (devices_of m s.dram) (target-in_nvm s b)
      ∙ sym (ap (λ (o : Option ℕ). device_by s m o (next_page s)) found)

  pub copy_fails : (n : Device) → FailsNextCopy s m n → FailsTo (action_next s m) m n
  copy_fails n f =
      let b : ℕ = block_listed f.entry s in
      subst (λ (o : Option ℕ). FailsBy s m n o (next_page s)) (sym f.next) (move_fails s (last (cell_of s b)) (target (cell_of s b)) m n f.fails)

-- ---- a block of a page

pub some_page : (s : State) (k : ℕ) → next_copy s ≡ None → next_position s ≡ Some k → (j : ℕ) × (next_page s ≡ Some j)
some_page s k none next = by_next (next_page s) refl (sym (ap (λ (o : Option ℕ). position_by s o (next_page s)) none) ∙ next) where
  by_next : (o : Option ℕ) → next_page s ≡ o → position_by s None o ≡ Some k → (j : ℕ) × (next_page s ≡ Some j)
  by_next None e is = cc
  by_next (Some j) e is = (j, e)

pub page_state : (s : State) (m : Device) (j : ℕ) → next_copy s ≡ None → next_page s ≡ Some j
    → after_next_write (next_page s) s m ≡ written_next s
page_state s m j none found =
    ap (λ (o : Option ℕ). after_next_write o s m) found ∙ issued_is (block_to_write j s) s m
    ∙ sym (ap (λ (o : Option ℕ). written_by s o (next_page s)) none ∙ ap (λ (o : Option ℕ). written_by s None o) found)

pub page_device : (s : State) (m : Device) (j : ℕ) → next_copy s ≡ None → next_page s ≡ Some j
    → devices_after_write (next_page s) s m ≡ after m.writes (action_next s m) m
unfolding devices_issued
page_device s m j none found =
    let b : ℕ = block_to_write j s in
    let y : Place = target (cell_of s b) in
    ap (λ (o : Option ℕ). devices_after_write o s m) found
    ∙ written-nvm (in_dram y) (number_of s.p y) (reads s m (frame_at (seat_of (cell_of s b)))) (devices_of m s.dram) (target-in_nvm s b)
    ∙ sym (ap (λ (o : Option ℕ). device_by s m o (next_page s)) none ∙ ap (λ (o : Option ℕ). device_by s m None o) found)

pub page_fails : (s : State) (m n : Device) → next_copy s ≡ None → FailsNextWrite s m n → FailsTo (action_next s m) m n
page_fails s m n none f =
    let b : ℕ = block_to_write f.entry s in
    subst (λ (o : Option ℕ). FailsBy s m n o (next_page s)) (sym none)
    (subst (λ (o : Option ℕ). FailsBy s m n None o) (sym f.next)
    (move_fails s (frame_at (seat_of (cell_of s b))) (target (cell_of s b)) m n f.fails))
