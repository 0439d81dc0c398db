-- What the writes of the body and the stores act, from what the controller's calls ensure.
use Rattle.std.proofs.Common.{◌≡◌, ℕ, Bool, true, false, Option, None, is_some, Result, Ok, Err, IsErr, OnOk, OnErr, sym, ◌∙◌, ap, subst}
use Rattle.thy_block.specs.declared.block.Block.{Block}
use Rattle.thy_block.specs.declared.nvm.NvmError.{NvmError}
use Rattle.thy_block.specs.declared.store.Stored.{Stored}
use Rattle.thy_block.specs.Counts.{Rose}
use Rattle.thy_block.specs.Device.{Device, IsFramed, CountsFault}
use Rattle.thy_computer.specs.Action.{Action, IsAfter, FailsTo}
use Rattle.thy_computer.proofs.ActionLemmas.{access-leaves}
use Rattle.thy_control.specs.Copies.{next_copy, after_next_copy, devices_after_copy}
use Rattle.thy_table.specs.declared.cell.Cell.{Cell}
use Rattle.thy_table.specs.declared.cell.StoreRule.{StoreRule}
use Rattle.thy_table.specs.Rules.{store_place}
use Rattle.thy_table.specs.Store.{put_by}
use Rattle.thy_table.specs.declared.place.Place.{Place}
use Rattle.thy_table.specs.Places.{in_dram, number_of}
use Rattle.thy_control.specs.Rules.{rule_for, cell_before, devices_after, state_after, FailsStore}
use Rattle.thy_control.specs.State.{State, reads}
use Rattle.thy_control.proofs.PutLemmas.{put_by-reads}
use Rattle.thy_checkpoint.specs.Progress.{Acts}
use Rattle.thy_thynvm_parts.specs.Design.{action_next, written_next, write_there, store_action}
use Rattle.thy_schemes.proofs.ThynvmActLemmas.{some_copy, no_copy, copy_state, copy_device}
use Rattle.thy_thynvm_parts.proofs.StoreLemmas.{access, action_is}

-- an action that failed
pub err_acts : {C T : Type 0} (action : Action) (later : C) (r : Result T NvmError) (s : C) (n : Device) (t : C) (m : Device) → IsErr r
    → t ≡ s → FailsTo action n m → IsFramed n m → Rose n.faults m.faults → Acts action later r s n t m
err_acts action later (Ok x) s n t m is kept failed framed cause = cc
err_acts action later (Err e) s n t m is kept failed framed cause = record {
  control = tt;
  device = tt;
  kept = kept;
  failed = failed;
  frame = framed;
  cause = cause;
}

-- a copy was the position that is next
pub copy_acts : (s : State) (n : Device) (t : State) (m : Device) → is_some (next_copy s) ≡ true → t ≡ after_next_copy (next_copy s) s n
    → m ≡ devices_after_copy (next_copy s) s n → IsFramed n m → m.faults ≡ n.faults
    → Acts {T = Unit {0}} (action_next s n) (written_next s) (Ok tt) s n t m
copy_acts s n t m found state device framed cause =
    let copy = some_copy s found in
    record {
      control = state ∙ copy_state s n copy.0 copy.1;
      device = device ∙ copy_device s n copy.0 copy.1;
      kept = tt;
      failed = tt;
      frame = framed;
      cause = cause;
    }

-- no copy was left, and so nothing has changed before the next action
pub then_acts : (r : Result (Unit {0}) NvmError) (s : State) (n : Device) (t : State) (m : Device) (u : State) (o : Device)
    → is_some (next_copy s) ≡ false → t ≡ after_next_copy (next_copy s) s n → m ≡ devices_after_copy (next_copy s) s n
    → Acts (action_next t m) (written_next t) r t m u o → Acts (action_next s n) (written_next s) r s n u o
then_acts r s n t m u o none state device acts =
    let left : next_copy s ≡ None = no_copy s none in
    let same : t ≡ s = state ∙ ap (λ (x : Option ℕ). after_next_copy x s n) left in
    let still : m ≡ n = device ∙ ap (λ (x : Option ℕ). devices_after_copy x s n) left in
    subst (λ (x : Device). Acts (action_next s x) (written_next s) r s x u o) still
    (subst (λ (x : State). Acts (action_next x m) (written_next x) r x m u o) same acts)

-- a store that failed may have written its place
store_fails : (b : ℕ) (block : Block) (s : State) (n m : Device) → FailsStore b block s n m → FailsTo (store_action b block s) n m
store_fails b block s n m f =
    let r : StoreRule = rule_for b s in
    let c : Cell = cell_before b s in
    let x : Place = store_place r c in
    subst (λ (v : Block). FailsTo (write_there (in_dram x) (number_of s.p x) v) n m) (sym (put_by-reads r block s n c))
    (subst (λ (side : Bool). FailsTo (write_there side (number_of s.p x) (put_by r block (reads s n) c)) n m) (sym f.in_nvm) f.failed)

-- a block was stored, or a copy made that has to come first
pub store_acts : (b : ℕ) (block : Block) (s : State) (n : Device) (r : Result Stored NvmError) (t : State) (m : Device)
    → OnOk r (t ≡ state_after b block s n) → OnOk r (m ≡ (devices_after b block s n).nvm)
    → OnErr r (t ≡ s) → OnErr r (FailsStore b block s n m) → IsFramed n m → CountsFault r n.faults m.faults
    → Acts (store_action b block s) (state_after b block s n) r s n t m
store_acts b block s n (Ok x) t m state device kept failed framed cause = record {
  control = state;
  device =
      subst (IsAfter (store_action b block s) n) (sym (device ∙ sym (action_is b block s n)))
      (access-leaves (store_action b block s) n (access b block s));
  kept = tt;
  failed = tt;
  frame = framed;
  cause = cause;
}
store_acts b block s n (Err e) t m state device kept failed framed cause = record {
  control = tt;
  device = tt;
  kept = kept;
  failed = store_fails b block s n m failed;
  frame = framed;
  cause = cause;
}
