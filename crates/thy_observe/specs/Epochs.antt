-- The stretches of a run's cycles, with the causes of each. A stretch ends with the cycle that ends a boot, seals an epoch, or after
-- which power is cut.
use Rattle.std.specs.Prelude.{◌≡◌, ℕ, ◌+◌, ◌<◌, ◌≤◌, nat_le, if◌then◌else◌, cond, Bool, true, false, Option, Some, None, IfSome, is_some, List, [], ◌∷◌, ◌++◌, length, replicate, fold, sum_by, count_by, slice_index_or, slice_set}
use Rattle.thy_block.specs.Counts.{next}
use Rattle.thy_computer.specs.declared.did.Did.{Did}
use Rattle.thy_computer.specs.declared.did.Did.TheVariants as did
use Rattle.thy_computer.specs.declared.did.Stepped.{Stepped}
use Rattle.thy_run.specs.Watching.{Taken}
use Rattle.thy_observe.specs.declared.epochs.End.{End}
use Rattle.thy_observe.specs.declared.epochs.End.TheVariants as end
use Rattle.thy_observe.specs.declared.epochs.Epochs.{Epochs}
use Rattle.thy_observe.specs.declared.epochs.Row.{Row}
use Rattle.thy_observe.specs.Causes.{cause_index, cause_of, how_many_by, under_way_then}
use Rattle.thy_observe.specs.Kinds.{has_waited, kind_of}

-- ---- what ends a stretch

abbrev pub end_by : Did → Option End
end_by did.Loaded = Some end.Boot
end_by (did.Restarted epoch count) = Some end.Boot
end_by (did.Sealed epoch count cause) = Some end.Seal
end_by d = None

-- a cut ends a stretch whatever the step before it did
abbrev pub end_of : Did → Bool → Option End
end_of d fell = if fell then Some end.Cut else end_by d

-- the epoch that executes after a step that did this
abbrev pub epoch_by : Option ℕ → Did → Option ℕ
epoch_by epoch did.Loaded = Some 1
epoch_by epoch (did.Restarted restored count) = Some (next restored)
epoch_by epoch (did.Sealed sealed count cause) = Some (next sealed)
epoch_by epoch d = epoch

-- the epoch that executes after a cycle; none does after a cut, as a boot follows
abbrev pub epoch_of : Option ℕ → Did → Bool → Option ℕ
epoch_of epoch d fell = if fell then None else epoch_by epoch d

-- ---- stretches

-- a stretch that begins after a number of cycles
abbrev pub begun_after : ℕ → Option ℕ → Row
begun_after before epoch =
    record { epoch = epoch; before = before; to = before; end = end.Run; causes = replicate 17 0; waiting = 0 }

-- a stretch with one cycle more, of this number, and of the cause with this index
abbrev pub with_cycle : Row → (cycle cause waited : ℕ) → Row
with_cycle r cycle cause waited = record r {
  to = cycle;
  causes = slice_set r.causes cause (slice_index_or r.causes cause 0 + 1);
  waiting = r.waiting + waited;
}

-- the stretches that have ended, and the one that has not
pub record Account : Type 0 where
  pub cycles : ℕ
  pub under_way : Bool
  pub rows : List Row
  pub open_row : Row

abbrev pub first_account : Account
first_account = record { cycles = 0; under_way = false; rows = []; open_row = begun_after 0 None }

-- the open stretch has ended, and the next one begins in this epoch
abbrev pub closed : Option End → Option ℕ → Account → Account
closed None epoch a = a
closed (Some e) epoch a = record a { rows = a.rows ++ record a.open_row { end = e } ∷ []; open_row = begun_after a.cycles epoch }

-- the stretches after one cycle more
abbrev pub accounted : Account → Taken → Account
accounted a t =
    closed (end_of t.stepped.did t.fell) (epoch_of a.open_row.epoch t.stepped.did t.fell) (record a {
      cycles = a.cycles + 1;
      under_way = under_way_then a.under_way t;
      open_row = with_cycle a.open_row (a.cycles + 1) (cause_index (cause_of a.under_way (kind_of t.stepped.did))) (cond (has_waited t) 1 0);
    })

-- the stretches of these cycles
abbrev pub account_of : List Taken → Account
account_of seen = fold accounted first_account seen

-- the stretch that has not ended, if it has a cycle
abbrev pub last_row : Account → Option Row
last_row a = if nat_le a.cycles a.open_row.before then None else Some a.open_row

abbrev pub with_last : List Row → Option Row → List Row
with_last rows None = rows
with_last rows (Some r) = rows ++ r ∷ []

-- all stretches of these cycles, in order
abbrev pub rows_of : List Taken → List Row
rows_of seen = with_last (account_of seen).rows (last_row (account_of seen))

-- ---- sums

-- over all stretches the cycles of each cause, and those in which the hart waited, add up to the run's
pub record RowsAddUp (seen : List Taken) : Type 0 where
  pub causes : (i : ℕ) → i < 17 → sum_by (λ (r : Row). slice_index_or r.causes i 0) (rows_of seen) ≡ how_many_by i seen
  pub waiting : sum_by (λ (r : Row). r.waiting) (rows_of seen) ≡ count_by has_waited seen

abbrev pub EpochsAddUp : Type 0
EpochsAddUp = (seen : List Taken) → RowsAddUp seen

-- ---- as the program has them

-- a list has the stretches of these cycles; those that have ended are listed if that is wanted, unless memory ran out for one
pub record AreEpochs (e : Epochs) (seen : List Taken) : Type 0 where
  pub cycles : e.cycles ≡ (account_of seen).cycles
  pub under_way : e.under_way ≡ (account_of seen).under_way
  pub open_is : e.open_row ≡ (account_of seen).open_row
  pub rows : IfSome e.rows (λ v. v.items ≡ (account_of seen).rows)

-- the stretches that have ended are listed: that is wanted, and memory has not run out for one
abbrev pub lists_rows : Epochs → Bool
lists_rows e = is_some e.rows

-- a list has the stretches of these cycles, and keeps the step of the next one
abbrev pub KeepsEpochs : Epochs → List Taken → Stepped → Type 0
KeepsEpochs e seen r = AreEpochs e seen × (e.kept ≡ Some r)
