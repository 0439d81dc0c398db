-- What the ledger of cycles has.
use Rattle.std.specs.Prelude.{◌≡◌, ℕ, ◌<◌, false, List, Some, length, slice_index_or}
use Rattle.thy_run.specs.Watching.{Taken}
use Rattle.thy_computer.specs.declared.did.Stepped.{Stepped}
use Rattle.thy_observe.specs.declared.ledger.Ledger.{Ledger}
use Rattle.thy_observe.specs.declared.causes.Cause.{Cause}
use Rattle.thy_observe.specs.Causes.{cause_index, how_many_by, under_way_after}

-- how many cycles of a cause a ledger has
abbrev pub count_in : Ledger → Cause → ℕ
count_in l c = slice_index_or l.causes (cause_index c) 0

-- a ledger has these cycles: how many there are of each cause, and whether a checkpoint is under way after them
pub record IsLedger (l : Ledger) (seen : List Taken) : Type 0 where
  pub causes : length l.causes ≡ 17
  pub counts : (i : ℕ) → i < 17 → slice_index_or l.causes i 0 ≡ how_many_by i seen
  pub under_way : l.under_way ≡ under_way_after false seen

-- a ledger has these cycles, and keeps the step of the next one
abbrev pub KeepsLedger : Ledger → List Taken → Stepped → Type 0
KeepsLedger l seen r = IsLedger l seen × (l.kept ≡ Some r)
