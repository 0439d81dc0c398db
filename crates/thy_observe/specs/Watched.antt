-- What is seen of a run by all that look on.
use Rattle.std.specs.Prelude.{ℕ, List}
use Rattle.thy_isa.specs.Step.{State}
use Rattle.thy_computer.specs.declared.did.Stepped.{Stepped}
use Rattle.thy_run.specs.Watching.{Taken}
use Rattle.thy_observe.specs.declared.watch.Watch.{Watch}
use Rattle.thy_observe.specs.Changes.{AreChanges, KeepsChanges}
use Rattle.thy_observe.specs.Epochs.{AreEpochs, KeepsEpochs}
use Rattle.thy_observe.specs.Ledgers.{IsLedger, KeepsLedger}
use Rattle.thy_observe.specs.Tallied.{IsTally, KeepsTally}
use Rattle.thy_observe.specs.Trapping.{HasTrap}

-- tally and changes have seen these cycles
abbrev pub IsWatch : Watch → List Taken → Type 0
IsWatch w seen = IsTally w.tally seen × AreChanges w.changes seen × IsLedger w.ledger seen × AreEpochs w.epochs seen

-- each has seen these cycles, and keeps the step of the next one
abbrev pub KeepsWatch : Watch → List Taken → Stepped → Type 0
KeepsWatch w seen r = KeepsTally w.tally seen r × KeepsChanges w.changes seen r × KeepsLedger w.ledger seen r × KeepsEpochs w.epochs seen r

-- the watch keeps the plain machine's trap
abbrev pub HasLast : Watch → ℕ → State → Type 0
HasLast w base last = HasTrap w.tally base last
