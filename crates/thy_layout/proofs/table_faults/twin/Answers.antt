use Rattle.std.proofs.Common.{◌≡◌, ◌∙◌, ◌<◌, ℕ, Option, Some, None, IfSome, refl, sym, ap, arith}
use Rattle.thy_layout.specs.Files.{table_in}
use Rattle.thy_layout.specs.Entries.{entry_of}
use Rattle.thy_layout.specs.EntryFaults.{twin_of}
use Rattle.thy_layout.proofs.ClashLemmas.{table_in-take}
use Rattle.thy_layout.proofs.EntryLemmas.{entry_of-in_take}
use Rattle.thy_layout.proofs.table_faults.twin.Goals as goal

found_below : (o : Option ℕ) (k : ℕ) → ((i : ℕ) → o ≡ Some i → i < k) → IfSome o (λ i. i < k)
found_below None k h = tt
found_below (Some i) k h = h i refl

pub returns-in-None-clause-twin : goal.returns-in-None-clause-twin
returns-in-None-clause-twin c = ap (twin_of (table_in c.args.table.now) c.args.k) c.in-None.ensures

pub returns-in-Some-clause-twin : goal.returns-in-Some-clause-twin
returns-in-Some-clause-twin c =
    c.entry_of.ensures
    ∙ ap (λ t. entry_of t c.in-Some.number) (table_in-take c.args.table.now c.args.k (omega arith))
    ∙ ap (twin_of (table_in c.args.table.now) c.args.k) c.in-Some.ensures

pub returns-in-Some-clause-before : goal.returns-in-Some-clause-before
returns-in-Some-clause-before c =
    found_below c.entry_of.result c.args.k (λ i e. entry_of-in_take (table_in c.args.table.now) c.args.k c.in-Some.number i
    (sym (ap (λ t. entry_of t c.in-Some.number) (table_in-take c.args.table.now c.args.k (omega arith))) ∙ sym c.entry_of.ensures ∙ e))
