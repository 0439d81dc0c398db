-- The counts by cause as text.
use Rattle.std.proofs.Common.{◌≡◌, ℕ, ◌+◌, ◌<◌, length, get_or, take, Bool, true, false, if◌then◌else◌, Option, Some, None, Result, Ok, Err, OnOk, is_ok, List, [], ◌∷◌, ◌++◌, count_by, refl, sym, ◌∙◌, ap, ap₂, append_assoc, append-nil}
use Rattle.std.specs.Prelude.{codes}
use Rattle.std.specs.Fmt.{decimal}
use Rattle.std.specs.List.{flat_map}
use Rattle.std.proofs.lemmas.List.{flat_map_more, take_more}
use Rattle.std.proofs.lemmas.List.Concat.{flat_map-append}
use Rattle.thy_run.specs.Watching.{Taken}
use Rattle.thy_text.specs.Event.{Event}
use Rattle.thy_observe.specs.declared.causes.Cause.{Cause}
use Rattle.thy_observe.specs.declared.counting.Calls.{Calls}
use Rattle.thy_observe.specs.declared.epochs.Row.{Row}
use Rattle.thy_observe.specs.declared.ledger.Ledger.{Ledger}
use Rattle.thy_observe.specs.declared.watch.Watch.{Watch}
use Rattle.thy_observe.specs.Causes.{all_causes, cause_index, how_many_by}
use Rattle.thy_observe.specs.Epochs.{AreEpochs, account_of, last_row, with_last}
use Rattle.thy_observe.specs.Kinds.{has_waited}
use Rattle.thy_observe.specs.Ledgers.{IsLedger, count_in}
use Rattle.thy_observe.specs.Tallied.{IsTally}
use Rattle.thy_observe.proofs.LedgerLemmas.{counted}
use Rattle.observe.specs.declared.beginning.Begun.{Begun}
use Rattle.observe.specs.declared.options.Options.{Options}
use Rattle.observe.specs.declared.head.Asked.{Asked}
use Rattle.observe.specs.CountText.{AreCountsOf, AreOf, HasWhole, cause_name, causes_by, causes_part, causes_text, count_row, epoch_cell, epoch_row, epochs_by, epochs_head, epochs_part, number_cells, nvm_counts, span_cells, tab, wear_part}
use Rattle.observe.specs.HeadText.{IsHead}
use Rattle.observe.specs.Sections.{GoesOn, HasSections}
use Rattle.observe.proofs.TextLemmas.{three-parts, two-parts}

rows-same : (f g : Cause → List ℕ) → ((c : Cause) → f c ≡ g c) → (cs : List Cause) → flat_map f cs ≡ flat_map g cs
rows-same f g same [] = refl
rows-same f g same (c ∷ cs) = ap₂ (λ (x y : List ℕ). x ++ y) (same c) (rows-same f g same cs)

-- the numbers of a ledger are the counts of the cycles that it has seen
causes-counted : (l : Ledger) (waiting : ℕ) (seen : List Taken) → IsLedger l seen → waiting ≡ count_by has_waited seen
    → causes_by (count_in l) waiting ≡ causes_text seen
causes-counted l waiting seen h is =
    ap₂ (λ (rows : List ℕ) (n : ℕ). codes "causes\n" ++ (rows ++ count_row (codes "waiting") n))
    (rows-same (λ c. count_row (cause_name c) (count_in l c)) (λ c. count_row (cause_name c) (how_many_by (cause_index c) seen))
    (λ c. ap (count_row (cause_name c)) (counted l seen h c)) all_causes)
    is

-- a text goes on with the causes if they are asked for
pub causes-asked : (w : Watch) (waiting : ℕ) (head whole : List ℕ)
    → ((seen : List Taken) → IsTally w.tally seen → waiting ≡ count_by has_waited seen)
    → whole ≡ head ++ causes_by (count_in w.ledger) waiting → GoesOn (AreOf (causes_part true) w) head whole
causes-asked w waiting head whole waits text = (
  causes_by (count_in w.ledger) waiting,
  text,
  λ seen h.
      causes-counted w.ledger waiting seen h.2 (waits seen h.0),
)

pub epochs-asked : (w : Watch) (rows : List Row) (last : Option Row) (head whole : List ℕ)
    → ((seen : List Taken) → AreEpochs w.epochs seen → rows ≡ (account_of seen).rows)
    → ((seen : List Taken) → AreEpochs w.epochs seen → last ≡ last_row (account_of seen))
    → whole ≡ head ++ epochs_by rows last → GoesOn (AreOf (epochs_part true) w) head whole
epochs-asked w rows last head whole ended open_row text = (
  epochs_by rows last,
  text,
  λ seen h.
      ap₂ epochs_by (ended seen h.3) (open_row seen h.3),
)

-- a text goes on with nothing if nothing is asked for
pub nothing-asked : (text : Bool → List Taken → List ℕ) (w : Watch) (head : List ℕ) → ((seen : List Taken) → text false seen ≡ [])
    → (asked : Bool) → asked ≡ false → GoesOn (AreOf (text asked) w) head head
nothing-asked text w head none asked is = (
  [],
  sym (append-nil head),
  λ seen h.
      sym (ap (λ (b : Bool). text b seen) is ∙ none seen),
)

-- causes and then epochs are all that is counted
pub both-counts : (o : Options) (w : Watch) (head first whole : List ℕ) → GoesOn (AreOf (causes_part o.causes) w) head first
    → GoesOn (AreOf (epochs_part o.epochs) w) first whole → GoesOn (AreCountsOf o w) head whole
both-counts o w head first whole p q = (
  p.0 ++ q.0,
  q.1 ∙ ap (λ (t : List ℕ). t ++ q.0) p.1 ∙ append_assoc head p.0 q.0,
  λ seen h. ap₂ (λ (x y : List ℕ). x ++ y) (p.2 seen h) (q.2 seen h),
)

-- the rows of stretches, and of the one that has not ended
pub rows-and-last : (rows : List Row) (last : Option Row)
    → flat_map epoch_row rows ++ flat_map epoch_row (with_last [] last) ≡ flat_map epoch_row (with_last rows last)
rows-and-last rows None = append-nil (flat_map epoch_row rows)
rows-and-last rows (Some r) = sym (flat_map-append epoch_row rows (r ∷ []))

-- a text stays if every stretch has ended
pub no-last : (text : List ℕ) (last : Option Row) → last ≡ None → text ≡ text ++ flat_map epoch_row (with_last [] last)
no-last text last is = sym (append-nil text) ∙ ap (λ (o : Option Row). text ++ flat_map epoch_row (with_last [] o)) (sym is)

-- the text gets the row of the stretch that has not ended, if memory is left for it
pub last-if : {T E : Type 0} (r : Result T E) (text next : List ℕ) (last : Option Row) (row : Row) → last ≡ Some row
    → OnOk r (next ≡ text ++ epoch_row row) → OnOk r (next ≡ text ++ flat_map epoch_row (with_last [] last))
last-if (Ok x) text next last row is more =
    more ∙ ap (λ (t : List ℕ). text ++ t) (sym (append-nil (epoch_row row)))
    ∙ ap (λ (o : Option Row). text ++ flat_map epoch_row (with_last [] o)) (sym is)
last-if (Err e) text next last row is more = tt

-- a section of stretches is its head, the rows of those that have ended, and the last one's, if memory is left for it
pub epochs-if : {T E : Type 0} (r : Result T E) (text first second third : List ℕ) (rows : List Row) (last : Option Row)
    → first ≡ text ++ epochs_head → second ≡ first ++ flat_map epoch_row rows → OnOk r (third ≡ second ++ flat_map epoch_row (with_last [] last))
    → OnOk r (third ≡ text ++ epochs_by rows last)
epochs-if (Ok x) text first second third rows last one two more =
    three-parts text first second third epochs_head (flat_map epoch_row rows) (flat_map epoch_row (with_last [] last)) one two more
    ∙ ap (λ (t : List ℕ). text ++ (epochs_head ++ t)) (rows-and-last rows last)
epochs-if (Err e) text first second third rows last one two more = tt

-- the row of a stretch is its epoch, its cycles and its end, and its numbers
pub row-if : {T E : Type 0} (r : Result T E) (text first second third fourth : List ℕ) (row : Row)
    → first ≡ text ++ epoch_cell row.epoch → second ≡ first ++ span_cells row → third ≡ second ++ number_cells row.causes
    → OnOk r (fourth ≡ third ++ (tab ++ (decimal row.waiting ++ codes "\n"))) → OnOk r (fourth ≡ text ++ epoch_row row)
row-if (Ok x) text first second third fourth row one two three more =
    two-parts text second fourth (epoch_cell row.epoch ++ span_cells row) (number_cells row.causes ++ (tab ++ (decimal row.waiting ++ codes "\n")))
    (two-parts text first second (epoch_cell row.epoch) (span_cells row) one two)
    (two-parts second third fourth (number_cells row.causes) (tab ++ (decimal row.waiting ++ codes "\n")) three more)
row-if (Err e) text first second third fourth row one two three more = tt

-- what a string has after more was pushed, if memory was left for it
pub pushed-if : {T E : Type 0} (r : Result T E) (old new more : List ℕ) → new ≡ (if is_ok r then old ++ more else old) → OnOk r (new ≡ old ++ more)
pushed-if (Ok x) old new more is = is
pushed-if (Err e) old new more is = tt

-- a whole text has what is counted and the writes of each place after all else
pub whole-of : (asked : Asked) (events : List Event) (o : Options) (begun : Option Begun) (w : Watch) (calls : Calls) (wear head text next whole : List ℕ)
    → IsHead asked w.tally calls events head → HasSections o begun w.changes head text
    → GoesOn (AreCountsOf o w) text next → whole ≡ next ++ wear_part o.wear wear → HasWhole asked events o begun w (nvm_counts calls wear) whole
whole-of asked events o begun w calls wear head text next whole is_head sections counted is = record {
  head = head;
  is_head = is_head;
  text = text;
  sections = sections;
  counted = counted.0;
  counts = counted.2;
  splits = is ∙ ap (λ (t : List ℕ). t ++ wear_part o.wear wear) counted.1 ∙ append_assoc text counted.0 (wear_part o.wear wear);
}

-- one line more of a list's
pub line-more : {X : Type 0} (row : X → List ℕ) (old now next : List ℕ) (xs : List X) (i : ℕ) (d : X) → i < length xs
    → now ≡ old ++ flat_map row (take i xs) → next ≡ now ++ row (get_or xs i d) → next ≡ old ++ flat_map row (take (i + 1) xs)
line-more {X = X} row old now next xs i d less h is =
    is ∙ ap (λ (t : List ℕ). t ++ row (get_or xs i d)) h ∙ flat_map_more row old (take i xs) (get_or xs i d)
    ∙ ap (λ (l : List X). old ++ flat_map row l) (sym (take_more xs i d less))
