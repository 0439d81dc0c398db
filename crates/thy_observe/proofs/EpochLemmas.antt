-- The stretches of one cycle more, and of all.
use Rattle.std.proofs.Common.{◌≡◌, ℕ, ◌+◌, ◌==◌, ◌<◌, ◌≤◌, nat_le, if◌then◌else◌, Bool, true, false, cond, Option, Some, None, List, [], ◌∷◌, ◌++◌, length, length-append, replicate, fold, sum_by, count_by, slice_index_or, refl, sym, ◌∙◌, ap, ap₂, subst, append_assoc, append-nil, arith}
use Rattle.std.specs.Prelude.{IfSome, Vec}
use Rattle.std.proofs.lemmas.Bool.{leb-true}
use Rattle.std.proofs.lemmas.List.{get_or-replicate, length-replicate, length-set}
use Rattle.std.proofs.lemmas.List.Sums.{count_by-le-length, fold-append, sum_by_push}
use Rattle.std.specs.declared.alloc.Global.{Global}
use Rattle.thy_run.specs.Watching.{Taken}
use Rattle.thy_observe.specs.declared.epochs.End.{End}
use Rattle.thy_observe.specs.declared.epochs.Epochs.{Epochs}
use Rattle.thy_observe.specs.declared.epochs.Row.{Row}
use Rattle.thy_observe.specs.Causes.{cause_index, cause_of, how_many_by, under_way_after, under_way_then}
use Rattle.thy_observe.specs.Epochs.{Account, AreEpochs, EpochsAddUp, account_of, accounted, begun_after, closed, end_of, epoch_of, first_account, last_row, with_cycle, with_last}
use Rattle.thy_observe.specs.Kinds.{has_waited, kind_of}
use Rattle.thy_observe.proofs.CauseLemmas.{by-few, by-one, index-within, under-way-one}
use Rattle.thy_observe.proofs.TallyLemmas.{count-one, one-at}

abbrev of_cause : ℕ → Row → ℕ
of_cause i r = slice_index_or r.causes i 0

abbrev of_waiting : Row → ℕ
of_waiting r = r.waiting

-- the cause of a cycle, by its index
abbrev cause_at : Account → Taken → ℕ
cause_at a t = cause_index (cause_of a.under_way (kind_of t.stepped.did))

abbrev waited_in : Taken → ℕ
waited_in t = cond (has_waited t) 1 0

-- one cycle more, before what it ends
abbrev going : Account → Taken → Account
going a t = record a {
  cycles = a.cycles + 1;
  under_way = under_way_then a.under_way t;
  open_row = with_cycle a.open_row (a.cycles + 1) (cause_at a t) (waited_in t);
}

-- ---- what holds of the stretches of some cycles

record Stands (seen : List Taken) (a : Account) : Type 0 where
  cycles : a.cycles ≡ length seen
  under_way : a.under_way ≡ under_way_after false seen
  long : length a.open_row.causes ≡ 17
  causes : (i : ℕ) → i < 17 → sum_by (of_cause i) a.rows + of_cause i a.open_row ≡ how_many_by i seen
  waiting : sum_by of_waiting a.rows + a.open_row.waiting ≡ count_by has_waited seen
  early : a.open_row.before ≤ a.cycles
  fresh : a.cycles ≤ a.open_row.before → ((i : ℕ) → i < 17 → of_cause i a.open_row ≡ 0) × (a.open_row.waiting ≡ 0)

none-yet : (i : ℕ) → i < 17 → ◌≡◌ {A = ℕ} (slice_index_or (replicate 17 0) i 0) 0
none-yet i less = get_or-replicate 17 i 0 0 less

stands-first : Stands [] first_account
stands-first = record {
  cycles = refl;
  under_way = refl;
  long = length-replicate {A = ℕ} 17 0;
  causes = λ i less. omega (arith, none-yet i less);
  waiting = refl;
  early = omega arith;
  fresh = λ _. (none-yet, refl);
}

stands-going : (seen : List Taken) (t : Taken) (a : Account) → Stands seen a → Stands (seen ++ t ∷ []) (going a t)
stands-going seen t a h =
    let c : ℕ = cause_at a t in
    let few : c < length a.open_row.causes = omega (arith, index-within (cause_of a.under_way (kind_of t.stepped.did)), h.long) in
    record {
      cycles = ap (λ (n : ℕ). n + 1) h.cycles ∙ sym (length-append seen (t ∷ []));
      under_way = ap (λ (b : Bool). under_way_then b t) h.under_way ∙ sym (under-way-one false seen t);
      long = length-set a.open_row.causes c (slice_index_or a.open_row.causes c 0 + 1) ∙ h.long;
      causes = λ i less.
          let one : of_cause i (with_cycle a.open_row (a.cycles + 1) c (waited_in t)) ≡ of_cause i a.open_row + cond (c == i) 1 0 =
          one-at a.open_row.causes c i few (c == i) refl in
          let more : how_many_by i (seen ++ t ∷ []) ≡ how_many_by i seen + cond (c == i) 1 0 =
          by-one i seen t
          ∙ ap (λ (b : Bool). how_many_by i seen + cond (cause_index (cause_of b (kind_of t.stepped.did)) == i) 1 0) (sym h.under_way) in
          omega (arith, one, more, h.causes i less);
      waiting = omega (arith, count-one has_waited seen t, h.waiting);
      early = omega (arith, h.early);
      fresh = λ over. absurd (omega (arith, over, h.early));
    }

stands-closed : (seen : List Taken) (e : Option End) (epoch : Option ℕ) (a : Account) → Stands seen a → Stands seen (closed e epoch a)
stands-closed seen None epoch a h = h
stands-closed seen (Some e) epoch a h =
    let last : Row = record a.open_row { end = e } in
    record {
      cycles = h.cycles;
      under_way = h.under_way;
      long = length-replicate {A = ℕ} 17 0;
      causes = λ i less. omega (arith, sum_by_push (of_cause i) a.rows last, none-yet i less, h.causes i less);
      waiting = omega (arith, sum_by_push of_waiting a.rows last, h.waiting);
      early = omega arith;
      fresh = λ _. (none-yet, refl);
    }

stands-from : (done rest : List Taken) (a : Account) → Stands done a → Stands (done ++ rest) (fold accounted a rest)
stands-from done [] a h = subst (λ (l : List Taken). Stands l a) (sym (append-nil done)) h
stands-from done (t ∷ rest) a h =
    subst (λ (l : List Taken). Stands l (fold accounted (accounted a t) rest)) (append_assoc done (t ∷ []) rest)
    (stands-from (done ++ t ∷ []) rest (accounted a t)
    (stands-closed (done ++ t ∷ []) (end_of t.stepped.did t.fell) (epoch_of a.open_row.epoch t.stepped.did t.fell) (going a t)
    (stands-going done t a h)))

stands : (seen : List Taken) → Stands seen (account_of seen)
stands seen = stands-from [] seen first_account stands-first

-- ---- sums

module _ (seen : List Taken) (a : Account) (h : Stands seen a) where
  causes-by : (b : Bool) → nat_le a.cycles a.open_row.before ≡ b → (i : ℕ) → i < 17
      → sum_by (of_cause i) (with_last a.rows (if b then None else Some a.open_row)) ≡ how_many_by i seen
  causes-by true over i less = omega (arith, h.causes i less, (h.fresh (leb-true _ _ over)).0 i less)
  causes-by false over i less = sum_by_push (of_cause i) a.rows a.open_row ∙ h.causes i less

  waiting-by : (b : Bool) → nat_le a.cycles a.open_row.before ≡ b
      → sum_by of_waiting (with_last a.rows (if b then None else Some a.open_row)) ≡ count_by has_waited seen
  waiting-by true over = omega (arith, h.waiting, (h.fresh (leb-true _ _ over)).1)
  waiting-by false over = sum_by_push of_waiting a.rows a.open_row ∙ h.waiting

pub epochs-sum : EpochsAddUp
epochs-sum seen =
    let a : Account = account_of seen in
    record {
      causes = causes-by seen a (stands seen) (nat_le a.cycles a.open_row.before) refl;
      waiting = waiting-by seen a (stands seen) (nat_le a.cycles a.open_row.before) refl;
    }

-- ---- as the program has them

-- there are no more cycles of a cause in a stretch than there are cycles
pub open-few : (e : Epochs) (seen : List Taken) → AreEpochs e seen → (i : ℕ) → i < 17 → slice_index_or e.open_row.causes i 0 ≤ length seen
open-few e seen h i less =
    let same : of_cause i e.open_row ≡ of_cause i (account_of seen).open_row = ap (of_cause i) h.open_is in
    omega (arith, same, (stands seen).causes i less, by-few i seen)

pub open-waits : (e : Epochs) (seen : List Taken) → AreEpochs e seen → e.open_row.waiting ≤ length seen
open-waits e seen h =
    let same : e.open_row.waiting ≡ (account_of seen).open_row.waiting = ap of_waiting h.open_is in
    omega (arith, same, (stands seen).waiting, count_by-le-length has_waited seen)

-- the number of the next cycle
pub next-cycle : (e : Epochs) (first seen : List Taken) (cycle : ℕ) → AreEpochs e first → AreEpochs e seen → cycle ≡ length first + 1
    → cycle ≡ (account_of seen).cycles + 1
next-cycle e first seen cycle h g is = omega (arith, is, h.cycles, g.cycles, (stands first).cycles)

account-one : (seen : List Taken) (x : Taken) → account_of (seen ++ x ∷ []) ≡ accounted (account_of seen) x
account-one seen x = fold-append accounted first_account seen (x ∷ [])

module _ (e new : Epochs) (seen : List Taken) (x : Taken) (row : Row) (cycle cause waited : ℕ) (h : AreEpochs e seen)
    (now : cycle ≡ (account_of seen).cycles + 1)
    (caused : cause ≡ cause_index (cause_of e.under_way (kind_of x.stepped.did)))
    (waits : waited ≡ waited_in x)
    (made : row ≡ with_cycle e.open_row cycle cause waited)
    (cycles : new.cycles ≡ cycle)
    (under_way : new.under_way ≡ under_way_then e.under_way x) where
  abbrev a : Account
  a = account_of seen

  -- the row is the account's
  row-is : row ≡ (going a x).open_row
  row-is =
      made
      ∙ ap (λ (n : ℕ). with_cycle e.open_row n cause waited) now
      ∙ ap (λ (n : ℕ). with_cycle e.open_row (a.cycles + 1) n waited)
      (caused ∙ ap (λ (b : Bool). cause_index (cause_of b (kind_of x.stepped.did))) h.under_way)
      ∙ ap (λ (n : ℕ). with_cycle e.open_row (a.cycles + 1) (cause_at a x) n) waits
      ∙ ap (λ (r : Row). with_cycle r (a.cycles + 1) (cause_at a x) (waited_in x)) h.open_is

  -- a stretch that goes on
  pub AreEpochs-goes : end_of x.stepped.did x.fell ≡ None → new.open_row ≡ row → new.rows ≡ e.rows → AreEpochs new (seen ++ x ∷ [])
  AreEpochs-goes none open_row rows =
      let is : account_of (seen ++ x ∷ []) ≡ going a x =
      account-one seen x ∙ ap (λ (o : Option End). closed o (epoch_of a.open_row.epoch x.stepped.did x.fell) (going a x)) none in
      record {
        cycles = cycles ∙ now ∙ sym (ap (λ (b : Account). b.cycles) is);
        under_way = under_way ∙ ap (λ (b : Bool). under_way_then b x) h.under_way ∙ sym (ap (λ (b : Account). b.under_way) is);
        open_is = open_row ∙ row-is ∙ sym (ap (λ (b : Account). b.open_row) is);
        rows =
            subst (λ (l : List Row). IfSome new.rows (λ v. v.items ≡ l)) (sym (ap (λ (b : Account). b.rows) is))
            (subst (λ (o : Option (Vec Row Global)). IfSome o (λ v. v.items ≡ a.rows)) (sym rows) h.rows);
      }

  -- one that has ended
  pub AreEpochs-ends : (end : End) (epoch : Option ℕ) → end_of x.stepped.did x.fell ≡ Some end
      → epoch ≡ epoch_of row.epoch x.stepped.did x.fell → new.open_row ≡ begun_after cycle epoch
      → ((before : List Row) → IfSome e.rows (λ v. v.items ≡ before) → IfSome new.rows (λ v. v.items ≡ before ++ record row { end = end } ∷ []))
      → AreEpochs new (seen ++ x ∷ [])
  AreEpochs-ends end epoch ends follows open_row rows =
      let after : Option ℕ = epoch_of a.open_row.epoch x.stepped.did x.fell in
      let is : account_of (seen ++ x ∷ []) ≡ closed (Some end) after (going a x) =
      account-one seen x ∙ ap (λ (o : Option End). closed o after (going a x)) ends in
      let same : epoch ≡ after = follows ∙ ap (λ (r : Row). epoch_of r.epoch x.stepped.did x.fell) row-is in
      record {
        cycles = cycles ∙ now ∙ sym (ap (λ (b : Account). b.cycles) is);
        under_way = under_way ∙ ap (λ (b : Bool). under_way_then b x) h.under_way ∙ sym (ap (λ (b : Account). b.under_way) is);
        open_is = open_row ∙ ap₂ begun_after now same ∙ sym (ap (λ (b : Account). b.open_row) is);
        rows =
            subst (λ (l : List Row). IfSome new.rows (λ v. v.items ≡ l)) (sym (ap (λ (b : Account). b.rows) is))
            (subst (λ (r : Row). IfSome new.rows (λ v. v.items ≡ a.rows ++ record r { end = end } ∷ [])) row-is (rows a.rows h.rows));
      }

-- what is kept is in none of them
pub AreEpochs-kept : (e new : Epochs) (seen : List Taken) → new.cycles ≡ e.cycles → new.under_way ≡ e.under_way → new.open_row ≡ e.open_row
    → new.rows ≡ e.rows → AreEpochs e seen → AreEpochs new seen
AreEpochs-kept e new seen cycles under_way open_row rows h = record {
  cycles = cycles ∙ h.cycles;
  under_way = under_way ∙ h.under_way;
  open_is = open_row ∙ h.open_is;
  rows = subst (λ (o : Option (Vec Row Global)). IfSome o (λ v. v.items ≡ (account_of seen).rows)) (sym rows) h.rows;
}
