-- The first fault of a list of entries, and what a broken rule says.
use Rattle.std.proofs.Common.{◌≡◌, ℕ, zero, suc, ◌+◌, ◌<◌, ◌≤◌, if◌then◌else◌, List, [], ◌∷◌, take, Option, Some, None, refl, sym, ◌∙◌, ap, inl, inr, arith, zero-add}
use Rattle.std.proofs.lemmas.Bool.{cases_lt, le-ltb}
use Rattle.std.proofs.Math.Nat.{add-zero}
use Rattle.std.specs.Option.{option_or, option_map}
use Rattle.thy_layout.specs.declared.bad_image.BadImage.{BadImage}
use Rattle.thy_layout.specs.declared.bad_image.BadImage.TheVariants.{TableIndex, TableTwice}
use Rattle.thy_layout.specs.Entries.{Lists, entry_of}
use Rattle.thy_layout.specs.EntryFaults.{entry_fault, first_clash, index_rule, twice_rule}
use Rattle.thy_layout.proofs.EntryLemmas.{entry_of-Some, Lists-of_take}
use Rattle.thy_layout.proofs.EntryFaultLemmas.{index_holds}

-- the fault is what the rule says of the first entry that breaks it, with entries counted from k
record FirstFrom (rule : ℕ → ℕ → Option BadImage) (k : ℕ) (table : List (Option ℕ)) (bad : BadImage) : Type 0 where
  pub entry : ℕ
  pub number : ℕ
  pub lists : Lists table entry number
  pub breaks : rule (k + entry) number ≡ Some bad
  pub least : (j m : ℕ) → j < entry → Lists table j m → rule (k + j) m ≡ None

listed_breaks : (rule : ℕ → ℕ → Option BadImage) (k : ℕ) (e : Option ℕ) (bad : BadImage) → entry_fault rule k e ≡ Some bad
    → (n : ℕ) × (e ≡ Some n) × (rule k n ≡ Some bad)
listed_breaks rule k None bad h = cc
listed_breaks rule k (Some n) bad h = (n, refl, h)

least_more : (rule : ℕ → ℕ → Option BadImage) (k : ℕ) (e : Option ℕ) (es : List (Option ℕ)) (i : ℕ) → entry_fault rule k e ≡ None
    → ((j m : ℕ) → j < i → Lists es j m → rule (k + 1 + j) m ≡ None)
    → (j m : ℕ) → j < suc i → Lists (e ∷ es) j m → rule (k + j) m ≡ None
least_more rule k e es i here later zero m l at = ap (λ x. rule x m) (add-zero k) ∙ sym (ap (entry_fault rule k) at.is) ∙ here
least_more rule k e es i here later (suc j) m l at =
    let next : k + suc j ≡ k + 1 + j = omega arith in
    ap (λ x. rule x m) next ∙ later j m (omega arith) (record { is = at.is })

first_of : (rule : ℕ → ℕ → Option BadImage) (k : ℕ) (e : Option ℕ) (es : List (Option ℕ)) (bad : BadImage) (here : Option BadImage)
    → entry_fault rule k e ≡ here → option_or here (first_clash rule (k + 1) es) ≡ Some bad
    → (first_clash rule (k + 1) es ≡ Some bad → FirstFrom rule (k + 1) es bad) → FirstFrom rule k (e ∷ es) bad
first_of rule k e es bad None is h later =
    let rest = later h in
    let next : k + suc rest.entry ≡ k + 1 + rest.entry = omega arith in
    record {
      entry = suc rest.entry;
      number = rest.number;
      lists = record { is = rest.lists.is };
      breaks = ap (λ x. rule x rest.number) next ∙ rest.breaks;
      least = least_more rule k e es rest.entry is rest.least;
    }
first_of rule k e es bad (Some b) is h later =
    let of = listed_breaks rule k e b is in
    record {
      entry = 0;
      number = of.0;
      lists = record { is = of.1 };
      breaks = ap (λ x. rule x of.0) (add-zero k) ∙ of.2 ∙ h;
      least = λ j m l at. absurd (omega arith);
    }

first_from : (rule : ℕ → ℕ → Option BadImage) (k : ℕ) (table : List (Option ℕ)) (bad : BadImage)
    → first_clash rule k table ≡ Some bad → FirstFrom rule k table bad
first_from rule k [] bad h = cc
first_from rule k (e ∷ es) bad h = first_of rule k e es bad (entry_fault rule k e) refl h (λ more. first_from rule (k + 1) es bad more)

-- the fault is what the rule says of the first entry of a table that breaks it
pub record First (rule : ℕ → ℕ → Option BadImage) (table : List (Option ℕ)) (bad : BadImage) : Type 0 where
  pub entry : ℕ
  pub number : ℕ
  pub lists : Lists table entry number
  pub breaks : rule entry number ≡ Some bad
  pub least : (j m : ℕ) → j < entry → Lists table j m → rule j m ≡ None

pub first : (rule : ℕ → ℕ → Option BadImage) (table : List (Option ℕ)) (bad : BadImage) → first_clash rule 0 table ≡ Some bad
    → First rule table bad
first rule table bad h =
    let from = first_from rule 0 table bad h in
    record {
      entry = from.entry;
      number = from.number;
      lists = from.lists;
      breaks = ap (λ x. rule x from.number) (sym (zero-add from.entry)) ∙ from.breaks;
      least = λ j m l at. ap (λ x. rule x m) (sym (zero-add j)) ∙ from.least j m l at;
    }

pub index_breaks : (before limit i n : ℕ) (bad : BadImage) → index_rule before limit i n ≡ Some bad
    → (limit ≤ n) × (TableIndex (before + i) ≡ bad)
index_breaks before limit i n bad h = elim (cases_lt n limit) as (λ _. (limit ≤ n) × (TableIndex (before + i) ≡ bad)) [
  | inl below ↦ let none = index_holds before limit i n below in cc
  | inr above ↦
      let some : index_rule before limit i n ≡ Some (TableIndex (before + i))
      = ap (λ b. if b then None else Some (TableIndex (before + i))) (le-ltb n limit above) in
      (above, cc)
]

pub mapped_some : (f : ℕ → BadImage) (o : Option ℕ) (bad : BadImage) → option_map f o ≡ Some bad → (x : ℕ) × (o ≡ Some x) × (f x ≡ bad)
mapped_some f None bad h = cc
mapped_some f (Some x) bad h = (x, refl, cc)

pub twice_breaks : (before : ℕ) (table : List (Option ℕ)) (k n : ℕ) (bad : BadImage) → twice_rule before table k n ≡ Some bad
    → (i : ℕ) × (i < k) × Lists table i n × (TableTwice (before + i) (before + k) ≡ bad)
twice_breaks before table k n bad h =
    let of = mapped_some (λ i. TableTwice (before + i) (before + k)) (entry_of (take k table) n) bad h in
    let twin = Lists-of_take table k of.0 n (entry_of-Some (take k table) n of.0 of.1) in
    (of.0, twin.0, twin.1, of.2)
