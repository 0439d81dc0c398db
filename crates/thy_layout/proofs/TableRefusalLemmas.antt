-- The refusal of one table that is found is the only one that is so: it names the first entries.
use Rattle.std.proofs.Common.{◌≡◌, ◌⊎◌, ℕ, ◌+◌, ◌<◌, List, Option, Some, None, refl, sym, ◌∙◌, ap, subst, inl, inr, arith, zero-add}
use Rattle.std.proofs.lemmas.Bool.{cases_lt}
use Rattle.std.specs.Option.{option_or}
use Rattle.thy_layout.specs.declared.bad_image.BadImage.{BadImage}
use Rattle.thy_layout.specs.declared.bad_image.BadImage.TheVariants.{TableIndex, TableTwice}
use Rattle.thy_layout.specs.Entries.{Lists}
use Rattle.thy_layout.specs.EntryFaults.{twice_rule, twice_fault}
use Rattle.thy_layout.specs.TableRefusals.{ListTwice, IsFirstWrong, IsFirstTwice, Says}
use Rattle.thy_layout.proofs.EntryFaultLemmas.{neither, unbroken, twice_asks}
use Rattle.thy_layout.proofs.EntryRefusalLemmas.{first, twice_breaks}

-- which of two faults is found
pub which : (a b : Option BadImage) (bad : BadImage) → option_or a b ≡ Some bad → (a ≡ Some bad) ⊎ ((a ≡ None) × (b ≡ Some bad))
which None b bad h = inr (refl, h)
which (Some a) b bad h = inl h

-- two numbers, neither of which is below the other, are one
pub one_number : (i k : ℕ) → (i < k → ⊥) → (k < i → ⊥) → i ≡ k
one_number i k a b = elim (cases_lt i k) as (λ _. i ≡ k) [
  | inl below ↦ absurd (a below)
  | inr above ↦ elim (cases_lt k i) as (λ _. i ≡ k) [
    | inl over ↦ absurd (b over)
    | inr level ↦ omega arith
  ]
]

-- of two that list what entry k does the first and the second are a pair as well
in_order : (table : List (Option ℕ)) (i j k : ℕ) → ListTwice table i k → ListTwice table j k → i < j → ListTwice table i j
in_order table i j k a b l =
    let same : b.number ≡ a.number = (let f = a.second.is in let g = b.second.is in cc) in
    record { number = a.number; before = l; first = a.first; second = subst (Lists table j) same b.first }

-- a table with this fault of entries by themselves, which names the first that is wrong, if one is
module _ (wrong : ℕ → Type 0) (table : List (Option ℕ)) (index : Option BadImage)
    (names : (bad : BadImage) → index ≡ Some bad → (i : ℕ) × (bad ≡ TableIndex i) × IsFirstWrong wrong i)
    (none : index ≡ None → (i : ℕ) → wrong i → ⊥) where
  twice_says : (bad : BadImage) → index ≡ None → twice_fault table ≡ Some bad → Says wrong table bad
  twice_says bad right h =
      let of = first (twice_rule 0 table) table bad h in
      let broken = twice_breaks 0 table of.entry of.number bad of.breaks in
      let is : IsFirstTwice wrong table broken.0 of.entry = record {
        here = record { number = of.number; before = broken.1; first = broken.2; second = of.lists };
        least = λ j m l pair. twice_asks 0 table j m pair.number (of.least m pair.number l pair.second) pair.before pair.first;
        none_wrong = none right;
      } in
      subst (Says wrong table) broken.3
      (subst (λ x. IsFirstTwice wrong table x (0 + of.entry)) (sym (zero-add broken.0))
      (subst (IsFirstTwice wrong table broken.0) (sym (zero-add of.entry)) is))

  -- the refusal that is found is so
  pub found_says : (bad : BadImage) → option_or index (twice_fault table) ≡ Some bad → Says wrong table bad
  found_says bad h = elim (which index (twice_fault table) bad h) as (λ _. Says wrong table bad) [
    | inl here ↦
        let of = names bad here in
        let is : Says wrong table (TableIndex of.0) = of.2 in
        subst (Says wrong table) (sym of.1) is
    | inr rest ↦ twice_says bad rest.0 rest.1
  ]

  says_cases : (bad : BadImage) → Says wrong table bad
      → ((i : ℕ) × (bad ≡ TableIndex i) × IsFirstWrong wrong i)
      ⊎ ((i : ℕ) × (k : ℕ) × (bad ≡ TableTwice i k) × IsFirstTwice wrong table i k)
  says_cases (TableIndex i) s = inl (i, refl, s)
  says_cases (TableTwice i k) s = inr (i, k, refl, s)
  says_cases bad s = absurd s

  one_wrong : (i k : ℕ) → IsFirstWrong wrong i → IsFirstWrong wrong k → i ≡ k
  one_wrong i k a b = one_number i k (λ l. b.least i l a.here) (λ l. a.least k l b.here)

  one_pair : (i j k : ℕ) → IsFirstTwice wrong table i k → IsFirstTwice wrong table j k → i ≡ j
  one_pair i j k a b =
      one_number i j
      (λ l. b.least i j b.here.before (in_order table i j k a.here b.here l))
      (λ l. a.least j i a.here.before (in_order table j i k b.here a.here l))

  one_twice : (i k j m : ℕ) → IsFirstTwice wrong table i k → IsFirstTwice wrong table j m → TableTwice i k ≡ TableTwice j m
  one_twice i k j m a b =
      let last : k ≡ m = one_number k m (λ l. b.least i k l a.here) (λ l. a.least j m l b.here) in
      let pair = one_pair i j k a (subst (IsFirstTwice wrong table j) (sym last) b) in
      ap (λ x. TableTwice x k) pair ∙ ap (TableTwice j) last

  one_refusal : (bad other : BadImage) → Says wrong table bad → Says wrong table other → bad ≡ other
  one_refusal bad other a b = elim (says_cases bad a) as (λ _. bad ≡ other) [
    | inl (i, e, s) ↦ elim (says_cases other b) as (λ _. bad ≡ other) [
      | inl (k, f, t) ↦ e ∙ ap TableIndex (one_wrong i k s t) ∙ sym f
      | inr (k, m, f, t) ↦ absurd (t.none_wrong i s.here)
    ]
    | inr (i, j, e, s) ↦ elim (says_cases other b) as (λ _. bad ≡ other) [
      | inl (k, f, t) ↦ absurd (s.none_wrong k t.here)
      | inr (k, m, f, t) ↦ e ∙ one_twice i j k m s t ∙ sym f
    ]
  ]

  -- a table of which a refusal is so has a fault
  some_fault : (bad : BadImage) → Says wrong table bad → option_or index (twice_fault table) ≡ None → ⊥
  some_fault bad s h =
      let parts = neither index (twice_fault table) h in
      elim (says_cases bad s) as (λ _. ⊥) [
        | inl (i, e, a) ↦ none parts.0 i a.here
        | inr (i, k, e, a) ↦
            twice_asks 0 table i k a.here.number
            (unbroken (twice_rule 0 table) table parts.1 k a.here.number a.here.second) a.here.before a.here.first
      ]

  found_is : (bad : BadImage) (found : Option BadImage) → option_or index (twice_fault table) ≡ found → Says wrong table bad
      → found ≡ Some bad
  found_is bad None h s = absurd (some_fault bad s h)
  found_is bad (Some other) h s = ap Some (one_refusal other bad (found_says other h) s)

  -- a refusal that is so is the one that is found
  pub found_if_so : (bad : BadImage) → Says wrong table bad → option_or index (twice_fault table) ≡ Some bad
  found_if_so bad s = found_is bad (option_or index (twice_fault table)) refl s
