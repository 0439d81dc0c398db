-- The first fault of a list, and what each rule of entries asks.
use Rattle.std.proofs.Common.{◌≡◌, ℕ, zero, suc, ◌+◌, ◌<◌, Bool, true, false, nat_lt, if◌then◌else◌, List, [], ◌∷◌, take, Option, Some, None, refl, sym, ◌∙◌, ap, inl, inr, arith, zero-add}
use Rattle.std.proofs.lemmas.Bool.{cases_lt, lt-ltb, ltb-true}
use Rattle.std.proofs.Math.Nat.{add-zero}
use Rattle.std.specs.Option.{option_or, option_map}
use Rattle.thy_layout.specs.declared.bad_image.BadImage.{BadImage}
use Rattle.thy_layout.specs.declared.bad_image.BadImage.TheVariants.{TableIndex}
use Rattle.thy_layout.specs.Entries.{Lists, entry_of}
use Rattle.thy_layout.specs.EntryFaults.{entry_fault, first_clash, index_rule, twice_rule}
use Rattle.thy_layout.proofs.EntryLemmas.{entry_of-None, entry_of-absent, Lists-take, Lists-of_take}

pub neither : (a b : Option BadImage) → option_or a b ≡ None → (a ≡ None) × (b ≡ None)
neither None b h = (refl, h)
neither (Some x) b h = cc

pub both_none : (a b : Option BadImage) → a ≡ None → b ≡ None → option_or a b ≡ None
both_none a b h k = ap (λ x. option_or x b) h ∙ k

pub mapped_none : (f : ℕ → BadImage) (o : Option ℕ) → option_map f o ≡ None → o ≡ None
mapped_none f None h = refl
mapped_none f (Some x) h = cc

module _ (rule : ℕ → ℕ → Option BadImage) where
  -- if no entry has a fault, none breaks the rule
  pub first_clash-None : (k : ℕ) (es : List (Option ℕ)) → first_clash rule k es ≡ None → (i n : ℕ) → Lists es i n → rule (k + i) n ≡ None
  first_clash-None k [] h i n l = let is = l.is in cc
  first_clash-None k (e ∷ es) h zero n l =
      let first : entry_fault rule k e ≡ None = (neither (entry_fault rule k e) (first_clash rule (k + 1) es) h).0 in
      ap (λ x. rule x n) (add-zero k) ∙ sym (ap (entry_fault rule k) l.is) ∙ first
  first_clash-None k (e ∷ es) h (suc i) n l =
      let rest : first_clash rule (k + 1) es ≡ None = (neither (entry_fault rule k e) (first_clash rule (k + 1) es) h).1 in
      let next : k + suc i ≡ k + 1 + i = omega arith in
      ap (λ x. rule x n) next ∙ first_clash-None (k + 1) es rest i n (record { is = l.is })

  entry_fault-None : (k : ℕ) (e : Option ℕ) → ((n : ℕ) → e ≡ Some n → rule k n ≡ None) → entry_fault rule k e ≡ None
  entry_fault-None k None h = refl
  entry_fault-None k (Some n) h = h n refl

  -- if no entry breaks the rule, none has a fault
  pub first_clash-of_rule : (k : ℕ) (es : List (Option ℕ)) → ((i n : ℕ) → Lists es i n → rule (k + i) n ≡ None)
      → first_clash rule k es ≡ None
  first_clash-of_rule k [] h = refl
  first_clash-of_rule k (e ∷ es) h =
      both_none (entry_fault rule k e) (first_clash rule (k + 1) es)
      (entry_fault-None k e (λ n is. ap (λ x. rule x n) (sym (add-zero k)) ∙ h 0 n (record { is = is })))
      (first_clash-of_rule (k + 1) es (λ i n l.
      let next : k + 1 + i ≡ k + suc i = omega arith in
      ap (λ x. rule x n) next ∙ h (suc i) n (record { is = l.is })))

  -- if no entry of a whole table has a fault, none breaks the rule
  pub unbroken : (es : List (Option ℕ)) → first_clash rule 0 es ≡ None → (i n : ℕ) → Lists es i n → rule i n ≡ None
  unbroken es h i n l = ap (λ x. rule x n) (sym (zero-add i)) ∙ first_clash-None 0 es h i n l

  pub none_breaks : (es : List (Option ℕ)) → ((i n : ℕ) → Lists es i n → rule i n ≡ None) → first_clash rule 0 es ≡ None
  none_breaks es h = first_clash-of_rule 0 es (λ i n l. ap (λ x. rule x n) (zero-add i) ∙ h i n l)

pub index_asks : (before limit i n : ℕ) → index_rule before limit i n ≡ None → n < limit
index_asks before limit i n h =
    let cases : (b : Bool) → (if b then None else Some (TableIndex (before + i))) ≡ None → b ≡ true
    = λ b. elim b as (λ b. (if b then None else Some (TableIndex (before + i))) ≡ None → b ≡ true) [ true ↦ λ e. refl | false ↦ λ e. cc ] in
    ltb-true n limit (cases (nat_lt n limit) h)

pub index_holds : (before limit i n : ℕ) → n < limit → index_rule before limit i n ≡ None
index_holds before limit i n l = ap (λ b. if b then None else Some (TableIndex (before + i))) (lt-ltb n limit l)

module _ (before : ℕ) (table : List (Option ℕ)) where
  pub twice_asks : (i k n : ℕ) → twice_rule before table k n ≡ None → i < k → Lists table i n → ⊥
  twice_asks i k n h l here = entry_of-None (take k table) n i (mapped_none _ (entry_of (take k table) n) h) (Lists-take table k i n l here)

  twice_holds : (k n : ℕ) → ((i : ℕ) → i < k → Lists table i n → ⊥) → twice_rule before table k n ≡ None
  twice_holds k n none =
      ap (option_map _) (entry_of-absent (take k table) n (λ i l. let of = Lists-of_take table k i n l in none i of.0 of.1))

apart_once : (table : List (Option ℕ)) → ((i k n : ℕ) → i < k → Lists table i n → Lists table k n → ⊥)
    → (i k n : ℕ) → Lists table i n → Lists table k n → i ≡ k
apart_once table none i k n a b = elim (cases_lt i k) as (λ _. i ≡ k) [
  | inl below ↦ absurd (none i k n below a b)
  | inr above ↦ elim (cases_lt k i) as (λ _. i ≡ k) [
    | inl over ↦ absurd (none k i n over b a)
    | inr level ↦ omega arith
  ]
]

module _ (before : ℕ) (table : List (Option ℕ)) where
  -- no number is listed twice, if no entry clashes with an earlier one
  pub once : first_clash (twice_rule before table) 0 table ≡ None → (i k n : ℕ) → Lists table i n → Lists table k n → i ≡ k
  once h = apart_once table (λ i k n l a b. twice_asks before table i k n (unbroken (twice_rule before table) table h k n b) l a)

  -- no entry clashes with an earlier one, if no number is listed twice
  pub no_twins : ((i k n : ℕ) → Lists table i n → Lists table k n → i ≡ k) → first_clash (twice_rule before table) 0 table ≡ None
  no_twins one = none_breaks (twice_rule before table) table
      (λ k n b. twice_holds before table k n (λ i l a. let same = one i k n a b in omega arith))
