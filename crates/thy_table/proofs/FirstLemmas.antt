-- The first place from one on whose element passes a test.
use Rattle.std.proofs.Common.{◌≡◌, ℕ, ◌+◌, ◌-◌, ◌<◌, ◌≤◌, Bool, true, false, cond, List, length, get_or, drop, Option, Some, None, refl, sym, ◌∙◌, ap, inl, inr, arith, nat_lt}
use Rattle.std.specs.List.{position, position_or_len}
use Rattle.std.specs.Option.{option_map}
use Rattle.std.proofs.lemmas.Bool.{cases_lt, lt-ltb, le-ltb}
use Rattle.std.proofs.lemmas.List.{length-drop, get_or-drop}
use Rattle.std.proofs.lemmas.List.Sums.{position_or_len_is, fails_before_first}
use Rattle.std.proofs.lemmas.List.Quantifiers.{position-Some}
use Rattle.thy_table.specs.Listing.{first_from}

module _ {X : Type 0} (p : X → Bool) (d : X) where
  pub position-first : (xs : List X) (i : ℕ) → i < length xs → p (get_or xs i d) ≡ true → ((k : ℕ) → k < i → p (get_or xs k d) ≡ false)
      → position p xs ≡ Some i
  position-first xs i inside here before =
      let e : position_or_len p xs ≡ i = position_or_len_is p xs i d (omega arith) before (λ _. here) in
      ap (λ n. cond (nat_lt n (length xs)) (Some n) None) e ∙ ap (λ t. cond t (Some i) None) (lt-ltb i (length xs) inside)

  pub position-none : (xs : List X) → ((k : ℕ) → k < length xs → p (get_or xs k d) ≡ false) → position p xs ≡ None
  position-none xs none =
      let e : position_or_len p xs ≡ length xs = position_or_len_is p xs (length xs) d (omega arith) none (λ h. absurd (omega arith)) in
      ap (λ n. cond (nat_lt n (length xs)) (Some n) None) e ∙ ap (λ t. cond t (Some (length xs)) None) (le-ltb (length xs) (length xs) (omega arith))

  -- if no first place is found, no element passes
  pub none-position : (xs : List X) → position p xs ≡ None → (k : ℕ) → k < length xs → p (get_or xs k d) ≡ false
  none-position xs e k inside = elim (cases_lt (position_or_len p xs) (length xs)) as (λ _. p (get_or xs k d) ≡ false) [
    | inl l ↦ let some : position p xs ≡ Some (position_or_len p xs) =
        ap (λ t. cond t (Some (position_or_len p xs)) None) (lt-ltb (position_or_len p xs) (length xs) l) in
        let both : Some (position_or_len p xs) ≡ None = sym some ∙ e in cc
    | inr l ↦ fails_before_first p xs k d (omega arith)
  ]

  pub first_from-is : (xs : List X) (from i : ℕ) → from ≤ i → i < length xs → p (get_or xs i d) ≡ true
      → ((k : ℕ) → from ≤ k → k < i → p (get_or xs k d) ≡ false)
      → first_from p from xs ≡ Some i
  first_from-is xs from i above inside here before =
      let there : position p (drop from xs) ≡ Some (i - from) = position-first (drop from xs) (i - from)
      (omega (arith, length-drop from xs))
      (ap p (get_or-drop from xs (i - from) d ∙ ap (λ n. get_or xs n d) (omega arith)) ∙ here)
      (λ k l. ap p (get_or-drop from xs k d) ∙ before (from + k) (omega arith) (omega arith)) in
      let same : from + (i - from) ≡ i = omega arith in
      ap (option_map (λ k. from + k)) there ∙ ap Some same

  pub first_from-none : (xs : List X) (from : ℕ) → ((k : ℕ) → from ≤ k → k < length xs → p (get_or xs k d) ≡ false)
      → first_from p from xs ≡ None
  first_from-none xs from none =
      ap (option_map (λ k. from + k)) (position-none (drop from xs)
      (λ k l. ap p (get_or-drop from xs k d) ∙ none (from + k) (omega arith) (omega (arith, l, length-drop from xs))))

  -- what is known of the first place that passes
  pub record IsFirst (xs : List X) (from i : ℕ) : Type 0 where
    pub above : from ≤ i
    pub inside : i < length xs
    pub here : p (get_or xs i d) ≡ true
    pub before : (k : ℕ) → from ≤ k → k < i → p (get_or xs k d) ≡ false

  module _ (xs : List X) (from : ℕ) where
    private_some : (i : ℕ) (o : Option ℕ) → position p (drop from xs) ≡ o → option_map (λ k. from + k) o ≡ Some i → IsFirst xs from i
    private_some i None e h = cc
    private_some i (Some k) e h =
        let same : from + k ≡ i = cc in
        let first = position-Some p (drop from xs) k d e in
        record {
          above = omega arith;
          inside = omega (arith, first.0, length-drop from xs, same);
          here = ap p (sym (get_or-drop from xs k d ∙ ap (λ n. get_or xs n d) same)) ∙ first.1;
          before = λ j a l.
              let back : from + (j - from) ≡ j = omega arith in
              ap p (sym (get_or-drop from xs (j - from) d ∙ ap (λ n. get_or xs n d) back)) ∙ first.2 (j - from) (omega (arith, same));
        }

    pub first_from-first : (i : ℕ) → first_from p from xs ≡ Some i → IsFirst xs from i
    first_from-first i h = private_some i (position p (drop from xs)) refl h

    private_none : (o : Option ℕ) → position p (drop from xs) ≡ o → option_map (λ k. from + k) o ≡ None → position p (drop from xs) ≡ None
    private_none None e h = e
    private_none (Some k) e h = cc

    -- if no place from one on is found, no element from there on passes
    pub none-first_from : first_from p from xs ≡ None → (k : ℕ) → from ≤ k → k < length xs → p (get_or xs k d) ≡ false
    none-first_from h k above inside =
        let back : from + (k - from) ≡ k = omega arith in
        ap p (sym (get_or-drop from xs (k - from) d ∙ ap (λ n. get_or xs n d) back))
        ∙ none-position (drop from xs) (private_none (position p (drop from xs)) refl h) (k - from) (omega (arith, inside, length-drop from xs))

    -- if no element below a place passes, the first from there on is the first of all
    pub first_from-position : ((k : ℕ) → k < from → p (get_or xs k d) ≡ false) → first_from p from xs ≡ position p xs
    first_from-position below = by_answer (first_from p from xs) refl where
      by_answer : (o : Option ℕ) → first_from p from xs ≡ o → first_from p from xs ≡ position p xs
      by_answer (Some i) h = let first = first_from-first i h in
          h ∙ sym (position-first xs i first.inside first.here
          (λ k l. elim (cases_lt k from) as (λ _. p (get_or xs k d) ≡ false) [ inl b ↦ below k b | inr a ↦ first.before k a l ]))
      by_answer None h =
          h ∙ sym (position-none xs
          (λ k l. elim (cases_lt k from) as (λ _. p (get_or xs k d) ≡ false) [ inl b ↦ below k b | inr a ↦ none-first_from h k a l ]))
