-- The order of use, in which each way stands once.
use Rattle.std.proofs.Common.{◌≡◌, ◌⊎◌, ℕ, suc, ◌+◌, ◌-◌, ◌<◌, ◌≤◌, ◌==◌, List, [], ◌∷◌, ◌++◌, length, get_or, take, Option, Some, None, refl, sym, ◌∙◌, ap, append-nil, inl, inr, arith}
use Rattle.std.specs.List.{remove, position, range_with_len}
use Rattle.std.specs.Option.{option_map_or}
use Rattle.std.proofs.Math.ListN.{drop_of_length-le}
use Rattle.std.proofs.Math.Seq.{take-suc, get_or-append_seam}
use Rattle.std.proofs.lemmas.Bool.{cases_lt, eqb-true}
use Rattle.std.proofs.lemmas.List.{get_or_append_left, length_push, take_all}
use Rattle.std.proofs.lemmas.List.Edits.{length-remove, get_or-remove_below, get_or-remove_above}
use Rattle.std.proofs.lemmas.List.FromFn.{length-range_with_len, get_or-range_with_len}
use Rattle.std.proofs.lemmas.List.Quantifiers.{position-Some}
use Rattle.thy_cache.specs.Ways.{StandOnce, moved_last}

-- a way that is found stands there
pub found_way : (order : List ℕ) (w at : ℕ) → position (λ v. v == w) order ≡ Some at → (at < length order) × (get_or order at 0 ≡ w)
found_way order w at e =
    let there = position-Some (λ v. v == w) order at 0 e in
    (there.0, eqb-true (get_or order at 0) w there.1)

-- from where the element at i came, when that at another place went to the end of n
abbrev CameFrom : ℕ → ℕ → ℕ → ℕ → Type 0
CameFrom n at i k = ((i < at) × (k ≡ i)) ⊎ (((at ≤ i) × (k ≡ i + 1)) ⊎ ((i + 1 ≡ n) × (k ≡ at)))

-- two elements came from two places
came_apart : (n at i j k l : ℕ) → CameFrom n at i k → CameFrom n at j l → k ≡ l → i ≡ j
came_apart n at i j k l (inl p) (inl q) e = omega (arith, p.1, q.1, e)
came_apart n at i j k l (inl p) (inr (inl q)) e = omega (arith, p.0, p.1, q.0, q.1, e)
came_apart n at i j k l (inl p) (inr (inr q)) e = omega (arith, p.0, p.1, q.1, e)
came_apart n at i j k l (inr (inl p)) (inl q) e = omega (arith, p.0, p.1, q.0, q.1, e)
came_apart n at i j k l (inr (inl p)) (inr (inl q)) e = omega (arith, p.1, q.1, e)
came_apart n at i j k l (inr (inl p)) (inr (inr q)) e = omega (arith, p.0, p.1, q.1, e)
came_apart n at i j k l (inr (inr p)) (inl q) e = omega (arith, p.1, q.0, q.1, e)
came_apart n at i j k l (inr (inr p)) (inr (inl q)) e = omega (arith, p.1, q.0, q.1, e)
came_apart n at i j k l (inr (inr p)) (inr (inr q)) e = omega (arith, p.0, q.0)

module _ (order : List ℕ) (at w : ℕ) where
  abbrev moved : List ℕ
  moved = remove order at ++ w ∷ []

  came_from : (i : ℕ) → at < length order → get_or order at 0 ≡ w → i < length order
      → (k : ℕ) × (k < length order) × (get_or moved i 0 ≡ get_or order k 0) × CameFrom (length order) at i k
  came_from i inside is here =
      let n : length (remove order at) + 1 ≡ length order = length-remove order at inside in
      elim (cases_lt i at) as (λ _. (k : ℕ) × (k < length order) × (get_or moved i 0 ≡ get_or order k 0) × CameFrom (length order) at i k) [
        | inl below ↦
            let left : i < length (remove order at) = omega (arith, n, below, inside) in
            (i, here, get_or_append_left (remove order at) (w ∷ []) 0 i left ∙ get_or-remove_below order at 0 i below inside, inl (below, refl))
        | inr above ↦
            elim (cases_lt (i + 1) (length order))
            as (λ _. (k : ℕ) × (k < length order) × (get_or moved i 0 ≡ get_or order k 0) × CameFrom (length order) at i k) [
              | inl more ↦
                  let left : i < length (remove order at) = omega (arith, n, more) in
                  (i + 1, more, get_or_append_left (remove order at) (w ∷ []) 0 i left ∙ get_or-remove_above order at 0 i above inside, inr (inl (above, refl)))
              | inr end ↦
                  let last : i ≡ length (remove order at) = omega (arith, n, end, here) in
                  (at, inside, ap (λ t. get_or moved t 0) last ∙ get_or-append_seam (remove order at) w [] 0 ∙ sym is, inr (inr (omega (arith, end, here), refl)))
            ]
      ]

  -- each way stands in it once after one was moved to the end
  pub StandOnce-moved : StandOnce order → at < length order → get_or order at 0 ≡ w → StandOnce (remove order at ++ w ∷ [])
  StandOnce-moved once inside is i j here there e =
      let n : length moved ≡ length order = length_push (remove order at) w ∙ length-remove order at inside in
      let a = came_from i inside is (omega (arith, n, here)) in
      let b = came_from j inside is (omega (arith, n, there)) in
      came_apart (length order) at i j a.0 b.0 a.3 b.3 (once a.0 b.0 a.1 b.1 (sym a.2 ∙ e ∙ b.2))

pub StandOnce-range : (n : ℕ) → StandOnce (range_with_len 0 n)
StandOnce-range n i j here there e =
    let a : i < n = omega (arith, here, length-range_with_len 0 n) in
    let b : j < n = omega (arith, there, length-range_with_len 0 n) in
    omega (arith, e, get_or-range_with_len 0 n i 0 a, get_or-range_with_len 0 n j 0 b)

module _ (order : List ℕ) (w : ℕ) (some : 0 < length order) (once : StandOnce order) (last : get_or order (length order - 1) 0 ≡ w) where
  -- the last one stays where it is
  last_by : (o : Option ℕ) → position (λ v. v == w) order ≡ o → option_map_or (λ at. remove order at ++ w ∷ []) o order ≡ order
  last_by None e = refl
  last_by (Some at) e =
      let there = found_way order w at e in
      let same : at ≡ length order - 1 = once at (length order - 1) there.0 (omega (arith, some)) (there.1 ∙ sym last) in
      let end : length order ≤ suc at = omega (arith, same, some) in
      ap (λ t. (take at order ++ t) ++ w ∷ []) (drop_of_length-le order end)
      ∙ ap (λ t. t ++ w ∷ []) (append-nil (take at order))
      ∙ ap (λ x. take at order ++ x ∷ []) (sym there.1)
      ∙ sym (take-suc order at 0 there.0)
      ∙ take_all (suc at) order end

  pub moved_last-last : moved_last w order ≡ order
  moved_last-last = last_by (position (λ v. v == w) order) refl
