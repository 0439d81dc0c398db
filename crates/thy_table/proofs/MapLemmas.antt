-- A table whose first entries were changed by a rule.
use Rattle.std.proofs.Common.{◌≡◌, ℕ, ◌+◌, ◌<◌, ◌≤◌, List, [], ◌∷◌, ◌++◌, length, map, take, drop, get_or, slice_set, Option, None, sym, ◌∙◌, ap, arith}
use Rattle.std.specs.Option.{option_and_then}
use Rattle.std.proofs.lemmas.List.{length-map, length-take-le, length-append, length-drop, map_more, drop_more, get_or_at, set_at, append_assoc, take_all, drop_all, append-nil}
use Rattle.thy_table.specs.Listing.{Listing, listing, entry_at, with_entry, mapped}

-- the first elements as a function has them, the rest as they were
abbrev pub mapped_below : {X : Type 0} → (X → X) → ℕ → List X → List X
mapped_below f i xs = map f (take i xs) ++ drop i xs

-- a table after a rule was applied to the entries below a place
abbrev pub mapped_to : {E : Type 0} → (E → Option E) → ℕ → Listing E → Listing E
mapped_to rule i t = listing (mapped_below (option_and_then rule) i t.entries) t.numbers

module _ {X : Type 0} (f : X → X) (d : X) where
  module _ (xs : List X) (i : ℕ) (l : i < length xs) where
    front : length (map f (take i xs)) ≡ i
    front = length-map (take i xs) f ∙ length-take-le i xs (omega arith)

    here : mapped_below f i xs ≡ map f (take i xs) ++ get_or xs i d ∷ drop (i + 1) xs
    here = ap (λ ys. map f (take i xs) ++ ys) (drop_more xs i d l)

    next : mapped_below f (i + 1) xs ≡ map f (take i xs) ++ f (get_or xs i d) ∷ drop (i + 1) xs
    next = ap (λ ys. ys ++ drop (i + 1) xs) (map_more f xs i d l) ∙ append_assoc (map f (take i xs)) (f (get_or xs i d) ∷ []) (drop (i + 1) xs)

    pub get_or-mapped_below : get_or (mapped_below f i xs) i d ≡ get_or xs i d
    get_or-mapped_below =
        ap (λ ys. get_or ys i d) here ∙ get_or_at (map f (take i xs)) (get_or xs i d) (drop (i + 1) xs) d i front

    -- one element more
    pub mapped_below-more : slice_set (mapped_below f i xs) i (f (get_or xs i d)) ≡ mapped_below f (i + 1) xs
    mapped_below-more =
        ap (λ ys. slice_set ys i (f (get_or xs i d))) here
        ∙ set_at (map f (take i xs)) (get_or xs i d) (drop (i + 1) xs) (f (get_or xs i d)) i front ∙ sym next

  pub mapped_below-all : (xs : List X) (i : ℕ) → length xs ≤ i → mapped_below f i xs ≡ map f xs
  mapped_below-all xs i l =
      ap (λ ys. map f (take i xs) ++ ys) (drop_all i xs l) ∙ append-nil (map f (take i xs)) ∙ ap (map f) (take_all i xs l)

  pub length-mapped_below : (xs : List X) (i : ℕ) → i ≤ length xs → length (mapped_below f i xs) ≡ length xs
  length-mapped_below xs i l = grind (arith, length-append {A = X}, length-map (take i xs) f, length-take-le i xs l, length-drop i xs)

module _ {E : Type 0} (rule : E → Option E) (t : Listing E) where
  -- a table after a rule was applied to the entries below a place, one place further
  pub mapped_to-more : (now : Listing E) (i : ℕ) → i < length t.entries → now ≡ mapped_to rule i t
      → with_entry i (option_and_then rule (entry_at now i)) now ≡ mapped_to rule (i + 1) t
  mapped_to-more now i l e =
      let f = option_and_then rule in
      ap (λ u. with_entry i (f (entry_at u i)) u) e
      ∙ ap (λ o. listing (slice_set (mapped_below f i t.entries) i (f o)) t.numbers) (get_or-mapped_below f None t.entries i l)
      ∙ ap (λ es. listing es t.numbers) (mapped_below-more f None t.entries i l)

  -- a table in which a rule was applied below a place past the last entry is one in which it was applied to all
  pub mapped_to-all : (i : ℕ) → length t.entries ≤ i → mapped_to rule i t ≡ mapped rule t
  mapped_to-all i l = ap (λ es. listing es t.numbers) (mapped_below-all (option_and_then rule) None t.entries i l)

  -- a rule leaves the number of entries
  pub length-mapped_to : (i : ℕ) → i ≤ length t.entries → length (mapped_to rule i t).entries ≡ length t.entries
  length-mapped_to i l = length-mapped_below (option_and_then rule) None t.entries i l
