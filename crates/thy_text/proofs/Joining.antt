-- Parts that are taken one after another.
use Rattle.std.proofs.Common.{◌≡◌, ℕ, ◌+◌, ◌<◌, List, [], ◌∷◌, ◌++◌, map, take, drop, length, length-append, get_or, refl, sym, ap, arith, ◌∙◌, append_assoc, append-nil}
use Rattle.std.proofs.lemmas.List.{take-append-drop, take_more, map-append}
use Rattle.thy_text.specs.Lines.{joined}

-- the parts of two lists
pub joined-append : (xs ys : List (List ℕ)) → joined (xs ++ ys) ≡ joined xs ++ joined ys
joined-append [] ys = refl
joined-append (x ∷ xs) ys = ap (λ l. x ++ l) (joined-append xs ys) ∙ sym (append_assoc x (joined xs) (joined ys))

module _ {X : Type 0} (f : X → List ℕ) (xs : List X) (i : ℕ) where
  -- the joined texts of the first elements of a list, with one more
  pub joined-take-more : (d : X) → i < length xs → joined (map f (take (i + 1) xs)) ≡ joined (map f (take i xs)) ++ f (get_or xs i d)
  joined-take-more d h =
      ap (λ l. joined (map f l)) (take_more xs i d h)
      ∙ ap joined (map-append f (take i xs) (get_or xs i d ∷ []))
      ∙ joined-append (map f (take i xs)) (f (get_or xs i d) ∷ [])
      ∙ ap (λ l. joined (map f (take i xs)) ++ l) (append-nil (f (get_or xs i d)))

  -- the joined texts of a list: the texts of its first elements, and then the rest
  pub joined-split : joined (map f xs) ≡ joined (map f (take i xs)) ++ joined (map f (drop i xs))
  joined-split =
      ap (λ l. joined (map f l)) (sym (take-append-drop i xs))
      ∙ ap joined (map-append f (take i xs) (drop i xs))
      ∙ joined-append (map f (take i xs)) (map f (drop i xs))

-- if the elements up to one are longer than n together, all are
pub joined-longer : {X : Type 0} (f : X → List ℕ) (xs : List X) (i n : ℕ) (d : X) (before : List ℕ) → i < length xs
    → before ≡ joined (map f (take i xs)) → n < length before + length (f (get_or xs i d)) → n < length (joined (map f xs))
joined-longer f xs i n d before h is long =
    let now = joined (map f (take (i + 1) xs)) in
    let rest = joined (map f (drop (i + 1) xs)) in
    let all : length (joined (map f xs)) ≡ length now + length rest =
    ap length (joined-split f xs (i + 1)) ∙ length-append now rest in
    let here : length now ≡ length before + length (f (get_or xs i d)) =
    ap length (joined-take-more f xs i d h) ∙ length-append (joined (map f (take i xs))) (f (get_or xs i d))
    ∙ ap (λ l. length l + length (f (get_or xs i d))) (sym is) in
    omega (arith, long, all, here)
