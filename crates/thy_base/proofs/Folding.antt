-- A fold over a list, one item more.
use Rattle.std.proofs.Common.{◌≡◌, ◌∙◌, ℕ, ◌+◌, ◌<◌, List, [], ◌∷◌, ap, fold, get_or, length, take}
use Rattle.std.proofs.lemmas.List.{take_more}
use Rattle.std.proofs.lemmas.List.Sums.{fold-append}

pub fold-more : {X Y : Type 0} (f : Y → X → Y) (a : Y) (xs : List X) (i : ℕ) (d : X) → i < length xs
    → fold f a (take (i + 1) xs) ≡ f (fold f a (take i xs)) (get_or xs i d)
fold-more f a xs i d lt = ap (fold f a) (take_more xs i d lt) ∙ fold-append f a (take i xs) (get_or xs i d ∷ [])
