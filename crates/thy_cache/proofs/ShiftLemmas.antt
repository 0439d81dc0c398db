-- A loop that moves one element of a list to its end: each one behind it comes one place nearer to the start.
use Rattle.std.proofs.Common.{◌≡◌, ℕ, suc, ◌+◌, ◌-◌, ◌<◌, ◌≤◌, List, [], ◌∷◌, ◌++◌, length, get_or, take, drop, sym, ◌∙◌, ap, arith}
use Rattle.std.specs.List.{remove, slice_set}
use Rattle.std.proofs.Math.Seq.{take-suc, get_or-drop}
use Rattle.std.proofs.lemmas.List.{append_assoc, length-take-le, get_or-append_right, set-append_right, drop_more, drop_all, take_all}
use Rattle.std.proofs.lemmas.List.Edits.{length-remove, get_or-remove_above}

-- one element more came nearer
pub shift-step : (xs items : List ℕ) (at k y : ℕ) → at < length xs → at ≤ k → k + 1 < length xs
    → items ≡ take k (remove xs at) ++ drop k xs → y ≡ get_or items (k + 1) y
    → slice_set items k y ≡ take (k + 1) (remove xs at) ++ drop (k + 1) xs
shift-step xs items at k y inside above more e read =
    let rest : List ℕ = remove xs at in
    let n : length rest + 1 ≡ length xs = length-remove xs at inside in
    let front : length (take k rest) ≡ k = length-take-le k rest (omega (arith, n, more)) in
    let there : k + (k + 1 - k) ≡ k + 1 = omega arith in
    let none : k - k ≡ 0 = omega arith in
    let on : k + 1 ≡ suc k = omega arith in
    let next : y ≡ get_or xs (k + 1) y
    = read ∙ ap (λ t. get_or t (k + 1) y) e
    ∙ get_or-append_right (take k rest) (drop k xs) k (k + 1) y front (omega arith)
    ∙ get_or-drop k xs (k + 1 - k) y
    ∙ ap (λ j. get_or xs j y) there in
    let moved : get_or rest k y ≡ y = get_or-remove_above xs at y k above inside ∙ sym next in
    ap (λ t. slice_set t k y) e
    ∙ set-append_right (take k rest) (drop k xs) k k y front (omega arith)
    ∙ ap (λ t. take k rest ++ slice_set t (k - k) y) (drop_more xs k y (omega (arith, more)))
    ∙ ap (λ j. take k rest ++ slice_set (get_or xs k y ∷ drop (k + 1) xs) j y) none
    ∙ sym (append_assoc (take k rest) (y ∷ []) (drop (k + 1) xs))
    ∙ ap (λ t. t ++ drop (k + 1) xs)
    (ap (λ v. take k rest ++ v ∷ []) (sym moved) ∙ sym (take-suc rest k y (omega (arith, n, more))) ∙ ap (λ j. take j rest) (sym on))

-- the element goes to the end
pub shift-end : (xs items : List ℕ) (at k y : ℕ) → at < length xs → k + 1 ≡ length xs → items ≡ take k (remove xs at) ++ drop k xs
    → slice_set items k y ≡ remove xs at ++ y ∷ []
shift-end xs items at k y inside end e =
    let rest : List ℕ = remove xs at in
    let n : length rest + 1 ≡ length xs = length-remove xs at inside in
    let none : k - k ≡ 0 = omega arith in
    let whole : take k rest ≡ rest = take_all k rest (omega (arith, n, end)) in
    let over : drop (k + 1) xs ≡ [] = drop_all (k + 1) xs (omega (arith, end)) in
    ap (λ t. slice_set t k y) (e ∙ ap (λ t. t ++ drop k xs) whole)
    ∙ set-append_right rest (drop k xs) k k y (omega (arith, n, end)) (omega arith)
    ∙ ap (λ t. rest ++ slice_set t (k - k) y) (drop_more xs k y (omega (arith, end)) ∙ ap (λ t. get_or xs k y ∷ t) over)
    ∙ ap (λ j. rest ++ slice_set (get_or xs k y ∷ []) j y) none
