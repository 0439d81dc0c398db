-- The name of a table that is taken out of the arguments.
use Rattle.std.proofs.Common.{◌≡◌, ℕ, ◌≤◌, Bool, true, false, List, [], ◌∷◌, map, length, get_or, Option, Some, None, sym, ◌∙◌, ap, ap₂, arith}
use Rattle.std.specs.List.{remove}
use Rattle.observe.specs.AccessText.{Naming, is_accesses, name_by, name_in}

abbrev left_with : Option (List ℕ) → List (List ℕ) → Naming
left_with name words = (name, words)

-- another word is left
pub name-left : {S : Type 0} (f : S → List ℕ) (items : List S) (word : S) → 3 ≤ length items
    → word ≡ get_or items 1 word → is_accesses (f word) ≡ false → name_in (map f items) ≡ left_with None (map f items)
name-left f [] word many is other = absurd (omega (arith, many))
name-left f (program ∷ []) word many is other = absurd (omega (arith, many))
name-left f (program ∷ second ∷ []) word many is other = absurd (omega (arith, many))
name-left {S = S} f (program ∷ second ∷ third ∷ rest) word many is other =
    ap (λ (b : Bool). name_by b (f program) (f second) (f third) (map f rest)) (ap (λ (x : S). is_accesses (f x)) (sym is) ∙ other)

-- the option is taken with its name
pub name-taken : {S : Type 0} (f : S → List ℕ) (items fewer left : List S) (word name : S) → 3 ≤ length items
    → word ≡ get_or items 1 word → is_accesses (f word) ≡ true → name ≡ get_or items 2 name → fewer ≡ remove items 2 → left ≡ remove fewer 1
    → name_in (map f items) ≡ left_with (Some (f name)) (map f left)
name-taken f [] fewer left word name many is same place first gone = absurd (omega (arith, many))
name-taken f (program ∷ []) fewer left word name many is same place first gone = absurd (omega (arith, many))
name-taken f (program ∷ second ∷ []) fewer left word name many is same place first gone = absurd (omega (arith, many))
name-taken {S = S} f (program ∷ second ∷ third ∷ rest) fewer left word name many is same place first gone =
    ap (λ (b : Bool). name_by b (f program) (f second) (f third) (map f rest)) (ap (λ (x : S). is_accesses (f x)) (sym is) ∙ same)
    ∙ ap₂ (λ (x : S) (l : List S). left_with (Some (f x)) (map f l)) (sym place) (sym (gone ∙ ap (λ (l : List S). remove l 1) first))
