-- Facts of tests, options, results and lists that several crates need, and std has not.
use Rattle.std.proofs.Common.{◌≡◌, ℕ, ◌==◌, ◌<◌, Bool, true, false, not, ◌&&◌, ◌||◌, replicate, get_or, Option, Some, None, is_some, unwrap_or, Result, Ok, Err, OnErr, refl, ◌∙◌, ap, inl, inr, arith, [], Contains, ◌≢◌, zero, suc, List, ◌∷◌, ◌+◌, sym, ◌-◌, ◌≤◌, ◌++◌, length}
use Rattle.std.proofs.lemmas.Bool.{cases_lt}
use Rattle.std.proofs.lemmas.Bool.Decides.{nat_tests}
use Rattle.std.proofs.lemmas.List.{get_or-replicate, get_or_past, length-replicate, length-append}
use Rattle.std.specs.Option.{option_or, option_map}
use Rattle.std.proofs.lemmas.List.FromFn.{length-range_with_len, get_or-range_with_len}
use Rattle.std.specs.List.{range_with_len}

-- a test or false is the test
pub or_false : (b : Bool) → (b || false) ≡ b
or_false true = refl
or_false false = refl

-- the negation of a test that fails holds together with a test that holds
pub not_and : (a b : Bool) → a ≡ false → b ≡ true → (not a && b) ≡ true
not_and true b e f = cc
not_and false b e f = f

-- a number that is not 0 is above it
pub not_zero : (n : ℕ) → (n == 0) ≡ false → 0 < n
not_zero n h = grind (arith, nat_tests)

-- an option holds one value
pub some_same : {A : Type 0} (a b : A) → Some a ≡ Some b → a ≡ b
some_same a b e = ap (λ o. unwrap_or o a) e

-- an option that has no value is none
pub not_some : {A : Type 0} (o : Option A) → is_some o ≡ false → o ≡ None
not_some None h = refl
not_some (Some x) h = cc

-- if the first of two options that is there is none, both are none
pub none_of_two : {A : Type 0} (a b : Option A) → option_or a b ≡ None → (a ≡ None) × (b ≡ None)
none_of_two None b h = (refl, h)
none_of_two (Some x) b h = absurd (cc)

-- if three options are none, the first of them that is there is none
pub all_none : {A : Type 0} (a b c : Option A) → a ≡ None → b ≡ None → c ≡ None → option_or a (option_or b c) ≡ None
all_none a b c h k l = ap (λ x. option_or x (option_or b c)) h ∙ ap (λ x. option_or x c) k ∙ l

-- an option that a function maps to none is none
pub none_of_map : {A B : Type 0} (f : A → B) (o : Option A) → option_map f o ≡ None → o ≡ None
none_of_map f None h = refl
none_of_map f (Some x) h = cc

-- what holds in any case holds of a failure
pub OnErr-of : {T E P : Type 0} (r : Result T E) → P → OnErr r P
OnErr-of (Ok x) h = tt
OnErr-of (Err e) h = h

-- one value again and again is read at every place, past the end too
pub get_or-replicate_any : {A : Type 0} (size i : ℕ) (x : A) → get_or (replicate size x) i x ≡ x
get_or-replicate_any size i x = elim (cases_lt i size) as (λ _. get_or (replicate size x) i x ≡ x) [
  | inl l ↦ get_or-replicate size i x x l
  | inr l ↦ get_or_past (replicate size x) i x (omega (arith, l, length-replicate size x))
]

-- no number is in the empty list
pub not_in_none : (y : ℕ) → Contains [] y → ⊥
not_in_none y (k, l, is) = absurd (omega arith)

-- a number that is in a list and is not its first is in the rest
pub not_first : (y x : ℕ) (xs : List ℕ) → x ≢ y → Contains (x ∷ xs) y → Contains xs y
not_first y x xs other (zero, l, is) = absurd (other is)
not_first y x xs other (suc k, l, is) = (k, omega arith, is)

-- a number of a row of numbers has a place in it
pub Contains-range : (first n x : ℕ) → Contains (range_with_len first n) x → (k : ℕ) × (k < n) × (first + k ≡ x)
Contains-range first n x (k, l, is) =
    let inside : k < n = omega (arith, length-range_with_len first n) in
    (k, inside, sym (get_or-range_with_len first n k x inside) ∙ is)

-- one image more is kept of a cut, and one cut fewer is to come
pub room-cut : {A : Type 0} (left : List A) (image : A) (room cuts : ℕ) → length left + cuts ≤ room → 0 < cuts
    → length (left ++ image ∷ []) + (cuts - 1) ≤ room
room-cut left image room cuts h some = grind (arith, h, some, length-append left (image ∷ []))

-- if two lists one after the other are empty, each is
pub first_empty : {A : Type 0} (xs ys : List A) → xs ++ ys ≡ [] → xs ≡ []
first_empty [] ys e = refl
first_empty (x ∷ xs) ys e = absurd (cc)

pub last_empty : {A : Type 0} (xs ys : List A) → xs ++ ys ≡ [] → ys ≡ []
last_empty [] ys e = e
last_empty (x ∷ xs) ys e = absurd (cc)

-- a test does not hold and fail
pub not_both : {A : Type 0} (b : Bool) → b ≡ true → b ≡ false → A
not_both b e f = absurd (cc)
