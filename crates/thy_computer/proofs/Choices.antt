-- What holds of both answers of a test holds of the test.
use Rattle.std.proofs.Common.{◌≡◌, ◌≢◌, ℕ, ◌==◌, if◌then◌else◌, sym, subst, inl, inr}
use Rattle.std.proofs.lemmas.Bool.{cases_eq, eq-eqb, ne_eqb}

pub if_equal : {A : Type 0} (P : A → Type 0) (a b : ℕ) (x y : A) → (a ≡ b → P x) → (a ≢ b → P y) → P (if a == b then x else y)
if_equal P a b x y f g = elim (cases_eq a b) as (λ _. P (if a == b then x else y)) [
  | inl e ↦ subst (λ t. P (if t then x else y)) (sym (eq-eqb a b e)) (f e)
  | inr e ↦ subst (λ t. P (if t then x else y)) (sym (ne_eqb a b e)) (g e)
]
