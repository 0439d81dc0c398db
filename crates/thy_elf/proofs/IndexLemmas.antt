-- What is left of a walk over the indices below n, one step on and at the end.
use Rattle.std.proofs.Common.{◌≡◌, ℕ, suc, ◌+◌, ◌-◌, ◌<◌, ◌≤◌, Bool, false, ◌||◌, [], ◌∷◌, refl, ap, arith}
use Rattle.std.specs.List.{fold, list_any, range_with_len}

-- the indices from k on are k and those after it
pub indices_step : (k n : ℕ) → k < n → range_with_len k (n - k) ≡ k ∷ range_with_len (k + 1) (n - (k + 1))
indices_step k n h = let e : n - k ≡ suc (n - (k + 1)) = omega arith in rw e refl

-- no index is left at the end
pub indices_end : (k n : ℕ) → n ≤ k → range_with_len k (n - k) ≡ []
indices_end k n h = let e : n - k ≡ 0 = omega arith in rw e refl

-- all indices are left at the start
pub indices_start : (n : ℕ) → range_with_len 0 (n - 0) ≡ range_with_len 0 n
indices_start n = let e : n - 0 ≡ n = omega arith in rw e refl

pub any_step : (test : ℕ → Bool) (k n : ℕ) → k < n
    → list_any test (range_with_len k (n - k)) ≡ (test k || list_any test (range_with_len (k + 1) (n - (k + 1))))
any_step test k n h = ap (list_any test) (indices_step k n h)

pub any_end : (test : ℕ → Bool) (k n : ℕ) → n ≤ k → list_any test (range_with_len k (n - k)) ≡ false
any_end test k n h = ap (list_any test) (indices_end k n h)

pub any_start : (test : ℕ → Bool) (n : ℕ) → list_any test (range_with_len 0 (n - 0)) ≡ list_any test (range_with_len 0 n)
any_start test n = ap (list_any test) (indices_start n)

pub fold_step : {A : Type 0} (f : A → ℕ → A) (a : A) (k n : ℕ) → k < n
    → fold f a (range_with_len k (n - k)) ≡ fold f (f a k) (range_with_len (k + 1) (n - (k + 1)))
fold_step f a k n h = ap (fold f a) (indices_step k n h)

pub fold_end : {A : Type 0} (f : A → ℕ → A) (a : A) (k n : ℕ) → n ≤ k → fold f a (range_with_len k (n - k)) ≡ a
fold_end f a k n h = ap (fold f a) (indices_end k n h)

pub fold_start : {A : Type 0} (f : A → ℕ → A) (a : A) (n : ℕ) → fold f a (range_with_len 0 (n - 0)) ≡ fold f a (range_with_len 0 n)
fold_start f a n = ap (fold f a) (indices_start n)
