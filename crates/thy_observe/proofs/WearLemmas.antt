-- The writes of all places add up.
use Rattle.std.proofs.Common.{◌≡◌, ℕ, suc, ◌+◌, ◌-◌, ◌^◌, ◌<◌, ◌≤◌, min, nat_lt, if◌then◌else◌, Bool, true, false, List, [], ◌∷◌, length, fold, get_or, replicate, slice_set, sum, sum_by, All, refl, sym, ◌∙◌, ap, arith, lt-ltb}
use Rattle.std.proofs.lemmas.List.{length-replicate, length-set}
use Rattle.std.proofs.lemmas.List.Folds.{sum_by-replicate}
use Rattle.std.proofs.lemmas.List.Sums.{get_or-le-sum_by, sum_by-set}
use Rattle.thy_block.specs.Counts.{next}
use Rattle.thy_observe.specs.Wear.{WearAddsUp, worn_at, worn_by}

-- a place that has a count
worn-inside : (wear : List ℕ) (at : ℕ) → at < length wear → worn_at wear at ≡ slice_set wear at (next (get_or wear at 0))
worn-inside wear at inside = ap (λ (b : Bool). if b then slice_set wear at (next (get_or wear at 0)) else wear) (lt-ltb at (length wear) inside)

worn-length : (wear : List ℕ) (at : ℕ) → at < length wear → length (worn_at wear at) ≡ length wear
worn-length wear at inside = ap length (worn-inside wear at inside) ∙ length-set wear at (next (get_or wear at 0))

-- one write more
worn-one : (wear : List ℕ) (at : ℕ) → at < length wear → sum wear < 2 ^ 64 - 1 → sum (worn_at wear at) ≡ sum wear + 1
worn-one wear at inside few =
    let now : ℕ = get_or wear at 0 in
    let small : now ≤ sum wear = get_or-le-sum_by (λ n. n) wear at 0 inside in
    let next-is : next now ≡ now + 1 = omega (arith, small, few) in
    let sums : sum (slice_set wear at (next now)) + now ≡ sum wear + next now = sum_by-set (λ n. n) wear at (next now) 0 inside in
    ap sum (worn-inside wear at inside) ∙ omega (arith, sums, next-is)

worn-all : (blocks : ℕ) (wear places : List ℕ) → length wear ≡ blocks → All (λ at. at < blocks) places
    → sum wear + length places < 2 ^ 64 - 1 → sum (fold worn_at wear places) ≡ sum wear + length places
worn-all blocks wear [] sized inside few = omega arith
worn-all blocks wear (at ∷ places) sized inside few =
    let first : at < blocks = inside 0 0 (omega arith) in
    let here : at < length wear = omega (arith, first, sized) in
    let one : sum (worn_at wear at) ≡ sum wear + 1 = worn-one wear at here (omega (arith, few)) in
    let rest : sum (fold worn_at (worn_at wear at) places) ≡ sum (worn_at wear at) + length places =
    worn-all blocks (worn_at wear at) places (worn-length wear at here ∙ sized) (λ k d less. inside (suc k) d (omega (arith, less))) (omega (arith, one, few)) in
    omega (arith, one, rest)

pub wear-adds-up : WearAddsUp
wear-adds-up blocks places inside few =
    let none : sum (replicate blocks 0) ≡ 0 = omega (arith, sum_by-replicate (λ n. n) blocks 0) in
    omega (arith, none, worn-all blocks (replicate blocks 0) places (length-replicate blocks 0) inside (omega (arith, none, few)))
