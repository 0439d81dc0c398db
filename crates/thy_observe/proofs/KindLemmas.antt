-- Each cycle is of one kind.
use Rattle.std.proofs.Common.{◌≡◌, ℕ, ◌+◌, ◌==◌, cond, List, [], ◌∷◌, length, sum_by, refl, ◌∙◌, arith}
use Rattle.std.specs.List.{range_with_len}
use Rattle.std.proofs.lemmas.List.Sums.{sum_by-cons}
use Rattle.thy_observe.specs.declared.kinds.Kind.{Kind}
use Rattle.thy_observe.specs.declared.kinds.Kind.TheVariants.{Boot, NvmDrain, DramDrain, Moved, Retired, Flushed, Merged, Promoted, Sealed, Copied, Page, State, Table, Barrier, Commit, Committed, Nothing}
use Rattle.thy_observe.specs.Kinds.{kind_of, index_of, is_at, how_many, KindsAddUp}

-- sums of equal numbers are equal, and a sum of sums is the sum of both
module _ (f g : ℕ → ℕ) where
  pub sum-same : ((i : ℕ) → f i ≡ g i) → (is : List ℕ) → sum_by f is ≡ sum_by g is
  sum-same same [] = refl
  sum-same same (i ∷ is) = omega (arith, sum_by-cons f i is, sum_by-cons g i is, same i, sum-same same is)

  pub sum-both : (is : List ℕ) → sum_by (λ i. f i + g i) is ≡ sum_by f is + sum_by g is
  sum-both [] = refl
  sum-both (i ∷ is) =
      omega (arith, sum_by-cons (λ j. f j + g j) i is, sum_by-cons f i is, sum_by-cons g i is, sum-both is)

-- a kind is one of all
is-one : (k : Kind) → sum_by (λ i. cond (index_of k == i) 1 0) (range_with_len 0 17) ≡ 1
is-one Boot = refl
is-one NvmDrain = refl
is-one DramDrain = refl
is-one Moved = refl
is-one Retired = refl
is-one Flushed = refl
is-one Merged = refl
is-one Promoted = refl
is-one Sealed = refl
is-one Copied = refl
is-one Page = refl
is-one State = refl
is-one Table = refl
is-one Barrier = refl
is-one Commit = refl
is-one Committed = refl
is-one Nothing = refl

pub kinds-add-up : KindsAddUp
kinds-add-up [] = refl
kinds-add-up (t ∷ seen) =
    let all : List ℕ = range_with_len 0 17 in
    let here : ℕ → ℕ = λ i. cond (is_at i t) 1 0 in
    let rest : ℕ → ℕ = λ i. how_many i seen in
    let each : (i : ℕ) → how_many i (t ∷ seen) ≡ here i + rest i = λ i. sum_by-cons (λ x. cond (is_at i x) 1 0) t seen in
    let one : sum_by here all ≡ 1 = is-one (kind_of t.stepped.did) in
    let more : sum_by rest all ≡ length seen = kinds-add-up seen in
    sum-same (λ i. how_many i (t ∷ seen)) (λ i. here i + rest i) each all
    ∙ sum-both here rest all
    ∙ omega (arith, one, more)
