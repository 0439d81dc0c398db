-- The causes of cycles.
use Rattle.std.proofs.Common.{◌≡◌, ℕ, suc, ◌+◌, ◌==◌, ◌<◌, ◌≤◌, Bool, true, false, cond, List, [], ◌∷◌, ◌++◌, length, sum_by, count_by, refl, sym, ◌∙◌, ap, ap₂, arith}
use Rattle.std.specs.List.{range_with_len}
use Rattle.std.proofs.lemmas.List.Sums.{sum_by-cons, count_by-le-length}
use Rattle.thy_run.specs.Watching.{Taken}
use Rattle.thy_observe.specs.declared.causes.Cause.{Cause}
use Rattle.thy_observe.specs.declared.causes.Cause.TheVariants.{Boot, Instruction, Meanwhile, Flush, Merge, Seal, Promotion, Copy, Home, Page, Processor, Table, Commit, Barrier, NvmDrain, DramDrain, Nothing}
use Rattle.thy_observe.specs.declared.kinds.Kind.{Kind}
use Rattle.thy_observe.specs.declared.kinds.Kind.TheVariants as kind
use Rattle.thy_observe.specs.Kinds.{kind_of}
use Rattle.thy_observe.specs.Causes.{cause_index, cause_of, causes_from, causes_of, has_index, how_many_by, plain_cause, plainly, under_way_after, under_way_then, CausesAddUp, CausesAgree}
use Rattle.thy_observe.proofs.KindLemmas.{sum-both, sum-same}
use Rattle.thy_observe.proofs.TallyLemmas.{count-one}

-- ---- one cycle more

-- whether a checkpoint is under way after it
pub under-way-one : (b : Bool) (seen : List Taken) (t : Taken)
    → under_way_after b (seen ++ t ∷ []) ≡ under_way_then (under_way_after b seen) t
under-way-one b [] t = refl
under-way-one b (s ∷ seen) t = under-way-one (under_way_then b s) seen t

-- the causes with its own
causes-one : (b : Bool) (seen : List Taken) (t : Taken)
    → causes_from b (seen ++ t ∷ []) ≡ causes_from b seen ++ cause_of (under_way_after b seen) (kind_of t.stepped.did) ∷ []
causes-one b [] t = refl
causes-one b (s ∷ seen) t =
    ap (λ (l : List Cause). cause_of b (kind_of s.stepped.did) ∷ l) (causes-one (under_way_then b s) seen t)

-- one cycle more adds one to the cycles of its cause
pub by-one : (i : ℕ) (seen : List Taken) (t : Taken)
    → how_many_by i (seen ++ t ∷ [])
    ≡ how_many_by i seen + cond (has_index i (cause_of (under_way_after false seen) (kind_of t.stepped.did))) 1 0
by-one i seen t =
    ap (λ (l : List Cause). count_by (has_index i) l) (causes-one false seen t)
    ∙ count-one (has_index i) (causes_of seen) (cause_of (under_way_after false seen) (kind_of t.stepped.did))

-- ---- all

-- each cycle has one
causes-length : (b : Bool) (seen : List Taken) → length (causes_from b seen) ≡ length seen
causes-length b [] = refl
causes-length b (t ∷ seen) = ap suc (causes-length (under_way_then b t) seen)

pub by-few : (i : ℕ) (seen : List Taken) → how_many_by i seen ≤ length seen
by-few i seen = omega (arith, count_by-le-length (has_index i) (causes_of seen), causes-length false seen)

pub index-within : (c : Cause) → cause_index c < 17
index-within Boot = omega arith
index-within Instruction = omega arith
index-within Meanwhile = omega arith
index-within Flush = omega arith
index-within Merge = omega arith
index-within Seal = omega arith
index-within Promotion = omega arith
index-within Copy = omega arith
index-within Home = omega arith
index-within Page = omega arith
index-within Processor = omega arith
index-within Table = omega arith
index-within Commit = omega arith
index-within Barrier = omega arith
index-within NvmDrain = omega arith
index-within DramDrain = omega arith
index-within Nothing = omega arith

-- a cause is one of all
is-one : (c : Cause) → sum_by (λ i. cond (cause_index c == i) 1 0) (range_with_len 0 17) ≡ 1
is-one Boot = refl
is-one Instruction = refl
is-one Meanwhile = refl
is-one Flush = refl
is-one Merge = refl
is-one Seal = refl
is-one Promotion = refl
is-one Copy = refl
is-one Home = refl
is-one Page = refl
is-one Processor = refl
is-one Table = refl
is-one Commit = refl
is-one Barrier = refl
is-one NvmDrain = refl
is-one DramDrain = refl
is-one Nothing = refl

add-up : (b : Bool) (seen : List Taken) → sum_by (λ i. count_by (has_index i) (causes_from b seen)) (range_with_len 0 17) ≡ length seen
add-up b [] = refl
add-up b (t ∷ seen) =
    let all : List ℕ = range_with_len 0 17 in
    let c : Cause = cause_of b (kind_of t.stepped.did) in
    let more : List Cause = causes_from (under_way_then b t) seen in
    let here : ℕ → ℕ = λ i. cond (has_index i c) 1 0 in
    let rest : ℕ → ℕ = λ i. count_by (has_index i) more in
    let each : (i : ℕ) → count_by (has_index i) (c ∷ more) ≡ here i + rest i = λ i. sum_by-cons (λ x. cond (has_index i x) 1 0) c more in
    let one : sum_by here all ≡ 1 = is-one c in
    let tail : sum_by rest all ≡ length seen = add-up (under_way_then b t) seen in
    sum-same (λ i. count_by (has_index i) (c ∷ more)) (λ i. here i + rest i) each all
    ∙ sum-both here rest all
    ∙ omega (arith, one, tail)

pub causes-add-up : CausesAddUp
causes-add-up seen = add-up false seen

-- ---- the kinds

plain : (b : Bool) (k : Kind) → plainly (cause_of b k) ≡ plain_cause k
plain b kind.Boot = refl
plain b kind.NvmDrain = refl
plain b kind.DramDrain = refl
plain true kind.Moved = refl
plain false kind.Moved = refl
plain true kind.Retired = refl
plain false kind.Retired = refl
plain b kind.Flushed = refl
plain b kind.Merged = refl
plain b kind.Promoted = refl
plain b kind.Sealed = refl
plain true kind.Copied = refl
plain false kind.Copied = refl
plain b kind.Page = refl
plain b kind.State = refl
plain b kind.Table = refl
plain b kind.Barrier = refl
plain b kind.Commit = refl
plain b kind.Committed = refl
plain b kind.Nothing = refl

agree : (i : ℕ) (b : Bool) (seen : List Taken)
    → count_by (λ c. has_index i (plainly c)) (causes_from b seen)
    ≡ count_by (λ (t : Taken). has_index i (plain_cause (kind_of t.stepped.did))) seen
agree i b [] = refl
agree i b (t ∷ seen) =
    sum_by-cons (λ c. cond (has_index i (plainly c)) 1 0) (cause_of b (kind_of t.stepped.did)) (causes_from (under_way_then b t) seen)
    ∙ ap₂ (λ (c : Cause) (n : ℕ). cond (has_index i c) 1 0 + n) (plain b (kind_of t.stepped.did)) (agree i (under_way_then b t) seen)
    ∙ sym (sum_by-cons (λ (x : Taken). cond (has_index i (plain_cause (kind_of x.stepped.did))) 1 0) t seen)

pub causes-agree : CausesAgree
causes-agree i seen = agree i false seen
