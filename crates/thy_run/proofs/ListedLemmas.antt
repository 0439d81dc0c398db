-- The listed cuts that have fallen, one cycle later.
use Rattle.std.proofs.Common.{◌≡◌, ◌⊎◌, ℕ, zero, suc, ◌+◌, ◌<◌, ◌≤◌, false, nat_le, cond, List, [], ◌∷◌, ◌++◌, length, take, refl, sym, ◌∙◌, ap, inl, inr, add-zero, arith}
use Rattle.std.specs.Prelude.{slice_index, take_while, ◌≢◌}
use Rattle.std.proofs.lemmas.List.Sums.{take_while-cons}
use Rattle.std.proofs.lemmas.Bool.{le-leb, cases_lt, cases_eq}
use Rattle.std.proofs.lemmas.List.Elements.{filter-append}
use Rattle.std.proofs.lemmas.Bool.Decides.{leb_tells}
use Rattle.thy_base.specs.Config.{IsRising}
use Rattle.thy_text.specs.Event.{Event, Cut}
use Rattle.thy_run.specs.Cuts.{is_cut, cuts_among, numbered, cuts_up_to}

up_true : (c n : ℕ) (ns : List ℕ) → n ≤ c → cuts_up_to c (n ∷ ns) ≡ n ∷ cuts_up_to c ns
up_true c n ns le = take_while-cons (λ x. nat_le x c) n ns ∙ ap (λ b. cond b (n ∷ take_while (λ x. nat_le x c) ns) []) (le-leb n c le)

not_le : (n c : ℕ) → c < n → nat_le n c ≡ false
not_le n c lt = elim (leb_tells n c) as (λ _. nat_le n c ≡ false) [
  | inl t ↦ absurd (let le : n ≤ c = t.1 in omega arith)
  | inr f ↦ f.0
]

up_false : (c n : ℕ) (ns : List ℕ) → c < n → cuts_up_to c (n ∷ ns) ≡ []
up_false c n ns lt = take_while-cons (λ x. nat_le x c) n ns ∙ ap (λ b. cond b (n ∷ take_while (λ x. nat_le x c) ns) []) (not_le n c lt)

-- no cut has fallen by a cycle, if all are later
pub up_none : (c before : ℕ) (ns : List ℕ) → IsRising before ns → c ≤ before → cuts_up_to c ns ≡ []
up_none c before [] rising le = refl
up_none c before (n ∷ ns) rising le = let above = rising.0 in up_false c n ns (omega arith)

-- the next listed cut falls after the next cycle, and then one more has fallen; else the same number has fallen
abbrev pub NextCut : ℕ → List ℕ → ℕ → Type 0
NextCut c cuts p =
    ((p < length cuts) × (slice_index cuts p ≡ c + 1) × (cuts_up_to (c + 1) cuts ≡ take (suc p) cuts))
    ⊎ ((p < length cuts → slice_index cuts p ≢ c + 1) × (cuts_up_to (c + 1) cuts ≡ take p cuts))

tails : (n k : ℕ) (xs ys : List ℕ) → n ∷ xs ≡ k ∷ ys → xs ≡ ys
tails n k xs ys e = cc

at_first : (c before n : ℕ) (ns : List ℕ) → IsRising before (n ∷ ns) → cuts_up_to c (n ∷ ns) ≡ [] → NextCut c (n ∷ ns) 0
at_first c before n ns rising now =
    let above : c < n = elim (cases_lt c n) as (λ _. c < n) [
      | inl lt ↦ lt
      | inr le ↦ absurd (let e : n ∷ cuts_up_to c ns ≡ [] = sym (up_true c n ns le) ∙ now in cc)
    ] in
    elim (cases_eq n (c + 1)) as (λ _. NextCut c (n ∷ ns) 0) [
      | inl e ↦ inl (omega arith, e, up_true (c + 1) n ns (omega arith) ∙ ap (λ l. n ∷ l) (up_none (c + 1) n ns rising.1 (omega arith)))
      | inr d ↦ inr (λ lt e. d e, up_false (c + 1) n ns (omega (arith, d)))
    ]

further : (c n : ℕ) (ns : List ℕ) (p : ℕ) → n ≤ c → NextCut c ns p → NextCut c (n ∷ ns) (suc p)
further c n ns p le (inl (lt, e, f)) = inl (omega arith, e, up_true (c + 1) n ns (omega arith) ∙ ap (λ l. n ∷ l) f)
further c n ns p le (inr (d, f)) = inr (λ lt e. d (omega arith) e, up_true (c + 1) n ns (omega arith) ∙ ap (λ l. n ∷ l) f)

pub next_cut : (c before : ℕ) (cuts : List ℕ) (p : ℕ) → IsRising before cuts → p ≤ length cuts → cuts_up_to c cuts ≡ take p cuts
    → NextCut c cuts p
next_cut c before [] zero rising few now = inr (λ lt e. omega arith, refl)
next_cut c before [] (suc p) rising few now = absurd (omega arith)
next_cut c before (n ∷ ns) zero rising few now = at_first c before n ns rising now
next_cut c before (n ∷ ns) (suc p) rising few now =
    let le : n ≤ c = elim (cases_lt c n) as (λ _. n ≤ c) [
      | inl lt ↦ absurd (let e : [] ≡ n ∷ take p ns = sym (up_false c n ns lt) ∙ now in cc)
      | inr le ↦ le
    ] in
    further c n ns p le (next_cut c n ns p rising.1 (omega arith) (tails n n (cuts_up_to c ns) (take p ns) (sym (up_true c n ns le) ∙ now)))

-- ---- the cuts among events

-- numbered cuts are cuts
pub cuts_among-append : (vs ws : List Event) → cuts_among (vs ++ ws) ≡ cuts_among vs ++ cuts_among ws
cuts_among-append vs ws = filter-append is_cut vs ws

-- the numbered cuts with one more
pub numbered-take : (index : ℕ) (cuts : List ℕ) (p : ℕ) → p < length cuts
    → numbered index (take (suc p) cuts) ≡ numbered index (take p cuts) ++ Cut (index + p) (slice_index cuts p) ∷ []
numbered-take index [] p lt = absurd (omega arith)
numbered-take index (n ∷ ns) zero lt = ap (λ i. Cut i n ∷ []) (sym (add-zero index))
numbered-take index (n ∷ ns) (suc p) lt =
    ap (λ l. Cut index n ∷ l) (numbered-take (index + 1) ns p (omega arith)
    ∙ ap (λ i. numbered (index + 1) (take p ns) ++ Cut i (slice_index ns p) ∷ []) (let e : index + 1 + p ≡ index + suc p = omega arith in e))
