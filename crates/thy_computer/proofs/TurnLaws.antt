-- The plain machine by turns.
use Rattle.std.proofs.Common.{◌≡◌, ℕ, zero, suc, ◌+◌, ◌-◌, ◌<◌, ◌≤◌, Bool, true, false, nat_lt, if◌then◌else◌, List, [], ◌∷◌, ◌++◌, length, take, drop, replicate, get_or, Option, refl, sym, ◌∙◌, ap, subst, inl, inr, arith}
use Rattle.std.proofs.lemmas.Bool.{cases_eq, cases_lt, lt-ltb, le-ltb}
use Rattle.std.proofs.lemmas.List.{length-append, length-replicate, length-take-le, get_or_append_left, get_or-append_right, get_or-take, get_or-drop, get_or-replicate, get_or_at, get_or_past}
use Rattle.thy_block.specs.declared.mark.Mark.{Mark}
use Rattle.thy_isa.specs.Step.{State, Setting, crossed, step, step_of, steps}
use Rattle.thy_layout.specs.Decoded.{Decoded, Nothing as NothingFound, Refused as RefusedImage, At}
use Rattle.thy_computer.specs.Laws.{TurnsLeadTo, StaysSafe, HartZeroSteps, StepsWithoutTurns, LastHasItsTurn}
use Rattle.thy_layout.specs.declared.start.Start.{Start}
use Rattle.thy_computer.specs.Origin.{Origin, IsOrigin, Begins, setting_of, turn_at, by_turns, at}
use Rattle.thy_computer.specs.Safe.{ceiling, IsOneOf}
use Rattle.thy_computer.specs.WithTurns.{with_turns, AgreeBelow, count_of}

-- ---- turns

-- below the start's count it is hart 0's
pub turn_early : (o : Origin) (j : ℕ) → j < o.start.count → turn_at o j ≡ 0
turn_early o j early = ap (λ (b : Bool). if b then 0 else get_or o.turns (j - o.start.count) 0) (lt-ltb j o.start.count early)

-- from the start's count on the turns are the reported ones
pub turn_late : (o : Origin) (j : ℕ) → o.start.count ≤ j → turn_at o j ≡ get_or o.turns (j - o.start.count) 0
turn_late o j late = ap (λ (b : Bool). if b then 0 else get_or o.turns (j - o.start.count) 0) (le-ltb j o.start.count late)

turn_from : (o : Origin) (j : ℕ) → turn_at o (o.start.count + j) ≡ get_or o.turns j 0
turn_from o j =
    turn_late o (o.start.count + j) (omega arith)
    ∙ ap (λ (i : ℕ). get_or o.turns i 0) (let e : o.start.count + j - o.start.count ≡ j = omega arith in e)

both_zero : (b : Bool) (n : ℕ) → (if b then n else n) ≡ n
both_zero true n = refl
both_zero false n = refl

-- with no turns reported each turn is hart 0's
pub without_turns : (o : Origin) (j : ℕ) → turn_at (with_turns o []) j ≡ 0
without_turns o j = both_zero (nat_lt j o.start.count) 0

pub AgreeBelow-same : (o : Origin) (k : ℕ) → AgreeBelow o o.turns k
AgreeBelow-same o k = λ j less. refl

pub AgreeBelow-on : (o : Origin) (a b : List ℕ) (k : ℕ) → AgreeBelow o a k → AgreeBelow (with_turns o a) b k → AgreeBelow o b k
AgreeBelow-on o a b k one two = λ j less. two j less ∙ one j less

pub AgreeBelow-less : (o : Origin) (turns : List ℕ) (j k : ℕ) → j ≤ k → AgreeBelow o turns k → AgreeBelow o turns j
AgreeBelow-less o turns j k le agree = λ i less. agree i (omega (arith, less, le))

-- ---- a run with other turns starts as it did

pub IsOrigin-with_turns : (o : Origin) (turns : List ℕ) → IsOrigin o → IsOrigin (with_turns o turns)
IsOrigin-with_turns o turns h = record {
  geometry = h.geometry;
  recordable = h.recordable;
  memory = h.memory;
  storable = h.storable;
  readable = h.readable;
  starts = h.starts;
}

pub Begins-with_turns : (o : Origin) (turns : List ℕ) (start : Start) → Begins o start → Begins (with_turns o turns) start
Begins-with_turns o turns start h = record { state = h.state; input = h.input; kept = h.kept }

-- ---- turns with a hart at a place

turned : ℕ → ℕ → List ℕ → List ℕ
turned p hart turns = take p (turns ++ replicate p 0) ++ hart ∷ []

padded : (turns : List ℕ) (p j : ℕ) → j < p → get_or (turns ++ replicate p 0) j 0 ≡ get_or turns j 0
padded turns p j less = elim (cases_lt j (length turns)) as (λ _. get_or (turns ++ replicate p 0) j 0 ≡ get_or turns j 0) [
  | inl low ↦ get_or_append_left turns (replicate p 0) 0 j low
  | inr high ↦
      get_or-append_right turns (replicate p 0) (length turns) j 0 refl high
      ∙ get_or-replicate {A = ℕ} p (j - length turns) 0 0 (omega (arith, less))
      ∙ sym (get_or_past turns j 0 high)
]

length-padded : (turns : List ℕ) (p : ℕ) → length (take p (turns ++ replicate p 0)) ≡ p
length-padded turns p =
    length-take-le p (turns ++ replicate p 0) (omega (arith, length-append turns (replicate p 0), length-replicate {A = ℕ} p 0))

turned-below : (p hart : ℕ) (turns : List ℕ) (j : ℕ) → j < p → get_or (turned p hart turns) j 0 ≡ get_or turns j 0
unfolding turned
turned-below p hart turns j less =
    get_or_append_left (take p (turns ++ replicate p 0)) (hart ∷ []) 0 j (omega (arith, less, length-padded turns p))
    ∙ get_or-take p (turns ++ replicate p 0) j 0 less
    ∙ padded turns p j less

turned-there : (p hart : ℕ) (turns : List ℕ) → get_or (turned p hart turns) p 0 ≡ hart
unfolding turned
turned-there p hart turns = get_or_at (take p (turns ++ replicate p 0)) hart [] 0 p (length-padded turns p)

module _ (o : Origin) (k hart : ℕ) where
  -- a run's turns up to a count, and this hart there
  pub with_turn : List ℕ
  with_turn = turned (k - o.start.count) hart o.turns

  pub with_turn-agrees : (i : ℕ) → i ≤ k → AgreeBelow o with_turn i
  unfolding with_turn
  with_turn-agrees i le = λ j less. elim (cases_lt j o.start.count) as (λ _. turn_at (with_turns o with_turn) j ≡ turn_at o j) [
    | inl early ↦ turn_early (with_turns o with_turn) j early ∙ sym (turn_early o j early)
    | inr late ↦
        turn_late (with_turns o with_turn) j late
        ∙ turned-below (k - o.start.count) hart o.turns (j - o.start.count) (omega (arith, less, le, late))
        ∙ sym (turn_late o j late)
  ]

  pub with_turn-gives : o.start.count ≤ k → turn_at (with_turns o with_turn) k ≡ hart
  unfolding with_turn
  with_turn-gives late =
      turn_late (with_turns o with_turn) k late ∙ turned-there (k - o.start.count) hart o.turns

-- a turn that is listed last is the next count's
pub last-with_turns : LastHasItsTurn
last-with_turns o turns hart k late many = (
  turn_late (with_turns o (turns ++ hart ∷ [])) k late ∙ get_or_at turns hart [] 0 (k - o.start.count) many,
  λ j less. elim (cases_lt j o.start.count) as (λ _. turn_at (with_turns o (turns ++ hart ∷ [])) j ≡ turn_at (with_turns o turns) j) [
    | inl early ↦ turn_early (with_turns o (turns ++ hart ∷ [])) j early ∙ sym (turn_early (with_turns o turns) j early)
    | inr after ↦
        turn_late (with_turns o (turns ++ hart ∷ [])) j after
        ∙ get_or_append_left turns (hart ∷ []) 0 (j - o.start.count) (omega (arith, less, after, many))
        ∙ sym (turn_late (with_turns o turns) j after)
  ],
)

-- ---- parts of lists

-- the turns reported as far as a count agree below it
pub taken-agrees : (o : Origin) (turns : List ℕ) (k : ℕ) → AgreeBelow (with_turns o turns) (take (k - o.start.count) turns) k
taken-agrees o turns k = λ j less. elim (cases_lt j o.start.count)
    as (λ _. turn_at (with_turns o (take (k - o.start.count) turns)) j ≡ turn_at (with_turns o turns) j) [
      | inl early ↦ turn_early (with_turns o (take (k - o.start.count) turns)) j early ∙ sym (turn_early (with_turns o turns) j early)
      | inr late ↦
          turn_late (with_turns o (take (k - o.start.count) turns)) j late
          ∙ get_or-take (k - o.start.count) turns (j - o.start.count) 0 (omega (arith, less, late))
          ∙ sym (turn_late (with_turns o turns) j late)
    ]

-- turns that agree as far as they go, with the run's own turns from there on, agree everywhere
pub joined-agrees : (o : Origin) (turns : List ℕ) (i k : ℕ) → length turns ≡ i - o.start.count → AgreeBelow o turns i
    → AgreeBelow o (turns ++ drop (i - o.start.count) o.turns) k
joined-agrees o turns i k many agree =
    λ j less. elim (cases_lt j o.start.count) as (λ _. turn_at (with_turns o (turns ++ drop (i - o.start.count) o.turns)) j ≡ turn_at o j) [
      | inl early ↦ turn_early (with_turns o (turns ++ drop (i - o.start.count) o.turns)) j early ∙ sym (turn_early o j early)
      | inr late ↦ turn_late (with_turns o (turns ++ drop (i - o.start.count) o.turns)) j late ∙ joined_at j late
    ]
  where
    joined_at : (j : ℕ) → o.start.count ≤ j → get_or (turns ++ drop (i - o.start.count) o.turns) (j - o.start.count) 0 ≡ turn_at o j
    joined_at j late = elim (cases_lt (j - o.start.count) (length turns))
        as (λ _. get_or (turns ++ drop (i - o.start.count) o.turns) (j - o.start.count) 0 ≡ turn_at o j) [
          | inl low ↦
              get_or_append_left turns (drop (i - o.start.count) o.turns) 0 (j - o.start.count) low
              ∙ sym (turn_late (with_turns o turns) j late)
              ∙ agree j (omega (arith, low, many, late))
          | inr high ↦
              get_or-append_right turns (drop (i - o.start.count) o.turns) (length turns) (j - o.start.count) 0 refl high
              ∙ get_or-drop (i - o.start.count) o.turns (j - o.start.count - length turns) 0
              ∙ ap (λ (n : ℕ). get_or o.turns n 0)
              (let e : i - o.start.count + (j - o.start.count - length turns) ≡ j - o.start.count = omega (arith, many, high) in e)
              ∙ sym (turn_late o j late)
        ]

-- ---- steps

by_turns-agree : (g : Setting) (a b : List ℕ) (k : ℕ) (s : State)
    → ((j : ℕ) → j < k → get_or a j 0 ≡ get_or b j 0) → by_turns g a k s ≡ by_turns g b k s
unfolding by_turns
by_turns-agree g a b zero s same = refl
by_turns-agree g a b (suc k) s same =
    ap (λ (h : ℕ). step_of g h (by_turns g a k s)) (same k (omega arith))
    ∙ ap (step_of g (get_or b k 0)) (by_turns-agree g a b k s (λ j less. same j (omega (arith, less))))

by_turns-steps : (g : Setting) (turns : List ℕ) (k : ℕ) (s : State)
    → ((j : ℕ) → j < k → get_or turns j 0 ≡ 0) → by_turns g turns k s ≡ steps g k s
unfolding by_turns steps step_of
by_turns-steps g turns zero s none = refl
by_turns-steps g turns (suc k) s none =
    ap (λ (h : ℕ). step_of g h (by_turns g turns k s)) (none k (omega arith))
    ∙ ap (step g) (by_turns-steps g turns k s (λ j less. none j (omega (arith, less))))

-- what every step keeps, whichever hart is in front
pub record IsKept (P : State → Type 0) (g : Setting) : Type 0 where
  pub steps : (s : State) → P s → P (step g s)
  pub crosses : (s : State) → P s → P (crossed s)

module _ (P : State → Type 0) (g : Setting) (keeps : IsKept P g) where
  step_of-keeps : (hart : ℕ) (s : State) → P s → P (step_of g hart s)
  unfolding step_of
  step_of-keeps zero s p = keeps.steps s p
  step_of-keeps (suc hart) s p = keeps.crosses (step g (crossed s)) (keeps.steps (crossed s) (keeps.crosses s p))

  pub by_turns-keeps : (turns : List ℕ) (j k : ℕ) (s : State) → j ≤ k → P (by_turns g turns j s) → P (by_turns g turns k s)
  unfolding by_turns
  by_turns-keeps turns j zero s le p = subst (λ (i : ℕ). P (by_turns g turns i s)) (let e : j ≡ zero = omega arith in e) p
  by_turns-keeps turns j (suc k) s le p = elim (cases_eq j (suc k)) as (λ _. P (step_of g (get_or turns k 0) (by_turns g turns k s))) [
    | inl same ↦ subst (λ (i : ℕ). P (by_turns g turns i s)) same p
    | inr other ↦ step_of-keeps (get_or turns k 0) (by_turns g turns k s) (by_turns-keeps turns j k s (omega (arith, other, le)) p)
  ]

-- ---- the plain machine at a count

pub at-agrees : TurnsLeadTo
unfolding at
at-agrees o turns k agree = by_turns-agree (setting_of o) turns o.turns (k - o.start.count) o.start
    (λ j less. sym (turn_from (with_turns o turns) j) ∙ agree (o.start.count + j) (omega (arith, less)) ∙ turn_from o j)

pub at-steps : HartZeroSteps
unfolding at
at-steps o k none = by_turns-steps (setting_of o) o.turns (k - o.start.count) o.start
    (λ j less. sym (turn_from o j) ∙ none (o.start.count + j) (omega (arith, less)))

pub at-without_turns : StepsWithoutTurns
at-without_turns o k = at-steps (with_turns o []) k (λ j less. without_turns o j)

-- one instruction on
pub at-next : (o : Origin) (k : ℕ) → o.start.count ≤ k → at o (k + 1) ≡ step_of (setting_of o) (turn_at o k) (at o k)
unfolding at by_turns
at-next o k late =
    let e : k + 1 - o.start.count ≡ suc (k - o.start.count) = omega arith in
    let there : o.start.count + (k - o.start.count) ≡ k = omega arith in
    ap (λ (i : ℕ). by_turns (setting_of o) o.turns i o.start) e
    ∙ ap (λ (h : ℕ). step_of (setting_of o) h (by_turns (setting_of o) o.turns (k - o.start.count) o.start))
    (sym (turn_from o (k - o.start.count)) ∙ ap (turn_at o) there)

-- before the start's count the plain machine is at the start
pub at-early : (o : Origin) (k : ℕ) → k ≤ o.start.count → at o k ≡ o.start
unfolding at by_turns
at-early o k early =
    let e : k - o.start.count ≡ 0 = omega arith in
    ap (λ (i : ℕ). by_turns (setting_of o) o.turns i o.start) e

-- what each step keeps, from one count to a later one
pub at-keeps : (P : State → Type 0) (o : Origin) → IsKept P (setting_of o) → (j k : ℕ) → j ≤ k → P (at o j) → P (at o k)
unfolding at
at-keeps P o keeps j k le p =
    by_turns-keeps P (setting_of o) keeps o.turns (j - o.start.count) (k - o.start.count) o.start (omega (arith, le)) p

-- what each step keeps holds at every count, if it holds at the start
pub at-holds : (P : State → Type 0) (o : Origin) → IsKept P (setting_of o) → P o.start → (k : ℕ) → P (at o k)
at-holds P o keeps p k = at-keeps P o keeps 0 k (omega arith) (subst P (sym (at-early o 0 (omega arith))) p)

-- ---- what is safe

one_of : (o : Origin) (turns : List ℕ) (k : ℕ) (kept sealed : Option Mark) → count_of kept ≤ k → count_of sealed ≤ k → AgreeBelow o turns k
    → (d : Decoded) → IsOneOf o kept sealed d → IsOneOf (with_turns o turns) kept sealed d
one_of o turns k kept sealed low high agree NothingFound h = h
one_of o turns k kept sealed low high agree (RefusedImage bad) h = h
one_of o turns k kept sealed low high agree (At epoch state) h =
    let within : state.count ≤ k = elim h.0 as (λ _. state.count ≤ k) [
      | inl e ↦ (let same : count_of kept ≡ state.count = ap count_of e in omega (arith, same, low))
      | inr e ↦ (let same : count_of sealed ≡ state.count = ap count_of e in omega (arith, same, high))
    ] in
    (h.0, h.1 ∙ sym (at-agrees o turns state.count (AgreeBelow-less o turns state.count k within agree)))

pub Safe-agrees : StaysSafe
Safe-agrees read o turns k kept sealed n low high agree safe =
    λ g c. one_of o turns k kept sealed low high agree (read o.geometry ceiling g) (safe g c)
