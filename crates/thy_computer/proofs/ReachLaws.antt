-- A step reaches no less far than the view before it.
use Rattle.std.proofs.Common.{◌≡◌, ◌≢◌, ◌⊎◌, ℕ, ◌+◌, ◌-◌, ◌≤◌, Bool, true, false, List, if◌then◌else◌, refl, sym, ◌∙◌, ap, inl, inr, arith}
use Rattle.thy_layout.specs.declared.engine_step.EngineStep.{EngineStep}
use Rattle.thy_layout.specs.declared.engine_step.EngineStep.TheVariants.{Idle, Copied, PageBlock, StateBlock, TableBlock, Barrier, CommitWritten, Committed as EngineCommitted}
use Rattle.thy_computer.specs.declared.did.Did.{Did}
use Rattle.thy_computer.specs.declared.did.Did.TheVariants.{Boot, Loaded, Restarted, Refused, Moved, Retired, Flushed, Merged, Sealed, Promoted, Engine, Committed, NvmDrained, DramDrained, Nothing}
use Rattle.thy_computer.specs.declared.view.Phase.{Phase}
use Rattle.thy_computer.specs.declared.view.Phase.TheVariants.{Boot as BootPhase, Run, Halt}
use Rattle.thy_computer.specs.declared.view.View.{View}
use Rattle.thy_computer.specs.CoreStep.{phase_at, busier, BootsTo, MovesTo, EngineTo, CoreStep}
use Rattle.thy_computer.specs.Laws.{StepsReach, RetiresReach, StaysThere, FindsTurns}
use Rattle.thy_computer.specs.Origin.{Origin, runs_at}
use Rattle.thy_computer.specs.Pace.{retires}
use Rattle.thy_computer.specs.WithTurns.{with_turns, AgreeBelow, count_of, reach_in, reach, HasTurn}
use Rattle.thy_computer.proofs.TurnLaws.{AgreeBelow-same, with_turn, with_turn-agrees, with_turn-gives}

-- ---- phases

pub runs_behind : (p : Phase) → p ≡ Run → p ≢ BootPhase
runs_behind p is boots = let both : Run ≡ BootPhase = sym is ∙ boots in absurd (cc)

pub runs_or_halts : (b : Bool) → (if b then Run else Halt) ≢ BootPhase
runs_or_halts true boots = absurd (cc)
runs_or_halts false boots = absurd (cc)

reach_behind : (p : Phase) (v : View) → p ≢ BootPhase → reach_in p v ≡ v.count
reach_behind BootPhase v behind = absurd (behind refl)
reach_behind Run v behind = refl
reach_behind Halt v behind = refl

-- after the boot the reach is the count
pub reach-count : (v : View) → v.phase ≢ BootPhase → reach v ≡ v.count
reach-count v behind = reach_behind v.phase v behind

-- in a boot the reach is the count of the checkpoint found
pub reach-boot : (v : View) → v.phase ≡ BootPhase → reach v ≡ count_of v.done
reach-boot v boots = ap (λ (p : Phase). reach_in p v) boots

-- ---- steps

module _ (o : Origin) (v next : View) where
  same : next ≡ v → reach next ≡ reach v
  same e = ap reach e

  -- after the boot, a step that leaves the count leaves the reach
  goes : v.phase ≡ Run → next.phase ≢ BootPhase → next.count ≡ v.count → reach next ≡ reach v
  goes runs behind count = reach-count next behind ∙ count ∙ sym (reach-count v (runs_behind v.phase runs))

  runs : v.phase ≡ Run → next.phase ≡ v.phase → next.count ≡ v.count → reach next ≡ reach v
  runs is phase count = goes is (runs_behind next.phase (phase ∙ is)) count

  busy : v.phase ≡ Run → next ≡ busier v → reach next ≡ reach v
  busy is e = runs is (ap (λ (w : View). w.phase) e) (ap (λ (w : View). w.count) e)

  boots : v.phase ≡ BootPhase → BootsTo v next → reach next ≡ reach v
  boots is to = elim to as (λ _. reach next ≡ reach v) [
    | inl e ↦ same e
    | inr e ↦
        let found : count_of next.done ≡ count_of v.done = ap (λ (w : View). count_of w.done) e.1 in
        reach-boot next (ap (λ (w : View). w.phase) e.1 ∙ is) ∙ found ∙ sym (reach-boot v is)
  ]

  moves : v.phase ≡ Run → MovesTo v next → reach next ≡ reach v
  moves is to = elim to as (λ _. reach next ≡ reach v) [
    | inl e ↦ busy is e
    | inr e ↦ runs is (ap (λ (w : View). w.phase) e.4) (ap (λ (w : View). w.count) e.4)
  ]

  engine : v.phase ≡ Run → (step : EngineStep) → EngineTo step v next → reach next ≡ reach v
  engine is Idle e = absurd e
  engine is Copied e = busy is e
  engine is PageBlock e = busy is e
  engine is StateBlock e = busy is e
  engine is TableBlock e = busy is e
  engine is Barrier e = busy is e
  engine is CommitWritten e = runs is (ap (λ (w : View). w.phase) e.2) (ap (λ (w : View). w.count) e.2)
  engine is (EngineCommitted epoch) e = absurd e

  -- the view after a step reaches as far as the one before it, or from nowhere to the start, or one instruction further
  abbrev Reaches : Did → Type 0
  Reaches did =
      (reach next ≡ reach v) ⊎ ((reach v ≡ 0) × (reach next ≡ o.start.count)) ⊎ ((retires did ≡ 1) × (reach next ≡ reach v + 1))

  reaches : (did : Did) → CoreStep o v did next → Reaches did
  reaches Boot s = inl (boots s.0 s.1)
  reaches Loaded s =
      let phase : next.phase ≡ Run = ap (λ (w : View). w.phase) s.becomes in
      inr (inl (
        reach-boot v s.phase ∙ ap count_of s.none,
        reach-count next (runs_behind next.phase phase) ∙ ap (λ (w : View). w.count) s.becomes,
      ))
  reaches (Restarted epoch count) s =
      let phase : next.phase ≡ phase_at o count = ap (λ (w : View). w.phase) s.becomes in
      inl (reach-count next (λ b. runs_or_halts (runs_at o count) (sym phase ∙ b))
      ∙ ap (λ (w : View). w.count) s.becomes ∙ sym (ap count_of s.done) ∙ sym (reach-boot v s.phase))
  reaches (Refused bad) s = inl (same s.3)
  reaches Moved s = inl (moves s.0 s.3)
  reaches (Retired hart) s =
      let phase : next.phase ≡ v.phase = ap (λ (w : View). w.phase) s.becomes in
      inr (inr (
        refl,
        reach-count next (runs_behind next.phase (phase ∙ s.phase))
            ∙ ap (λ (w : View). w.count) s.becomes
            ∙ ap (λ (n : ℕ). n + 1) (sym (reach-count v (runs_behind v.phase s.phase))),
      ))
  reaches Flushed s = inl (busy s.0 s.1)
  reaches Merged s = inl (busy s.0 s.1)
  reaches Promoted s = inl (busy s.0 s.1)
  reaches (Sealed epoch count cause) s = inl (runs s.phase (ap (λ (w : View). w.phase) s.becomes) (ap (λ (w : View). w.count) s.becomes))
  reaches (Engine step) s = inl (engine s.0 step s.1)
  reaches (Committed epoch overlapped) s =
      let phase : next.phase ≡ phase_at o s.count = ap (λ (w : View). w.phase) s.becomes in
      inl (goes s.phase (λ b. runs_or_halts (runs_at o s.count) (sym phase ∙ b)) (ap (λ (w : View). w.count) s.becomes))
  reaches NvmDrained s = inl (same s)
  reaches DramDrained s = inl (same s)
  reaches Nothing s = inl (same s.1)

  no_less : (did : Did) → Reaches did → reach v ≤ reach next
  no_less did r = elim r as (λ _. reach v ≤ reach next) [
    | inl e ↦ omega (arith, e)
    | inr rest ↦ elim rest as (λ _. reach v ≤ reach next) [
      | inl e ↦ (let from = e.0 in omega (arith, from))
      | inr e ↦ (let to = e.1 in omega (arith, to))
    ]
  ]

  no_more : (did : Did) → retires did ≡ 0 → Reaches did → reach next - o.start.count ≡ reach v - o.start.count
  no_more did none r = elim r as (λ _. reach next - o.start.count ≡ reach v - o.start.count) [
    | inl e ↦ ap (λ (n : ℕ). n - o.start.count) e
    | inr rest ↦ elim rest as (λ _. reach next - o.start.count ≡ reach v - o.start.count) [
      | inl e ↦ (let from = e.0 in let to = e.1 in omega (arith, from, to))
      | inr e ↦ (let one = e.0 in omega (arith, one, none))
    ]
  ]

pub steps-reach : StepsReach
steps-reach o v next did s = no_less o v next did (reaches o v next did s)

-- what retires nothing reaches no further from the start
pub stays-there : StaysThere
stays-there o v next did s none = no_more o v next did none (reaches o v next did s)

-- an instruction that is retired reaches one further
pub retires-reach : RetiresReach
retires-reach o v next hart s =
    let phase : next.phase ≡ v.phase = ap (λ (w : View). w.phase) s.becomes in
    let count : next.count ≡ v.count + 1 = ap (λ (w : View). w.count) s.becomes in
    omega (arith, reach-count next (runs_behind next.phase (phase ∙ s.phase)), count)

-- ---- turns to come

pub finds-turns : FindsTurns
finds-turns o v (Retired hart) h =
    let agree : AgreeBelow o (with_turn o v.count hart) (reach v)
    = with_turn-agrees o v.count hart (reach v) (let is = ap (λ (p : Phase). reach_in p v) h.runs in omega (arith, is)) in
    (with_turn o v.count hart, agree, with_turn-gives o v.count hart h.late)
finds-turns o v Boot h = (o.turns, AgreeBelow-same o (reach v), tt)
finds-turns o v Loaded h = (o.turns, AgreeBelow-same o (reach v), tt)
finds-turns o v (Restarted epoch count) h = (o.turns, AgreeBelow-same o (reach v), tt)
finds-turns o v (Refused bad) h = (o.turns, AgreeBelow-same o (reach v), tt)
finds-turns o v Moved h = (o.turns, AgreeBelow-same o (reach v), tt)
finds-turns o v Flushed h = (o.turns, AgreeBelow-same o (reach v), tt)
finds-turns o v Merged h = (o.turns, AgreeBelow-same o (reach v), tt)
finds-turns o v (Sealed epoch count cause) h = (o.turns, AgreeBelow-same o (reach v), tt)
finds-turns o v Promoted h = (o.turns, AgreeBelow-same o (reach v), tt)
finds-turns o v (Engine step) h = (o.turns, AgreeBelow-same o (reach v), tt)
finds-turns o v (Committed epoch overlapped) h = (o.turns, AgreeBelow-same o (reach v), tt)
finds-turns o v NvmDrained h = (o.turns, AgreeBelow-same o (reach v), tt)
finds-turns o v DramDrained h = (o.turns, AgreeBelow-same o (reach v), tt)
finds-turns o v Nothing h = (o.turns, AgreeBelow-same o (reach v), tt)

-- what a step did has its turn with all turns that agree as far as the step reaches
pub HasTurn-agrees : (o : Origin) (turns : List ℕ) (v next : View) (did : Did)
    → CoreStep o v did next → AgreeBelow o turns (reach next) → HasTurn o v did → HasTurn (with_turns o turns) v did
HasTurn-agrees o turns v next (Retired hart) s agree mine = agree v.count (retires-reach o v next hart s) ∙ mine
HasTurn-agrees o turns v next Boot s agree mine = tt
HasTurn-agrees o turns v next Loaded s agree mine = tt
HasTurn-agrees o turns v next (Restarted epoch count) s agree mine = tt
HasTurn-agrees o turns v next (Refused bad) s agree mine = tt
HasTurn-agrees o turns v next Moved s agree mine = tt
HasTurn-agrees o turns v next Flushed s agree mine = tt
HasTurn-agrees o turns v next Merged s agree mine = tt
HasTurn-agrees o turns v next (Sealed epoch count cause) s agree mine = tt
HasTurn-agrees o turns v next Promoted s agree mine = tt
HasTurn-agrees o turns v next (Engine step) s agree mine = tt
HasTurn-agrees o turns v next (Committed epoch overlapped) s agree mine = tt
HasTurn-agrees o turns v next NvmDrained s agree mine = tt
HasTurn-agrees o turns v next DramDrained s agree mine = tt
HasTurn-agrees o turns v next Nothing s agree mine = tt
