-- Every cycle comes nearer to the next instruction, or to the end.
use Rattle.std.proofs.Common.{◌≡◌, ℕ, zero, suc, ◌+◌, ◌-◌, ◌*◌, ◌<◌, ◌≤◌, ◌==◌, Bool, true, false, if◌then◌else◌, refl, ◌∙◌, ap, arith, inl, inr}
use Rattle.std.proofs.lemmas.Bool.{ne_eqb}
use Rattle.thy_layout.specs.declared.engine_step.EngineStep.{EngineStep}
use Rattle.thy_layout.specs.declared.engine_step.EngineStep.TheVariants.{Idle, Copied, PageBlock, StateBlock, TableBlock, Barrier, CommitWritten, Committed as EngineCommitted}
use Rattle.thy_computer.specs.declared.did.Did.{Did}
use Rattle.thy_computer.specs.declared.did.Did.TheVariants.{Boot as DidBoot, Loaded, Restarted, Refused, Moved, Retired, Flushed, Merged, Sealed, Promoted, Engine, Committed, NvmDrained, DramDrained, Nothing}
use Rattle.thy_computer.specs.declared.view.Phase.{Phase}
use Rattle.thy_computer.specs.declared.view.Phase.TheVariants.{Boot, Run, Halt}
use Rattle.thy_computer.specs.declared.view.View.{View}
use Rattle.thy_computer.specs.CoreStep.{busier, BootsTo, MovesTo, EngineTo, CoreStep}
use Rattle.thy_computer.specs.Origin.{Origin, runs_at}
use Rattle.thy_computer.specs.Pace.{Gauge, KeepsPace, retires}
use Rattle.thy_computer.specs.Views.{is_halt}
use Rattle.thy_scheme.specs.Kind.{idle_left, own_left, left_ahead}
use Rattle.thy_scheme.specs.Runs.{CyclesComeNearer}

-- ---- epochs that may still go by

idle_most : (most retired : ℕ) (idle : Bool) → idle_left most retired idle ≤ 2 * most
idle_most most retired idle = grind arith

idle_none : (most retired : ℕ) (idle : Bool) → retired ≡ 0 → idle_left most retired idle ≤ most
idle_none most retired idle none = grind arith

-- after a seal one epoch less may be idle
idle_sealed : (most retired : ℕ) (old new : Bool) → (old ≡ true → 1 ≤ retired) → new ≡ (retired == 0)
    → idle_left most 0 new + most ≤ idle_left most retired old
idle_sealed most zero true new some is = absurd (let n : 1 ≤ 0 = some refl in omega arith)
idle_sealed most zero false new some is = let e : idle_left most 0 new ≡ 0 = ap (idle_left most 0) is in omega arith
idle_sealed most (suc retired) old new some is =
    let more : (suc retired == 0) ≡ false = ne_eqb (suc retired) 0 (λ e. omega (arith, e)) in
    let e : idle_left most 0 new ≡ most = ap (idle_left most 0) (is ∙ more) in
    let f : idle_left most (suc retired) old ≡ 2 * most = ap (λ (b : Bool). if b then (if old then 0 else most) else 2 * most) more in
    omega arith

-- ---- by the phase

-- an upper bound on what is left, with the program running or at its end
ended_most : (most : ℕ) (runs : Bool) (v : View) (g : Gauge)
    → own_left most (if runs then Run else Halt) v g ≤ most - 1 - v.spent + idle_left most v.retired g.idle
ended_most most true v g = omega arith
ended_most most false v g = omega arith

module _ (most : ℕ) (v next : View) (old new : Gauge) (spent : next.spent < most) where
  -- one cycle is off what hart, engine and boot have left, and it queued one write
  nearer : (each : ℕ) → new.queued ≤ old.queued + 1 → own_left most next.phase next new + 1 ≤ own_left most v.phase v old + 2 * most * each
      → left_ahead most next new + 1 ≤ left_ahead most v old + 4 * most * each
  nearer each queued own = grind arith

  running : v.phase ≡ Run → own_left most v.phase v old ≡ most - 1 - v.spent + idle_left most v.retired old.idle
  running phase = ap (λ p. own_left most p v old) phase

  -- one cycle more was spent, at the end too
  spends : (runs : Bool) → v.phase ≡ Run → next.phase ≡ (if runs then Run else Halt) → next.spent ≡ v.spent + 1 → next.retired ≡ v.retired
      → new.idle ≡ old.idle
      → own_left most next.phase next new + 1 ≤ own_left most v.phase v old
  spends runs phase becomes more same idle =
      let before = running phase in
      let behind : own_left most next.phase next new ≡ own_left most (if runs then Run else Halt) next new =
      ap (λ p. own_left most p next new) becomes in
      let most_left = ended_most most runs next new in
      let rest : idle_left most next.retired new.idle ≡ idle_left most v.retired old.idle =
      ap (λ r. idle_left most r new.idle) same ∙ ap (idle_left most v.retired) idle in
      omega arith

  -- the boot goes on
  boots_on : v.phase ≡ Boot → next.phase ≡ Boot → new.boot_left + 1 ≤ old.boot_left
      → own_left most next.phase next new + 1 ≤ own_left most v.phase v old
  boots_on phase stays left =
      let before : own_left most v.phase v old ≡ old.boot_left + 2 * most = ap (λ p. own_left most p v old) phase in
      let behind : own_left most next.phase next new ≡ new.boot_left + 2 * most = ap (λ p. own_left most p next new) stays in
      omega arith

  -- the cycle that ends the boot leaves less than before it
  boots_up : (runs : Bool) → v.phase ≡ Boot → next.phase ≡ (if runs then Run else Halt) → next.retired ≡ 0
      → new.boot_left + 1 ≤ old.boot_left
      → own_left most next.phase next new + 1 ≤ own_left most v.phase v old
  boots_up runs phase becomes none left =
      let before : own_left most v.phase v old ≡ old.boot_left + 2 * most = ap (λ p. own_left most p v old) phase in
      let behind : own_left most next.phase next new ≡ own_left most (if runs then Run else Halt) next new =
      ap (λ p. own_left most p next new) becomes in
      let most_left = ended_most most runs next new in
      let rest = idle_none most next.retired new.idle none in
      omega arith

  retires_one : v.phase ≡ Run → next.phase ≡ Run → next.spent ≡ v.spent + 1
      → own_left most next.phase next new + 1 ≤ own_left most v.phase v old + 2 * most * 1
  retires_one phase stays more =
      let before = running phase in
      let behind : own_left most next.phase next new ≡ most - 1 - next.spent + idle_left most next.retired new.idle =
      ap (λ p. own_left most p next new) stays in
      let rest = idle_most most next.retired new.idle in
      omega arith

  seals : v.phase ≡ Run → next.phase ≡ Run → next.spent ≡ 0 → next.retired ≡ 0 → (old.idle ≡ true → 1 ≤ v.retired)
      → new.idle ≡ (v.retired == 0)
      → own_left most next.phase next new + 1 ≤ own_left most v.phase v old
  seals phase stays none first some is =
      let before = running phase in
      let behind : own_left most next.phase next new ≡ most - 1 - next.spent + idle_left most next.retired new.idle =
      ap (λ p. own_left most p next new) stays in
      let rest = idle_sealed most v.retired old.idle new.idle some is in
      let begun : idle_left most next.retired new.idle ≡ idle_left most 0 new.idle = ap (λ r. idle_left most r new.idle) first in
      omega arith

-- a drain leaves no more than there was
drained_most : (most : ℕ) (phase : Phase) (v : View) (old new : Gauge) → (phase ≡ Boot → new.boot_left ≤ old.boot_left) → new.idle ≡ old.idle
    → own_left most phase v new ≤ own_left most phase v old
drained_most most Boot v old new boots idle = let l : new.boot_left ≤ old.boot_left = boots refl in omega arith
drained_most most Run v old new boots idle = let e : idle_left most v.retired new.idle ≡ idle_left most v.retired old.idle =
    ap (idle_left most v.retired) idle in omega arith
drained_most most Halt v old new boots idle = omega arith

-- ---- by what the cycle did

module _ (most : ℕ) (o : Origin) (v next : View) (old new : Gauge) where
  drains : next ≡ v → new.queued + 1 ≡ old.queued → (v.phase ≡ Boot → new.boot_left ≤ old.boot_left) → new.idle ≡ old.idle
      → left_ahead most next new + 1 ≤ left_ahead most v old + 4 * most * 0
  drains e queued boots idle =
      let own : own_left most next.phase next new ≡ own_left most v.phase v new = ap (λ (w : View). own_left most w.phase w new) e in
      let less = drained_most most v.phase v old new boots idle in
      omega arith

  busy : (did : Did) → KeepsPace most v next did old new → v.phase ≡ Run → next ≡ busier v → new.queued ≤ old.queued + 1
      → new.idle ≡ old.idle
      → left_ahead most next new + 1 ≤ left_ahead most v old + 4 * most * 0
  busy did pace phase e queued idle =
      nearer most v next old new pace.spent 0 queued
      (let l = spends most v next old new pace.spent true phase (ap (λ (w : View). w.phase) e ∙ phase) (ap (λ (w : View). w.spent) e)
      (ap (λ (w : View). w.retired) e) idle in omega arith)

  moves : (did : Did) → KeepsPace most v next did old new → v.phase ≡ Run → MovesTo v next → new.queued ≤ old.queued + 1
      → new.idle ≡ old.idle
      → left_ahead most next new + 1 ≤ left_ahead most v old + 4 * most * 0
  moves did pace phase m queued idle = elim m as (λ _. left_ahead most next new + 1 ≤ left_ahead most v old + 4 * most * 0) [
    | inl e ↦ busy did pace phase e queued idle
    | inr e ↦ nearer most v next old new pace.spent 0 queued
        (let l = spends most v next old new pace.spent true phase (ap (λ (w : View). w.phase) e.4 ∙ phase) (ap (λ (w : View). w.spent) e.4)
        (ap (λ (w : View). w.retired) e.4) idle in omega arith)
  ]

  engine : (step : EngineStep) → KeepsPace most v next (Engine step) old new → v.phase ≡ Run → EngineTo step v next
      → new.queued ≤ old.queued + 1 → new.idle ≡ old.idle → left_ahead most next new + 1 ≤ left_ahead most v old + 4 * most * 0
  engine Idle pace phase e queued idle = absurd e
  engine Copied pace phase e queued idle = busy (Engine Copied) pace phase e queued idle
  engine PageBlock pace phase e queued idle = busy (Engine PageBlock) pace phase e queued idle
  engine StateBlock pace phase e queued idle = busy (Engine StateBlock) pace phase e queued idle
  engine TableBlock pace phase e queued idle = busy (Engine TableBlock) pace phase e queued idle
  engine Barrier pace phase e queued idle = busy (Engine Barrier) pace phase e queued idle
  engine CommitWritten pace phase e queued idle =
      nearer most v next old new pace.spent 0 queued
      (let l = spends most v next old new pace.spent true phase (ap (λ (w : View). w.phase) e.2 ∙ phase) (ap (λ (w : View). w.spent) e.2)
      (ap (λ (w : View). w.retired) e.2) idle in omega arith)
  engine (EngineCommitted epoch) pace phase e queued idle = absurd e

  boots : (did : Did) → KeepsPace most v next did old new → v.phase ≡ Boot → BootsTo v next → new.queued ≤ old.queued + 1
      → new.boot_left + 1 ≤ old.boot_left
      → left_ahead most next new + 1 ≤ left_ahead most v old + 4 * most * 0
  boots did pace phase b queued left =
      let stays : next.phase ≡ Boot = elim b as (λ _. next.phase ≡ Boot) [
        | inl e ↦ ap (λ (w : View). w.phase) e ∙ phase
        | inr e ↦ ap (λ (w : View). w.phase) e.1 ∙ phase
      ] in
      nearer most v next old new pace.spent 0 queued (let l = boots_on most v next old new pace.spent phase stays left in omega arith)

  near : (did : Did) → (v.phase ≡ Boot → v.retired ≡ 0) → CoreStep o v did next → KeepsPace most v next did old new → is_halt v.phase ≡ false
      → left_ahead most next new + 1 ≤ left_ahead most v old + 4 * most * retires did
  near DidBoot fresh s pace live = boots DidBoot pace s.0 s.1 pace.queues (pace.boots s.0)
  near Loaded fresh s pace live =
      nearer most v next old new pace.spent 0 pace.queues
      (let l = boots_up most v next old new pace.spent true s.phase (ap (λ (w : View). w.phase) s.becomes)
      (ap (λ (w : View). w.retired) s.becomes ∙ fresh s.phase) (pace.boots s.phase) in omega arith)
  near (Restarted epoch count) fresh s pace live =
      nearer most v next old new pace.spent 0 pace.queues
      (let l = boots_up most v next old new pace.spent (runs_at o count) s.phase (ap (λ (w : View). w.phase) s.becomes)
      (ap (λ (w : View). w.retired) s.becomes) (pace.boots s.phase) in omega arith)
  near (Refused bad) fresh s pace live = boots (Refused bad) pace s.0 (inl s.3) pace.queues (pace.boots s.0)
  near Moved fresh s pace live = moves Moved pace s.0 s.3 pace.queues pace.strides
  near (Retired hart) fresh s pace live =
      nearer most v next old new pace.spent 1 pace.queues
      (retires_one most v next old new pace.spent s.phase (ap (λ (w : View). w.phase) s.becomes ∙ s.phase) (ap (λ (w : View). w.spent) s.becomes))
  near Flushed fresh s pace live = busy Flushed pace s.0 s.1 pace.queues pace.strides
  near Merged fresh s pace live = busy Merged pace s.0 s.1 pace.queues pace.strides
  near (Sealed epoch count cause) fresh s pace live =
      nearer most v next old new pace.spent 0 pace.queues
      (let l = seals most v next old new pace.spent s.phase (ap (λ (w : View). w.phase) s.becomes ∙ s.phase)
      (ap (λ (w : View). w.spent) s.becomes) (ap (λ (w : View). w.retired) s.becomes) pace.strides.0 pace.strides.1 in omega arith)
  near Promoted fresh s pace live = busy Promoted pace s.0 s.1 pace.queues pace.strides
  near (Engine step) fresh s pace live = engine step pace s.0 s.1 pace.queues pace.strides
  near (Committed epoch overlapped) fresh s pace live =
      nearer most v next old new pace.spent 0 pace.queues
      (let l = spends most v next old new pace.spent (runs_at o s.count) s.phase (ap (λ (w : View). w.phase) s.becomes)
      (ap (λ (w : View). w.spent) s.becomes) (ap (λ (w : View). w.retired) s.becomes) pace.strides in omega arith)
  near NvmDrained fresh s pace live = drains s pace.queues pace.boots pace.strides
  near DramDrained fresh s pace live = drains s pace.queues pace.boots pace.strides
  near Nothing fresh s pace live = absurd (let e : is_halt v.phase ≡ true = ap is_halt s.0 in cc)

pub cycles_come_nearer : CyclesComeNearer
cycles_come_nearer most o v next did old new = near most o v next old new did
