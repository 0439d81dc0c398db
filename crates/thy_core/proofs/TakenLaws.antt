-- A cycle of the actor whose turn it is, is a step of a machine.
use Rattle.std.proofs.Common.{◌≡◌, ℕ, ◌+◌, ◌<◌, ◌^◌, ◌&&◌, not, Bool, true, false, length, Result, Ok, Err, is_err, refl, sym, ◌∙◌, ap, subst}
use Rattle.thy_block.specs.declared.mix.Pick.{Pick}
use Rattle.thy_block.specs.declared.nvm.NvmError.{NvmError}
use Rattle.thy_block.specs.Device.{Device, CountsFault}
use Rattle.thy_layout.specs.declared.start.Start.{Start}
use Rattle.thy_computer.specs.declared.did.Did.{Did}
use Rattle.thy_computer.specs.declared.did.Stepped.{Stepped}
use Rattle.thy_computer.specs.declared.view.Phase.{Phase}
use Rattle.thy_computer.specs.declared.view.Phase.TheVariants.{Boot, Run, Halt}
use Rattle.thy_computer.specs.declared.view.View.{View}
use Rattle.thy_computer.specs.Advances.{IsOthersCycle}
use Rattle.thy_computer.specs.Kind.{IsStep, LeavesSafe, CanStep, Simulates, FailsSafe}
use Rattle.thy_computer.specs.Origin.{Origin, Begins}
use Rattle.thy_computer.specs.WithTurns.{with_turns, IsThere, HasTurn}
use Rattle.thy_computer.specs.NextActor.{Actor, Advances, Does, HandsOn, stall_at, actor_of}
use Rattle.thy_computer.specs.Views.{is_halt}
use Rattle.thy_scheme.specs.Scheme.{SchemeOf}
use Rattle.thy_scheme.specs.Laws.{IsLawful}
use Rattle.thy_scheme.specs.Machine.{Machine, view_in, view_of, pressure_of}
use Rattle.thy_scheme.specs.Sound.{Sound, IsAt}
use Rattle.thy_scheme.specs.MachineExact.{MakesCycle}
use Rattle.thy_scheme.specs.Kind.{kind_over}
use Rattle.thy_scheme.specs.Rows.{IsMoment, At}
use Rattle.thy_core.specs.declared.turn.Actor.{Actor as ActorHere}
use Rattle.thy_core.specs.declared.turn.Actor.TheVariants as here
use Rattle.thy_core.specs.MachineParts.{actor_seen}
use Rattle.thy_core.specs.Turns.{actor_now}
use Rattle.thy_core.specs.Cycles.{HasStart, IsActorOf, IsCycle, HasFailedAs, HasTaken, HasReported, reported, noted}
use Rattle.thy_computer.proofs.TurnLaws.{Begins-with_turns}
use Rattle.thy_computer.proofs.ReachLaws.{finds-turns}
use Rattle.thy_scheme.proofs.Facts.{view-run}
use Rattle.thy_scheme.proofs.MomentLaws.{sound-here, view-alike, leads_to_moment}
use Rattle.thy_scheme.proofs.BootingLaws.{view-boot, holds-boot, uncounted}
use Rattle.thy_scheme.proofs.StepLaws.{simulating_is_step, failing_is_safe}
use Rattle.thy_core.proofs.TurnLaws.{turn_is, at_turn}

module _ {S : Type 0} (K : SchemeOf S) where
  pub at_run : (l : IsLawful K) (o : Origin) (cycles : ℕ) (m : Machine S) (n : Device) → Sound K o cycles m n → cycles < 2 ^ 62
      → At K o cycles m n
  at_run l o cycles m n sound few = record { lawful = l; sound = sound; few = few }

  pub moment_of : (o : Origin) (cycles : ℕ) (m : Machine S) (n : Device) → At K o cycles m n → IsMoment K o cycles m n
  moment_of o cycles m n at = record { lawful = at.lawful; sound = at.sound }

  -- the phase of the view is the machine's
  pub phase_in : (l : IsLawful K) (o : Origin) (cycles : ℕ) (m : Machine S) (n : Device) (phase : Phase) → Sound K o cycles m n
      → m.phase ≡ phase → (view_of K o m n).phase ≡ phase
  phase_in l o cycles m n Boot s e = ap (λ v. v.phase) (view-boot K o m n e)
      ∙ (uncounted o (K.boot_view o m.scheme n) (holds-boot K l o cycles m n s e).shown).phase
  phase_in l o cycles m n Run s e = ap (λ v. v.phase) (view-run K o m n e) ∙ e
  phase_in l o cycles m n Halt s e = ap (λ phase. (view_in K o phase m n).phase) e ∙ e

  pub turned : (o : Origin) (cycles : ℕ) (pick : Pick) (nvm : ℕ) (actor : Actor) (m : Machine S) (n : Device) → IsMoment K o cycles m n
      → nvm ≡ length n.queue → actor ≡ actor_now K pick nvm m → IsActorOf K o m n actor
  turned o cycles pick nvm actor m n at queued is = subst (IsActorOf K o m n) (sym is) (at_turn K o cycles m n at pick nvm queued)

  -- the actor is the one of the view
  pub actor_is : (o : Origin) (cycles : ℕ) (pick : Pick) (nvm : ℕ) (actor : Actor) (m : Machine S) (n : Device) → IsMoment K o cycles m n
      → nvm ≡ length n.queue → actor ≡ actor_now K pick nvm m
      → actor ≡ actor_of o pick (length n.queue) (view_of K o m n) (pressure_of K m)
  actor_is o cycles pick nvm actor m n at queued is =
      is ∙ turn_is K o cycles m n at pick nvm ∙ ap (λ q. actor_of o pick q (view_of K o m n) (pressure_of K m)) queued

-- another actor than a hart that advances
pub is_other : (actor : ActorHere) (hart : ℕ) → actor_seen actor ≡ Advances hart → ⊥
is_other here.Nvm hart is = absurd (cc)
is_other here.Dram hart is = absurd (cc)
is_other here.Engine hart is = absurd (cc)
is_other (here.Stalled stall) hart is = absurd (cc)

-- has the turn at every moment of a run
pub others_turn : {S : Type 0} (K : SchemeOf S) (l : IsLawful K) (pick : Pick) (nvm : ℕ) (actor : ActorHere) (m : Machine S) (n : Device)
    → nvm ≡ length n.queue → actor_seen actor ≡ actor_now K pick nvm m → IsOthersCycle (kind_over K) pick m n
others_turn K l pick nvm actor m n queued is = λ o k hart here turn.
    let at : IsMoment K o k m n = record { lawful = l; sound = sound-here K o k m n here } in
    is_other actor hart (actor_is K o k pick nvm (actor_seen actor) m n at queued is ∙ turn)

pub step_taken : {S : Type 0} (K : SchemeOf S) (o : Origin) (cycles : ℕ) (pick : Pick) (nvm : ℕ) (actor : Actor) (m next : Machine S)
    (n new : Device) (r : Stepped)
    → At K o cycles m n → nvm ≡ length n.queue → actor ≡ actor_now K pick nvm m → IsCycle K o cycles actor r.did m n next new
    → HasTurn o (view_of K o m n) r.did → IsAt K o (cycles + 1) next new → r.stall ≡ stall_at actor
    → r.ended ≡ (not (is_halt m.phase) && is_halt next.phase) → IsStep (kind_over K) o cycles pick m next n new r
step_taken K o cycles pick nvm actor m next n new r at queued is c mine at_next stall ended =
    let turn = actor_is K o cycles pick nvm actor m n (moment_of K o cycles m n at) queued is in
    let before = phase_in K at.lawful o cycles m n m.phase at.sound refl in
    let simulates = c.simulates mine in
    let behind = phase_in K at.lawful o (cycles + 1) next new next.phase simulates.at_next refl in
    simulating_is_step K o cycles pick m next n new r at simulates at_next
    (subst (Does r.did) turn c.does, stall ∙ ap stall_at turn, c.due)
    (subst (λ a. HandsOn a r.did (pressure_of K m) (pressure_of K next)) turn c.hands)
    (ended ∙ ap (λ x. not (is_halt x) && is_halt next.phase) (sym before)
    ∙ ap (λ x. not (is_halt (view_of K o m n).phase) && is_halt x) (sym behind))
    (subst (λ a. MakesCycle K o a m n r.did next new) turn c.exact)

-- ---- whatever turns are to come

-- a cycle that is the actor's along all turns that agree so far is a step of a machine
pub steps_taken : {S : Type 0} (K : SchemeOf S) (l : IsLawful K) (o : Origin) (cycles : ℕ) (pick : Pick) (nvm : ℕ) (actor : Actor)
    (start : Start) (m next : Machine S) (n new : Device) (r : Stepped)
    → cycles < 2 ^ 62 → Begins o start → IsAt K o cycles m n → nvm ≡ length n.queue → actor ≡ actor_now K pick nvm m
    → ((p : Origin) → Begins p start → Sound K p cycles m n → IsCycle K p cycles actor r.did m n next new)
    → r.stall ≡ stall_at actor → r.ended ≡ (not (is_halt m.phase) && is_halt next.phase)
    → IsThere o (view_of K o m n) r.did × (HasTurn o (view_of K o m n) r.did → IsStep (kind_over K) o cycles pick m next n new r)
steps_taken K l o cycles pick nvm actor start m next n new r few begins at queued is cycle stall ended =
    let here = sound-here K o cycles m n at in
    let c = cycle o begins here in (
      c.there,
      λ mine.
          step_taken K o cycles pick nvm actor m next n new r (at_run K l o cycles m n here few) queued is c mine
          (leads_to_moment K o cycles r.did m next n new l
          (λ turns agree theirs. (cycle (with_turns o turns) (Begins-with_turns o turns start begins) (at turns agree)).simulates theirs) mine)
          stall ended,
    )

-- a machine has failed in nothing after a cycle that succeeded
pub unfailed_after : {S : Type 0} (K : SchemeOf S) (l : IsLawful K) (o : Origin) (cycles : ℕ) (actor : Actor) (start : Start)
    (m next : Machine S) (n new : Device) (did : Did)
    → Begins o start → IsAt K o cycles m n
    → ((p : Origin) → Begins p start → Sound K p cycles m n → IsCycle K p cycles actor did m n next new)
    → next.failed ≡ false
unfailed_after K l o cycles actor start m next n new did begins at cycle =
    let found = finds-turns o (view_of K o m n) did (cycle o begins (sound-here K o cycles m n at)).there in
    let theirs : HasTurn (with_turns o found.0) (view_of K (with_turns o found.0) m n) did
    = subst (λ (v : View). HasTurn (with_turns o found.0) v did) (sym (view-alike K l o found.0 m n)) found.2 in
    ((cycle (with_turns o found.0) (Begins-with_turns o found.0 start begins) (at found.0 found.1)).simulates theirs).at_next.unfailed

pub step_failed : {S : Type 0} (K : SchemeOf S) (o : Origin) (cycles : ℕ) (pick : Pick) (nvm : ℕ) (actor : Actor)
    (m next : Machine S) (n new : Device)
    → IsMoment K o cycles m n → nvm ≡ length n.queue → actor ≡ actor_now K pick nvm m → HasFailedAs K o actor m next n new
    → LeavesSafe (kind_over K) o pick m (record next { failed = true }) n new
step_failed K o cycles pick nvm actor m next n new at queued is f =
    let turn = actor_is K o cycles pick nvm actor m n at queued is in
    failing_is_safe K o cycles pick m (record next { failed = true }) n new f.did (stall_at actor) at f.fails f.processor refl
    (subst (Does f.did) turn f.does, ap stall_at turn, f.due)

-- ---- a cycle that was taken and reported, at its turn

-- a cycle ends the run if the machine halts with it
abbrev ended_by : {S : Type 0} → Machine S → Machine S → Bool
ended_by m behind = not (is_halt m.phase) && is_halt behind.phase

module _ {S : Type 0} (K : SchemeOf S) (l : IsLawful K) (start : Start) (pick : Pick) (nvm : ℕ) (actor : Actor) (m next behind : Machine S)
    (n new : Device) (result : Result Stepped NvmError)
    (queued : nvm ≡ length n.queue) (is : actor ≡ actor_now K pick nvm m) where
  turn_at : (o : Origin) (k : ℕ) → IsMoment K o k m n → IsActorOf K o m n actor
  turn_at o k at = turned K o k pick nvm actor m n at queued is

  cycle_at : (did : Did) → HasTaken K (HasStart start) actor m n behind new (Ok did) → (k : ℕ) → k < 2 ^ 62 → (p : Origin) → Begins p start
      → Sound K p k m n → IsCycle K p k actor did m n behind new
  cycle_at did t k few p starts sound =
      let at = at_run K l p k m n sound few in
      t.simulates p k starts at (turn_at p k (moment_of K p k m n at))

  steps_by : (taken : Result Did NvmError) → HasTaken K (HasStart start) actor m n behind new taken → next ≡ noted taken behind
      → result ≡ reported (stall_at actor) (ended_by m behind) taken
      → Simulates (kind_over K) start pick m next n new result
  steps_by (Ok did) t next_is result_is = λ o k begins here few.
      rw result_is
      (rw next_is
      (steps_taken K l o k pick nvm actor start m behind n new (record { did = did; stall = stall_at actor; ended = ended_by m behind })
      few begins here queued is (cycle_at did t k few) refl refl))
  steps_by (Err e) t next_is result_is = λ o k begins here few. rw result_is tt

  fails_by : (taken : Result Did NvmError) → HasTaken K (HasStart start) actor m n behind new taken → next ≡ noted taken behind
      → result ≡ reported (stall_at actor) (ended_by m behind) taken
      → FailsSafe (kind_over K) start pick m next n new result
  fails_by (Ok did) t next_is result_is = λ o k begins here. rw result_is tt
  fails_by (Err e) t next_is result_is = λ o k begins here.
      let at : IsMoment K o k m n = record { lawful = l; sound = sound-here K o k m n here } in
      rw result_is (rw next_is (step_failed K o k pick nvm actor m behind n new at queued is (t.fails o k begins at (turn_at o k at))))

  counts_by : (taken : Result Did NvmError) → HasTaken K (HasStart start) actor m n behind new taken
      → result ≡ reported (stall_at actor) (ended_by m behind) taken → CountsFault result n.faults new.faults
  counts_by (Ok did) t result_is = rw result_is t.cause
  counts_by (Err e) t result_is = rw result_is t.cause

  notes_by : (taken : Result Did NvmError) → HasTaken K (HasStart start) actor m n behind new taken → next ≡ noted taken behind
      → result ≡ reported (stall_at actor) (ended_by m behind) taken
      → CanStep (kind_over K) start m n → next.failed ≡ is_err result
  notes_by (Ok did) t next_is result_is run =
      rw result_is
      (rw next_is (unfailed_after K l run.o run.cycles actor start m behind n new did run.begins run.at_moment (cycle_at did t run.cycles run.few)))
  notes_by (Err e) t next_is result_is run = rw result_is (rw next_is refl)

-- a cycle that was reported is a step of the run
module _ {S : Type 0} (K : SchemeOf S) (l : IsLawful K) (start : Start) (pick : Pick) (nvm : ℕ) (actor : Actor) (m next : Machine S)
    (n new : Device) (result : Result Stepped NvmError)
    (queued : nvm ≡ length n.queue) (is : actor ≡ actor_now K pick nvm m)
    (r : HasReported K (HasStart start) actor m n next new result) where
  pub reported_steps : Simulates (kind_over K) start pick m next n new result
  reported_steps = steps_by K l start pick nvm actor m next r.behind n new result queued is r.cycle r.taken r.next_is r.result_is

  pub reported_fails : FailsSafe (kind_over K) start pick m next n new result
  reported_fails = fails_by K l start pick nvm actor m next r.behind n new result queued is r.cycle r.taken r.next_is r.result_is

  pub reported_counts : CountsFault result n.faults new.faults
  reported_counts = counts_by K l start pick nvm actor m next r.behind n new result queued is r.cycle r.taken r.result_is

  pub reported_notes : CanStep (kind_over K) start m n → next.failed ≡ is_err result
  reported_notes = notes_by K l start pick nvm actor m next r.behind n new result queued is r.cycle r.taken r.next_is r.result_is
