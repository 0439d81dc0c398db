-- Part of the claim.
-- How a run makes progress: its cycles are bounded, and none of them is idle. Every cycle decreases what lies ahead of the
-- machine by one, and only an instruction raises it (`nears` of `IsStep`). `IsSoonOver` also rests on `CoreStep` and `Safe`, by
-- which the counts of a run lie between the start's and the end's. The bounds on boot, epoch and drains rest on `boots`, `spent`
-- and `queues` of `KeepsPace`.
use Rattle.std.specs.Prelude.{◌≡◌, ◌≢◌, ℕ, zero, suc, ◌+◌, ◌*◌, ◌<◌, ◌≤◌, max, Bool, false, ◌&&◌, not, if◌then◌else◌, List, [], ◌∷◌}
use Rattle.thy_block.specs.declared.parameters.Parameters.{Parameters}
use Rattle.thy_computer.specs.declared.did.Did.{Did}
use Rattle.thy_computer.specs.declared.did.Did.TheVariants.{Nothing}
use Rattle.thy_computer.specs.Kind.{KindOf}
use Rattle.thy_computer.specs.Origin.{Origin, runs_at}
use Rattle.thy_computer.specs.Pace.{is_drained, retires}
use Rattle.thy_computer.specs.WithTurns.{with_turns}
use Rattle.thy_computer.specs.Views.{is_boot}
use Rattle.thy_run.specs.World.{World, Given, seen, TakesStep, is_due, Ran}

-- the greatest of some cycles, 0 if there is none
abbrev pub last_of : List ℕ → ℕ
last_of [] = 0
last_of (cycle ∷ cycles) = max cycle (last_of cycles)

-- A run in which k instructions were retired since its power came on has fewer cycles than these: the cycles up to the
-- last cut, the cycles of the boot after it, and the cycles of the instructions.
abbrev pub cycles_for : {M : Type 0} → KindOf M → Parameters → List ℕ → ℕ → ℕ
cycles_for K p cuts k = last_of cuts + K.most_ahead p + K.most_each p * k

-- ---- soon over

-- the program ends within k instructions from the start of its run, with no turn reported
abbrev pub EndsWithin : Origin → ℕ → Type 0
EndsWithin o k = runs_at (with_turns o []) (o.start.count + k) ≡ false

-- with one hart a run has no more cycles than its program needs
abbrev pub IsSoonOver : {M : Type 0} → KindOf M → Origin → List ℕ → ℕ → Type 0
IsSoonOver K o cuts cycles = (k : ℕ) → o.geometry.harts ≡ 1 → EndsWithin o k → cycles < cycles_for K o.geometry cuts k

-- every run of one hart is soon over
abbrev pub RunIsSoonOver : {M : Type 0} → KindOf M → Type 0
RunIsSoonOver {M = M} K =
    (o : Origin) (given : Given) (cycles : ℕ) (w : World M)
    → Ran K o given cycles w → IsSoonOver K o given.config.cuts cycles

-- ---- busy

-- what was done since power came on
pub record Tally : Type 0 where
  -- instructions retired
  pub retired : ℕ
  -- cycles of the boot, without drains
  pub booted : ℕ
  -- cycles that drained a queue, and all others
  pub drains : ℕ
  pub others : ℕ

abbrev pub nothing_done : Tally
nothing_done = record { retired = 0; booted = 0; drains = 0; others = 0 }

abbrev pub one_if : Bool → ℕ
one_if b = if b then 1 else 0

-- the tally after one more cycle
abbrev pub counted : Tally → (booting : Bool) → Did → Tally
counted t booting did = record {
  retired = t.retired + retires did;
  booted = t.booted + one_if (booting && not (is_drained did));
  drains = t.drains + one_if (is_drained did);
  others = t.others + one_if (not (is_drained did));
}

-- what a run has done since its power came on
abbrev pub tally_of : {M : Type 0} (K : KindOf M) (o : Origin) (given : Given) (k : ℕ) (w : World M)
    → Ran K o given k w → Tally
tally_of K o given zero w first = nothing_done
tally_of K o given (suc k) w (before, ran, cycle) =
    let booting = is_boot (seen K o before).phase in
    if is_due K o given.config.cuts cycle.between then nothing_done
    else counted (tally_of K o given k before ran) booting cycle.steps.r.did

-- what holds of a run of this many cycles that has done this since its power came on
pub record IsBusy {M : Type 0} (K : KindOf M) (o : Origin) (cuts : List ℕ) (cycles : ℕ) (w : World M) (t : Tally)
    : Type 0 where
  -- the run has taken no more cycles than the instructions account for
  pub paced : cycles < cycles_for K o.geometry cuts t.retired
  -- the boot took no more than it may, and neither did the epoch that executes
  pub boots : t.booted ≤ K.most_booting o.geometry
  pub spent : 0 < cycles → (seen K o w).spent < K.most_spent o.geometry
  -- each drain landed a write that another cycle had queued
  pub drains : t.drains ≤ t.others

-- a run of this many cycles took no more than the instructions account for that it retired since its power came on
abbrev pub IsPaced : {M : Type 0} → KindOf M → Origin → Given → ℕ → Type 0
IsPaced {M = M} K o given cycles =
    (w : World M) (ran : Ran K o given cycles w)
    → cycles < cycles_for K o.geometry given.config.cuts (tally_of K o given cycles w ran).retired

-- every run is busy
abbrev pub RunIsBusy : {M : Type 0} → KindOf M → Type 0
RunIsBusy {M = M} K =
    (o : Origin) (given : Given) (cycles : ℕ) (w : World M) (ran : Ran K o given cycles w)
    → IsBusy K o given.config.cuts cycles w (tally_of K o given cycles w ran)

-- ---- never at rest

-- no cycle of a run does nothing: only a machine that has halted does
abbrev pub RunNeverRests : {M : Type 0} → KindOf M → Type 0
RunNeverRests {M = M} K =
    (o : Origin) (w next : World M) (step : TakesStep K o w next) → step.r.did ≢ Nothing
