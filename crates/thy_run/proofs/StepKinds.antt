-- The steps of a view by what they do to its phase, its marks and its counts.
use Rattle.std.proofs.Common.{◌≡◌, ℕ, ◌+◌, Bool, true, false, if◌then◌else◌, Some, None, [], refl, sym, ◌∙◌, ap, subst, inl, inr}
use Rattle.thy_block.specs.declared.cause.EndCause.{EndCause}
use Rattle.thy_layout.specs.declared.engine_step.EngineStep.{EngineStep}
use Rattle.thy_layout.specs.declared.engine_step.EngineStep.TheVariants.{Idle, Copied, PageBlock, StateBlock, TableBlock, Barrier, CommitWritten, Committed as EngineCommitted}
use Rattle.thy_computer.specs.declared.did.Did.{Did}
use Rattle.thy_computer.specs.declared.did.Did.TheVariants.{Boot, Loaded, Restarted, Refused, Moved, Retired, Flushed, Merged, Sealed, Promoted, Engine, Committed, NvmDrained, DramDrained, Nothing}
use Rattle.thy_computer.specs.declared.view.Phase.TheVariants.{Boot as BootPhase, Run, Halt}
use Rattle.thy_computer.specs.declared.view.View.{View}
use Rattle.thy_computer.specs.CoreStep.{CoreStep, EngineTo, phase_at}
use Rattle.thy_computer.specs.Origin.{Origin, runs_at}
use Rattle.thy_computer.specs.Pace.{retires, Strides}
use Rattle.thy_block.specs.Marks.{mark}
use Rattle.thy_computer.specs.Views.{is_boot}
use Rattle.thy_run.specs.World.{did_events}

-- the step leaves phase, marks and counts, reports nothing, and no epoch ends with it
pub record Keeps (o : Origin) (v next : View) (did : Did) : Type 0 where
  pub phase : next.phase ≡ v.phase
  pub done : next.done ≡ v.done
  pub sealed : next.sealed ≡ v.sealed
  pub count : next.count ≡ v.count
  pub retired : next.retired ≡ v.retired
  pub none : retires did ≡ 0
  pub nothing_reported : (cycle : ℕ) → did_events o v did cycle ≡ []
  pub idle : (retired : ℕ) (old new : Bool) → Strides did retired old new → new ≡ old

pub record Loads (o : Origin) (v next : View) (did : Did) : Type 0 where
  pub did_is : did ≡ Loaded
  pub boot : v.phase ≡ BootPhase
  pub up : is_boot next.phase ≡ false
  pub done : next.done ≡ v.sealed
  pub sealed : next.sealed ≡ None
  pub count : next.count ≡ o.start.count
  pub retired : next.retired ≡ v.retired

pub record Restores (o : Origin) (v next : View) (did : Did) : Type 0 where
  pub epoch : ℕ
  pub to : ℕ
  pub did_is : did ≡ Restarted epoch to
  pub boot : v.phase ≡ BootPhase
  pub kept : v.done ≡ Some (mark epoch to)
  pub up : is_boot next.phase ≡ false
  pub done : next.done ≡ v.done
  pub sealed : next.sealed ≡ v.sealed
  pub count : next.count ≡ to
  pub retired : next.retired ≡ 0

pub record Advances (o : Origin) (v next : View) (did : Did) : Type 0 where
  pub hart : ℕ
  pub did_is : did ≡ Retired hart
  pub runs : v.phase ≡ Run
  pub going : runs_at o v.count ≡ true
  pub up : is_boot next.phase ≡ false
  pub done : next.done ≡ v.done
  pub sealed : next.sealed ≡ v.sealed
  pub count : next.count ≡ v.count + 1
  pub retired : next.retired ≡ v.retired + 1

pub record Seals (o : Origin) (v next : View) (did : Did) : Type 0 where
  pub epoch : ℕ
  pub cause : EndCause
  pub did_is : did ≡ Sealed epoch v.count cause
  pub runs : v.phase ≡ Run
  pub up : is_boot next.phase ≡ false
  pub done : next.done ≡ v.done
  pub sealed : next.sealed ≡ Some (mark epoch v.count)
  pub count : next.count ≡ v.count
  pub retired : next.retired ≡ 0

pub record Commits (o : Origin) (v next : View) (did : Did) : Type 0 where
  pub epoch : ℕ
  pub overlapped : ℕ
  pub did_is : did ≡ Committed epoch overlapped
  pub runs : v.phase ≡ Run
  pub up : is_boot next.phase ≡ false
  pub done : next.done ≡ v.sealed
  pub sealed : next.sealed ≡ None
  pub count : next.count ≡ v.count
  pub retired : next.retired ≡ v.retired

pub data Kind (o : Origin) (v next : View) (did : Did) : Type 0 where
  keeps : Keeps o v next did → Kind o v next did
  loads : Loads o v next did → Kind o v next did
  restores : Restores o v next did → Kind o v next did
  advances : Advances o v next did → Kind o v next did
  seals : Seals o v next did → Kind o v next did
  commits : Commits o v next did → Kind o v next did

up_at : (o : Origin) (count : ℕ) → is_boot (phase_at o count) ≡ false
up_at o count = by (runs_at o count)
  where
    by : (b : Bool) → is_boot (if b then Run else Halt) ≡ false
    by true = refl
    by false = refl

-- the view as it is, with more spent, or over, or its commit block written
keeps_to : (o : Origin) (v next new : View) (did : Did) → next ≡ new → Keeps o v new did → Kind o v next did
keeps_to o v next new did e k = keeps (subst (λ x. Keeps o v x did) (sym e) k)

of_engine : (o : Origin) (v next : View) (step : EngineStep) → EngineTo step v next → Kind o v next (Engine step)
of_engine o v next Idle s = absurd s
of_engine o v next CommitWritten s = keeps_to o v next _ (Engine CommitWritten) s.2
    (record { phase = refl; done = refl; sealed = refl; count = refl; retired = refl; none = refl; nothing_reported = λ cycle. refl; idle = λ retired old new e. e })
of_engine o v next (EngineCommitted epoch) s = absurd s
of_engine o v next Copied s = keeps_to o v next _ (Engine Copied) s (record { phase = refl; done = refl; sealed = refl; count = refl; retired = refl; none = refl; nothing_reported = λ cycle. refl; idle = λ retired old new e. e })
of_engine o v next PageBlock s = keeps_to o v next _ (Engine PageBlock) s (record { phase = refl; done = refl; sealed = refl; count = refl; retired = refl; none = refl; nothing_reported = λ cycle. refl; idle = λ retired old new e. e })
of_engine o v next StateBlock s = keeps_to o v next _ (Engine StateBlock) s (record { phase = refl; done = refl; sealed = refl; count = refl; retired = refl; none = refl; nothing_reported = λ cycle. refl; idle = λ retired old new e. e })
of_engine o v next TableBlock s = keeps_to o v next _ (Engine TableBlock) s (record { phase = refl; done = refl; sealed = refl; count = refl; retired = refl; none = refl; nothing_reported = λ cycle. refl; idle = λ retired old new e. e })
of_engine o v next Barrier s = keeps_to o v next _ (Engine Barrier) s (record { phase = refl; done = refl; sealed = refl; count = refl; retired = refl; none = refl; nothing_reported = λ cycle. refl; idle = λ retired old new e. e })

-- every step is of one of these kinds
pub kind_of : (o : Origin) (v next : View) (did : Did) → CoreStep o v did next → Kind o v next did
kind_of o v next Boot (boot, inl e) = keeps_to o v next v Boot e (record { phase = refl; done = refl; sealed = refl; count = refl; retired = refl; none = refl; nothing_reported = λ cycle. refl; idle = λ retired old new e. e })
kind_of o v next Boot (boot, inr (none, e)) = keeps_to o v next _ Boot e (record { phase = refl; done = refl; sealed = refl; count = refl; retired = refl; none = refl; nothing_reported = λ cycle. refl; idle = λ retired old new e. e })
kind_of o v next Loaded s =
    loads (subst (λ x. Loads o v x Loaded) (sym s.becomes)
    (record { did_is = refl; boot = s.phase; up = refl; done = refl; sealed = refl; count = refl; retired = refl }))
kind_of o v next (Restarted epoch count) s =
    restores (subst (λ x. Restores o v x (Restarted epoch count)) (sym s.becomes)
    (record { epoch = epoch; to = count; did_is = refl; boot = s.phase; kept = s.done; up = up_at o count; done = refl; sealed = refl; count = refl; retired = refl }))
kind_of o v next (Refused bad) s = keeps_to o v next v (Refused bad) s.3 (record { phase = refl; done = refl; sealed = refl; count = refl; retired = refl; none = refl; nothing_reported = λ cycle. refl; idle = λ retired old new e. e })
kind_of o v next Moved (run, over, runs, inl e) = keeps_to o v next _ Moved e (record { phase = refl; done = refl; sealed = refl; count = refl; retired = refl; none = refl; nothing_reported = λ cycle. refl; idle = λ retired old new e. e })
kind_of o v next Moved (run, over, runs, inr s) = keeps_to o v next _ Moved s.4 (record { phase = refl; done = refl; sealed = refl; count = refl; retired = refl; none = refl; nothing_reported = λ cycle. refl; idle = λ retired old new e. e })
kind_of o v next (Retired hart) s =
    advances (subst (λ x. Advances o v x (Retired hart)) (sym s.becomes)
    (record { hart = hart; did_is = refl; runs = s.phase; going = s.runs; up = ap is_boot s.phase; done = refl; sealed = refl; count = refl; retired = refl }))
kind_of o v next Flushed s = keeps_to o v next _ Flushed s.1 (record { phase = refl; done = refl; sealed = refl; count = refl; retired = refl; none = refl; nothing_reported = λ cycle. refl; idle = λ retired old new e. e })
kind_of o v next Merged s = keeps_to o v next _ Merged s.1 (record { phase = refl; done = refl; sealed = refl; count = refl; retired = refl; none = refl; nothing_reported = λ cycle. refl; idle = λ retired old new e. e })
kind_of o v next Promoted s = keeps_to o v next _ Promoted s.1 (record { phase = refl; done = refl; sealed = refl; count = refl; retired = refl; none = refl; nothing_reported = λ cycle. refl; idle = λ retired old new e. e })
kind_of o v next (Sealed epoch count cause) s =
    seals (subst (λ x. Seals o v x (Sealed epoch count cause)) (sym s.becomes)
    (record { epoch = epoch; cause = cause; did_is = ap (λ c. Sealed epoch c cause) s.at_count; runs = s.phase; up = ap is_boot s.phase; done = refl; sealed = ap (λ c. Some (mark epoch c)) s.at_count; count = refl; retired = refl }))
kind_of o v next (Engine step) s = of_engine o v next step s.1
kind_of o v next (Committed epoch overlapped) s =
    commits (subst (λ x. Commits o v x (Committed epoch overlapped)) (sym s.becomes)
    (record { epoch = epoch; overlapped = overlapped; did_is = refl; runs = s.phase; up = up_at o s.count; done = refl; sealed = refl; count = refl; retired = refl }))
kind_of o v next NvmDrained s = keeps_to o v next v NvmDrained s (record { phase = refl; done = refl; sealed = refl; count = refl; retired = refl; none = refl; nothing_reported = λ cycle. refl; idle = λ retired old new e. e })
kind_of o v next DramDrained s = keeps_to o v next v DramDrained s (record { phase = refl; done = refl; sealed = refl; count = refl; retired = refl; none = refl; nothing_reported = λ cycle. refl; idle = λ retired old new e. e })
kind_of o v next Nothing s = keeps_to o v next v Nothing s.1 (record { phase = refl; done = refl; sealed = refl; count = refl; retired = refl; none = refl; nothing_reported = λ cycle. refl; idle = λ retired old new e. e })

-- after the boot none comes except by a power cut
pub stays_up : (o : Origin) (v next : View) (did : Did) → Kind o v next did → is_boot v.phase ≡ false → is_boot next.phase ≡ false
stays_up o v next did (keeps k) up = ap is_boot k.phase ∙ up
stays_up o v next did (loads k) up = k.up
stays_up o v next did (restores k) up = k.up
stays_up o v next did (advances k) up = k.up
stays_up o v next did (seals k) up = k.up
stays_up o v next did (commits k) up = k.up
