-- A cycle that fails does so in its action, and leaves the committed checkpoint, whole, or the one in doubt.
use Rattle.std.proofs.Common.{◌≡◌, Bool, true, false, ◌&&◌, ◌||◌, not, ℕ, if◌then◌else◌, Option, Some, None, is_some, refl, sym, ◌∙◌, ap, subst}
use Rattle.std.proofs.lemmas.Bool.{ne_eqb}
use Rattle.thy_block.specs.declared.mark.Mark.{Mark}
use Rattle.thy_block.specs.Device.{Device}
use Rattle.thy_layout.specs.declared.engine_step.EngineStep.{EngineStep}
use Rattle.thy_layout.specs.declared.engine_step.EngineStep.TheVariants.{Idle, Copied, PageBlock, StateBlock, TableBlock, Barrier, CommitWritten, Committed}
use Rattle.thy_computer.specs.declared.did.Did.{Did}
use Rattle.thy_computer.specs.declared.did.Did.TheVariants.{Moved, Flushed}
use Rattle.thy_computer.specs.declared.did.Stall.{Stall}
use Rattle.thy_computer.specs.declared.did.Stall.TheVariants.{Sealing, Waiting}
use Rattle.thy_computer.specs.declared.view.Phase.{Phase}
use Rattle.thy_computer.specs.declared.view.Phase.TheVariants.{Boot, Run, Halt}
use Rattle.thy_computer.specs.declared.view.View.{View}
use Rattle.thy_computer.specs.Action.{Action, Rest, ReadAt, WriteAt, Barrier as ActBarrier, Drain, Asks, IsAccess, is_commit_write, doubt_after_fault}
use Rattle.thy_computer.specs.Origin.{Origin}
use Rattle.thy_computer.specs.Safe.{Safe}
use Rattle.thy_computer.specs.NextActor.{has_stopped, waits}
use Rattle.thy_computer.specs.Views.{doubt_of}
use Rattle.thy_computer.proofs.ActionLemmas.{asks_by}
use Rattle.thy_computer.proofs.SafeLemmas.{Safe-failed}
use Rattle.thy_scheme.specs.CheckpointMarks.{CheckpointMarks, doubt_in, marks_after_fault}
use Rattle.thy_scheme.specs.Scheme.{SchemeOf, Stands}
use Rattle.thy_scheme.specs.Calls.{IsOneAccess, engine_did}
use Rattle.thy_scheme.specs.Laws.{is_free_to_run, IsLawful}
use Rattle.thy_scheme.specs.Machine.{Machine, run_view, view_in, view_of, shortage_of, pressure_of}
use Rattle.thy_scheme.specs.Sound.{SoundRun, SoundIn}
use Rattle.thy_scheme.specs.Rows.{IsMoment}
use Rattle.thy_scheme.specs.Failures.{Fails, HartFails, FlushFails, PromotionLeaves, EngineLeaves, BootLeaves, DrainFails}
use Rattle.thy_scheme.proofs.BootingLaws.{view-boot, holds-boot}
use Rattle.thy_scheme.proofs.RunLaws.{moment_is_safe}

-- ---- the mark in doubt

-- loads and stores write no commit block
not-commit : (a : Action) → IsAccess a → is_commit_write a ≡ false
not-commit Rest h = refl
not-commit (ReadAt place) h = refl
not-commit (WriteAt place block) h = ne_eqb place 1 h
not-commit ActBarrier h = absurd h
not-commit Drain h = absurd h

-- the mark in doubt after this action
abbrev doubt_by : Action → CheckpointMarks → Option Mark
doubt_by a k = if is_commit_write a || k.written then k.sealed else None

doubt-other : (a : Action) (k : CheckpointMarks) → is_commit_write a ≡ false → doubt_by a k ≡ doubt_in k
doubt-other a k none = ap (λ b. if b || k.written then k.sealed else None) none

doubt-is : (a b : Action) (k : CheckpointMarks) → a ≡ b → doubt_by a k ≡ doubt_by b k
doubt-is a b k is = ap (λ x. doubt_by x k) is

-- the engine's step decides it
doubt-engine : (lap : ℕ) (step : EngineStep) (k : CheckpointMarks) (a : Action) → Asks (engine_did lap step) a
    → doubt_by a k ≡ doubt_in (marks_after_fault step k)
doubt-engine lap Idle k a h = doubt-other a k (not-commit a h)
doubt-engine lap Copied k a h = doubt-other a k (not-commit a h)
doubt-engine lap PageBlock k a h = doubt-other a k (not-commit a h)
doubt-engine lap StateBlock k a h = doubt-other a k (not-commit a h)
doubt-engine lap TableBlock k a h = doubt-other a k (not-commit a h)
doubt-engine lap Barrier k a h = doubt-is a ActBarrier k h
doubt-engine lap CommitWritten k a h = doubt-is a (WriteAt 1 h.0) k h.1
doubt-engine lap (Committed epoch) k a h = doubt-is a ActBarrier k h

-- ---- who doesn't wait may store

-- a hart that the checkpoint bars waits
not_barred : (way overlaps over short ends : Bool) → (way && ((way && not overlaps) || over || short || ends)) ≡ false
    → (overlaps || not way) ≡ true
not_barred false true over short ends e = refl
not_barred false false over short ends e = refl
not_barred true true over short ends e = refl
not_barred true false over short ends e = absurd (cc)

goes_on : (waiting : Bool) (rest : Option Stall) → (if waiting then Some Waiting else rest) ≡ None → waiting ≡ false
goes_on true rest e = absurd (cc)
goes_on false rest e = refl

seals_now : (waiting : Bool) (rest : Option Stall) → (if waiting then Some Waiting else rest) ≡ Some Sealing → waiting ≡ false
seals_now true rest e = absurd (cc)
seals_now false rest e = refl

-- ---- of the hart, and of a flush

module _ {S : Type 0} (K : SchemeOf S) (o : Origin) (cycles : ℕ) (m : Machine S) (n new : Device) (at : IsMoment K o cycles m n)
    (phase : m.phase ≡ Run) where
  run_is : SoundRun K o m n
  run_is = subst (λ p. SoundIn K o p m n) phase at.sound.moment

  view_is : view_of K o m n ≡ run_view m
  view_is = ap (λ p. view_in K o p m n) phase

  not_booting : (view_of K o m n).phase ≡ Boot → ⊥
  not_booting boots = let both : Run ≡ Boot = sym phase ∙ sym (ap (λ (v : View). v.phase) view_is) ∙ boots in cc

  stands : Stands K o m.marks m.scheme n
  stands = record { sound = run_is.checkpoints; up = at.sound.up }

  -- the hart may store if it doesn't wait
  free_to_run : waits o (view_of K o m n) (pressure_of K m) ≡ false → is_free_to_run K m.scheme ≡ true
  free_to_run calm =
      let plain : waits o (run_view m) (pressure_of K m) ≡ false = subst (λ v. waits o v (pressure_of K m) ≡ false) view_is calm in
      not_barred (K.under_way m.scheme) K.overlaps (is_some m.hart.epoch.over) (is_some (shortage_of K m))
      (has_stopped o m.marks.sealed && not (K.promoting m.scheme)) plain

  -- what is safe for the marks is so for the view
  safe_for_view : (a : Action) → Safe K.decode o (Some m.marks.done) (doubt_by a m.marks) new
      → Safe K.decode o (view_of K o m n).done (doubt_after_fault a (view_of K o m n)) new
  safe_for_view a safe = subst (λ (v : View). Safe K.decode o v.done (doubt_after_fault a v) new) (sym view_is) safe

  safe_after_other : (a : Action) → is_commit_write a ≡ false → Safe K.decode o (Some m.marks.done) (doubt_in m.marks) new
      → Safe K.decode o (view_of K o m n).done (doubt_after_fault a (view_of K o m n)) new
  safe_after_other a none safe =
      safe_for_view a (subst (λ (d : Option Mark). Safe K.decode o (Some m.marks.done) d new) (sym (doubt-other a m.marks none)) safe)

  access_fails : (did : Did) (t : S) → waits o (view_of K o m n) (pressure_of K m) ≡ false → ((a : Action) → IsAccess a → Asks did a)
      → IsOneAccess K m.scheme n t new → new.down ≡ true → Fails K o did m t n new
  access_fails did t calm asks access down =
      let stays = at.lawful.stays_sound o m.marks m.scheme n t new stands (free_to_run calm) access.stays in
      record {
        failed = record {
          action = access.action;
          asked = asks_by (K.migrates m.scheme) did access.action (asks access.action access.access);
          failed = access.fails down;
        };
        safe = safe_after_other access.action (not-commit access.action access.access) stays.safe;
        of_geometry = at.lawful.stays_of m.scheme n t new access.stays o.geometry (at.lawful.run_holds o m.marks m.scheme n stands).of_geometry;
        still = λ found r current. absurd (not_booting r.phase);
      }

pub hart_fails : {S : Type 0} (K : SchemeOf S) → HartFails K
hart_fails K o cycles m n t new at goes access down =
    access_fails K o cycles m n new at goes.phase Moved t
    (goes_on (waits o (view_of K o m n) (pressure_of K m))
    (if is_some (view_of K o m n).over || K.promoting m.scheme then Some Sealing else None) goes.free)
    (λ a h. h) access down

pub flush_fails : {S : Type 0} (K : SchemeOf S) → FlushFails K
flush_fails K o cycles m n t new at sealing access down =
    access_fails K o cycles m n new at sealing.phase Flushed t
    (seals_now (waits o (view_of K o m n) (pressure_of K m))
    (if is_some (view_of K o m n).over || K.promoting m.scheme then Some Sealing else None) sealing.stalled)
    (λ a h. h) access down

-- ---- of a read, of the engine, of the boot and of a drain

pub promotion_leaves : {S : Type 0} (K : SchemeOf S) → PromotionLeaves K
promotion_leaves K o cycles m n t new at phase fails left =
    let holds = at.lawful.run_holds o m.marks m.scheme n (stands K o cycles m n new at phase) in
    let safe = Safe-failed K.decode o (Some m.marks.done) (doubt_in m.marks) n new holds.safe fails.failed fails.frame in
    record {
      failed = record { action = ReadAt 0; asked = tt; failed = fails.failed };
      safe = safe_after_other K o cycles m n new at phase (ReadAt 0) refl safe;
      of_geometry = left o.geometry holds.of_geometry;
      still = λ found r current. fails.failed;
    }

pub engine_leaves : {S : Type 0} (K : SchemeOf S) → EngineLeaves K
engine_leaves K o cycles m n t new at phase e left =
    let holds = at.lawful.run_holds o m.marks m.scheme n (stands K o cycles m n new at phase) in
    let acted = e.acted m.lap in
    record {
      failed = record {
        action = acted.action;
        asked = asks_by (K.migrates m.scheme) (engine_did m.lap e.step) acted.action acted.asked;
        failed = acted.failed;
      };
      safe = safe_for_view K o cycles m n new at phase acted.action
          (subst (λ (d : Option Mark). Safe K.decode o (Some m.marks.done) d new)
          (sym (doubt-engine m.lap e.step m.marks acted.action acted.asked)) e.safe);
      of_geometry = left o.geometry holds.of_geometry;
      still = λ found r current. absurd (not_booting K o cycles m n new at phase r.phase);
    }

pub boot_leaves : {S : Type 0} (K : SchemeOf S) → BootLeaves K
boot_leaves K o cycles m n t new at phase b left = record {
  failed = b.acted;
  safe = subst (λ (v : View). Safe K.decode o v.done (doubt_after_fault b.acted.action v) new) (sym (view-boot K o m n phase)) b.safe;
  of_geometry = left o.geometry (holds-boot K at.lawful o cycles m n at.sound phase).of_geometry;
  still = λ found r current. b.still found (sym (ap (λ (v : View). v.done) (view-boot K o m n phase)) ∙ r.done) current;
}

-- a scheme is of the run's geometry in each phase
geometry_in : {S : Type 0} (K : SchemeOf S) (o : Origin) (m : Machine S) (n : Device) (phase : Phase) → IsLawful K → n.down ≡ false
    → SoundIn K o phase m n
    → K.is_of o.geometry m.scheme
geometry_in K o m n Boot lawful up s = (lawful.boot_holds o m.scheme n (record { boots = s.boots; up = up })).of_geometry
geometry_in K o m n Run lawful up s = (lawful.run_holds o m.marks m.scheme n (record { sound = s.checkpoints; up = up })).of_geometry
geometry_in K o m n Halt lawful up s = (lawful.run_holds o m.marks m.scheme n (record { sound = s.checkpoints; up = up })).of_geometry

pub drain_fails : {S : Type 0} (K : SchemeOf S) → DrainFails K
drain_fails K o cycles m n new at failed frame =
    let v : View = view_of K o m n in
    record {
      failed = record { action = Drain; asked = refl; failed = failed };
      safe = Safe-failed K.decode o v.done (doubt_of v) n new (moment_is_safe K o cycles m n at.lawful at.sound) failed frame;
      of_geometry = geometry_in K o m n m.phase at.lawful at.sound.up at.sound.moment;
      still = λ found r current. failed;
    }
