-- Whose turn a pick is, by what the machine holds, is as the view has it.
use Rattle.std.proofs.Common.{◌≡◌, ◌≢◌, ℕ, zero, suc, ◌<◌, ◌≤◌, ◌==◌, unwrap_or, ◌&&◌, ◌||◌, not, Bool, true, false, length, is_some, if◌then◌else◌, Option, Some, None, refl, sym, ◌∙◌, ap, subst, arith}
use Rattle.std.proofs.lemmas.Bool.{ne_eqb, eqb-true, eqb-false}
use Rattle.thy_block.specs.declared.parameters.Parameters.{Parameters}
use Rattle.thy_block.specs.declared.mark.Mark.{Mark}
use Rattle.thy_block.specs.declared.mix.Pick.{Pick}
use Rattle.thy_block.specs.declared.mix.Pick.TheVariants.{Hart, Second, Engine, NvmDrain, DramDrain}
use Rattle.thy_block.specs.Device.{Device}
use Rattle.thy_block.proofs.RangeLemmas.{harts_least}
use Rattle.thy_computer.specs.declared.did.Stall.{Stall}
use Rattle.thy_computer.specs.declared.did.Stall.TheVariants.{Booting, Sealing, Waiting, Halted}
use Rattle.thy_computer.specs.declared.view.Phase.{Phase}
use Rattle.thy_computer.specs.declared.view.Phase.TheVariants.{Boot, Run, Halt}
use Rattle.thy_computer.specs.Origin.{Origin, runs_at}
use Rattle.thy_computer.specs.NextActor.{Nvm, Dram, Checkpoint, has_stopped, stall_in, rested, begins, hart_at, advancing, hart_actor, engine_actor, actor_of}
use Rattle.thy_scheme.specs.Scheme.{SchemeOf}
use Rattle.thy_scheme.specs.Machine.{Machine, view_in, view_of, shortage_of, pressure_of}
use Rattle.thy_scheme.specs.Rows.{IsMoment, HartAdvances}
use Rattle.thy_core.specs.Turns.{stopped_now, waits_now, stall_now, hart_of, hart_now, engine_now, actor_now}
use Rattle.thy_core.specs.Cycles.{IsActorOf}
use Rattle.thy_scheme.proofs.Facts.{view-run, sound-run}
use Rattle.thy_scheme.proofs.BootingLaws.{view-boot, holds-boot, uncounted}

-- the sealed state has ended, by the note of it
ended_is : (o : Origin) (sealed : Option Mark) (ends whole : Bool) → ((s : Mark) → sealed ≡ Some s → ends ≡ not (runs_at o s.count))
    → (is_some sealed && ends && whole) ≡ (has_stopped o sealed && whole)
ended_is o None ends whole f = refl
ended_is o (Some s) ends whole f = ap (λ e. e && whole) (f s refl)

-- a hart is barred only while a checkpoint is under way
barred_is : (way overlaps over short stopped ends : Bool) → stopped ≡ ends
    → (way && (not overlaps || over || short || stopped)) ≡ (way && ((way && not overlaps) || over || short || ends))
barred_is false overlaps over short stopped ends same = refl
barred_is true overlaps over short stopped ends same = ap (λ s. not overlaps || over || short || s) same

-- after the boot a stall is one of two
no_other : (waits seals : Bool) (stall : Stall) → (Waiting ≡ stall → ⊥) → (Sealing ≡ stall → ⊥)
    → (if waits then Some Waiting else (if seals then Some Sealing else None)) ≡ Some stall → ⊥
no_other true seals stall w s e = w (cc)
no_other false true stall w s e = s (cc)
no_other false false stall w s e = absurd (cc)

-- a pick names one of two harts
rested_few : (last : Option ℕ) → rested last ≤ 1
rested_few None = omega arith
rested_few (Some hart) = by_first (hart == 0)
  where
    by_first : (first : Bool) → (if first then 1 else 0) ≤ 1
    by_first true = omega arith
    by_first false = omega arith

begins_few : (pick : Pick) (last : Option ℕ) → begins pick last ≤ 1
begins_few Hart last = omega arith
begins_few Second last = omega arith
begins_few Engine last = rested_few last
begins_few NvmDrain last = rested_few last
begins_few DramDrain last = rested_few last

-- the hart that a pick comes to is there, and is the one whose instruction is begun
record IsOneOf (harts hart : ℕ) (begun : Option ℕ) : Type 0 where
  there : hart < harts
  own : (b : ℕ) → begun ≡ Some b → b ≡ hart

one_of : (harts chosen : ℕ) (begun : Option ℕ) (one : Bool) → (harts == 1) ≡ one → 1 ≤ harts → chosen ≤ 1
    → ((b : ℕ) → begun ≡ Some b → b < harts) → IsOneOf harts (if one then 0 else unwrap_or begun chosen) begun
one_of harts chosen begun true e some few there =
    record { there = omega (arith, some); own = λ b is. let l = there b is in omega (arith, l, eqb-true harts 1 e) }
one_of harts chosen None false e some few there =
    let two = eqb-false harts 1 e in
    record { there = omega (arith, some, few, two); own = λ b is. absurd (cc) }
one_of harts chosen (Some hart) false e some few there =
    record { there = there hart refl; own = λ b is. let same : hart ≡ b = cc in sym same }

module _ {S : Type 0} (K : SchemeOf S) (o : Origin) (cycles : ℕ) (m : Machine S) (n : Device) (at : IsMoment K o cycles m n) where
  stall_run : m.phase ≡ Run → stall_now K Run m ≡ stall_in o Run (view_of K o m n) (pressure_of K m)
  stall_run e =
      let run = sound-run K o cycles m n at.sound e in
      let whole : Bool = not (K.promoting m.scheme) in
      let same = barred_is (K.under_way m.scheme) K.overlaps (is_some m.hart.epoch.over) (is_some (shortage_of K m)) (stopped_now K m)
      (has_stopped o m.marks.sealed && whole)
      (ended_is o m.marks.sealed m.ends whole run.shown.ends) in
      ap (λ w. if w then Some Waiting else (if is_some m.hart.epoch.over || K.promoting m.scheme then Some Sealing else None)) same
      ∙ ap (λ v. stall_in o Run v (pressure_of K m)) (sym (view-run K o m n e))

  -- the phase of the view is the machine's
  phase_is : (phase : Phase) → m.phase ≡ phase → (view_of K o m n).phase ≡ phase
  phase_is Boot e = ap (λ v. v.phase) (view-boot K o m n e)
      ∙ (uncounted o (K.boot_view o m.scheme n) (holds-boot K at.lawful o cycles m n at.sound e).shown).phase
  phase_is Run e = ap (λ v. v.phase) (view-run K o m n e) ∙ e
  phase_is Halt e = ap (λ phase. (view_in K o phase m n).phase) e ∙ e

  stall_is : (phase : Phase) → m.phase ≡ phase → stall_now K phase m ≡ stall_in o phase (view_of K o m n) (pressure_of K m)
  stall_is Boot e = refl
  stall_is Run e = stall_run e
  stall_is Halt e = refl

  hart_of_is : (pick : Pick) → hart_of K pick m ≡ hart_at o.geometry.harts pick (pressure_of K m)
  hart_of_is pick = ap (λ (p : Parameters). hart_at p.harts pick (pressure_of K m)) at.sound.geometry

  hart_is : (pick : Pick) → hart_now K pick m ≡ hart_actor o pick (view_of K o m n) (pressure_of K m)
  hart_is pick =
      ap (λ stall. advancing stall (hart_of K pick m)) (stall_is m.phase refl)
      ∙ ap (λ phase. advancing (stall_in o phase (view_of K o m n) (pressure_of K m)) (hart_of K pick m)) (sym (phase_is m.phase refl))
      ∙ ap (advancing (stall_in o (view_of K o m n).phase (view_of K o m n) (pressure_of K m))) (hart_of_is pick)

  engine_is : (pick : Pick) (phase : Phase) → m.phase ≡ phase
      → engine_now K pick phase m ≡ engine_actor o pick phase (view_of K o m n) (pressure_of K m)
  engine_is pick Boot e = hart_is pick
  engine_is pick Halt e = hart_is pick
  engine_is pick Run e =
      ap (λ h. if K.under_way m.scheme then Checkpoint else h) (hart_is pick)

  pub turn_is : (pick : Pick) (nvm : ℕ) → actor_now K pick nvm m ≡ actor_of o pick nvm (view_of K o m n) (pressure_of K m)
  turn_is Hart nvm = hart_is Hart
  turn_is Second nvm = hart_is Second
  turn_is Engine nvm =
      engine_is Engine m.phase refl
      ∙ ap (λ phase. engine_actor o Engine phase (view_of K o m n) (pressure_of K m)) (sym (phase_is m.phase refl))
  turn_is NvmDrain nvm = ap (λ h. if nvm == 0 then h else Nvm) (hart_is NvmDrain)
  turn_is DramDrain nvm = ap (λ h. if K.queued m.scheme == 0 then h else Dram) (hart_is DramDrain)

  -- ---- what holds at the turn

  waiting_by : (waits : Bool) (rest : Option Stall) → waits_now K m ≡ waits → rest ≢ Some Waiting
      → (if waits then Some Waiting else rest) ≡ Some Waiting → waits_now K m ≡ true
  waiting_by true rest e other is = e
  waiting_by false rest e other is = absurd (other is)

  both : (a b : Bool) → (a && b) ≡ true → a ≡ true
  both true b e = refl
  both false b e = e

  seals_not : (b : Bool) → (if b then Some Sealing else None) ≢ Some Waiting
  seals_not true = λ e. absurd (cc)
  seals_not false = λ e. absurd (cc)

  -- the hart that a pick comes to
  one_is : (pick : Pick) → m.phase ≡ Run → IsOneOf o.geometry.harts (hart_at o.geometry.harts pick (pressure_of K m)) m.begun
  one_is pick e =
      let harts = o.geometry.harts in
      one_of harts (begins pick m.last) m.begun (harts == 1) refl (harts_least o.geometry at.sound.origin.geometry) (begins_few pick m.last)
      (sound-run K o cycles m n at.sound e).front.there

  advances : (pick : Pick) → m.phase ≡ Run → stall_in o Run (view_of K o m n) (pressure_of K m) ≡ None
      → HartAdvances K o m n (hart_of K pick m)
  advances pick e free =
      let one = subst (λ hart. IsOneOf o.geometry.harts hart m.begun) (sym (hart_of_is pick)) (one_is pick e) in
      record { goes = record { phase = e; free = free }; there = one.there; own = one.own }

  harts_turn : (pick : Pick) (stall : Option Stall) (phase : Phase) → m.phase ≡ phase → stall_now K phase m ≡ stall
      → IsActorOf K o m n (advancing stall (hart_of K pick m))
  harts_turn pick None Run e is = advances pick e (sym (stall_run e) ∙ is)
  harts_turn pick (Some Sealing) Run e is = record { phase = e; stalled = sym (stall_run e) ∙ is }
  harts_turn pick (Some Waiting) Run e is =
      let waits = waiting_by (waits_now K m) (if is_some m.hart.epoch.over || K.promoting m.scheme then Some Sealing else None) refl
      (seals_not (is_some m.hart.epoch.over || K.promoting m.scheme)) is in
      (e, both (K.under_way m.scheme) (not K.overlaps || is_some m.hart.epoch.over || is_some (shortage_of K m) || stopped_now K m) waits)
  harts_turn pick (Some Booting) Boot e is = e
  harts_turn pick (Some Halted) Halt e is = e
  harts_turn pick None Boot e is = absurd (cc)
  harts_turn pick None Halt e is = absurd (cc)
  harts_turn pick (Some Sealing) Boot e is = absurd (cc)
  harts_turn pick (Some Sealing) Halt e is = absurd (cc)
  harts_turn pick (Some Waiting) Boot e is = absurd (cc)
  harts_turn pick (Some Waiting) Halt e is = absurd (cc)
  harts_turn pick (Some Booting) Halt e is = absurd (cc)
  harts_turn pick (Some Halted) Boot e is = absurd (cc)
  harts_turn pick (Some Booting) Run e is =
      absurd (no_other (waits_now K m) (is_some m.hart.epoch.over || K.promoting m.scheme) Booting (λ w. cc w) (λ w. cc w) is)
  harts_turn pick (Some Halted) Run e is =
      absurd (no_other (waits_now K m) (is_some m.hart.epoch.over || K.promoting m.scheme) Halted (λ w. cc w) (λ w. cc w) is)

  at_hart : (pick : Pick) → IsActorOf K o m n (hart_now K pick m)
  at_hart pick = harts_turn pick (stall_now K m.phase m) m.phase refl refl

  by_engine : (pick : Pick) (way : Bool) → m.phase ≡ Run → K.under_way m.scheme ≡ way
      → IsActorOf K o m n (if way then Checkpoint else hart_now K pick m)
  by_engine pick false e way = at_hart pick
  by_engine pick true e way = (e, way)

  at_engine : (pick : Pick) (phase : Phase) → m.phase ≡ phase → IsActorOf K o m n (engine_now K pick phase m)
  at_engine pick Boot e = at_hart pick
  at_engine pick Halt e = at_hart pick
  at_engine pick Run e = by_engine pick (K.under_way m.scheme) e refl

  by_nvm : (nvm : ℕ) → nvm ≡ length n.queue → IsActorOf K o m n (if nvm == 0 then hart_now K NvmDrain m else Nvm)
  by_nvm zero e = at_hart NvmDrain
  by_nvm (suc k) e = subst (λ b. IsActorOf K o m n (if b then hart_now K NvmDrain m else Nvm))
      (sym (ne_eqb (suc k) 0 (λ z. omega (arith, z)))) (omega (arith, e))

  by_dram : (queued : ℕ) → K.queued m.scheme ≡ queued → IsActorOf K o m n (if queued == 0 then hart_now K DramDrain m else Dram)
  by_dram zero e = at_hart DramDrain
  by_dram (suc k) e = subst (λ b. IsActorOf K o m n (if b then hart_now K DramDrain m else Dram))
      (sym (ne_eqb (suc k) 0 (λ z. omega (arith, z)))) (omega (arith, e))

  pub at_turn : (pick : Pick) (nvm : ℕ) → nvm ≡ length n.queue → IsActorOf K o m n (actor_now K pick nvm m)
  at_turn Hart nvm e = at_hart Hart
  at_turn Second nvm e = at_hart Second
  at_turn Engine nvm e = at_engine Engine m.phase refl
  at_turn NvmDrain nvm e = by_nvm nvm e
  at_turn DramDrain nvm e = by_dram (K.queued m.scheme) refl
