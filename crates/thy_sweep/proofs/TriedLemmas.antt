-- An image that was tried.
use Rattle.std.proofs.Common.{◌≡◌, ℕ, zero, suc, ◌+◌, ◌==◌, ◌&&◌, ◌||◌, true, false, if◌then◌else◌, Option, Some, None, refl, sym, ◌∙◌, ap, subst, inl, inr}
use Rattle.std.specs.Prelude.{not, is_some}
use Rattle.thy_block.specs.declared.mark.Mark.{Mark}
use Rattle.thy_block.specs.Device.{Device}
use Rattle.thy_block.specs.Marks.{mark}
use Rattle.thy_run.specs.World.{World, TakesStep, line, seen}
use Rattle.thy_run.proofs.StepAlong.{core_of}
use Rattle.thy_sweep.specs.declared.lead.Booted.{Booted}
use Rattle.thy_sweep.specs.declared.trial.part.Part.{Part}
use Rattle.thy_sweep.specs.declared.trial.part.Restored.{Restored}
use Rattle.thy_sweep.specs.Trials.{IsCopied, IsUnended, BootsOn, BootsTo, BootsWithin, LeadsTo, IsReadOf, IsRestored, Restores, IsLeftAt, IsLeftBy, has_restored}
use Rattle.thy_computer.specs.declared.did.Did.{Did}
use Rattle.thy_computer.specs.declared.did.Did.TheVariants.{Loaded, Restarted}
use Rattle.thy_computer.specs.declared.view.Phase.TheVariants.{Run, Halt}
use Rattle.thy_computer.specs.declared.view.View.{View}
use Rattle.thy_computer.specs.CoreStep.{CoreStep, phase_at}
use Rattle.thy_computer.specs.declared.error.CoreError.{CoreError}
use Rattle.thy_computer.specs.declared.error.CoreError.TheVariants.{Memory, Nvm as NvmFailed}
use Rattle.thy_computer.specs.Kind.{HasFailedToRead, KindOf}
use Rattle.thy_computer.specs.Origin.{Origin, at, runs_at}
use Rattle.thy_computer.specs.Views.{is_between, is_boot, is_halt}

-- ---- the state that is read

none_at : (o : Origin) (part : Part) (m : Option Mark) → is_some m ≡ false → IsRestored o part m None
none_at o part None none = refl
none_at o part (Some m) none = absurd (cc)

pub none_restored : (o : Origin) (part : Part) (b : Option Booted) → has_restored b ≡ false → Restores o part b None
none_restored o part None none = refl
none_restored o part (Some b) none = none_at o part b.mark none

some_at : (o : Origin) (v : View) (part : Part) (m : Option Mark) (r : Restored) → is_some m ≡ true → IsLeftAt v m
    → (is_between v ≡ true → IsReadOf (at o v.count) part r) → IsRestored o part m (Some r)
some_at o v part None r some left reads = absurd (cc)
some_at o v part (Some m) r some left reads = subst (λ (count : ℕ). IsReadOf (at o count) part r) left.1 (reads left.0)

pub some_restored : (o : Origin) (v : View) (part : Part) (b : Option Booted) (r : Restored) → has_restored b ≡ true → IsLeftBy v b
    → (is_between v ≡ true → IsReadOf (at o v.count) part r) → Restores o part b (Some r)
some_restored o v part None r some left reads = absurd (cc)
some_restored o v part (Some b) r some left reads = some_at o v part b.mark r some left reads

-- reading that failed for memory has no fault
pub no_fault : (e : CoreError) (old new : Device) → HasFailedToRead e old new → (e ≡ NvmFailed → ⊥) → new.faults ≡ old.faults
no_fault NvmFailed old new failed other = absurd (other refl)
no_fault (Memory e) old new same other = ap (λ (n : Device). n.faults) same

-- ---- where a boot leaves a machine

-- between two instructions, at the count of the checkpoint
between_at : (o : Origin) (count spent : ℕ) → spent ≡ 0 → (is_halt (phase_at o count) || (not (is_boot (phase_at o count)) && spent == 0)) ≡ true
between_at o count spent none =
    ap (λ n. is_halt (phase_at o count) || (not (is_boot (phase_at o count)) && n == 0)) none
    ∙ (elim (runs_at o count)
    as (λ b. (is_halt (if b then Run else Halt) || (not (is_boot (if b then Run else Halt)) && 0 == 0)) ≡ true) [ true ↦ refl | false ↦ refl ])

left_at : (o : Origin) (v next : View) (did : Did) (m : Option Mark) → CoreStep o v did next → LeadsTo did m → IsLeftAt next m
left_at o v next Loaded m s leads = subst (IsLeftAt next) (sym leads) tt
left_at o v next (Restarted epoch count) m s leads =
    let after : View = record v { phase = phase_at o count; epoch = epoch + 1; count = count; retired = 0; spent = 0; lap = 0 } in
    let here : IsLeftAt after (Some (mark epoch count)) = (between_at o count 0 refl, refl) in
    subst (IsLeftAt next) (sym leads) (subst (λ (w : View). IsLeftAt w (Some (mark epoch count))) (sym s.becomes) here)
left_at o v next did m s leads = absurd leads

-- a boot, over or not, and where it left the machine
pub record LeavesAt {M : Type 0} (K : KindOf M) (o : Origin) (copy : World M) (next : M) (new : Device) (most : ℕ) (b : Option Booted) : Type 0 where
  pub last : World M
  pub boots : BootsTo K o copy last most b
  pub at_moment : K.is_at (line o last) last.cycles next new
  pub left : IsLeftBy (K.view (line o last) next new) b
  pub seen_left : IsLeftBy (seen K o last) b

stepped_at : {M : Type 0} (K : KindOf M) (o : Origin) (before last : World M) → TakesStep K o before last → K.is_at (line o last) last.cycles last.machine last.device
stepped_at {M = M} K o before last step =
    let same : before.cycles + 1 ≡ last.cycles = sym (ap (λ (x : World M). x.cycles) step.next_is) in
    subst (λ (k : ℕ). K.is_at (line o last) k last.machine last.device) same step.is_step.at_next

booting_at : {M : Type 0} (K : KindOf M) (o : Origin) (pick : ℕ) (w copy last : World M) (k : ℕ) → IsCopied K o pick w copy → BootsOn K o k copy last
    → K.is_at (line o last) last.cycles last.machine last.device
booting_at {M = M} K o pick w copy last zero c same =
    let cycles : w.cycles ≡ copy.cycles = sym (ap (λ (x : World M). x.cycles) c.copy_is) in
    subst (λ (x : World M). K.is_at (line o x) x.cycles x.machine x.device) (sym same)
    (subst (λ (k : ℕ). K.is_at (line o copy) k copy.machine copy.device) cycles c.at_moment)
booting_at K o pick w copy last (suc k) c (before, step, boots, on) = stepped_at K o before last step

module _ {M : Type 0} (K : KindOf M) (o : Origin) (pick : ℕ) (w copy : World M) (c : IsCopied K o pick w copy) (next : M) (new : Device) (most : ℕ) where
  moved : (b : Option Booted) (last : World M) → last.machine ≡ next → last.device ≡ new → K.is_at (line o last) last.cycles last.machine last.device
      → IsLeftBy (seen K o last) b → K.is_at (line o last) last.cycles next new × IsLeftBy (K.view (line o last) next new) b
  moved b last machine device here left =
      let P : M → Device → Type 0 = λ m d. K.is_at (line o last) last.cycles m d × IsLeftBy (K.view (line o last) m d) b in
      subst (λ (m : M). P m new) machine (subst (λ (d : Device). P last.machine d) device (here, left))

  unended_at : (last : World M) → IsUnended K o copy last most → K.is_at (line o last) last.cycles last.machine last.device
  unended_at last u = elim u.why as (λ _. K.is_at (line o last) last.cycles last.machine last.device) [
    | inl all ↦ booting_at K o pick w copy last u.cycles c all.1
    | inr refused ↦ stepped_at K o refused.1.before last refused.1.step
  ]

  pub leaves_at : (b : Option Booted) → BootsWithin K o copy next new most b → LeavesAt K o copy next new most b
  leaves_at None (last, unended, machine, device) =
      let there = moved None last machine device (unended_at last unended) tt in
      record { last = last; boots = unended; at_moment = there.0; left = there.1; seen_left = tt }
  leaves_at (Some b) (last, booted, within, machine, device) =
      let left : IsLeftAt (seen K o last) b.mark =
      left_at (line o last) (seen K o booted.before) (seen K o last) booted.step.r.did b.mark (core_of K o booted.before last booted.step) booted.leads in
      let there = moved (Some b) last machine device (stepped_at K o booted.before last booted.step) left in
      record { last = last; boots = (booted, within); at_moment = there.0; left = there.1; seen_left = left }
