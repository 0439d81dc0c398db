-- A boot, one cycle after another.
use Rattle.std.proofs.Common.{◌≡◌, ℕ, suc, ◌+◌, ◌<◌, ◌≤◌, ◌^◌, Bool, true, false, if◌then◌else◌, Option, Some, None, List, refl, sym, ◌∙◌, ap, subst, inl, inr, arith}
use Rattle.thy_block.specs.declared.mark.Mark.{Mark}
use Rattle.thy_block.specs.declared.mix.Mix.{Mix}
use Rattle.thy_block.specs.declared.mix.Pick.{Pick}
use Rattle.thy_block.specs.Device.{Device, IsFramed}
use Rattle.thy_block.specs.Mix.{mix_pick, mix_next}
use Rattle.thy_layout.specs.Decoded.{Decoded, Nothing as NothingLeft, Refused as RefusedImage, At}
use Rattle.thy_run.specs.declared.plan.Plan.{Plan}
use Rattle.thy_run.specs.Going.{origin_of}
use Rattle.thy_run.specs.World.{World, TakesStep, after_step, line, seen, turns_after}
use Rattle.thy_sweep.specs.declared.lead.Booted.{Booted}
use Rattle.thy_sweep.specs.Trials.{IsCopied, IsBooted, IsOf, IsUnended, FewBefore, LeadsTo, BootsOn, goes_on, refuses}
use Rattle.thy_computer.specs.declared.did.Did.{Did}
use Rattle.thy_computer.specs.declared.did.Did.TheVariants.{Boot, Loaded, Restarted, Refused, Moved, Retired, Flushed, Merged, Sealed, Promoted, Engine, Committed, NvmDrained, DramDrained, Nothing}
use Rattle.thy_computer.specs.declared.did.Stepped.{Stepped}
use Rattle.thy_computer.specs.declared.view.Phase.{Phase}
use Rattle.thy_computer.specs.declared.view.Phase.TheVariants.{Boot as BootPhase, Run, Halt}
use Rattle.thy_computer.specs.declared.view.View.{View}
use Rattle.thy_computer.specs.Booting.{view_of_image}
use Rattle.thy_computer.specs.CoreStep.{CoreStep}
use Rattle.thy_computer.specs.Kind.{KindOf, IsStep, CanStep}
use Rattle.thy_computer.specs.Origin.{Begins, Origin}
use Rattle.thy_computer.specs.WithTurns.{IsThere, HasTurn}
use Rattle.thy_computer.specs.Views.{is_halt}

-- ---- what only a fit and a cut change

pub IsFramed-same : (n : Device) → IsFramed n n
IsFramed-same n = record { blocks = refl; left = refl; picks = refl; queue_room = refl; left_room = refl; fits = refl; lent = refl; whole = refl }

pub IsFramed-then : (a b c : Device) → IsFramed a b → IsFramed b c → IsFramed a c
IsFramed-then a b c one two = record {
  blocks = two.blocks ∙ one.blocks;
  left = two.left ∙ one.left;
  picks = two.picks ∙ one.picks;
  queue_room = two.queue_room ∙ one.queue_room;
  left_room = two.left_room ∙ one.left_room;
  fits = two.fits ∙ one.fits;
  lent = two.lent ∙ one.lent;
  whole = two.whole ∙ one.whole;
}

-- ---- in a boot

-- what an image means is a boot
image_boots : (count : ℕ) (d : Decoded) → (view_of_image count d).phase ≡ BootPhase
image_boots count NothingLeft = refl
image_boots count (RefusedImage bad) = refl
image_boots count (At epoch state) = refl

abbrev phase_of : View → Phase
phase_of v = v.phase

not_run : {X : Type 0} (p : Phase) → p ≡ BootPhase → p ≡ Run → X
not_run p boots runs = absurd (let both : BootPhase ≡ Run = sym boots ∙ runs in cc)

not_halt : {X : Type 0} (p : Phase) → p ≡ BootPhase → p ≡ Halt → X
not_halt p boots halts = absurd (let both : BootPhase ≡ Halt = sym boots ∙ halts in cc)

-- no instruction is retired in it
turn_in_boot : (o : Origin) (v : View) (did : Did) → v.phase ≡ BootPhase → IsThere o v did → HasTurn o v did
turn_in_boot o v (Retired hart) boots there = not_run v.phase boots there.runs
turn_in_boot o v did boots there = tt

no_turns_in_boot : (o : Origin) (v next : View) (did : Did) (harts : ℕ) (turns : List ℕ) → v.phase ≡ BootPhase → CoreStep o v did next
    → turns_after harts turns did ≡ turns
no_turns_in_boot o v next (Retired hart) harts turns boots s = not_run v.phase boots s.phase
no_turns_in_boot o v next did harts turns boots s = refl

-- it goes on, unless this cycle was its last
stays_boot : (o : Origin) (v next : View) (did : Did) → v.phase ≡ BootPhase → CoreStep o v did next → goes_on did ≡ true → next.phase ≡ BootPhase
stays_boot o v next Boot boots s on = elim s.1 as (λ _. next.phase ≡ BootPhase) [
  | inl e ↦ ap phase_of e ∙ boots
  | inr e ↦ ap phase_of e.1 ∙ boots
]
stays_boot o v next Loaded boots s on = absurd (cc)
stays_boot o v next (Restarted epoch count) boots s on = absurd (cc)
stays_boot o v next (Refused bad) boots s on = absurd (cc)
stays_boot o v next Moved boots s on = not_run v.phase boots s.0
stays_boot o v next (Retired hart) boots s on = not_run v.phase boots s.phase
stays_boot o v next Flushed boots s on = not_run v.phase boots s.0
stays_boot o v next Merged boots s on = not_run v.phase boots s.0
stays_boot o v next (Sealed epoch count cause) boots s on = not_run v.phase boots s.phase
stays_boot o v next Promoted boots s on = not_run v.phase boots s.0
stays_boot o v next (Engine step) boots s on = not_run v.phase boots s.0
stays_boot o v next (Committed epoch overlapped) boots s on = not_run v.phase boots s.phase
stays_boot o v next NvmDrained boots s on = ap phase_of s ∙ boots
stays_boot o v next DramDrained boots s on = ap phase_of s ∙ boots
stays_boot o v next Nothing boots s on = not_halt v.phase boots s.0

-- ---- cycles of a boot

-- after k cycles a boot goes on, with this machine, this device and this schedule
pub record IsBooting {M : Type 0} (K : KindOf M) (o : Origin) (copy : World M) (m : M) (n : Device) (mix : Mix) (k : ℕ) : Type 0 where
  pub last : World M
  pub boots : BootsOn K o k copy last
  pub is_of : IsOf last m n mix
  pub at_moment : K.is_at (line o last) last.cycles last.machine last.device
  pub phase : (seen K o last).phase ≡ BootPhase
  pub cycles : last.cycles ≡ copy.cycles + k

-- the boot begins
pub begins_booting : {M : Type 0} (K : KindOf M) (o : Origin) (pick : ℕ) (w copy : World M) (m : M) (n : Device) (mix : Mix)
    → IsCopied K o pick w copy → IsOf copy m n mix → IsBooting K o copy m n mix 0
begins_booting {M = M} K o pick w copy m n mix c is = record {
  last = copy;
  boots = refl;
  is_of = is;
  at_moment =
      (let same : w.cycles ≡ copy.cycles = sym (ap (λ (x : World M). x.cycles) c.copy_is) in
      subst (λ (k : ℕ). K.is_at (line o copy) k copy.machine copy.device) same c.at_moment);
  phase = ap phase_of c.found ∙ image_boots o.start.count _;
  cycles = omega arith;
}

-- a step that was taken from one of its worlds is one of the run
pub record IsNext {M : Type 0} (K : KindOf M) (o : Origin) (copy before : World M) (k : ℕ) (next : M) (new : Device) (mix : Mix) (r : Stepped) : Type 0 where
  pub last : World M
  pub step : TakesStep K o before last
  pub by_step : step.r ≡ r
  pub is_of : IsOf last next new mix
  pub at_moment : K.is_at (line o last) last.cycles last.machine last.device
  pub cycles : last.cycles ≡ copy.cycles + (k + 1)
  pub core : CoreStep (line o last) (seen K o before) r.did (seen K o last)

-- of a run so few cycles are done
few_at : {M : Type 0} (w copy last : World M) (most k : ℕ) → w.cycles ≡ copy.cycles → w.cycles + most ≤ 2 ^ 62 → k < most → last.cycles ≡ copy.cycles + k → last.cycles < 2 ^ 62
few_at w copy last most k same few less at = omega (arith, same, few, less, at)

module _ {M : Type 0} (K : KindOf M) (plan : Plan) (pick : ℕ) (w copy : World M) (c : IsCopied K (origin_of plan) pick w copy) (most : ℕ) (few : FewBefore w most)
    (m : M) (n : Device) (mix : Mix) (k : ℕ) (b : IsBooting K (origin_of plan) copy m n mix k) (less : k < most) where
  begins_last : Begins (line (origin_of plan) b.last) plan.start
  begins_last = record { state = refl; input = refl; kept = refl }

  same_cycles : w.cycles ≡ copy.cycles
  same_cycles = sym (ap (λ (x : World M). x.cycles) c.copy_is)

  few_last : b.last.cycles < 2 ^ 62
  few_last = few_at w copy b.last most k same_cycles few less b.cycles

  -- the next step may be asked for
  pub can_boot_on : CanStep K plan.start m n
  can_boot_on = record {
    o = line (origin_of plan) b.last;
    cycles = b.last.cycles;
    begins = begins_last;
    at_moment =
        subst (λ (x : M). K.is_at (line (origin_of plan) b.last) b.last.cycles x n) b.is_of.machine
        (subst (λ (d : Device). K.is_at (line (origin_of plan) b.last) b.last.cycles b.last.machine d) b.is_of.device b.at_moment);
    few = few_last;
  }

  pub boot_step : (taken : Pick) (harts : ℕ) (next : M) (new : Device) (mix' : Mix) (r : Stepped)
      → harts ≡ plan.geometry.harts → taken ≡ mix_pick harts mix → mix' ≡ mix_next harts mix
      → ((o : Origin) (i : ℕ) → Begins o plan.start → K.is_at o i m n → i < 2 ^ 62
      → IsThere o (K.view o m n) r.did × (HasTurn o (K.view o m n) r.did → IsStep K o i taken m next n new r))
      → IsNext K (origin_of plan) copy b.last k next new mix' r
  boot_step taken harts next new mix' r same is after simulates =
      let o : Origin = origin_of plan in
      let p : Origin = line (origin_of plan) b.last in
      let v : View = K.view p b.last.machine b.last.device in
      let Here : M → Device → Type 0 = λ x d. (i : ℕ) → K.is_at p i x d → i < 2 ^ 62
      → IsThere p (K.view p x d) r.did × (HasTurn p (K.view p x d) r.did → IsStep K p i taken x next d new r) in
      let here : Here b.last.machine b.last.device =
      subst (λ (x : M). Here x b.last.device) (sym b.is_of.machine) (subst (λ (d : Device). Here m d) (sym b.is_of.device) (λ i at l. simulates p i begins_last at l)) in
      let came = here b.last.cycles b.at_moment few_last in
      let stepped : IsStep K p b.last.cycles taken b.last.machine next b.last.device new r = came.1 (turn_in_boot p v r.did b.phase came.0) in
      let picked : taken ≡ mix_pick plan.geometry.harts b.last.mix = is ∙ ap (λ h. mix_pick h mix) same ∙ ap (mix_pick plan.geometry.harts) (sym b.is_of.mix) in
      let goes : mix_next plan.geometry.harts b.last.mix ≡ mix' = ap (mix_next plan.geometry.harts) b.is_of.mix ∙ ap (λ h. mix_next h mix) (sym same) ∙ sym after in
      record {
        last = after_step K (origin_of plan) b.last next new b.last.turns r.did;
        step = record {
          r = r;
          going = ap is_halt b.phase;
          turns_are = sym (no_turns_in_boot p v (K.view p next new) r.did plan.geometry.harts b.last.turns b.phase stepped.step);
          agree = λ j l. refl;
          alike = refl;
          is_step = subst (λ (x : Pick). IsStep K p b.last.cycles x b.last.machine next b.last.device new r) picked stepped;
          next_is = refl;
        };
        by_step = refl;
        is_of = record { machine = refl; device = refl; mix = goes };
        at_moment = stepped.at_next;
        cycles = (let at = b.cycles in omega (arith, at));
        core = stepped.step;
      }

  -- one after which the boot goes on
  pub IsBooting-on : (next : M) (new : Device) (mix' : Mix) (r : Stepped) → IsNext K (origin_of plan) copy b.last k next new mix' r → goes_on r.did ≡ true → IsBooting K (origin_of plan) copy next new mix' (k + 1)
  IsBooting-on next new mix' r x on =
      let e : suc k ≡ k + 1 = omega arith in
      record {
        last = x.last;
        boots = subst (λ (j : ℕ). BootsOn K (origin_of plan) j copy x.last) e
            (b.last, x.step, b.boots, ap (λ (y : Stepped). goes_on y.did) x.by_step ∙ on);
        is_of = x.is_of;
        at_moment = x.at_moment;
        phase = stays_boot (line (origin_of plan) x.last) (seen K (origin_of plan) b.last) (seen K (origin_of plan) x.last) r.did b.phase x.core on;
        cycles = x.cycles;
      }

  -- the last cycle of a boot
  pub IsBooted-by : (next : M) (new : Device) (mix' : Mix) (r : Stepped) (found : Option Mark) → (x : IsNext K (origin_of plan) copy b.last k next new mix' r)
      → LeadsTo r.did found → IsBooted K (origin_of plan) copy x.last (record { mark = found; cycles = k + 1 })
  IsBooted-by next new mix' r found x leads = record {
    earlier = k;
    before = b.last;
    cycles = refl;
    boots = b.boots;
    step = x.step;
    leads = subst (λ (y : Stepped). LeadsTo y.did found) (sym x.by_step) leads;
  }

  -- one that found an image that is refused
  pub IsUnended-by : (next : M) (new : Device) (mix' : Mix) (r : Stepped) → (x : IsNext K (origin_of plan) copy b.last k next new mix' r)
      → refuses r.did ≡ true → IsUnended K (origin_of plan) copy x.last most
  IsUnended-by next new mix' r x refused = record {
    cycles = k;
    why = inr (
      less,
      record { before = b.last; boots = b.boots; step = x.step; refused = ap (λ (y : Stepped). refuses y.did) x.by_step ∙ refused },
    );
  }

-- one that has had all its cycles
pub IsUnended-most : {M : Type 0} (K : KindOf M) (o : Origin) (copy last : World M) (k most : ℕ) → k ≡ most → BootsOn K o k copy last → IsUnended K o copy last most
IsUnended-most K o copy last k most end boots = record { cycles = k; why = inl (end, boots) }
