-- A cycle that simulates the run, at the turn of its pick, is a step of a machine, and one that failed is a cycle that failed.
use Rattle.std.proofs.Common.{◌≡◌, ℕ, ◌+◌, true, false, [], Option, Some, None, sym, ◌∙◌, ap, inl, inr, subst, refl}
use Rattle.thy_block.specs.declared.mark.Mark.{Mark}
use Rattle.thy_block.specs.Device.{Device}
use Rattle.thy_isa.specs.Step.{state_with}
use Rattle.thy_isa.specs.declared.state.CpuState.{CpuState}
use Rattle.thy_computer.specs.declared.view.Phase.{Phase}
use Rattle.thy_computer.specs.declared.view.Phase.TheVariants.{Boot, Run, Halt}
use Rattle.thy_computer.specs.declared.view.View.{View}
use Rattle.thy_computer.specs.Action.{doubt_after_fault}
use Rattle.thy_computer.specs.Kind.{without_memory}
use Rattle.thy_computer.specs.Origin.{Origin, at}
use Rattle.thy_computer.specs.Safe.{Safe}
use Rattle.thy_computer.specs.Views.{IsRestarting, is_boot, doubt_of}
use Rattle.thy_computer.proofs.RestartLemmas.{undoubted, undoubted_after, Spares, spares}
use Rattle.thy_scheme.specs.Boots.{IsBootView}
use Rattle.thy_scheme.specs.Laws.{IsLawful}
use Rattle.thy_scheme.specs.Scheme.{SchemeOf}
use Rattle.thy_scheme.proofs.FoundLemmas.{found_unsealed}
use Rattle.thy_scheme.specs.Machine.{Machine, processor_of, view_in, view_of, gauge_of}
use Rattle.thy_scheme.specs.Pace.{most_spent}
use Rattle.thy_scheme.specs.Runs.{SimulatingIsStep, FailingIsSafe}
use Rattle.thy_scheme.specs.Sound.{SoundIn, Sound}
use Rattle.thy_scheme.proofs.LawfulLaws.{boots_phase, pressed_at}
use Rattle.thy_scheme.proofs.NearLaws.{cycles_come_nearer}
use Rattle.thy_scheme.proofs.RunLaws.{moment_is_safe}

-- a boot has retired nothing
boots_fresh : (o : Origin) (v : View) → IsBootView o v → v.retired ≡ 0
boots_fresh o v shown = elim shown as (λ _. v.retired ≡ 0) [
  | inl s ↦ ap (λ (w : View). w.retired) s.1
  | inr s ↦ elim s.1 as (λ _. v.retired ≡ 0) [
    | inl e ↦ ap (λ (w : View). w.retired) e
    | inr e ↦ ap (λ (w : View). w.retired) e
  ]
]

fresh_in : {S : Type 0} (K : SchemeOf S) (l : IsLawful K) (o : Origin) (cycles : ℕ) (m : Machine S) (n : Device) → Sound K o cycles m n
    → (phase : Phase) → m.phase ≡ phase → (view_in K o phase m n).phase ≡ Boot → (view_in K o phase m n).retired ≡ 0
fresh_in K l o cycles m n s Boot is boots =
    boots_fresh o (K.boot_view o m.scheme n)
    (l.boot_holds o m.scheme n (record { boots = (subst (λ p. SoundIn K o p m n) is s.moment).boots; up = s.up })).shown
fresh_in K l o cycles m n s Run is boots = absurd (let both : Run ≡ Boot = sym is ∙ boots in cc)
fresh_in K l o cycles m n s Halt is boots = absurd (let both : Halt ≡ Boot = sym is ∙ boots in cc)

module _ {S : Type 0} (K : SchemeOf S) where
  -- in a boot that found a checkpoint none is sealed
  unsealed : (l : IsLawful K) (o : Origin) (cycles : ℕ) (m : Machine S) (n : Device) → Sound K o cycles m n → (phase : Phase)
      → m.phase ≡ phase → (found : Mark) → IsRestarting (view_in K o phase m n) found → (view_in K o phase m n).sealed ≡ None
  unsealed l o cycles m n s Boot is found r =
      found_unsealed o (K.boot_view o m.scheme n) found
      (l.boot_holds o m.scheme n (record { boots = (subst (λ p. SoundIn K o p m n) is s.moment).boots; up = s.up })).shown r.done
  unsealed l o cycles m n s Run is found r = absurd (let both : Run ≡ Boot = sym is ∙ r.phase in cc)
  unsealed l o cycles m n s Halt is found r = absurd (let both : Halt ≡ Boot = sym is ∙ r.phase in cc)

  -- what is safe for equal marks
  safe_for : (o : Origin) (kept doubt : Option Mark) (found : Mark) (n : Device) → kept ≡ Some found → doubt ≡ None
      → Safe K.decode o kept doubt n → Safe K.decode o (Some found) None n
  safe_for o kept doubt found n is none safe =
      subst (λ (d : Option Mark). Safe K.decode o d None n) is (subst (λ (d : Option Mark). Safe K.decode o kept d n) none safe)

  pub simulating_is_step : SimulatingIsStep K
  simulating_is_step o cycles pick m next n new r at simulates at_next turn hands ended exact = record {
    at_next = at_next;
    step = simulates.step;
    pressed = pressed_at K at.lawful o cycles m n at.sound;
    turn = turn;
    hands = hands;
    acts = simulates.acts;
    dram = simulates.dram;
    pace = simulates.pace;
    works = simulates.works;
    dirties = simulates.dirties;
    nears = cycles_come_nearer (most_spent K o.geometry) o (view_of K o m n) (view_of K o next new) r.did (gauge_of K m n) (gauge_of K next new)
        (fresh_in K at.lawful o cycles m n at.sound m.phase refl) simulates.step simulates.pace;
    exhausts = simulates.exhausts;
    ended = ended;
    safe = moment_is_safe K o (cycles + 1) next new at.lawful simulates.at_next;
    read = simulates.read;
    still = simulates.still;
    spares = λ found was.
        let alone = unsealed at.lawful o cycles m n at.sound m.phase refl found was in
        let s : Spares (view_of K o next new) found = spares o (view_of K o m n) (view_of K o next new) found was alone r.did simulates.step in
        safe_for o (view_of K o next new).done (doubt_of (view_of K o next new)) found new s.done (undoubted (view_of K o next new) s.unsealed)
        (moment_is_safe K o (cycles + 1) next new at.lawful simulates.at_next);
    exact = exact;
  }

  -- once the boot is over, the processor is the plain machine's at the view's count
  processor_in : (l : IsLawful K) (o : Origin) (m : Machine S) (n : Device) (phase : Phase) → n.down ≡ false → SoundIn K o phase m n
      → is_boot (view_in K o phase m n).phase ≡ false
      → state_with (processor_of m) [] [] ≡ without_memory (at o (view_in K o phase m n).count)
  processor_in l o m n Boot up s over =
      let shown = (l.boot_holds o m.scheme n (record { boots = s.boots; up = up })).shown in
      let both : true ≡ false = sym (ap is_boot (boots_phase o (K.boot_view o m.scheme n) shown)) ∙ over in
      absurd (cc)
  processor_in l o m n Run up s over = s.counted.processor
  processor_in l o m n Halt up s over = s.counted.processor

  pub failing_is_safe : FailingIsSafe K
  failing_is_safe o cycles pick m next n new did stall moment fails same failed turn = record {
    acted = record { did = did; stall = stall; pressed = pressed_at K moment.lawful o cycles m n moment.sound; turn = turn; failed = fails.failed; still = fails.still };
    safe = fails.safe;
    spares = λ found was.
        let v : View = view_of K o m n in
        let alone = unsealed moment.lawful o cycles m n moment.sound m.phase refl found was in
        safe_for o v.done (doubt_after_fault fails.failed.action v) found new was.done (undoubted_after fails.failed.action v alone) fails.safe;
    stopped = record {
      failed = failed;
      of_geometry = fails.of_geometry;
      processor = λ over. ap (λ (c : CpuState). state_with c [] []) same
          ∙ processor_in moment.lawful o m n m.phase moment.sound.up moment.sound.moment over;
    };
  }
