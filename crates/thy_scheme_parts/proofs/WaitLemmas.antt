-- What holds of a scheme of parts whose hart waits for each checkpoint, and of any that is idle.
use Rattle.std.proofs.Common.{◌≡◌, ◌⊎◌, ℕ, ◌&&◌, not, Bool, true, false, refl, sym, ◌∙◌, ap, subst, inl, inr}
use Rattle.thy_block.specs.Device.{Device}
use Rattle.thy_computer.specs.Origin.{Origin}
use Rattle.thy_scheme_parts.specs.Schemes.{FirstHasRoom, HartIsBarred}
use Rattle.thy_scheme_parts.proofs.RoomLemmas.{first-room}
use Rattle.thy_scheme.specs.CheckpointMarks.{CheckpointMarks}
use Rattle.thy_checkpoint.specs.declared.engine_stage.EngineStage.{EngineStage}
use Rattle.thy_checkpoint.specs.Items.{Phase, Resting}
use Rattle.thy_checkpoint.specs.Progress.{phase_of, is_under_way}
use Rattle.thy_scheme_parts.specs.Design.{DesignOf, Composed}
use Rattle.thy_scheme_parts.specs.IsDesign.{IsDesign}
use Rattle.thy_scheme_parts.specs.Moments.{IsMoment}
use Rattle.thy_scheme_parts.specs.Scheme.{scheme_of}
use Rattle.thy_scheme_parts.specs.Sound.{IsSound}
use Rattle.thy_scheme_parts.specs.Storing.{StaysOver}
use Rattle.thy_scheme_parts.proofs.SafeLemmas.{idle_stage}

always : (way : Bool) → (way && not false) ≡ way
always true = refl
always false = refl

pub hart_is_barred : {C : Type 0} (D : DesignOf C) → D.parts.overlaps ≡ false
    → HartIsBarred (scheme_of D)
hart_is_barred D waits m =
    let way : Bool = is_under_way m.scheme.engine.stage in
    ap (λ (overlaps : Bool). way && not overlaps) waits ∙ always way

module _ {C : Type 0} (D : DesignOf C) where
  -- with nothing stored and nothing under way it rests
  pub rests_idle : (o : Origin) (k : CheckpointMarks) (s : Composed C) (n : Device)
      → IsSound D o k s n → s.storeless ≡ true → is_under_way s.engine.stage ≡ false
      → D.parts.rests true s.sealed_storeless Resting s.control
  rests_idle o k s n sound storeless idle =
      subst (λ (q : EngineStage). D.parts.rests true s.sealed_storeless (phase_of q) s.control)
      (idle_stage s.engine.stage idle)
      (subst (λ (x : Bool). D.parts.rests x s.sealed_storeless (phase_of s.engine.stage) s.control)
      storeless sound.rests)

  -- the first instruction has room, if what rests depends on the stores since the last seal alone
  pub first_has_room : IsDesign D
      → ((sealed : Bool) (c : C) → D.parts.rests true sealed Resting c
      → D.parts.rests true true Resting c)
      → FirstHasRoom (scheme_of D)
  first_has_room w alone =
      first-room (scheme_of D)
      (λ o k s n sound storeless idle.
      w.rests_room s.control sound.held.moment.sound
      (alone s.sealed_storeless s.control (rests_idle o k s n sound storeless idle)))

  -- loads and stores come only while it rests
  pub stays_waiting : D.parts.overlaps ≡ false
      → ((epoch : ℕ) (c : C) (n : Device) (d : C) (m : Device)
      → IsMoment D Resting epoch c n → D.parts.stays c n d m
      → StaysOver D Resting epoch c n d m)
      → (phase : Phase) (epoch : ℕ) (c : C) (n : Device) (d : C) (m : Device)
      → IsMoment D phase epoch c n
      → (D.parts.overlaps ≡ true) ⊎ (phase ≡ Resting) → D.parts.stays c n d m
      → StaysOver D phase epoch c n d m
  stays_waiting waits resting phase epoch c n d m moment (inl over) stays =
      let both : true ≡ false = sym over ∙ waits in absurd cc
  stays_waiting waits resting phase epoch c n d m moment (inr is) stays =
      subst (λ (p : Phase). StaysOver D p epoch c n d m) (sym is)
      (resting epoch c n d m (subst (λ (p : Phase). IsMoment D p epoch c n) is moment) stays)
