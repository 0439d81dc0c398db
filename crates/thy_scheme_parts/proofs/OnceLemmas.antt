-- A step of the boot has one outcome, because a slot is listed in one way.
use Rattle.std.proofs.Common.{◌≡◌, Bool, true, false, Option, Some, None, sym, ◌∙◌, ap, ap₂}
use Rattle.thy_block.specs.Device.{Device, CountAlike}
use Rattle.thy_checkpoint.specs.Steps.{action_of}
use Rattle.thy_computer.proofs.ActionLemmas.{after-once}
use Rattle.thy_checkpoint.specs.declared.boot_stage.ReadStage.{ReadStage}
use Rattle.thy_checkpoint.specs.declared.boot_stage.ReadStage.TheVariants.{Unread, Header, Slot, Fills, Refusing}
use Rattle.thy_checkpoint.specs.declared.boot_stage.Stage.{Stage}
use Rattle.thy_checkpoint.specs.declared.boot_stage.Stage.TheVariants.{Reads, Loads, Migrates, Over}
use Rattle.thy_checkpoint.specs.Boot.{Booting, slot_read, slot_fault, has_more, IsJudged, GoesOn, answer_of}
use Rattle.thy_checkpoint.specs.Filling.{FillingOf, IsFilling}
use Rattle.thy_checkpoint.specs.Reads.{slot_kept, FillsOn}
use Rattle.thy_isa.specs.Step.{State}
use Rattle.thy_layout.specs.declared.bad_image.BadImage.{BadImage}
use Rattle.thy_scheme_parts.specs.AreParts.{AreParts}
use Rattle.thy_scheme_parts.specs.Boots.{booted}
use Rattle.thy_scheme_parts.specs.Calls.{FillsBy, BootsBy}
use Rattle.thy_scheme_parts.specs.Design.{DesignOf, Composed}
use Rattle.thy_computer.specs.declared.boot_step.BootStep.{BootStep}

-- ---- the controller

module _ {C : Type 0} (F : FillingOf C) (laws : IsFilling F) (old d e : C) where
  judged_once : (fault : Option BadImage) (b : Booting) → IsJudged F fault b old d → IsJudged F fault b old e → d ≡ e
  judged_once None b h k = laws.lists_once old d e b.commit (slot_read F b) h k
  judged_once (Some bad) b h k = h ∙ sym k

  goes_once : (more : Bool) (b : Booting) → GoesOn F more b old d → GoesOn F more b old e → d ≡ e
  goes_once true b h k = h ∙ sym k
  goes_once false b h k = judged_once (slot_fault F b) b h k

  reads_once : (at : ReadStage) (n : Device) (b : Booting) → FillsOn F at n b old d → FillsOn F at n b old e → d ≡ e
  reads_once Unread n b h k = h ∙ sym k
  reads_once Header n b h k = h ∙ sym k
  reads_once (Slot next) n b h k = goes_once (has_more F next b) (slot_kept F next n b) h k
  reads_once (Fills position) n b h k = h ∙ sym k
  reads_once (Refusing bad) n b h k = h ∙ sym k

  fills_once : (stage : Stage) (n : Device) (b : Booting) → FillsBy F stage n b old d → FillsBy F stage n b old e → d ≡ e
  fills_once (Reads at) n b h k = reads_once at n b h k
  fills_once (Loads r) n b h k = h ∙ sym k
  fills_once (Migrates r) n b h k = h ∙ sym k
  fills_once (Over end) n b h k = h ∙ sym k

-- ---- the scheme

pub boots_once : {C : Type 0} (D : DesignOf C) → AreParts D
    → (start : State) (s : Composed C) (n : Device) (step other : BootStep) (t u : Composed C) (x y : Device)
    → BootsBy D start s n step t x → BootsBy D start s n other u y → CountAlike n x y → (step ≡ other) × (t ≡ u) × (x ≡ y)
boots_once {C} D w start s n step other t u x y a b alike =
    let boot : t.boot ≡ u.boot = a.boot ∙ sym b.boot in
    let control : t.control ≡ u.control
    = fills_once D.filling w.design.fills s.control t.control u.control s.boot.stage n s.boot a.control b.control in (
      a.answer ∙ ap (answer_of D.filling) boot ∙ sym b.answer,
      a.others ∙ ap₂ (λ (at : Booting) (c : C). booted D at c s) boot control ∙ sym b.others,
      after-once (action_of D.filling start s.boot s.control) n x y a.nvm b.nvm alike,
    )
