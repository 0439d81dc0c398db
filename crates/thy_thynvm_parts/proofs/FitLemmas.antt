-- Engine and controller stay together over calls of the controller alone.
use Rattle.std.proofs.Common.{◌≡◌, Bool, true, false, refl, sym, ◌∙◌, subst}
use Rattle.thy_block.specs.Device.{Device}
use Rattle.thy_control.specs.Seal.{sealed_state}
use Rattle.thy_control.specs.State.{State, AreSoundTables}
use Rattle.thy_control.specs.Stays.{Stays}
use Rattle.thy_checkpoint.specs.declared.engine_stage.EngineStage.{EngineStage}
use Rattle.thy_checkpoint.specs.declared.engine_stage.EngineStage.TheVariants.{Idle, InRound}
use Rattle.thy_checkpoint.specs.Items.{Phase, Resting, Making, Made, Applying}
use Rattle.thy_checkpoint.specs.Progress.{phase_of}
use Rattle.thy_scheme_parts.proofs.SafeLemmas.{idle_stage}
use Rattle.thy_thynvm_parts.specs.Design.{StandsAt, items_thynvm}
use Rattle.thy_thynvm_parts.specs.Fitting.{PromotesAtRest, IdleFits, SealFits, StaysFit}
use Rattle.thy_thynvm_parts.proofs.StoreLemmas.{copied_stays}

pub idle_fits : IdleFits
idle_fits e s same idle none tables promotes =
    let is : e.stage ≡ Idle = idle_stage e.stage idle in
    record {
      same_p = same;
      inside = λ r at. let both : Idle ≡ InRound r = sym is ∙ at in absurd cc;
      stands = subst (λ (q : EngineStage). items_thynvm.stands (phase_of q) s) (sym is)
          (record { tables = tables; way_is = none; promotes = promotes });
    }

pub seal_fits : SealFits
unfolding sealed_state
seal_fits e s cpu epoch fits tables idle = record {
  same_p = fits.same_p;
  inside = λ r at. cc;
  stands = record { tables = tables; way_is = refl; promotes = λ p. idle };
}

-- a call that leaves the tables sound leaves the phase
at_stays : (way : Bool) (s : State) (m : Device) (t : State) (n : Device) → AreSoundTables t → PromotesAtRest t → Stays s m t n
    → StandsAt way s → StandsAt way t
at_stays way s m t n tables promotes stays at = record { tables = tables; way_is = stays.same_way ∙ at.way_is; promotes = promotes }

phase_stays : (phase : Phase) (s : State) (m : Device) (t : State) (n : Device) → AreSoundTables t → PromotesAtRest t → Stays s m t n
    → items_thynvm.stands phase s → items_thynvm.stands phase t
phase_stays Resting s m t n tables promotes stays h = at_stays false s m t n tables promotes stays h
phase_stays (Making from) s m t n tables promotes stays h = at_stays true s m t n tables promotes stays h
phase_stays Made s m t n tables promotes stays h =
    record { at = at_stays true s m t n tables promotes stays h.at; copied = copied_stays s m t n stays h.copied }
phase_stays (Applying from) s m t n tables promotes stays h = h

pub stays_fit : StaysFit
stays_fit e s m t n tables promotes fits stays = record {
  same_p = stays.same_p ∙ fits.same_p;
  inside = fits.inside;
  stands = phase_stays (phase_of e.stage) s m t n tables promotes stays fits.stands;
}
