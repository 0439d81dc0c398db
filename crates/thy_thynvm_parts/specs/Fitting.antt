-- Engine and controller stay together over calls of the controller alone.
use Rattle.std.specs.Prelude.{◌≡◌, ℕ, true, false}
use Rattle.thy_block.specs.Device.{Device}
use Rattle.thy_isa.specs.declared.state.CpuState.{CpuState}
use Rattle.thy_control.specs.Frees.{HasNoWork}
use Rattle.thy_control.specs.Seal.{sealed_state}
use Rattle.thy_control.specs.State.{State, AreSoundTables}
use Rattle.thy_control.specs.Stays.{Stays}
use Rattle.thy_checkpoint.specs.Progress.{Progress, Fits, begun, is_under_way}
use Rattle.thy_thynvm_parts.specs.Filling.{filling_thynvm}
use Rattle.thy_thynvm_parts.specs.Design.{is_promoting, items_thynvm}

-- while a page is being promoted no block has work
abbrev pub PromotesAtRest : State → Type 0
PromotesAtRest s = is_promoting s ≡ true → HasNoWork s

-- engine and controller fit each other if no checkpoint is under way in either
abbrev pub IdleFits : Type 0
IdleFits =
    (e : Progress) (s : State)
    → s.p ≡ e.p → is_under_way e.stage ≡ false → s.under_way ≡ false → AreSoundTables s → PromotesAtRest s
    → Fits filling_thynvm items_thynvm e s

-- engine and controller fit each other after a seal, with which a checkpoint begins
abbrev pub SealFits : Type 0
SealFits =
    (e : Progress) (s : State) (cpu : CpuState) (epoch : ℕ)
    → Fits filling_thynvm items_thynvm e s → AreSoundTables (sealed_state s) → HasNoWork (sealed_state s)
    → Fits filling_thynvm items_thynvm (begun cpu epoch e) (sealed_state s)

-- the engine fits the controller after every call of it between two checkpoints, whether or not the call failed
abbrev pub StaysFit : Type 0
StaysFit =
    (e : Progress) (s : State) (m : Device) (t : State) (n : Device)
    → AreSoundTables t → PromotesAtRest t → Fits filling_thynvm items_thynvm e s → Stays s m t n → Fits filling_thynvm items_thynvm e t
