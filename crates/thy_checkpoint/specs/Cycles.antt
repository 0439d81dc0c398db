-- Part of the claim.
-- How many cycles of the engine a checkpoint still takes, at most.
use Rattle.std.specs.Prelude.{◌≡◌, ℕ, ◌+◌, ◌≤◌, true, if◌then◌else◌}
use Rattle.thy_block.specs.declared.parameters.Parameters.{Parameters}
use Rattle.thy_checkpoint.specs.declared.engine_stage.EngineStage.{EngineStage}
use Rattle.thy_checkpoint.specs.declared.engine_stage.EngineStage.TheVariants.{Idle, Body, InRound, Tail}
use Rattle.thy_computer.specs.declared.round.Round.TheVariants.{Write}
use Rattle.thy_computer.specs.Round.{round_left}
use Rattle.thy_checkpoint.specs.Filling.{FillingOf, layout_at}
use Rattle.thy_checkpoint.specs.Items.{ItemsOf}
use Rattle.thy_checkpoint.specs.Progress.{Progress, Fits, slot_blocks, is_under_way, engine_next, control_next}

-- how many actions are left after the commit: the positions of the tail, and a barrier
abbrev pub after_commit_left : {C : Type 0} → ItemsOf C → Parameters → ℕ
after_commit_left I p = if I.has_tail then I.tail_left p 0 + 1 else 0

-- the positions of the body that may still be written, the round, and what follows the commit
abbrev pub left_at : {C : Type 0} → FillingOf C → ItemsOf C → Progress → EngineStage → C → ℕ
left_at F I e Idle c = 0
left_at F I e (Body from) c = I.body_left c from + (round_left (slot_blocks F e) (Write 0) + after_commit_left I e.p)
left_at F I e (InRound r) c = round_left (slot_blocks F e) r + after_commit_left I e.p
left_at F I e (Tail from) c = I.tail_left e.p from + 1

abbrev pub cycles_left : {C : Type 0} → FillingOf C → ItemsOf C → Progress → C → ℕ
cycles_left F I e c = left_at F I e e.stage c

-- the most cycles that a checkpoint takes
abbrev pub most_cycles : {C : Type 0} → FillingOf C → ItemsOf C → Parameters → ℕ
most_cycles F I p = I.most_body p + ((layout_at F p).most_slot + (3 + after_commit_left I p))

abbrev pub CyclesAreFew : {C : Type 0} → FillingOf C → ItemsOf C → Type 0
CyclesAreFew {C} F I = (e : Progress) (c : C) → Fits F I e c → cycles_left F I e c ≤ most_cycles F I e.p

-- every item takes at least one of the cycles that a checkpoint may take
abbrev pub ItemsCount : {C : Type 0} → FillingOf C → ItemsOf C → Type 0
ItemsCount {C} F I =
    (e : Progress) (c : C)
    → Fits F I e c → is_under_way e.stage ≡ true → cycles_left F I (engine_next F I e c) (control_next I e c) + 1 ≤ cycles_left F I e c

-- engine and controller belong together after every item
abbrev pub ItemsFit : {C : Type 0} → FillingOf C → ItemsOf C → Type 0
ItemsFit {C} F I =
    (e : Progress) (c : C) → Fits F I e c → Fits F I (engine_next F I e c) (control_next I e c)
