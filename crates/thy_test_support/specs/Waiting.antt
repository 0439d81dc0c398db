-- A scheme that waits: one below it, and how many of the barriers after a commit or a restart are left.
use Rattle.std.specs.Prelude.{ℕ, nat_lt, Bool}
use Rattle.thy_layout.specs.declared.engine_step.EngineStep.{EngineStep}
use Rattle.thy_layout.specs.declared.engine_step.EngineStep.TheVariants.{Committed}
use Rattle.thy_computer.specs.declared.boot_step.BootStep.{BootStep}
use Rattle.thy_computer.specs.declared.boot_step.BootStep.TheVariants.{Restarted}

pub record Waiting (S : Type 0) : Type 0 where
  pub below : S
  -- the barriers that are left
  pub left : ℕ

-- how many barriers follow a commit or a restart
abbrev pub barriers : ℕ
barriers = 3

-- some barriers are left
abbrev pub is_waiting : {S : Type 0} → Waiting S → Bool
is_waiting w = nat_lt 0 w.left

-- how many are left after a step of the engine below
abbrev pub left_after : EngineStep → ℕ
left_after (Committed epoch) = barriers
left_after step = 0

-- how many barriers are left after a step of the boot: none after a load, since the start of a run has no checkpoint
-- before it
abbrev pub left_booted : BootStep → ℕ
left_booted (Restarted cpu epoch) = barriers
left_booted step = 0
