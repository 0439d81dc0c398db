-- A start of the least memory.
use Rattle.std.specs.Prelude.{◌≡◌, length, replicate, None}
use Rattle.thy_isa.specs.declared.state.Status.TheVariants.{Running}
use Rattle.thy_isa.specs.Step.{State}

-- a start of the least memory, whose registers are zero
pub record IsLeastStart (s : State) : Type 0 where
  pub regs : s.regs ≡ replicate 32 0
  pub memory : length s.memory ≡ 28672
  pub console : length s.console ≡ 70
  pub pc : s.pc ≡ 65540
  pub cursor : s.cursor ≡ 3
  pub brk : s.brk ≡ 65600
  pub floor : s.floor ≡ 65600
  pub count : s.count ≡ 5
  pub status : s.status ≡ Running
  pub alone : s.other ≡ None
