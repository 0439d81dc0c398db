-- What holds of the merges and promotions of every scheme.
use Rattle.std.specs.Prelude.{◌≡◌, ℕ, ◌+◌, ◌≤◌, true}
use Rattle.thy_block.specs.Device.{Device}
use Rattle.thy_computer.specs.Dram.{WritesDram}
use Rattle.thy_checkpoint.specs.Items.{Phase, Resting}
use Rattle.thy_scheme_parts.specs.Design.{DesignOf}
use Rattle.thy_scheme_parts.specs.Moments.{IsMoment, Carries}

-- one block was written in the DRAM; each block loads as before, and the slot says the same
pub record WritesOne {C : Type 0} (D : DesignOf C) (phase : Phase) (epoch : ℕ) (c : C) (n : Device) (d : C) : Type 0 where
  pub carries : Carries D epoch phase c n phase d n
  pub writes : WritesDram n n (D.filling.dram c) (D.filling.dram d)
  pub rest : (k : ℕ) → D.items.rest d k ≡ D.items.rest c k
  pub left : (from : ℕ) → D.items.body_left d from ≤ D.items.body_left c from

pub record IsPaging {C : Type 0} (D : DesignOf C) : Type 0 where
  pub merges : (epoch : ℕ) (c : C) (n : Device) → IsMoment D Resting epoch c n → D.parts.pages.overlaid c ≡ true
      → WritesOne D Resting epoch c n (D.parts.pages.merged c)
      × (D.parts.pages.merges_left (D.parts.pages.merged c) + 1 ≡ D.parts.pages.merges_left c)
  pub promotes : (phase : Phase) (epoch : ℕ) (c : C) (n : Device) → IsMoment D phase epoch c n → D.parts.pages.promoting c ≡ true
      → WritesOne D phase epoch c n (D.parts.pages.promoted c n)
      × (D.parts.pages.promotions_left (D.parts.pages.promoted c n) + 1 ≡ D.parts.pages.promotions_left c)
