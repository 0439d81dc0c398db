-- What loads and stores keep of a scheme, those that fail too.
use Rattle.std.specs.Prelude.{◌≡◌, true}
use Rattle.thy_block.specs.Device.{Device}
use Rattle.thy_scheme_parts.specs.Design.{DesignOf, Composed}

-- if no block was stored, none was before, and the controller is still as idle
pub record RestsOn {C : Type 0} (D : DesignOf C) (s t : Composed C) : Type 0 where
  pub before : s.storeless ≡ true
  pub still : D.parts.still s.control t.control

pub record Stays {C : Type 0} (D : DesignOf C) (s : Composed C) (n : Device) (t : Composed C) (m : Device) : Type 0 where
  pub control : D.parts.stays s.control n t.control m
  pub engine : t.engine ≡ s.engine
  pub sealed_storeless : t.sealed_storeless ≡ s.sealed_storeless
  pub boot : t.boot ≡ s.boot
  pub rests : t.storeless ≡ true → RestsOn D s t
