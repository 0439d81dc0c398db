-- A run goes on once power was cut and has come on again, also after a step that failed.
use Rattle.std.specs.Prelude.{◌≡◌, ℕ, List}
use Rattle.thy_block.specs.declared.block.Block.{Block}
use Rattle.thy_block.specs.declared.mix.Pick.{Pick}
use Rattle.thy_block.specs.Device.{Device, IsFramed, Crash, Wear, cut_to}
use Rattle.thy_computer.specs.Booting.{view_of_image}
use Rattle.thy_computer.specs.Kind.{KindOf, LeavesSafe}
use Rattle.thy_computer.specs.Origin.{Origin}
use Rattle.thy_computer.specs.Safe.{ceiling}

-- any cut of power at a moment, whatever wear it leaves, leads to a moment of the same run, whose view is what the image means that was left
abbrev pub GoesOnAfterCut : {M : Type 0} → KindOf M → Type 0
GoesOnAfterCut {M} K =
    (o : Origin) (k : ℕ) (m next : M) (n : Device) (tear : ℕ) (g : List Block) (wear : Wear)
    → K.is_at o k m n → K.powered o.geometry next → Crash n g
    → K.is_at o k next (cut_to n tear g wear)
    × (K.view o next (cut_to n tear g wear) ≡ view_of_image o.start.count (K.decode o.geometry ceiling g))

-- any cut after a step that failed leads to a moment of the same run, whose view is what the image means that was left
abbrev pub GoesOnAfterFault : {M : Type 0} → KindOf M → Type 0
GoesOnAfterFault {M} K =
    (o : Origin) (k : ℕ) (pick : Pick) (m stopped next : M) (n new : Device) (tear : ℕ) (g : List Block) (wear : Wear)
    → K.is_at o k m n → LeavesSafe K o pick m stopped n new → IsFramed n new → K.powered o.geometry next → Crash new g
    → K.is_at o k next (cut_to new tear g wear)
    × (K.view o next (cut_to new tear g wear) ≡ view_of_image o.start.count (K.decode o.geometry ceiling g))
