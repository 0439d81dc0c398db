-- What holds of the machine's view and of the marks that the events report, between two cycles.
use Rattle.std.proofs.Common.{◌≡◌, ◌⊎◌, ℕ, ◌+◌, ◌<◌, ◌≤◌, true, false, Option, Some, None}
use Rattle.thy_block.specs.declared.cause.EndCause.{EndCause}
use Rattle.thy_block.specs.declared.cause.EndCause.TheVariants.{Length, Exhausted, Ended as EndedCause}
use Rattle.thy_block.specs.declared.mark.Mark.{Mark}
use Rattle.thy_text.specs.Marks.{Marks, loading_marks}
use Rattle.thy_computer.specs.declared.view.Phase.{Phase}
use Rattle.thy_computer.specs.declared.view.Phase.TheVariants.{Boot as BootPhase, Run, Halt}
use Rattle.thy_computer.specs.declared.view.View.{View}
use Rattle.thy_block.specs.Marks.{mark}
use Rattle.thy_computer.specs.CoreStep.{IsShort}
use Rattle.thy_computer.specs.Origin.{Origin, runs_at}

-- why the epoch is over fits the instructions that were retired in it
abbrev pub OverFits : Origin → ℕ → ℕ → Option EndCause → Type 0
OverFits o retired count None = retired < o.geometry.epoch
OverFits o retired count (Some EndedCause) = runs_at o count ≡ false
OverFits o retired count (Some Length) = (runs_at o count ≡ true) × (retired ≡ o.geometry.epoch)
OverFits o retired count (Some (Exhausted free dirty need)) =
    (runs_at o count ≡ true) × (retired < o.geometry.epoch) × IsShort free dirty need

-- a mark is one of two
abbrev pub IsEither : Option Mark → Option Mark → Mark → Type 0
IsEither kept sealed d = (kept ≡ Some d) ⊎ (sealed ≡ Some d)

-- marks do not go back
abbrev pub Rises : Marks → Type 0
Rises m = (k s : Mark) → m.kept ≡ Some k → m.sealed ≡ Some s → k.count ≤ s.count

-- a boot that loads the program, and one that recovers a mark
pub record Loading (o : Origin) (v : View) (m : Marks) : Type 0 where
  pub done : v.done ≡ None
  pub sealed : v.sealed ≡ Some (mark 0 o.start.count)
  pub marks : m ≡ loading_marks o.start.count

pub record Recovering (v : View) (m : Marks) : Type 0 where
  pub mark : Mark
  pub done : v.done ≡ Some mark
  pub sealed : v.sealed ≡ None
  pub written : v.written ≡ false
  pub either : IsEither m.kept m.sealed mark
  pub rises : Rises m

pub record BootFits (o : Origin) (v : View) (m : Marks) : Type 0 where
  pub retired : v.retired ≡ 0
  pub over : v.over ≡ None
  pub boots : Loading o v m ⊎ Recovering v m

-- the epoch that executes follows the sealed one, or else the committed one
abbrev pub Follows : Origin → View → Mark → Option Mark → Type 0
Follows o v d None = (v.written ≡ false) × (v.epoch ≡ d.epoch + 1) × (v.count ≡ d.count + v.retired)
Follows o v d (Some s) =
    (v.epoch ≡ s.epoch + 1) × (v.count ≡ s.count + v.retired) × (d.count ≤ s.count) × (runs_at o s.count ≡ false → v.retired ≡ 0)

pub record RunFits (o : Origin) (v : View) (m : Marks) : Type 0 where
  pub mark : Mark
  pub done : v.done ≡ Some mark
  pub kept : m.kept ≡ Some mark
  pub sealed : m.sealed ≡ v.sealed
  pub follows : Follows o v mark v.sealed
  pub few : v.retired ≤ o.geometry.epoch
  pub over : OverFits o v.retired v.count v.over

pub record HaltFits (o : Origin) (v : View) (m : Marks) : Type 0 where
  pub mark : Mark
  pub done : v.done ≡ Some mark
  pub sealed : v.sealed ≡ None
  pub written : v.written ≡ false
  pub kept : m.kept ≡ Some mark
  pub none : m.sealed ≡ None
  pub count : v.count ≡ mark.count
  pub over : runs_at o v.count ≡ false

abbrev pub FitsIn : Origin → View → Marks → Phase → Type 0
FitsIn o v m BootPhase = BootFits o v m
FitsIn o v m Run = RunFits o v m
FitsIn o v m Halt = HaltFits o v m

abbrev pub Fits : Origin → View → Marks → Type 0
Fits o v m = FitsIn o v m v.phase

-- what a view has committed, or in doubt, is one of two marks
pub record Covers (kept sealed : Option Mark) (done doubt : Option Mark) : Type 0 where
  pub nothing : done ≡ None → kept ≡ None
  pub of_done : (d : Mark) → done ≡ Some d → IsEither kept sealed d
  pub of_doubt : (d : Mark) → doubt ≡ Some d → IsEither kept sealed d
