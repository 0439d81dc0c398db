-- What leaves the NVM: no call, one that failed, and one call after another.
use Rattle.std.proofs.Common.{◌≡◌, true, false, refl, sym, ◌∙◌, ap}
use Rattle.thy_block.specs.Device.{Device, HasFailed, IsFramed}
use Rattle.thy_scheme_parts.specs.Design.{LeavesNvm}

pub leaves-same : (n : Device) → LeavesNvm n n
leaves-same n = record { as_long = refl; no_more = λ x y h. h; down = λ d. d; same = λ up. refl }

pub leaves-failed : (n m : Device) → HasFailed n m → IsFramed n m → LeavesNvm n m
leaves-failed n m failed framed = record {
  as_long = framed.blocks;
  no_more = failed.no_more;
  down = λ was. failed.down;
  same = λ up. let both : true ≡ false = sym failed.down ∙ up in absurd cc;
}

-- an NVM that is up afterwards was up before
pub was_up : (n m : Device) → LeavesNvm n m → m.down ≡ false → n.down ≡ false
was_up n m leaves up = sym (ap (λ (d : Device). d.down) (leaves.same up)) ∙ up

pub leaves-both : (l m n : Device) → LeavesNvm l m → LeavesNvm m n → LeavesNvm l n
leaves-both l m n first second = record {
  as_long = second.as_long ∙ first.as_long;
  no_more = λ x y h. first.no_more x y (second.no_more x y h);
  down = λ d. second.down (first.down d);
  same = λ up. second.same up ∙ first.same (was_up m n second up);
}
