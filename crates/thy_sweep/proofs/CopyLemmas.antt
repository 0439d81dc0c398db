-- Power that comes on over a copy.
use Rattle.std.proofs.Common.{◌≡◌, ℕ, List, refl, sym, ◌∙◌, ap, subst}
use Rattle.thy_block.specs.Device.{Device}
use Rattle.thy_block.specs.declared.parameters.Parameters.{Parameters}
use Rattle.thy_dram.specs.Contents.{Contents, lost}
use Rattle.thy_dram.proofs.DrawLemmas.{length-over}
use Rattle.thy_layout.specs.Decoded.{Decoded}
use Rattle.thy_run.specs.World.{World, line, turns_kept}
use Rattle.thy_run.proofs.TurnListLaws.{kept_agrees}
use Rattle.thy_sweep.specs.Trials.{CanCopy, GoesOnOverCopy}
use Rattle.thy_computer.specs.declared.view.View.{View}
use Rattle.thy_computer.specs.Booting.{view_of_image}
use Rattle.thy_computer.specs.Kind.{KindOf, IsLawful, IsCrashOfView, IsDramOf}
use Rattle.thy_computer.specs.Origin.{Origin}
use Rattle.thy_computer.specs.Safe.{ceiling}
use Rattle.thy_computer.specs.WithTurns.{AgreeBelow, reach}
use Rattle.thy_computer.proofs.AgainLaws.{sealed_in}

pub goes_on_over_copy : {M : Type 0} (K : KindOf M) → IsLawful K → GoesOnOverCopy K
goes_on_over_copy K laws o pick w m n can powered dram =
    let p : Origin = line o w in
    let v : View = K.view p w.machine w.device in
    let d : Decoded = K.decode o.geometry ceiling n.image in
    let turns : List ℕ = turns_kept o w.turns d in
    let left : IsCrashOfView K p v n = record {
      up = can.up;
      settled = can.empty;
      blocks = can.crash.same_length ∙ laws.sized p w.cycles w.machine w.device can.at_moment;
      means = sealed_in p v.written v.done v.sealed d (laws.is_safe p w.cycles w.machine w.device can.at_moment n.image can.crash);
    } in
    let law = laws.finds p w.cycles w.machine m w.device n can.at_moment powered left in
    let kept : AgreeBelow p turns (reach (view_of_image o.start.count d)) = kept_agrees o w.turns d in
    let so_far : AgreeBelow p turns (reach (K.view p m n)) = subst (λ (x : View). AgreeBelow p turns (reach x)) (sym law.1) kept in
    record {
      crash = can.crash;
      up = can.up;
      empty = can.empty;
      powered = powered;
      dram = dram;
      kept = refl;
      at_moment = laws.agrees p turns w.cycles m n law.0 so_far;
      found = (laws.seen_alike p turns w.cycles m n law.0 so_far).view ∙ law.1;
      copy_is = refl;
    }

-- after a loss of power a DRAM has the size that it had
pub IsDramOf-lost : (p : Parameters) (d : Contents) (pick : ℕ) → IsDramOf p d → IsDramOf p (lost d pick)
IsDramOf-lost p d pick is = record { blocks = length-over pick d.blocks ∙ is.blocks; room = is.room; empty = refl }
