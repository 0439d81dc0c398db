use Rattle.thy_block.specs.Device.{Device}
use Rattle.thy_control.specs.State.{State}
use Rattle.thy_control.specs.Versions.{KeepsAll}
use Rattle.thy_control.proofs.StepLemmas.{at_result}
use Rattle.thy_control.proofs.CopyLemmas.{KeepsAll-next, left_after, stays_by}
use Rattle.thy_control.proofs.control.Control.copy_next.Goals as goal

pub returns : goal.returns
returns g c =
    let s : State = c.args.self.now in
    let m : Device = g.N.Nvm.device c.args.nvm.now in
    let r = c.copy_lowest.result in
    let t : State = c.copy_lowest.new.self in
    let n : Device = g.N.Nvm.device c.copy_lowest.new.nvm in
    let law = c.a_copy_keeps_versions.ensures in
    let copies = c.copy_lowest.ensures.copies in
    record {
      more = c.copy_lowest.ensures.more;
      left = left_after s m t c.recall_tables.ensures r
          copies.state c.copy_lowest.ensures.more;
      keeps = at_result (KeepsAll s m) r t n copies.state copies.nvm
          (KeepsAll-next law s m c.recall_tables.ensures c.requires.sized);
      copies = copies;
      stays = stays_by law s m t n
          r c.recall_tables.ensures
          c.requires.sized c.requires.up copies.state copies.nvm copies.kept copies.err
          copies.frame;
    }
