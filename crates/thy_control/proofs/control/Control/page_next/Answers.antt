use Rattle.thy_block.specs.Device.{Device}
use Rattle.thy_control.specs.State.{State}
use Rattle.thy_control.specs.Stays.{HoldAll, StaysHeld}
use Rattle.thy_control.specs.Versions.{KeepsCommitted, KeepsWork}
use Rattle.thy_control.proofs.StepLemmas.{at_result}
use Rattle.thy_control.proofs.IssueLemmas.{KeepsNext-write, left_after, stays_by}
use Rattle.thy_control.proofs.control.Control.page_next.Goals as goal

pub returns : goal.returns
returns g c =
    let s : State = c.args.self.now in
    let m : Device = g.N.Nvm.device c.args.nvm.now in
    let r = c.write_lowest.result in
    let t : State = c.write_lowest.new.self in
    let n : Device = g.N.Nvm.device c.write_lowest.new.nvm in
    let keeps = c.a_page_write_keeps_versions.ensures in
    let others = c.a_page_write_keeps_others.ensures in
    let writes = c.write_lowest.ensures.writes in
    let all = KeepsNext-write keeps others s m c.recall_tables.ensures c.requires.sized in
    record {
      more = c.write_lowest.ensures.more;
      left = left_after s m t c.recall_tables.ensures r
          writes.state c.write_lowest.ensures.more;
      committed = at_result (KeepsCommitted s m) r t n writes.state writes.nvm all.committed;
      work = at_result (KeepsWork s m) r t n writes.state writes.nvm all.work;
      held = at_result (λ t n. HoldAll s m → StaysHeld s m t n) r t n writes.state
          writes.nvm all.held;
      writes = writes;
      stays = stays_by keeps others s m t
          n r c.recall_tables.ensures
          c.requires.sized c.requires.up writes.state writes.nvm writes.kept writes.err
          writes.frame;
    }
