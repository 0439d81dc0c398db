use Rattle.std.proofs.Common.{◌≡◌, ◌+◌}
use Rattle.thy_block.specs.Device.{Device}
use Rattle.thy_control.specs.State.{State}
use Rattle.thy_control.specs.Promotions.{unfilled, HoldsWork}
use Rattle.thy_control.specs.Stays.{HoldAll}
use Rattle.thy_control.specs.Versions.{KeepsCheckpoints}
use Rattle.thy_control.proofs.StepLemmas.{at_result}
use Rattle.thy_control.proofs.FillLemmas.{KeepsNext-promotion, stays_by}
use Rattle.thy_control.proofs.control.Control.promote_one.Goals as goal

pub returns : goal.returns
returns g c =
    let s : State = c.args.self.now in
    let m : Device = g.N.Nvm.device c.args.nvm.now in
    let r = c.fill_lowest.result in
    let t : State = c.fill_lowest.new.self in
    let n : Device = g.N.Nvm.device c.fill_lowest.new.nvm in
    let keeps = c.a_promotion_keeps_versions.ensures in
    let others = c.a_promotion_keeps_others.ensures in
    let fills = c.fill_lowest.ensures.fills in
    let all = KeepsNext-promotion keeps others s m c.recall_tables.ensures c.requires.sized
    c.requires.promoting in
    record {
      left = at_result (λ t n. unfilled t + 1 ≡ unfilled s) r t n fills.state fills.nvm all.left;
      keeps = at_result (KeepsCheckpoints s m) r t n fills.state fills.nvm all.checkpoints;
      held = at_result (λ t n. HoldAll s m → HoldsWork s m t n) r t n fills.state
          fills.nvm all.held;
      fills = fills;
      side = c.fill_lowest.ensures.side;
      stays = stays_by keeps others s m t
          n r c.recall_tables.ensures
          c.requires.sized c.requires.promoting fills.state fills.nvm fills.kept fills.err
          fills.frame;
    }
