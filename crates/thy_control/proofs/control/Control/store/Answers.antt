use Rattle.thy_block.specs.Device.{Device}
use Rattle.thy_control.specs.State.{State}
use Rattle.thy_control.specs.Rules.{devices_after, state_after}
use Rattle.thy_control.proofs.KeepLemmas.{Kept-after, kept_by, checkpoints_by, work_by, there, StoresFree-store, LeavesGuarded-after, guarded_by, HoldAll-after, hold_by}
use Rattle.thy_control.proofs.StayLemmas.{stays_by}
use Rattle.thy_control.proofs.control.Control.store.Goals as goal

pub returns : goal.returns
returns g c =
    let s : State = c.args.self.now in
    let m : Device = g.N.Nvm.device c.args.nvm.now in
    let n : Device = g.N.Nvm.device c.put.new.nvm in
    let t : State = c.put.new.self in
    let b = c.args.b in
    let block = c.args.block.now in
    let put = c.put.ensures in
    let elsewhere = c.a_store_goes_elsewhere.ensures in
    let leaves = c.a_store_leaves_the_target.ensures in
    let asks = c.requires in
    let kept = kept_by t n c.put.result put.state put.nvm put.answer
    (Kept-after c.a_store_is_read.ensures b block s m c.recall_tables.ensures asks.sized asks.whole
    asks.block asks.room) in
    let keeps = checkpoints_by b block s m t n c.put.result kept in
    let holds = hold_by s m t (state_after b block s m) n (devices_after b block s m).nvm
    c.put.result put.state put.nvm
    (HoldAll-after c.a_store_leaves_what_has_to_stand.ensures b block s m c.recall_tables.ensures
    asks.sized asks.whole asks.block asks.room) in
    let guarded = guarded_by b block s m n c.put.result put.nvm put.err
    (LeavesGuarded-after elsewhere leaves b s c.recall_tables.ensures asks.whole asks.block asks.room block
    m n) in
    record {
      answer = put.answer;
      work = work_by b block s m t n c.put.result kept;
      keeps = keeps;
      state = put.state;
      nvm = put.nvm;
      free = StoresFree-store elsewhere leaves b s c.recall_tables.ensures asks.whole asks.block asks.room;
      holds = holds;
      stays = stays_by b block s m c.put.new.self n c.put.result put.state put.nvm put.kept put.err
          keeps holds c.recall_tables.ensures asks.sized
          asks.room asks.up
          (there elsewhere leaves b s c.recall_tables.ensures asks.whole asks.block asks.room) put.frame
          guarded;
      kept = put.kept;
      err = put.err;
      frame = put.frame;
      cause = put.cause;
    }
