use Rattle.thy_control.proofs.FrameLemmas.{frame_put_is}
use Rattle.thy_control.proofs.control.Control.load_frame.Goals as goal

pub returns : goal.returns
returns g c = record {
  state = frame_put_is c.args.j c.args.k c.self.view_is
      (g.N.Nvm.device c.args.nvm.now) c.number.ensures.place c.in_ok-block.ensures.ok
      c.write.ensures;
  nvm = c.in_ok-block.ensures.same;
  kept = tt;
  err = tt;
  frame = c.in_ok-block.ensures.frame;
  cause = c.in_ok-block.ensures.cause;
}
