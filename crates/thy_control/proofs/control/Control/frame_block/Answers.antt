use Rattle.thy_block.specs.Device.{Device}
use Rattle.thy_control.specs.State.{State}
use Rattle.thy_control.specs.Boot.{LoadsFrame}
use Rattle.thy_control.specs.Versions.{KeepsCheckpoints}
use Rattle.thy_control.proofs.StepLemmas.{at_result}
use Rattle.thy_control.proofs.FrameLemmas.{entry_inside, IsBooting-after, LoadsFrame-frame, KeepsCheckpoints-frame}
use Rattle.thy_control.proofs.control.Control.frame_block.Goals as goal

pub load_frame-requires-clause-entry : goal.load_frame-requires-clause-entry
load_frame-requires-clause-entry g c = entry_inside c.args.j c.args.k c.args.self.now c.recall_tables.ensures c.requires.booting c.requires.may

pub returns : goal.returns
returns g c =
    let s : State = c.args.self.now in
    let m : Device = g.N.Nvm.device c.args.nvm.now in
    let r = c.load_frame.result in
    let t : State = c.load_frame.new.self in
    let n : Device = g.N.Nvm.device c.load_frame.new.nvm in
    let copies = c.load_frame.ensures in
    let booting = c.requires.booting in
    let law = c.a_frame_is_loaded.ensures in
    record {
      copies = copies;
      booting = IsBooting-after c.args.j c.args.k s t m r
          booting copies.state copies.kept;
      keeps = at_result (KeepsCheckpoints s m) r t n copies.state copies.nvm
          (KeepsCheckpoints-frame c.args.j c.args.k s c.recall_tables.ensures booting c.requires.may m
          c.requires.sized law);
      loads = at_result (LoadsFrame c.args.j c.args.k s m) r t n copies.state copies.nvm
          (LoadsFrame-frame c.args.j c.args.k s c.recall_tables.ensures booting c.requires.may m
          c.requires.sized law);
    }
