use Rattle.std.proofs.Common.{◌≡◌, false, ◌∙◌, ap}
use Rattle.std.proofs.lemmas.Result.{on_ok_weaker, on_err_weaker}
use Rattle.thy_block.specs.Device.{Device, HasFailed}
use Rattle.thy_block.proofs.DeviceLemmas.{counts_once}
use Rattle.thy_control.proofs.StoreLemmas.{once_loaded, left_by_load}
use Rattle.thy_control.proofs.block_store.ControlBlockStore.load.Goals as goal

pub load-requires-clause-block : goal.load-requires-clause-block
load-requires-clause-block g c = (c.blocks_are_works.ensures.works c.args.self.now (g.N.Nvm.device c.args.nvm.now) c.args.b c.requires).inside

pub load-requires-clause-sized : goal.load-requires-clause-sized
load-requires-clause-sized g c = (c.blocks_are_works.ensures.works c.args.self.now (g.N.Nvm.device c.args.nvm.now) c.args.b c.requires).sized

pub returns-clause-once : goal.returns-clause-once
returns-clause-once g c =
    once_loaded c.args.self.now (g.N.Nvm.device c.args.nvm.now) (g.N.Nvm.device c.load.new.nvm) c.load.result
    c.load.ensures.same c.load.ensures.err c.load.ensures.frame c.load.ensures.stays

pub load-requires-clause-up : goal.load-requires-clause-up
load-requires-clause-up g c = (c.blocks_are_works.ensures.works c.args.self.now (g.N.Nvm.device c.args.nvm.now) c.args.b c.requires).up

pub returns-clause-cause : goal.returns-clause-cause
returns-clause-cause g c =
    let m : Device = g.N.Nvm.device c.args.nvm.now in
    let n : Device = g.N.Nvm.device c.load.new.nvm in
    let up : m.down ≡ false = (c.blocks_are_works.ensures.works c.args.self.now m c.args.b c.requires).up in
    counts_once c.load.result m n up
    (on_ok_weaker c.load.result (λ (same : n ≡ m). ap (λ (d : Device). d.down) same ∙ up) c.load.ensures.same)
    (on_err_weaker c.load.result (λ (failed : HasFailed m n). failed.down) c.load.ensures.err)

pub returns-clause-loads : goal.returns-clause-loads
returns-clause-loads g c =
    left_by_load c.args.self.now (g.N.Nvm.device c.args.nvm.now) (g.N.Nvm.device c.load.new.nvm) c.load.result
    c.load.ensures.same c.load.ensures.err
