use Rattle.std.proofs.Common.{◌≡◌, false}
use Rattle.std.proofs.lemmas.Result.{on_err_weaker}
use Rattle.thy_block.specs.Device.{Device}
use Rattle.thy_block.proofs.DeviceLemmas.{counts_once}
use Rattle.thy_control.specs.Rules.{FailsStore}
use Rattle.thy_control.specs.State.{State}
use Rattle.thy_control.proofs.StoreLemmas.{ready-whole, stored_by, up-stored, once_stored, made_by_store}
use Rattle.thy_control.proofs.block_store.ControlBlockStore.store.Goals as goal

pub store-requires-clause-block : goal.store-requires-clause-block
store-requires-clause-block g c =
    (c.blocks_are_works.ensures.works c.args.self.now (g.N.Nvm.device c.args.nvm.now) c.args.b c.requires.inside).inside

pub store-requires-clause-sized : goal.store-requires-clause-sized
store-requires-clause-sized g c = (c.blocks_are_works.ensures.works c.args.self.now (g.N.Nvm.device c.args.nvm.now) c.args.b c.requires.inside).sized

pub store-requires-clause-up : goal.store-requires-clause-up
store-requires-clause-up g c = (ready-whole c.args.self.now (g.N.Nvm.device c.args.nvm.now) c.requires.ready).1

pub store-requires-clause-whole : goal.store-requires-clause-whole
store-requires-clause-whole g c = (ready-whole c.args.self.now (g.N.Nvm.device c.args.nvm.now) c.requires.ready).0

pub returns-clause-ok : goal.returns-clause-ok
returns-clause-ok g c =
    let s : State = c.args.self.now in
    let m : Device = g.N.Nvm.device c.args.nvm.now in
    let works = c.blocks_are_works.ensures.works s m c.args.b c.requires.inside in
    stored_by c.args.b c.args.block.now s m c.store.new.self (g.N.Nvm.device c.store.new.nvm) c.store.result
    c.store.ensures.state c.store.ensures.nvm c.store.ensures.answer c.store.ensures.work works.sized works.up c.requires.room c.store.ensures.stays

pub returns-clause-once : goal.returns-clause-once
returns-clause-once g c =
    let s : State = c.args.self.now in
    let m : Device = g.N.Nvm.device c.args.nvm.now in
    let inside = (c.blocks_are_works.ensures.works s m c.args.b c.requires.inside).inside in
    once_stored c.args.b c.args.block.now s m c.store.new.self (g.N.Nvm.device c.store.new.nvm) c.store.result
    c.store.ensures.state c.store.ensures.nvm c.store.ensures.kept c.store.ensures.err c.recall_tables.ensures inside c.requires.room
    c.store.ensures.free c.store.ensures.frame c.store.ensures.stays

pub returns-clause-cause : goal.returns-clause-cause
returns-clause-cause g c =
    let s : State = c.args.self.now in
    let m : Device = g.N.Nvm.device c.args.nvm.now in
    let n : Device = g.N.Nvm.device c.store.new.nvm in
    let up : m.down ≡ false = (ready-whole s m c.requires.ready).1 in
    counts_once c.store.result m n up
    (up-stored c.args.b c.args.block.now s m n c.store.result c.requires.room up c.store.ensures.nvm)
    (on_err_weaker c.store.result (λ (failed : FailsStore c.args.b c.args.block.now s m n). failed.failed.down) c.store.ensures.err)

pub returns-clause-made : goal.returns-clause-made
returns-clause-made g c =
    made_by_store c.args.b c.args.block.now c.args.self.now (g.N.Nvm.device c.args.nvm.now) c.store.new.self
    (g.N.Nvm.device c.store.new.nvm) c.store.result c.store.ensures.state c.store.ensures.nvm c.store.ensures.answer
