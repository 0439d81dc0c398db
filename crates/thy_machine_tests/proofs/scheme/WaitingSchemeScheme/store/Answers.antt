use Rattle.thy_block.specs.Device.{Device}
use Rattle.thy_scheme_parts.specs.Calls.{stored}
use Rattle.thy_scheme_parts.specs.Storing.{CanStore}
use Rattle.thy_thynvm_parts.specs.Design.{thynvm_design, thynvm_parts}
use Rattle.thy_test_support.specs.Waiting.{Waiting}
use Rattle.thy_composed_scheme.proofs.CallLemmas.{made_then}
use Rattle.thy_machine_tests.specs.Calls.{Below, waiting_scheme, with_below}
use Rattle.thy_machine_tests.proofs.CallLemmas.{block-held, down-then, stores-once, stores-then, up-then}
use Rattle.thy_machine_tests.proofs.scheme.WaitingSchemeScheme.store.Goals as goal

pub store_block-requires : goal.store_block-requires
store_block-requires g c = record { sound = c.recall_sound.ensures; inside = c.requires.inside; ready = c.requires.ready; room = c.requires.room }

pub returns-clause-ok : goal.returns-clause-ok
returns-clause-ok g c =
    let w : Waiting Below = c.args.self.now in
    let n : Device = g.N.Nvm.device c.args.nvm.now in
    let can : CanStore thynvm_design c.args.b w.below.control n
    = record { sound = c.recall_sound.ensures; inside = c.requires.inside; ready = c.requires.ready; room = c.requires.room } in
    stores-then c.args.b c.args.block.now w c.store_block.new.self n (g.N.Nvm.device c.store_block.new.nvm) can c.store_block.result
    c.store_block.ensures.answer c.store_block.ensures.acts

pub returns-clause-up : goal.returns-clause-up
returns-clause-up g c =
    let w : Waiting Below = c.args.self.now in
    let n : Device = g.N.Nvm.device c.args.nvm.now in
    up-then (thynvm_parts.store_action c.args.b c.args.block.now w.below.control)
    (with_below (stored thynvm_design c.args.b c.args.block.now w.below n) w) c.store_block.result w n c.store_block.new.self
    (g.N.Nvm.device c.store_block.new.nvm) (block-held w n c.args.b c.requires.inside).up c.store_block.ensures.acts

pub returns-clause-err : goal.returns-clause-err
returns-clause-err g c =
    let w : Waiting Below = c.args.self.now in
    let n : Device = g.N.Nvm.device c.args.nvm.now in
    down-then (thynvm_parts.store_action c.args.b c.args.block.now w.below.control)
    (with_below (stored thynvm_design c.args.b c.args.block.now w.below n) w) c.store_block.result w n c.store_block.new.self
    (g.N.Nvm.device c.store_block.new.nvm) c.store_block.ensures.acts

pub returns-clause-once : goal.returns-clause-once
returns-clause-once g c =
    let w : Waiting Below = c.args.self.now in
    let n : Device = g.N.Nvm.device c.args.nvm.now in
    let can : CanStore thynvm_design c.args.b w.below.control n
    = record { sound = c.recall_sound.ensures; inside = c.requires.inside; ready = c.requires.ready; room = c.requires.room } in
    stores-once c.args.b c.args.block.now w c.store_block.new.self n (g.N.Nvm.device c.store_block.new.nvm) can c.store_block.result
    c.store_block.ensures.acts

pub returns-clause-exact : goal.returns-clause-exact
returns-clause-exact g c =
    let w : Waiting Below = c.args.self.now in
    let n : Device = g.N.Nvm.device c.args.nvm.now in
    made_then (waiting_scheme.calls.store c.args.b c.args.block.now w n) w c.store_block.new.self n (g.N.Nvm.device c.store_block.new.nvm)
    c.store_block.result c.store_block.ensures.answer c.store_block.ensures.acts
