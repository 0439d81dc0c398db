use Rattle.std.proofs.Common.{subst}
use Rattle.thy_block.specs.Device.{Device}
use Rattle.thy_checkpoint.specs.Progress.{Acts}
use Rattle.thy_scheme_parts.specs.Calls.{stored}
use Rattle.thy_thynvm_parts.specs.Design.{thynvm_design, thynvm_parts}
use Rattle.thy_test_support.specs.Waiting.{Waiting}
use Rattle.thy_machine_tests.specs.Calls.{Below, with_below}
use Rattle.thy_machine_tests.proofs.CallLemmas.{acts-over}
use Rattle.thy_machine_tests.proofs.waiting.WaitingScheme.store_block.Goals as goal

pub returns-clause-acts : goal.returns-clause-acts
returns-clause-acts g c =
    let v : Waiting Below = record { below = c.self.inside.below; left = c.self.inside.left } in
    let n : Device = g.N.Nvm.device c.args.nvm.now in
    let m : Device = g.N.Nvm.device c.store_block.new.nvm in
    subst (λ (w : Waiting Below).
    Acts (thynvm_parts.store_action c.args.b c.args.block.now w.below.control) (with_below (stored thynvm_design c.args.b c.args.block.now w.below n) w)
    c.store_block.result w n (with_below c.store_block.new.self v) m) c.self.view_is
    (acts-over (thynvm_parts.store_action c.args.b c.args.block.now v.below.control) (stored thynvm_design c.args.b c.args.block.now v.below n)
    c.store_block.result v n c.store_block.new.self m c.store_block.ensures.acts)
