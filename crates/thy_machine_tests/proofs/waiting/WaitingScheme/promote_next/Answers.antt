use Rattle.std.proofs.Common.{subst}
use Rattle.thy_block.specs.Device.{Device}
use Rattle.thy_scheme_parts.specs.Calls.{Promotes, promoted}
use Rattle.thy_thynvm_parts.specs.Design.{thynvm_design}
use Rattle.thy_test_support.specs.Waiting.{Waiting}
use Rattle.thy_machine_tests.specs.Calls.{Below, with_below}
use Rattle.thy_machine_tests.proofs.CallLemmas.{makes-over}
use Rattle.thy_machine_tests.proofs.waiting.WaitingScheme.promote_next.Goals as goal

pub returns-clause-promotes : goal.returns-clause-promotes
returns-clause-promotes g c =
    let v : Waiting Below = record { below = c.self.inside.below; left = c.self.inside.left } in
    let n : Device = g.N.Nvm.device c.args.nvm.now in
    subst (λ (w : Waiting Below). Promotes (with_below (promoted thynvm_design w.below n) w) c.promote_next.result w (with_below c.promote_next.new.self v))
    c.self.view_is
    (makes-over (promoted thynvm_design v.below n) c.promote_next.result v c.promote_next.new.self c.promote_next.ensures.promotes)
