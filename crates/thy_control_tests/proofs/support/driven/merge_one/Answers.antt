use Rattle.std.proofs.Common.{◌∙◌, ap}
use Rattle.thy_control.specs.Merges.{next_merge}
use Rattle.thy_control.specs.State.{State}
use Rattle.thy_control_tests.proofs.DrivenLemmas.{way-merge}
use Rattle.thy_control_tests.proofs.support.driven.merge_one.Goals as goal

pub returns-clause-idle : goal.returns-clause-idle
returns-clause-idle g c =
    let s : State = c.args.control.now in
    ap (λ (t : State). t.under_way) c.merge_one.ensures.state ∙ way-merge (next_merge s) s ∙ c.requires.idle
