use Rattle.std.proofs.Common.{ap, ◌∙◌}
use Rattle.std.proofs.lemmas.Result.{IfOk-weaker}
use Rattle.thy_isa.specs.Step.{state_of}
use Rattle.thy_plain.specs.Machine.{in_state}
use Rattle.thy_observe.proofs.ReplayLemmas.{plain-none}
use Rattle.thy_observe.proofs.replay.at_start.Goals as goal

pub returns : goal.returns
returns c =
    let p = c.args.geometry.now in
    let start = c.args.start.now in
    IfOk-weaker c.in_state.result _ _ (λ m h. h ∙ ap (in_state p (state_of start.state)) c.in_ok-input.ensures ∙ plain-none p start) c.in_state.ensures
