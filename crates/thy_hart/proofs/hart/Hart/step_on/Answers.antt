use Rattle.std.proofs.Common.{◌∙◌, ap, subst}
use Rattle.thy_hart.specs.Outcomes.{given}
use Rattle.thy_hart.specs.HartState.{HartState, IsSoundHart}
use Rattle.thy_hart.specs.InHand.{hart_state_of}
use Rattle.thy_hart.specs.MicroSteps.{ActsAll}
use Rattle.thy_hart.specs.Rows.{moved_then}
use Rattle.thy_hart.proofs.RowLemmas.{Takes-acted}
use Rattle.thy_hart.proofs.hart.Hart.step_on.Goals as goal

pub returns-clause-takes : goal.returns-clause-takes
returns-clause-takes g c = λ held ready free.
    let h : HartState = c.args.self.now in
    let k : HartState = hart_state_of c.act_in_row.new.self in
    let t = given c.args.input.now c.args.free c.args.under_way in
    let steps = moved_then c.act_in_row.result.0 c.act_in_row.result.1 in
    let sound : IsSoundHart h = subst IsSoundHart c.self.view_is c.self.invariant.hart in
    let acts = subst (λ x. ActsAll t c.args.cache.now x steps c.act_in_row.new.cache k) c.self.view_is c.act_in_row.ensures.acts in
    Takes-acted t held free steps c.args.cache.now c.act_in_row.new.cache h k sound ready acts

pub returns-clause-left : goal.returns-clause-left
returns-clause-left g c = λ none.
    let left = c.act_in_row.ensures.left none in
    (left.0, left.1 ∙ c.self.view_is, left.2)

pub act_in_row-requires-clause-alone : goal.act_in_row-requires-clause-alone
act_in_row-requires-clause-alone g c = λ yes. ap (λ (h : HartState). h.cpu.other) c.self.view_is ∙ c.requires.alone yes
