use Rattle.std.proofs.Common.{◌∙◌, sym, arith}
use Rattle.thy_observe.proofs.ReplayLemmas.{stepped_by-second}
use Rattle.thy_observe.proofs.replay.step.Goals as goal

pub returns-else-hart-eq0 : goal.returns-else-hart-eq0
returns-else-hart-eq0 c = c.step_of-else-hart-eq0.ensures ∙ sym (stepped_by-second c.args.hart c.args.plain.now (omega arith))
