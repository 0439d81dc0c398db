use Rattle.std.proofs.Common.{rules}
use Rattle.thy_isa.specs.Step.{served}
use Rattle.thy_isa.proofs.step.serve.Goals as goal

pub returns-in-Answer : goal.returns-in-Answer
unfolding served
returns-in-Answer c = search rules
