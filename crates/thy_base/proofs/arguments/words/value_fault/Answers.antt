use Rattle.std.proofs.Common.{◌∙◌, ap}
use Rattle.std.specs.Option.{option_or}
use Rattle.thy_base.specs.Config.{fault_of}
use Rattle.thy_base.proofs.arguments.words.value_fault.Goals as goal

pub returns-in-None : goal.returns-in-None
returns-in-None c = c.first_fault.ensures.fault ∙ ap (λ o. option_or o (fault_of c.args.values.now.config)) c.in-None.ensures

pub returns-in-Some : goal.returns-in-Some
returns-in-Some c = ap (λ o. option_or o (fault_of c.args.values.now.config)) c.in-Some.ensures
