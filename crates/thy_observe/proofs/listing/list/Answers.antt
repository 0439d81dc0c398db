use Rattle.std.proofs.Common.{Option, Vec, Global, subst}
use Rattle.thy_observe.specs.declared.listing.Call.{Call}
use Rattle.thy_observe.specs.Listed.{Lists}
use Rattle.thy_observe.proofs.listing.list.Goals as goal

pub returns : goal.returns
returns c = subst (λ (o : Option (Vec Call Global)). Lists c.args.call o c.listed_with.result) c.take.ensures.value c.listed_with.ensures
