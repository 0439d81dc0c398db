use Rattle.thy_observe.proofs.CauseLemmas.{causes-agree}
use Rattle.thy_observe.proofs.causes.causes_agree_with_kinds.Goals as goal

pub returns : goal.returns
returns g = causes-agree
