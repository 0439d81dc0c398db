use Rattle.thy_layout.proofs.LayoutLemmas.{decode_by-copy, looked_by-copy}
use Rattle.thy_layout.proofs.LookedLemmas.{nothing_looked}
use Rattle.thy_layout.proofs.laws.copies_mean_the_same.Goals as goal

pub returns-clause-means : goal.returns-clause-means
returns-clause-means c = decode_by-copy

pub returns-clause-looked : goal.returns-clause-looked
returns-clause-looked c = looked_by-copy

pub returns-clause-nothing : goal.returns-clause-nothing
returns-clause-nothing c = nothing_looked
