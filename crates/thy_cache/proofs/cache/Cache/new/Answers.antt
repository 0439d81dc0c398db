use Rattle.std.proofs.Common.{List, ap, ◌∙◌}
use Rattle.thy_cache.specs.Ways.{Ways}
use Rattle.thy_cache.specs.Contents.{Contents}
use Rattle.thy_cache.specs.Flat.{flat}
use Rattle.thy_cache.proofs.FlushLaws.{empty-flat}
use Rattle.thy_cache.proofs.SizeLaws.{IsSized-empty}
use Rattle.thy_cache.proofs.cache.Cache.new.Goals as goal

pub returns-clause-flat : goal.returns-clause-flat
returns-clause-flat c =
    let with_sets : List Ways → Contents = λ sets. record { sets = sets } in
    λ blocks. ap (λ (sets : List Ways). flat (with_sets sets) blocks) c.in_ok-sets.ensures ∙ empty-flat c.args.sets c.args.ways blocks

pub returns-clause-sized : goal.returns-clause-sized
returns-clause-sized c = rw c.in_ok-sets.ensures (IsSized-empty c.args.sets c.args.ways)
