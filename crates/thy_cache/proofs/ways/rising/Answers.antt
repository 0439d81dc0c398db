use Rattle.std.proofs.Common.{◌∙◌, ◌++◌, [], ◌∷◌, ap, sym}
use Rattle.thy_cache.proofs.WaysLemmas.{range_with_len_more}
use Rattle.thy_cache.proofs.ways.rising.Goals as goal

pub loop-way-preserved : goal.loop-way-preserved
loop-way-preserved c = c.in_ok-push.ensures.items ∙ ap (λ xs. xs ++ c.loop-way.way ∷ []) c.loop-way.invariant
    ∙ sym (range_with_len_more c.loop-way.way)
