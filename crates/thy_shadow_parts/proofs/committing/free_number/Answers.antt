use Rattle.std.proofs.Common.{sym, ◌∙◌}
use Rattle.thy_shadow_parts.proofs.CommittingLemmas.{freed_found, freed_absent}
use Rattle.thy_shadow_parts.proofs.committing.free_number.Goals as goal

pub returns-in-Some : goal.returns-in-Some
returns-in-Some c =
    c.clear.ensures ∙ freed_found c.args.pool.now c.recall_lists_once.ensures c.args.number c.in-Some.q (sym c.find.ensures.place ∙ c.in-Some.is)

pub returns-in-None : goal.returns-in-None
returns-in-None c = freed_absent c.args.pool.now c.args.number (sym c.find.ensures.place ∙ c.in-None.is)
