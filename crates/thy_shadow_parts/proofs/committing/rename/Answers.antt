use Rattle.std.proofs.Common.{Some, None, sym, ◌∙◌, ap}
use Rattle.thy_table.specs.Listing.{Listing, index_of, with_entry}
use Rattle.thy_shadow_parts.specs.declared.entry.Held.{Held}
use Rattle.thy_shadow_parts.specs.Keys.{number_key, held}
use Rattle.thy_shadow_parts.proofs.CommittingLemmas.{renamed_found, renamed_absent, unlisted_cleared}
use Rattle.thy_shadow_parts.proofs.committing.rename.Goals as goal

pub put-requires-clause-unlisted : goal.put-requires-clause-unlisted
put-requires-clause-unlisted c =
    ap (λ (t : Listing Held). index_of number_key c.new.result.number t) c.clear.ensures
    ∙ ap (λ (e : Held). index_of number_key e.number (with_entry c.in-Some.q None c.args.pool.now)) c.new.ensures
    ∙ unlisted_cleared c.args.pool.now c.in-Some.q c.args.page c.in-Some.ensures.inside c.requires.unlisted

pub returns-in-Some : goal.returns-in-Some
returns-in-Some c =
    c.put.ensures
    ∙ ap (λ (e : Held). with_entry c.in-Some.q (Some e) c.clear.new.self) c.new.ensures
    ∙ ap (λ (t : Listing Held). with_entry c.in-Some.q (Some (held c.args.page)) t) c.clear.ensures
    ∙ renamed_found c.args.pool.now c.recall_lists_once.ensures c.args.number c.in-Some.q (sym c.find.ensures.place ∙ c.in-Some.is) c.args.page

pub returns-in-None : goal.returns-in-None
returns-in-None c = renamed_absent c.args.pool.now c.args.number c.args.page (sym c.find.ensures.place ∙ c.in-None.is)
