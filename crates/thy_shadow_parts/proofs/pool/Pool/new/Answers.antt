use Rattle.std.proofs.Common.{None, ◌∙◌, ap, subst}
use Rattle.thy_block.specs.declared.parameters.Parameters.{Parameters}
use Rattle.thy_table.specs.Listing.{Listing, IsListing, empty_table}
use Rattle.thy_shadow_parts.specs.declared.entry.Framed.{Framed}
use Rattle.thy_shadow_parts.specs.declared.entry.Held.{Held}
use Rattle.thy_shadow_parts.specs.Keys.{number_key, page_key}
use Rattle.thy_shadow_parts.specs.State.{state_in, IsSoundState}
use Rattle.thy_shadow_parts.proofs.StateLemmas.{IsSoundState-new}
use Rattle.thy_shadow_parts.proofs.pool.Pool.new.Goals as goal

pub invariant_of-result : goal.invariant_of-result
invariant_of-result c =
    let p : Parameters = c.args.geometry.now in
    let pool = c.first_pages.ensures in
    let frames = c.in_ok-frames.ensures ∙ ap (λ (q : Parameters). empty_table {E = Framed} q.ptt q.pages) c.numbers-numbers.ensures.same in
    coe 1 0 (i. IsSoundState (state_in p (pool i) (frames i) None c.args.dram))
    (IsSoundState-new p c.args.dram c.numbers-numbers.ensures.in_range c.requires
    (subst (λ (t : Listing Held). IsListing number_key t) pool c.recall_lists_once.ensures)
    (subst (λ (t : Listing Framed). IsListing page_key t) frames c.recall_lists_once-2.ensures))
