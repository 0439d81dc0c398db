use Rattle.std.proofs.Common.{◌∙◌, ap, arith}
use Rattle.thy_block.specs.declared.parameters.Parameters.{Parameters}
use Rattle.thy_table.specs.Listing.{index_of}
use Rattle.thy_shadow_parts.specs.declared.entry.Held.{Held}
use Rattle.thy_shadow_parts.specs.Keys.{number_key}
use Rattle.thy_shadow_parts.proofs.StateLemmas.{first_unlisted, first_all}
use Rattle.thy_shadow_parts.proofs.pool.first_pages.Goals as goal

pub put-requires-clause-unlisted : goal.put-requires-clause-unlisted
put-requires-clause-unlisted c =
    ap (λ (e : Held). index_of number_key e.number c.loop-x.pool) c.new.ensures
    ∙ first_unlisted c.args.geometry.now c.loop-x.x c.loop-x.pool c.loop-x.invariant

pub returns : goal.returns
returns c =
    first_all c.args.geometry.now c.loop-x.x c.loop-x.pool c.loop-x.invariant
    (omega (arith, c.loop-x-test.false, ap (λ (p : Parameters). p.pages) c.numbers-pages.ensures.same))
