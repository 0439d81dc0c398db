use Rattle.std.proofs.Common.{ℕ, List, Option, sym, ap, subst, arith}
use Rattle.thy_block.specs.declared.parameters.Parameters.{Parameters}
use Rattle.thy_layout.specs.Files.{blocks_of}
use Rattle.thy_table.specs.Listing.{Listing}
use Rattle.thy_images.specs.ShadowSlots.{table_in}
use Rattle.thy_shadow_parts.specs.declared.entry.Held.{Held}
use Rattle.thy_shadow_parts.specs.Listed.{HoldsMap}
use Rattle.thy_shadow_parts.proofs.StateLemmas.{holds_none, holds_here, holds_since, holds_all}
use Rattle.thy_shadow_parts.proofs.listing.list_all.Goals as goal

pub loop-x-init : goal.loop-x-init
loop-x-init c =
    let table : List (Option ℕ) = table_in c.args.geometry.now (blocks_of c.args.slot.now) in
    let free : HoldsMap 0 table c.args.pool.now c.map_entries.new.self
    = subst (λ (t : Listing Held). HoldsMap 0 table c.args.pool.now t) (sym c.map_entries.ensures) (holds_none table c.args.pool.now) in
    holds_here 0 table c.args.pool.now c.map_entries.new.self free

pub returns : goal.returns
returns c =
    let table : List (Option ℕ) = table_in c.args.geometry.now (blocks_of c.args.slot.now) in
    let free : HoldsMap 0 table c.args.pool.now c.map_entries.new.self
    = subst (λ (t : Listing Held). HoldsMap 0 table c.args.pool.now t) (sym c.map_entries.ensures) (holds_none table c.args.pool.now) in
    holds_all c.loop-x.x c.args.geometry.now table c.args.pool.now c.loop-x.pool c.requires.map
    (omega (arith, c.loop-x-test.false, ap (λ (p : Parameters). p.pages) c.numbers-pages.ensures.same))
    (holds_since 0 table c.args.pool.now c.map_entries.new.self free c.loop-x.x c.loop-x.pool c.loop-x.invariant)
