use Rattle.std.proofs.Common.{◌+◌, ◌<◌, ℕ, List, length, Option, Some, sym, ◌∙◌, ap, subst, arith}
use Rattle.thy_layout.specs.Files.{blocks_of}
use Rattle.thy_layout.specs.Entries.{Lists}
use Rattle.thy_table.specs.Listing.{Listing, index_of, with_entry}
use Rattle.thy_images.specs.ShadowSlots.{table_in}
use Rattle.thy_shadow_parts.specs.declared.entry.Held.{Held}
use Rattle.thy_shadow_parts.specs.Keys.{number_key}
use Rattle.thy_shadow_parts.specs.Listed.{HoldsMap}
use Rattle.thy_shadow_parts.proofs.StateLemmas.{holds_free, holds_unlisted, holds_put, holds_skip}
use Rattle.thy_shadow_parts.proofs.listing.list_one.Goals as goal

pub put-requires-clause-free : goal.put-requires-clause-free
put-requires-clause-free c =
    let table : List (Option ℕ) = table_in c.args.geometry.now (blocks_of c.args.slot.now) in
    let listed : Lists table c.args.x c.in-Some.q = record { is = sym c.listed_page.ensures ∙ c.in-Some.is } in
    holds_free c.args.x table c.args.pool.now c.requires.before c.args.geometry.now c.requires.map c.in-Some.q listed

pub put-requires-clause-unlisted : goal.put-requires-clause-unlisted
put-requires-clause-unlisted c =
    let table : List (Option ℕ) = table_in c.args.geometry.now (blocks_of c.args.slot.now) in
    ap (λ (e : Held). index_of number_key e.number c.args.pool.now) c.new.ensures
    ∙ holds_unlisted c.args.x table c.args.pool.now c.requires.before

pub returns-in-Some : goal.returns-in-Some
returns-in-Some c =
    let table : List (Option ℕ) = table_in c.args.geometry.now (blocks_of c.args.slot.now) in
    let listed : Lists table c.args.x c.in-Some.q = record { is = sym c.listed_page.ensures ∙ c.in-Some.is } in
    let inside : c.in-Some.q < length c.args.pool.now.entries
    = omega (arith, c.requires.map.in_pool c.args.x c.in-Some.q listed, c.requires.size) in
    subst (λ (t : Listing Held). HoldsMap (c.args.x + 1) table c.args.pool.now t)
    (sym (c.put.ensures ∙ ap (λ (e : Held). with_entry c.in-Some.q (Some e) c.args.pool.now) c.new.ensures))
    (holds_put c.args.x table c.args.pool.now c.requires.before c.args.geometry.now c.requires.map c.in-Some.q listed inside)

pub returns-in-None : goal.returns-in-None
returns-in-None c =
    let table : List (Option ℕ) = table_in c.args.geometry.now (blocks_of c.args.slot.now) in
    holds_skip c.args.x table c.args.pool.now c.requires.before (sym c.listed_page.ensures ∙ c.in-None.is)
