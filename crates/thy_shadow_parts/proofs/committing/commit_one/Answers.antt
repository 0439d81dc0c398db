use Rattle.std.proofs.Common.{◌≡◌, ◌+◌, Option, Some, sym, ◌∙◌, ap, arith}
use Rattle.thy_block.specs.declared.parameters.Parameters.{Parameters}
use Rattle.thy_table.specs.Listing.{Listing, entry_at, index_of}
use Rattle.thy_shadow_parts.specs.declared.entry.Framed.{Framed}
use Rattle.thy_shadow_parts.specs.declared.entry.Held.{Held}
use Rattle.thy_shadow_parts.specs.Commit.{freed, renamed, moved_by}
use Rattle.thy_shadow_parts.specs.Keys.{number_key}
use Rattle.thy_shadow_parts.proofs.CommitLemmas.{framed_lists}
use Rattle.thy_shadow_parts.proofs.CommittingLemmas.{index_of-freed}
use Rattle.thy_shadow_parts.proofs.committing.commit_one.Goals as goal

pub rename-requires-clause-unlisted : goal.rename-requires-clause-unlisted
rename-requires-clause-unlisted c =
    ap (λ (t : Listing Held). index_of number_key c.in-Some.frame.page t) c.free_number.ensures
    ∙ index_of-freed c.in-Some.frame.page c.args.pool.now

pub rename-requires-clause-inside : goal.rename-requires-clause-inside
rename-requires-clause-inside c =
    let full : entry_at c.args.frames.now c.args.j ≡ Some c.in-Some.frame = sym c.entry.ensures ∙ c.in-Some.is in
    let page = c.recall_lists_once.ensures.inside c.args.j c.in-Some.frame.page
    (framed_lists c.in-Some.frame.page (entry_at c.args.frames.now c.args.j) full) in
    omega (arith, page, c.requires.pages, c.requires.numbers, ap (λ (t : Listing Held). t.numbers) c.free_number.ensures)

pub returns-in-Some : goal.returns-in-Some
returns-in-Some c =
    let full : entry_at c.args.frames.now c.args.j ≡ Some c.in-Some.frame = sym c.entry.ensures ∙ c.in-Some.is in
    c.rename.ensures
    ∙ ap (λ (t : Listing Held). renamed (c.numbers.result.pages + c.args.j) c.in-Some.frame.page t) c.free_number.ensures
    ∙ ap (λ (p : Parameters). renamed (p.pages + c.args.j) c.in-Some.frame.page (freed c.in-Some.frame.page c.args.pool.now))
    c.numbers.ensures.same
    ∙ sym (ap (λ (o : Option Framed). moved_by o (c.args.geometry.now.pages + c.args.j) c.args.pool.now) full)
