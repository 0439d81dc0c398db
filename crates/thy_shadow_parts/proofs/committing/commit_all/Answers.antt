use Rattle.std.proofs.Common.{◌+◌, sym, ◌∙◌, ap}
use Rattle.thy_table.specs.Listing.{Listing, entry_at}
use Rattle.thy_shadow_parts.specs.declared.entry.Held.{Held}
use Rattle.thy_shadow_parts.specs.Commit.{moved_by}
use Rattle.thy_shadow_parts.proofs.CommittingLemmas.{committed_none, committed_step}
use Rattle.thy_shadow_parts.proofs.committing.commit_all.Goals as goal

pub loop-j-init : goal.loop-j-init
loop-j-init c = sym (committed_none c.args.geometry.now c.args.frames.now c.args.pool.now)

pub loop-j-preserved : goal.loop-j-preserved
loop-j-preserved c =
    c.commit_one.ensures
    ∙ ap (λ (t : Listing Held). moved_by (entry_at c.args.frames.now c.loop-j.j) (c.args.geometry.now.pages + c.loop-j.j) t)
    c.loop-j.invariant
    ∙ committed_step c.args.geometry.now c.args.frames.now c.args.pool.now c.recall_lists_once.ensures c.requires.pages
    c.recall_lists_once-2.ensures c.requires.claimed c.loop-j.j
