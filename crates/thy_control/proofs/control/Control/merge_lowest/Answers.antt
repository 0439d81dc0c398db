use Rattle.std.proofs.Common.{◌≡◌, false, sym, ◌∙◌, ap, subst}
use Rattle.thy_control.specs.State.{State}
use Rattle.thy_control.specs.Copies.{block_listed}
use Rattle.thy_control.proofs.MergeLemmas.{IsOverlay-entry, IsOverlay}
use Rattle.thy_control.proofs.StateLemmas.{subst_two}
use Rattle.thy_control.proofs.control.Control.merge_lowest.Goals as goal

pub merge_block-requires : goal.merge_block-requires
merge_block-requires c =
    let s : State = c.args.self.now in
    let same = sym c.seek_overlay.ensures.same in
    let next = IsOverlay-entry s c.recall_tables.ensures c.in-Some.i
    (sym c.seek_overlay.ensures.place ∙ c.in-Some.is) in
    let block = c.block_at-b.ensures ∙ ap (block_listed c.in-Some.i) c.seek_overlay.ensures.same in
    let due = subst_two IsOverlay c.seek_overlay.ensures.same block next in
    record {
      block = due.inside;
      idle = subst (λ (t : State). t.under_way ≡ false) same c.requires.idle;
      framed = due.framed;
      work = due.over;
    }
