use Rattle.std.proofs.Common.{◌≡◌, ℕ, false, Option, Some, OnErr, sym, ◌∙◌, ap, subst}
use Rattle.thy_table.specs.Places.{in_dram}
use Rattle.thy_table.specs.Cells.{work}
use Rattle.thy_control.specs.State.{State, IsSized, cell_of}
use Rattle.thy_control.specs.Promotions.{next_promotion, block_to_fill, ReadsNvm}
use Rattle.thy_control.proofs.FillLemmas.{IsFill-entry, IsFill}
use Rattle.thy_control.proofs.StateLemmas.{subst_two}
use Rattle.thy_control.proofs.control.Control.fill_lowest.Goals as goal

pub fill_block-requires : goal.fill_block-requires
fill_block-requires g c =
    let s : State = c.args.self.now in
    let same = sym c.seek_promotion.ensures.same in
    let next = IsFill-entry s c.recall_tables.ensures c.in-Some.j
    (sym c.seek_promotion.ensures.place ∙ c.in-Some.is) in
    let block = c.block_unfilled-b.ensures
    ∙ ap (block_to_fill c.in-Some.j) c.seek_promotion.ensures.same in
    let due = subst_two IsFill c.seek_promotion.ensures.same block next in
    record {
      block = due.inside;
      fresh = due.fresh;
      unframed = due.bare;
      due = due.due;
      sized = subst (λ (t : State). IsSized t (g.N.Nvm.device c.args.nvm.now)) same
          c.requires.sized;
      up = c.requires.up;
    }

pub returns-in-Some-clause-side : goal.returns-in-Some-clause-side
returns-in-Some-clause-side g c =
    let s : State = c.args.self.now in
    let next : next_promotion s ≡ Some c.in-Some.j = sym c.seek_promotion.ensures.place ∙ c.in-Some.is in
    let block : c.block_unfilled-b.result ≡ block_to_fill c.in-Some.j s =
    c.block_unfilled-b.ensures ∙ ap (block_to_fill c.in-Some.j) c.seek_promotion.ensures.same in
    subst (λ (o : Option ℕ). OnErr c.fill_block.result (ReadsNvm o s)) (sym next)
    (subst (λ (b : ℕ). OnErr c.fill_block.result (in_dram (work (cell_of s b)) ≡ false)) block
    (subst (λ (t : State). OnErr c.fill_block.result (in_dram (work (cell_of t c.block_unfilled-b.result)) ≡ false)) c.seek_promotion.ensures.same c.fill_block.ensures.side))
