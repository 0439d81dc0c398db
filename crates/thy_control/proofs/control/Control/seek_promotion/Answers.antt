use Rattle.std.proofs.Common.{unwrap_or, sym, ◌∙◌, ap}
use Rattle.thy_control.specs.Holding.{is_promoted}
use Rattle.thy_control.specs.Promotions.{next_promotion}
use Rattle.thy_control.proofs.CursorLemmas.{next_from-place, NoneBelow-sought}
use Rattle.thy_control.proofs.control.Control.seek_promotion.Goals as goal

pub invariant_of-self : goal.invariant_of-self
invariant_of-self c =
    let below = c.self.invariant.cursors in
    record {
      tables = c.self.invariant.tables;
      marks = c.self.invariant.marks;
      cursors = record {
        promotions = NoneBelow-sought is_promoted c.self.inside.ptt c.self.inside.cursors.promotions below.promotions
            c.next-next.result c.goes_on-place.result
            (sym c.next-next.ensures.place)
            (c.goes_on-place.ensures ∙ ap (unwrap_or c.next-next.result) c.size.ensures.size);
        copies = below.copies;
        writes = below.writes;
        merges = below.merges;
      };
    }

pub returns-clause-place : goal.returns-clause-place
returns-clause-place c =
    c.next-next.ensures.place
    ∙ next_from-place is_promoted c.self.inside.ptt c.self.inside.cursors.promotions
    c.self.invariant.cursors.promotions ∙ ap next_promotion c.self.view_is
