use Rattle.std.proofs.Common.{unwrap_or, sym, ◌∙◌, ap}
use Rattle.thy_control.specs.Copies.{needs_copy, next_copy}
use Rattle.thy_control.proofs.CursorLemmas.{next_from-place, NoneBelow-sought}
use Rattle.thy_control.proofs.control.Control.seek_copy.Goals as goal

pub invariant_of-self : goal.invariant_of-self
invariant_of-self c =
    let below = c.self.invariant.cursors in
    record {
      tables = c.self.invariant.tables;
      marks = c.self.invariant.marks;
      cursors = record {
        copies = NoneBelow-sought needs_copy c.self.inside.btt c.self.inside.cursors.copies below.copies c.next-next.result c.goes_on-place.result
            (sym c.next-next.ensures.place)
            (c.goes_on-place.ensures ∙ ap (unwrap_or c.next-next.result) c.size.ensures.size);
        writes = below.writes;
        merges = below.merges;
        promotions = below.promotions;
      };
    }

pub returns-clause-place : goal.returns-clause-place
returns-clause-place c =
    c.next-next.ensures.place
    ∙ next_from-place needs_copy c.self.inside.btt c.self.inside.cursors.copies
    c.self.invariant.cursors.copies ∙ ap next_copy c.self.view_is
