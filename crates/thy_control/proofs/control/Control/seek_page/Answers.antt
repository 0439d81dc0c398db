use Rattle.std.proofs.Common.{unwrap_or, sym, ◌∙◌, ap}
use Rattle.thy_control.specs.Pages.{needs_write, next_page}
use Rattle.thy_control.proofs.CursorLemmas.{next_from-place, NoneBelow-sought}
use Rattle.thy_control.proofs.control.Control.seek_page.Goals as goal

pub invariant_of-self : goal.invariant_of-self
invariant_of-self c =
    let below = c.self.invariant.cursors in
    record {
      tables = c.self.invariant.tables;
      marks = c.self.invariant.marks;
      cursors = record {
        writes = NoneBelow-sought needs_write c.self.inside.ptt c.self.inside.cursors.writes below.writes c.next-next.result c.goes_on-place.result
            (sym c.next-next.ensures.place)
            (c.goes_on-place.ensures ∙ ap (unwrap_or c.next-next.result) c.size.ensures.size);
        copies = below.copies;
        merges = below.merges;
        promotions = below.promotions;
      };
    }

pub returns-clause-place : goal.returns-clause-place
returns-clause-place c =
    c.next-next.ensures.place
    ∙ next_from-place needs_write c.self.inside.ptt c.self.inside.cursors.writes
    c.self.invariant.cursors.writes ∙ ap next_page c.self.view_is
