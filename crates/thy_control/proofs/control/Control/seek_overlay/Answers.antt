use Rattle.std.proofs.Common.{unwrap_or, sym, ◌∙◌, ap}
use Rattle.thy_control.specs.Overlay.{is_overlaid}
use Rattle.thy_control.specs.Merges.{next_merge}
use Rattle.thy_control.proofs.CursorLemmas.{next_from-place, NoneBelow-sought}
use Rattle.thy_control.proofs.control.Control.seek_overlay.Goals as goal

pub invariant_of-self : goal.invariant_of-self
invariant_of-self c =
    let below = c.self.invariant.cursors in
    record {
      tables = c.self.invariant.tables;
      marks = c.self.invariant.marks;
      cursors = record {
        merges = NoneBelow-sought (is_overlaid c.self.inside.ptt) c.self.inside.btt c.self.inside.cursors.merges below.merges
            c.next-next.result c.goes_on-place.result
            (sym c.next-next.ensures.place)
            (c.goes_on-place.ensures ∙ ap (unwrap_or c.next-next.result) c.size.ensures.size);
        copies = below.copies;
        writes = below.writes;
        promotions = below.promotions;
      };
    }

pub returns-clause-place : goal.returns-clause-place
returns-clause-place c =
    c.next-next.ensures.place
    ∙ next_from-place (is_overlaid c.self.inside.ptt) c.self.inside.btt c.self.inside.cursors.merges
    c.self.invariant.cursors.merges ∙ ap next_merge c.self.view_is
