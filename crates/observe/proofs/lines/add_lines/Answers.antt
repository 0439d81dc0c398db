use Rattle.std.proofs.Common.{ap, ◌∙◌}
use Rattle.observe.specs.declared.lines.Losses.{Losses}
use Rattle.observe.specs.EventText.{losses_of, stamped}
use Rattle.observe.proofs.lines.add_lines.Goals as goal

pub returns-clause-lines : goal.returns-clause-lines
returns-clause-lines c = c.in_ok-add_cycles.ensures.lines

pub returns-clause-lost : goal.returns-clause-lost
returns-clause-lost c =
    let made = stamped c.args.broken c.args.cycles.now c.args.events.now in
    ap (λ (l : Losses). l.lost) (c.in_ok-add_cycles.ensures.lost ∙ ap (λ (l : Losses). losses_of l made) c.no_losses-losses.ensures)
