use Rattle.std.proofs.Common.{sym, ap, ◌∙◌}
use Rattle.observe.specs.Observing.{is_refused_by}
use Rattle.observe.proofs.top.command_of.Goals as goal

pub returns-then-refused : goal.returns-then-refused
returns-then-refused c = record {
  free = tt;
  asked = tt;
  known = tt;
  refused = ap (is_refused_by c.args.options c.args.out.now) c.in-Ok.ensures.exact ∙ sym c.is_refused-refused.ensures ∙ c.if-refused.true;
}
