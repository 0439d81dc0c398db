use Rattle.std.proofs.Common.{refl, sym, ◌∙◌}
use Rattle.observe.proofs.PuttingLemmas.{IsLacking-memory, IsLacking-nothing}
use Rattle.observe.proofs.top.lack.Goals as goal

pub returns-then-not-counts : goal.returns-then-not-counts
returns-then-not-counts g c = IsLacking-nothing c.args.options _ _ c.args.status _ (sym c.counts.ensures ∙ c.if-not-counts.true) refl refl

pub returns : goal.returns
returns g c =
    IsLacking-memory c.args.options _ _ c.args.status _ (sym c.counts.ensures ∙ c.if-not-counts.false) (c.close.result, c.close.ensures) refl
