use Rattle.std.proofs.Common.{refl, sym, ◌∙◌, inl, inr}
use Rattle.std.specs.Prelude.{codes}
use Rattle.sweep.specs.Concluding.{value_line}
use Rattle.sweep.proofs.SweptLemmas.{says_line}
use Rattle.sweep.proofs.concluding.conclude.Goals as goal

pub returns-then-before : goal.returns-then-before
returns-then-before g c =
    inl (record {
      before = sym c.ends_before-before.ensures ∙ c.if-before.true;
      shelf = refl;
      says = says_line (value_line (codes "from") c.args.asked.now.from) _ _ _ c.refuse_asked.ensures;
    })

pub returns : goal.returns
returns g c =
    inr (record {
      before = sym c.ends_before-before.ensures ∙ c.if-before.false;
      closed = c.close_sweep-closed.result;
      middle = g.R.Sink.stream c.close_sweep-closed.new.report;
      closes = c.close_sweep-closed.ensures;
      puts = c.put_out.ensures;
    })
