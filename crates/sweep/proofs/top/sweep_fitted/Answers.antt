use Rattle.std.proofs.Common.{◌≡◌, ℕ, Bool, refl, ap, subst, inl, inr}
use Rattle.thy_outcome.specs.Kept.{named}
use Rattle.sweep.specs.Concluding.{IsConcluded}
use Rattle.sweep.specs.Kept.{KeepsRows}
use Rattle.sweep.proofs.top.sweep_fitted.Goals as goal

pub returns-in_default-clause-sweeps : goal.returns-in_default-clause-sweeps
returns-in_default-clause-sweeps g c = inl (record { shelf = refl; terminal = refl; says = c.report_short.ensures })

pub returns-in_default-clause-stays : goal.returns-in_default-clause-stays
returns-in_default-clause-stays g c = record { blocks = refl; lent = refl; every = refl }

pub returns-clause-sweeps : goal.returns-clause-sweeps
returns-clause-sweeps g c =
    let x = c.sweep_run-swept.new in
    let limit : c.numbers-limit.result.limit ≡ c.args.plan.now.geometry.limit = ap (λ p. p.limit) c.numbers-limit.ensures.same in
    inr (record {
      account = x.watch.account;
      swept = c.sweep_run-swept.result;
      report = g.R.Sink.stream x.report;
      ran = c.sweep_run-swept.ensures.run;
      rows =
          subst (λ (b : Bool). KeepsRows g.M.Computer.kind c.args.plan.now (g.N.Nvm.device c.args.nvm.now) b c.args.asked.now x.watch.account c.sweep_run-swept.result)
          c.requires.levels c.sweep_run-swept.ensures.rows;
      concluded =
          subst (λ (l : ℕ). IsConcluded c.args.out.now c.args.asked.now (named c.args.source) l x.watch.account c.sweep_run-swept.result (g.H.Shelf.stock c.args.shelf.now) (g.H.Shelf.stock c.conclude.new.shelf) (g.R.Sink.stream x.report) (g.R.Sink.stream c.conclude.new.report) c.conclude.result)
          limit c.conclude.ensures;
    })
