use Rattle.std.proofs.Common.{sym, subst}
use Rattle.sweep.specs.declared.account.Account.{Account}
use Rattle.sweep.specs.Still.{IsLooked}
use Rattle.sweep.proofs.running.Watch.pass.Goals as goal

pub returns-clause-looked : goal.returns-clause-looked
returns-clause-looked g c =
    subst (λ (x : Account). IsLooked c.args.self.now.account.kept x.kept (g.N.Nvm.device c.args.nvm.now)) (sym c.follow.ensures.account) c.look.ensures.looked
