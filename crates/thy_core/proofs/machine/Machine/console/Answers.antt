use Rattle.std.proofs.Common.{subst}
use Rattle.thy_computer.specs.Kind.{ShowsConsole, LeavesAlonePast}
use Rattle.thy_scheme.specs.Kind.{kind_over}
use Rattle.thy_scheme.specs.Machine.{Machine}
use Rattle.thy_core.specs.Reading.{ShowsNone}
use Rattle.thy_core.proofs.machine.Machine.console.Goals as goal

pub returns-clause-console : goal.returns-clause-console
returns-clause-console g c =
    subst (λ (m : Machine g.row.S.Denot). ShowsConsole (kind_over g.S.Scheme.scheme) c.args.from m (g.N.Nvm.device c.args.nvm.now) c.console.result)
    c.self.view_is c.console.ensures.console

pub returns-clause-past : goal.returns-clause-past
returns-clause-past g c =
    subst (λ (m : Machine g.row.S.Denot). LeavesAlonePast (kind_over g.S.Scheme.scheme) c.args.from m (g.N.Nvm.device c.args.nvm.now)
    (g.N.Nvm.device c.console.new.nvm) c.console.result) c.self.view_is c.console.ensures.past

pub returns-clause-booting : goal.returns-clause-booting
returns-clause-booting g c = subst (λ (m : Machine g.row.S.Denot). ShowsNone m c.console.result) c.self.view_is c.console.ensures.booting
