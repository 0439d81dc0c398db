use Rattle.std.proofs.Common.{subst}
use Rattle.thy_computer.specs.Kind.{ShowsLoading}
use Rattle.thy_scheme.specs.Kind.{kind_over}
use Rattle.thy_scheme.specs.Machine.{Machine}
use Rattle.thy_core.proofs.machine.Machine.loading.Goals as goal

pub returns : goal.returns
returns g c = subst (λ (m : Machine g.row.S.Denot). ShowsLoading (kind_over g.S.Scheme.scheme) m c.is_loading.result)
    c.self.view_is c.is_loading.ensures
