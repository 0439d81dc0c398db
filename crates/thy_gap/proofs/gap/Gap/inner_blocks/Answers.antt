use Rattle.std.proofs.Common.{◌+◌, sym, ap}
use Rattle.thy_gap.proofs.SeenLemmas.{length-unmap}
use Rattle.thy_gap.proofs.gap.Gap.inner_blocks.Goals as goal

pub returns : goal.returns
returns g c = rw (sym c.self.view_is) (ap (λ k. k + 2) (sym (length-unmap c.self.inside.registers (g.N.Nvm.device c.self.inside.inner).image)))
