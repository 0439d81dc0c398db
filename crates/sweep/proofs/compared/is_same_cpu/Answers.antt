use Rattle.std.proofs.Common.{sym, ◌∙◌}
use Rattle.sweep.proofs.SameLemmas.{same_cpu}
use Rattle.sweep.proofs.compared.is_same_cpu.Goals as goal

pub returns : goal.returns
returns c = λ e. same_cpu c.args.a.now c.args.b.now (sym c.eq.ensures ∙ e)
