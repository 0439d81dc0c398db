use Rattle.std.proofs.Common.{sym, ◌∙◌, ap}
use Rattle.thy_hart.specs.HartState.{HartState}
use Rattle.thy_hart.proofs.hart.Hart.is_alone.Goals as goal

pub returns : goal.returns
returns c = λ yes. sym (ap (λ (h : HartState). h.cpu.other) c.self.view_is) ∙ c.is_alone.ensures.alone yes
