use Rattle.std.proofs.Common.{ap, ◌∙◌}
use Rattle.thy_isa.specs.declared.state.CpuState.{CpuState}
use Rattle.thy_isa.proofs.ProcessorLaws.{alone-first}
use Rattle.thy_isa.proofs.processor.fronted.Fronted.pc.Goals as goal

pub seat-hart-requires : goal.seat-hart-requires
seat-hart-requires c = λ yes.
    alone-first c.self.inside.hart c.self.inside.processor.harts c.self.invariant.0 (ap (λ (x : CpuState). x.other) c.self.view_is ∙ c.requires yes)
