use Rattle.std.proofs.Common.{nat_lt, ap, sym, ◌∙◌}
use Rattle.thy_isa.specs.declared.state.CpuState.{CpuState}
use Rattle.thy_isa.proofs.ProcessorLaws.{alone-few, few-alone}
use Rattle.thy_isa.proofs.processor.fronted.Fronted.is_alone.Goals as goal

pub returns-clause-alone : goal.returns-clause-alone
returns-clause-alone c = λ yes.
    sym (ap (λ (x : CpuState). x.other) c.self.view_is)
    ∙ alone-few c.self.inside.hart c.self.inside.processor.harts c.self.invariant.0 c.self.invariant.1
    (sym (ap (λ n. nat_lt n 2) c.harts.ensures) ∙ yes)

pub returns-clause-beside : goal.returns-clause-beside
returns-clause-beside c = λ none.
    ap (λ n. nat_lt n 2) c.harts.ensures
    ∙ few-alone c.self.inside.hart c.self.inside.processor.harts c.self.invariant.0 c.self.invariant.1
    (ap (λ (x : CpuState). x.other) c.self.view_is ∙ none)
