use Rattle.std.proofs.Common.{◌≡◌, length, ap, sym, ◌∙◌, arith}
use Rattle.thy_isa.specs.declared.state.CpuState.{CpuState}
use Rattle.thy_isa.specs.Step.{finished}
use Rattle.thy_isa.specs.Processor.{ProcessorState, hart_at, len_after, cpu_at}
use Rattle.thy_isa.proofs.ProcessorLaws.{finished-harts, finished-as_cpu}
use Rattle.thy_isa.proofs.processor.fronted.Fronted.finish.Goals as goal

pub invariant_of-self : goal.invariant_of-self
invariant_of-self c =
    let p = c.self.inside.processor in
    let same : length c.finish-self-inside.new.self.harts ≡ length p.harts =
    ap (λ (q : ProcessorState). length q.harts) c.finish-self-inside.ensures.processor
    ∙ finished-harts c.self.inside.hart p c.args.effect.now c.args.number c.args.calls.now in
    (omega (arith, same, c.self.invariant.0), omega (arith, same, c.self.invariant.1))

pub returns : goal.returns
returns c =
    let h = c.self.inside.hart in
    let p = c.self.inside.processor in
    let e = c.args.effect.now in
    let n = c.args.number in
    let k = c.args.calls.now in
    ap (λ r. cpu_at h r c.finish-self-inside.new.self) c.finish-self-inside.ensures.len
    ∙ ap (cpu_at h (len_after (hart_at p.harts h).regs e k)) c.finish-self-inside.ensures.processor
    ∙ finished-as_cpu h p e n k c.self.invariant.1 c.self.invariant.0
    ∙ ap (λ l. finished (cpu_at h l p) e n k) (c.requires.len ∙ sym (ap (λ (x : CpuState). x.console_len) c.self.view_is))
    ∙ ap (λ (x : CpuState). finished x e n k) c.self.view_is
