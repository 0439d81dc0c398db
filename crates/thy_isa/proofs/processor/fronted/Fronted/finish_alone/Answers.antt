use Rattle.std.proofs.Common.{◌≡◌, length, ap, ◌∙◌, arith}
use Rattle.thy_isa.specs.declared.state.CpuState.{CpuState}
use Rattle.thy_isa.specs.Step.{finished}
use Rattle.thy_isa.specs.Processor.{ProcessorState, processor_finished, cpu_at}
use Rattle.thy_isa.proofs.ProcessorLaws.{no_calls, finished-harts, finished-front, alone-first}
use Rattle.thy_isa.proofs.processor.fronted.Fronted.finish_alone.Goals as goal

pub seat-hart-requires : goal.seat-hart-requires
seat-hart-requires c = λ yes.
    alone-first c.self.inside.hart c.self.inside.processor.harts c.self.invariant.0
    (ap (λ (x : CpuState). x.other) c.self.view_is ∙ c.requires.alone yes)

pub invariant_of-self : goal.invariant_of-self
invariant_of-self c =
    let p = c.self.inside.processor in
    let same : length c.finish_alone.new.self.harts ≡ length p.harts =
    ap (λ (q : ProcessorState). length q.harts) (c.finish_alone.ensures.processor no_calls)
    ∙ finished-harts c.seat-hart.result p c.args.effect.now c.args.number no_calls in
    (omega (arith, same, c.self.invariant.0), omega (arith, same, c.self.invariant.1))

pub returns : goal.returns
returns c = λ calls.
    let h = c.self.inside.hart in
    let len = c.self.inside.console_len in
    let p = c.self.inside.processor in
    ap (cpu_at h len) (c.finish_alone.ensures.processor calls
    ∙ ap (λ n. processor_finished n p c.args.effect.now c.args.number calls) c.seat-hart.ensures)
    ∙ finished-front h len p c.args.effect.now c.args.number calls c.self.invariant.1 c.self.invariant.0 c.requires.no_call
    ∙ ap (λ (x : CpuState). finished x c.args.effect.now c.args.number calls) c.self.view_is
