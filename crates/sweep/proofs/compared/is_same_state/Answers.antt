use Rattle.std.proofs.Common.{◌≡◌, sym, ◌∙◌, ap}
use Rattle.thy_isa.specs.declared.state.CpuState.{CpuState}
use Rattle.thy_isa.specs.Step.{State, cpu_of, state_of, state_with}
use Rattle.sweep.proofs.compared.is_same_state.Goals as goal

pub returns : goal.returns
returns c = λ same.
    let a : State = state_of c.args.a.now in
    let b : State = state_of c.args.b.now in
    let cpu : cpu_of a ≡ cpu_of b = sym c.cpu.ensures ∙ c.is_same_cpu-same_cpu.ensures c.if-not-same_cpu.false ∙ c.cpu-2.ensures in
    let console : a.console ≡ b.console
    = sym c.as_slice.ensures ∙ c.are_same_bytes-same_console.ensures c.if-not-same_console.false ∙ c.as_slice-2.ensures in
    let memory : a.memory ≡ b.memory = sym c.as_slice-3.ensures ∙ c.are_same_bytes.ensures same ∙ c.as_slice-4.ensures in
    ap (λ (x : CpuState). state_with x a.memory a.console) cpu
    ∙ ap (λ m. state_with (cpu_of b) m a.console) memory
    ∙ ap (λ k. state_with (cpu_of b) b.memory k) console
