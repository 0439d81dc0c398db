use Rattle.std.proofs.Common.{◌*◌, ◌-◌, drop, sym, ◌∙◌, ap}
use Rattle.thy_block.specs.declared.parameters.Parameters.{Parameters}
use Rattle.thy_block.specs.Bytes.{bytes_of}
use Rattle.thy_block.specs.Device.{Device}
use Rattle.thy_block.specs.Flat.{console_bytes}
use Rattle.thy_isa.specs.declared.state.CpuState.{CpuState}
use Rattle.thy_isa.specs.Step.{state_of, state_with}
use Rattle.thy_computer.specs.NextActor.{front_of}
use Rattle.thy_scheme.specs.Machine.{memory_of, hart_put_back}
use Rattle.thy_core.specs.MachineParts.{machine_of}
use Rattle.thy_core.proofs.SnapshotLaws.{state_read, console_fronted, put_back_sized}
use Rattle.thy_core.proofs.snapshot.executing.Goals as goal

pub returns-clause-state : goal.returns-clause-state
returns-clause-state g c =
    let K = g.S.Scheme.scheme in
    let m = machine_of c.args.m.now in
    let h = hart_put_back m in
    let numbers = c.numbers-numbers.result in
    let memory = bytes_of c.in_ok-memory.memory in
    let console = bytes_of c.in_ok-console.console in
    state_read h (memory_of K m (g.N.Nvm.device c.args.nvm.now)) (state_of c.state_with.result) (64 * (numbers.pages - numbers.console))
    memory console (put_back_sized m (memory_of K m (g.N.Nvm.device c.args.nvm.now)) c.requires.sized)
    (ap (λ (p : Parameters). 64 * (p.pages - p.console)) (c.numbers-numbers.ensures.same ∙ c.geometry.ensures))
    (c.state_with.ensures ∙ ap (λ (cpu : CpuState). state_with cpu memory console) c.processor.ensures)
    c.in_ok-memory.ensures.bytes
    (c.in_ok-console.ensures.console
    ∙ ap (λ (n : Device). drop 0 (console_bytes h.geometry (memory_of K m n) c.cpu.result.console_len)) c.in_ok-memory.ensures.same
    ∙ ap (λ (cpu : CpuState). drop 0 (console_bytes h.geometry (memory_of K m (g.N.Nvm.device c.args.nvm.now)) cpu.console_len)) c.cpu.ensures
    ∙ ap (λ len. drop 0 (console_bytes h.geometry (memory_of K m (g.N.Nvm.device c.args.nvm.now)) len))
    (sym (console_fronted (front_of m.begun) m.hart.cpu)))
