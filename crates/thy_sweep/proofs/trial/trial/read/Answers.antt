use Rattle.std.proofs.Common.{sym, subst, inl}
use Rattle.thy_isa.specs.Step.{State}
use Rattle.thy_sweep.specs.declared.trial.part.Part.{Part}
use Rattle.thy_sweep.specs.declared.trial.part.Restored.TheVariants.{State as WholeState, Processor as Cpu}
use Rattle.thy_sweep.specs.Trials.{IsReadOf}
use Rattle.thy_computer.specs.Origin.{at}
use Rattle.thy_sweep.proofs.BootLemmas.{IsFramed-same}
use Rattle.thy_sweep.proofs.trial.trial.read.Goals as goal

pub snapshot-requires : goal.snapshot-requires
snapshot-requires g c = inl c.requires

pub returns-in_ok-state-in-State-clause-state : goal.returns-in_ok-state-in-State-clause-state
returns-in_ok-state-in-State-clause-state g c = λ o k here between.
    let s : State = at o (g.M.Computer.kind.view o c.args.machine.now (g.N.Nvm.device c.args.nvm.now)).count in
    subst (λ (part : Part). IsReadOf s part (WholeState c.in_ok-state-in-State.state)) (sym c.in-State.is) (c.in_ok-state-in-State.ensures.state o k here between).state

pub returns-in-Processor-clause-state : goal.returns-in-Processor-clause-state
returns-in-Processor-clause-state g c = λ o k here between.
    let n = g.N.Nvm.device c.args.nvm.now in
    let s : State = at o (g.M.Computer.kind.view o c.args.machine.now n).count in
    subst (λ (part : Part). IsReadOf s part (Cpu c.processor.result)) (sym c.in-Processor.is) (c.processor.ensures o k n here between)

pub returns-in-Processor-clause-frame : goal.returns-in-Processor-clause-frame
returns-in-Processor-clause-frame g c = IsFramed-same (g.N.Nvm.device c.args.nvm.now)
