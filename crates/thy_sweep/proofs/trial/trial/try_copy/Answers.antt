use Rattle.std.proofs.Common.{refl, sym, ◌∙◌, subst}
use Rattle.std.proofs.lemmas.Result.{err_from_is_err_and}
use Rattle.thy_block.specs.Counts.{Rose}
use Rattle.thy_run.specs.Going.{origin_of}
use Rattle.thy_run.specs.World.{line}
use Rattle.thy_sweep.specs.Trials.{copied_to}
use Rattle.thy_sweep.proofs.BootLemmas.{IsFramed-same, IsFramed-then}
use Rattle.thy_sweep.proofs.CopyLemmas.{goes_on_over_copy}
use Rattle.thy_sweep.proofs.TriedLemmas.{leaves_at, no_fault}
use Rattle.thy_computer.specs.declared.error.CoreError.{CoreError}
use Rattle.thy_computer.specs.Kind.{HasFailedToRead}
use Rattle.thy_sweep.proofs.trial.trial.try_copy.Goals as goal

pub boot-requires : goal.boot-requires
boot-requires g c =
    let K = g.M.Computer.kind in
    let o = origin_of c.args.plan.now in
    let h = c.requires.can in
    let m = c.in_ok-machine.machine in
    let n = g.N.Nvm.device c.args.nvm.now in (
      h.0,
      copied_to K o h.0 m n,
      c.args.pick,
      goes_on_over_copy K g.met.M.Computer.lawful o c.args.pick h.0 m n h.1 c.in_ok-machine.ensures.powered c.in_ok-machine.ensures.dram,
      record { machine = refl; device = refl; mix = h.2 },
      h.3,
    )

pub restored-requires : goal.restored-requires
restored-requires g c =
    let K = g.M.Computer.kind in
    let o = origin_of c.args.plan.now in
    let h = c.requires.can in
    let m = c.in_ok-machine.machine in
    let n = g.N.Nvm.device c.args.nvm.now in
    let copy = copied_to K o h.0 m n in
    let copied = goes_on_over_copy K g.met.M.Computer.lawful o c.args.pick h.0 m n h.1 c.in_ok-machine.ensures.powered c.in_ok-machine.ensures.dram in
    let next = c.boot.new.machine in
    let new = g.N.Nvm.device c.boot.new.nvm in
    let there = leaves_at K o c.args.pick h.0 copy copied next new c.args.most c.in-Ok.booted
    (c.in-Ok.ensures.boots h.0 copy c.args.pick copied (record { machine = refl; device = refl; mix = h.2 }) h.3) in
    record { o = line o there.last; cycles = there.last.cycles; at_moment = there.at_moment }

pub returns-clause-tried : goal.returns-clause-tried
returns-clause-tried g c = λ w can mix few.
    let K = g.M.Computer.kind in
    let o = origin_of c.args.plan.now in
    let m = c.in_ok-machine.machine in
    let n = g.N.Nvm.device c.args.nvm.now in
    let copy = copied_to K o w m n in
    let copied = goes_on_over_copy K g.met.M.Computer.lawful o c.args.pick w m n can c.in_ok-machine.ensures.powered c.in_ok-machine.ensures.dram in
    let next = c.boot.new.machine in
    let new = g.N.Nvm.device c.boot.new.nvm in
    let there = leaves_at K o c.args.pick w copy copied next new c.args.most c.in-Ok.booted
    (c.in-Ok.ensures.boots w copy c.args.pick copied (record { machine = refl; device = refl; mix = mix }) few) in
    record {
      copy = copy;
      copied = copied;
      image = refl;
      last = there.last;
      boots = there.boots;
      left = there.seen_left;
      restores = c.in_ok-state.ensures.state (line o there.last) there.last.cycles there.at_moment there.left;
    }

pub returns-in_err-machine-clause-frame : goal.returns-in_err-machine-clause-frame
returns-in_err-machine-clause-frame g c = IsFramed-same (g.N.Nvm.device c.args.nvm.now)

pub returns-in_err-state-clause-frame : goal.returns-in_err-state-clause-frame
returns-in_err-state-clause-frame g c =
    IsFramed-then (g.N.Nvm.device c.args.nvm.now) (g.N.Nvm.device c.boot.new.nvm) (g.N.Nvm.device c.restored.new.nvm) c.boot.ensures.frame c.restored.ensures.frame

pub returns-clause-frame : goal.returns-clause-frame
returns-clause-frame g c =
    IsFramed-then (g.N.Nvm.device c.args.nvm.now) (g.N.Nvm.device c.boot.new.nvm) (g.N.Nvm.device c.restored.new.nvm) c.boot.ensures.frame c.restored.ensures.frame

-- reading failed: the boot had no fault
pub returns-in_err-state-clause-fault : goal.returns-in_err-state-clause-fault
returns-in_err-state-clause-fault g c =
    let mid = g.N.Nvm.device c.boot.new.nvm in
    let new = g.N.Nvm.device c.restored.new.nvm in
    let p = err_from_is_err_and c.from_residual-in_err-state.result c.from_residual-in_err-state.ensures.1 in
    rw p.1
    (λ is. subst (λ k. Rose k new.faults) c.in-Ok.ensures.cause
    (subst (λ (e : CoreError). HasFailedToRead e mid new) (sym p.2 ∙ is) c.in_err-state.ensures.err).1)

-- the DRAM has its size
pub returns-clause-dram : goal.returns-clause-dram
returns-clause-dram g c =
    let K = g.M.Computer.kind in
    let o = origin_of c.args.plan.now in
    let h = c.requires.can in
    let m = c.in_ok-machine.machine in
    let n = g.N.Nvm.device c.args.nvm.now in
    let copy = copied_to K o h.0 m n in
    let copied = goes_on_over_copy K g.met.M.Computer.lawful o c.args.pick h.0 m n h.1 c.in_ok-machine.ensures.powered c.in_ok-machine.ensures.dram in
    let next = c.boot.new.machine in
    let new = g.N.Nvm.device c.boot.new.nvm in
    let there = leaves_at K o c.args.pick h.0 copy copied next new c.args.most c.in-Ok.booted
    (c.in-Ok.ensures.boots h.0 copy c.args.pick copied (record { machine = refl; device = refl; mix = h.2 }) h.3) in
    c.cut-dram.ensures.sized (line o there.last) there.last.cycles new there.at_moment

-- memory ran out before the boot, or where the state was read: neither has a fault
pub returns-in_default-clause-memory : goal.returns-in_default-clause-memory
returns-in_default-clause-memory g c = λ other. absurd (other refl)

pub returns-in_err-state-clause-memory : goal.returns-in_err-state-clause-memory
returns-in_err-state-clause-memory g c =
    let mid = g.N.Nvm.device c.boot.new.nvm in
    let new = g.N.Nvm.device c.restored.new.nvm in
    let p = err_from_is_err_and c.from_residual-in_err-state.result c.from_residual-in_err-state.ensures.1 in
    rw p.1
    (λ other. no_fault p.0 mid new (subst (λ (e : CoreError). HasFailedToRead e mid new) (sym p.2) c.in_err-state.ensures.err) other ∙ c.in-Ok.ensures.cause)
