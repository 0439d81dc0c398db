use Rattle.std.proofs.Common.{◌≡◌, ◌+◌, ◌<◌, ◌≤◌, true, refl, sym, ◌∙◌, ap, subst, arith}
use Rattle.std.proofs.lemmas.Result.{err_from_is_err_and}
use Rattle.thy_block.specs.Counts.{Rose}
use Rattle.thy_run.specs.Going.{origin_of}
use Rattle.thy_sweep.proofs.BootLemmas.{IsFramed-same, IsFramed-then, begins_booting, can_boot_on, boot_step, IsBooting-on, IsBooted-by, IsUnended-by, IsUnended-most}
use Rattle.thy_sweep.proofs.trial.booting.boot.Goals as goal

pub loop-done-init : goal.loop-done-init
loop-done-init g c = record {
  boots = λ w copy pick is of few.
      begins_booting g.M.Computer.kind (origin_of c.args.plan.now) pick w copy c.args.machine.now (g.N.Nvm.device c.args.nvm.now) c.args.mix is of;
  framed = IsFramed-same (g.N.Nvm.device c.args.nvm.now);
  faults = refl;
}

pub step-requires : goal.step-requires
step-requires g c =
    let h = c.requires in
    let l = c.loop-done in
    can_boot_on g.M.Computer.kind c.args.plan.now h.2 h.0 h.1 h.3 c.args.most h.5 l.machine (g.N.Nvm.device l.nvm) l.mix l.done
    (l.invariant.boots h.0 h.1 h.2 h.3 h.4 h.5) c.loop-done-test.true

-- the boot is over
pub returns-in-At-clause-boots : goal.returns-in-At-clause-boots
returns-in-At-clause-boots g c = λ w copy pick is of few.
    let K = g.M.Computer.kind in
    let plan = c.args.plan.now in
    let l = c.loop-done in
    let n = g.N.Nvm.device l.nvm in
    let less : l.done < c.args.most = c.loop-done-test.true in
    let b = l.invariant.boots w copy pick is of few in
    let r = c.in_ok-stepped.stepped in
    let next = c.step.new.self in
    let new = g.N.Nvm.device c.step.new.nvm in
    let mix = c.next-pick.new.self in
    let x = boot_step K plan pick w copy is c.args.most few l.machine n l.mix l.done b less c.next-pick.result c.harts-harts.result next new mix r
    c.harts-harts.ensures.harts c.next-pick.ensures.pick c.next-pick.ensures.after (λ o i begins at few. c.in_ok-stepped.ensures.steps o i begins at few) in (
      x.last,
      IsBooted-by K plan pick w copy is c.args.most few l.machine n l.mix l.done b less next new mix r c.in-At.mark x c.in-At.ensures,
      omega (arith, less),
      x.is_of.machine,
      x.is_of.device,
    )

-- the boot continues
pub loop-done-preserved : goal.loop-done-preserved
loop-done-preserved g c = record {
  boots = λ w copy pick is of few.
      let K = g.M.Computer.kind in
      let plan = c.args.plan.now in
      let l = c.loop-done in
      let n = g.N.Nvm.device l.nvm in
      let less : l.done < c.args.most = c.loop-done-test.true in
      let b = l.invariant.boots w copy pick is of few in
      let r = c.in_ok-stepped.stepped in
      let next = c.step.new.self in
      let new = g.N.Nvm.device c.step.new.nvm in
      let mix = c.next-pick.new.self in
      let x = boot_step K plan pick w copy is c.args.most few l.machine n l.mix l.done b less c.next-pick.result c.harts-harts.result next new mix r
      c.harts-harts.ensures.harts c.next-pick.ensures.pick c.next-pick.ensures.after (λ o i begins at few. c.in_ok-stepped.ensures.steps o i begins at few) in
      IsBooting-on K plan pick w copy is c.args.most few l.machine n l.mix l.done b less next new mix r x c.in-On.ensures;
  framed = IsFramed-then (g.N.Nvm.device c.args.nvm.now) (g.N.Nvm.device c.loop-done.nvm) (g.N.Nvm.device c.step.new.nvm) c.loop-done.invariant.framed c.step.ensures.frame;
  faults = c.in_ok-stepped.ensures.cause ∙ c.loop-done.invariant.faults;
}

-- the boot's image is refused
pub returns-in-Refused-clause-boots : goal.returns-in-Refused-clause-boots
returns-in-Refused-clause-boots g c = λ w copy pick is of few.
    let K = g.M.Computer.kind in
    let plan = c.args.plan.now in
    let l = c.loop-done in
    let n = g.N.Nvm.device l.nvm in
    let less : l.done < c.args.most = c.loop-done-test.true in
    let b = l.invariant.boots w copy pick is of few in
    let r = c.in_ok-stepped.stepped in
    let next = c.step.new.self in
    let new = g.N.Nvm.device c.step.new.nvm in
    let mix = c.next-pick.new.self in
    let x = boot_step K plan pick w copy is c.args.most few l.machine n l.mix l.done b less c.next-pick.result c.harts-harts.result next new mix r
    c.harts-harts.ensures.harts c.next-pick.ensures.pick c.next-pick.ensures.after (λ o i begins at few. c.in_ok-stepped.ensures.steps o i begins at few) in (
      x.last,
      IsUnended-by K plan pick w copy is c.args.most few l.machine n l.mix l.done b less next new mix r x c.in-Refused.ensures,
      x.is_of.machine,
      x.is_of.device,
    )

-- the boot has not ended
pub returns-clause-boots : goal.returns-clause-boots
returns-clause-boots g c = λ w copy pick is of few.
    let l = c.loop-done in
    let b = l.invariant.boots w copy pick is of few in
    let end : l.done ≡ c.args.most = omega (arith, c.loop-done-test.false, l.auto.done-end) in (
      b.last,
      IsUnended-most g.M.Computer.kind (origin_of c.args.plan.now) copy b.last l.done c.args.most end b.boots,
      b.is_of.machine,
      b.is_of.device,
    )

pub returns-in-Refused-clause-frame : goal.returns-in-Refused-clause-frame
returns-in-Refused-clause-frame g c =
    IsFramed-then (g.N.Nvm.device c.args.nvm.now) (g.N.Nvm.device c.loop-done.nvm) (g.N.Nvm.device c.step.new.nvm) c.loop-done.invariant.framed c.step.ensures.frame

pub returns-in-Refused-clause-cause : goal.returns-in-Refused-clause-cause
returns-in-Refused-clause-cause g c = c.in_ok-stepped.ensures.cause ∙ c.loop-done.invariant.faults

pub returns-in-At-clause-frame : goal.returns-in-At-clause-frame
returns-in-At-clause-frame g c =
    IsFramed-then (g.N.Nvm.device c.args.nvm.now) (g.N.Nvm.device c.loop-done.nvm) (g.N.Nvm.device c.step.new.nvm) c.loop-done.invariant.framed c.step.ensures.frame

pub returns-in_err-stepped-clause-frame : goal.returns-in_err-stepped-clause-frame
returns-in_err-stepped-clause-frame g c =
    IsFramed-then (g.N.Nvm.device c.args.nvm.now) (g.N.Nvm.device c.loop-done.nvm) (g.N.Nvm.device c.step.new.nvm) c.loop-done.invariant.framed c.step.ensures.frame

pub returns-in_err-stepped-clause-cause : goal.returns-in_err-stepped-clause-cause
returns-in_err-stepped-clause-cause g c =
    let p = err_from_is_err_and c.from_residual.result c.from_residual.ensures.1 in
    rw p.1
    (subst (λ k. Rose k (g.N.Nvm.device c.step.new.nvm).faults) c.loop-done.invariant.faults c.in_err-stepped.ensures.cause)

pub returns-in-At-clause-cause : goal.returns-in-At-clause-cause
returns-in-At-clause-cause g c = c.in_ok-stepped.ensures.cause ∙ c.loop-done.invariant.faults

pub returns-clause-cause : goal.returns-clause-cause
returns-clause-cause g c = c.loop-done.invariant.faults

pub returns-clause-frame : goal.returns-clause-frame
returns-clause-frame g c = c.loop-done.invariant.framed
