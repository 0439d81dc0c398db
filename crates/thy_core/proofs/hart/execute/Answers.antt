use Rattle.std.proofs.Common.{refl, ◌∙◌, ap, subst}
use Rattle.thy_hart.specs.Outcomes.{given}
use Rattle.thy_computer.specs.Advances.{did_of}
use Rattle.thy_computer.specs.NextActor.{Advances}
use Rattle.thy_scheme.specs.Calls.{IsOneAccess}
use Rattle.thy_scheme.specs.MachineCalls.{HartCall, after_hart}
use Rattle.thy_scheme.specs.Machine.{Machine}
use Rattle.thy_scheme.proofs.BegunLaws.{ended-hand}
use Rattle.thy_core.specs.Cycles.{HasInput, did_by}
use Rattle.thy_core.specs.MachineParts.{machine_of}
use Rattle.thy_core.proofs.CalmLaws.{calm_kept}
use Rattle.thy_core.proofs.CycleLaws.{taken_err, err_by, framed_once, failed_once, up_once, kept_once, hart_rests, hart_runs, hart_ready, hart_call, hart_cycle, hart_failed, begun_back}
use Rattle.thy_core.proofs.hart.execute.Goals as goal

pub begin-requires-clause-own : goal.begin-requires-clause-own
begin-requires-clause-own g c = c.requires.turn.turn.own

pub begin-requires-clause-hand : goal.begin-requires-clause-hand
begin-requires-clause-hand g c =
    let take = c.requires.turn in
    hart_rests g.S.Scheme.scheme take.o take.cycles (machine_of c.args.m.now) (g.N.Nvm.device c.args.nvm.now) take.at_moment c.args.hart take.turn

pub step-requires-clause-running : goal.step-requires-clause-running
step-requires-clause-running g c =
    let take = c.requires.turn in
    ap (λ (m : Machine _). m.hart.cpu.status) c.begin.ensures.parts
    ∙ hart_runs g.S.Scheme.scheme take.o take.cycles (machine_of c.args.m.now) (g.N.Nvm.device c.args.nvm.now) take.at_moment c.args.hart take.turn

pub step-requires-clause-ready : goal.step-requires-clause-ready
step-requires-clause-ready g c =
    let take = c.requires.turn in
    hart_ready g.S.Scheme.scheme take.o take.cycles (machine_of c.args.m.now) (g.N.Nvm.device c.args.nvm.now) take.at_moment c.args.hart take.turn
    (machine_of c.begin.new.m) c.begin.ensures.parts

pub returns-in_err-step-clause-taken : goal.returns-in_err-step-clause-taken
returns-in_err-step-clause-taken g c =
    let K = g.S.Scheme.scheme in
    let m = machine_of c.args.m.now in
    let n = g.N.Nvm.device c.args.nvm.now in
    let begun = machine_of c.begin.new.m in
    let next = record begun { hart = c.step.new.self; cache = c.step.new.cache; scheme = c.step.new.store.scheme } in
    let new = g.N.Nvm.device c.step.new.nvm in
    let failed = failed_once K g.N.Nvm.device c.begin.new.m.store c.step.new.store c.args.nvm.now c.step.new.nvm c.requires.turn.at_moment.sound.up
    c.in_err-step.ensures.once c.in_err-step.ensures.cause in
    let access = subst (λ t. IsOneAccess K t n next.scheme new) (ap (λ (x : Machine _). x.scheme) c.begin.ensures.parts) failed.0.access in
    taken_err K (HasInput c.args.input.now) (Advances c.args.hart) m next n new (did_by c.from_residual.result)
    (err_by c.from_residual.result c.from_residual.ensures.0)
    (λ o cycles input at turn. hart_failed K o cycles m n at c.args.hart next new turn access failed.1
    (begun_back c.args.hart m begun next turn.own c.begin.ensures.parts c.in_err-step.ensures.hart refl))
    failed.0.access.frame (failed.0.counted failed.1)

pub count-requires-clause-begun : goal.count-requires-clause-begun
count-requires-clause-begun g c = ap (λ (m : Machine _). m.begun) c.begin.ensures.parts

pub count-requires-clause-hand : goal.count-requires-clause-hand
count-requires-clause-hand g c = ended-hand c.in_ok-step.step c.in_ok-step.ensures.step

pub returns-clause-taken : goal.returns-clause-taken
returns-clause-taken g c =
    let K = g.S.Scheme.scheme in
    let m = machine_of c.args.m.now in
    let x = c.args.nvm.now in
    let y = c.step.new.nvm in
    let n = g.N.Nvm.device x in
    let h = c.step.new.self in
    let done = c.in_ok-step.ensures in
    record {
      simulates = λ o cycles input at turn.
          let call = hart_call K g.N.Nvm.device o c.begin.new.m c.step.new.store x y h c.step.new.cache
          c.in_ok-step.step c.args.input.now c.free-free.result c.under_way-under_way.result input c.free-free.ensures c.under_way-under_way.ensures
          done.step done.once done.stays done.untouched done.loads
          (up_once K g.N.Nvm.device c.begin.new.m.store c.step.new.store x y c.requires.turn.at_moment.sound.up done.once done.cause) done.called in
          let here = subst (λ (b : Machine _). HartCall K (given o.input (K.free b.scheme) (K.under_way b.scheme)) b n h
          c.step.new.cache c.step.new.store.scheme (g.N.Nvm.device y) c.in_ok-step.step) c.begin.ensures.parts call in
          let is = c.count.ensures.parts
          ∙ ap (after_hart c.args.hart c.in_ok-step.step h c.step.new.cache c.step.new.store.scheme) c.begin.ensures.parts in
          hart_cycle K o cycles m n at c.args.hart h c.step.new.cache c.step.new.store.scheme
          (g.N.Nvm.device y) c.in_ok-step.step (machine_of c.count.new.m) (did_of c.count.result) turn here is c.count.ensures.did;
      fails = λ o cycles input at turn. tt;
      frame = framed_once K g.N.Nvm.device c.begin.new.m.store c.step.new.store x y done.once;
      cause = kept_once K g.N.Nvm.device c.begin.new.m.store c.step.new.store x y c.requires.turn.at_moment.sound.up done.once done.cause;
    }

pub returns-in_err-step-clause-phase : goal.returns-in_err-step-clause-phase
returns-in_err-step-clause-phase g c = ap (λ (m : Machine _). m.phase) c.begin.ensures.parts

pub returns-clause-phase : goal.returns-clause-phase
returns-clause-phase g c = ap (λ (m : Machine _). m.phase) c.count.ensures.parts ∙ ap (λ (m : Machine _). m.phase) c.begin.ensures.parts

-- a store that was asked in vain is not marked
pub returns-in_err-step-clause-known : goal.returns-in_err-step-clause-known
returns-in_err-step-clause-known g c = λ marked.
    let failed = failed_once g.S.Scheme.scheme g.N.Nvm.device c.begin.new.m.store c.step.new.store c.args.nvm.now
    c.step.new.nvm c.requires.turn.at_moment.sound.up
    c.in_err-step.ensures.once c.in_err-step.ensures.cause in
    let unmarked = failed.0.unmarked in
    absurd (cc)

pub returns-clause-known : goal.returns-clause-known
returns-clause-known g c =
    let done = c.in_ok-step.ensures in
    calm_kept g.S.Scheme.scheme g.N.Nvm.device c.args.m.now c.begin.new.m c.count.new.m c.step.new.store c.args.nvm.now c.step.new.nvm
    c.args.hart c.in_ok-step.step
    c.step.new.self c.step.new.cache (given c.args.input.now c.free-free.result c.under_way-under_way.result) c.requires.known
    c.begin.ensures.parts c.begin.ensures.store
    done.once done.step c.under_way-under_way.ensures c.count.ensures.parts c.count.ensures.calm
