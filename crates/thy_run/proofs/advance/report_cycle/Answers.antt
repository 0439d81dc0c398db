use Rattle.std.proofs.Common.{◌+◌, sym, subst, refl, ap}
use Rattle.thy_block.specs.Device.{Device}
use Rattle.thy_run.specs.World.{seen}
use Rattle.thy_run.specs.declared.ending.Stop.{Stop}
use Rattle.thy_run.specs.declared.advance.Outcome.TheVariants.{Breaks}
use Rattle.thy_run.specs.Going.{origin_of, line_of, turns_then, world_at}
use Rattle.thy_run.specs.Rounds.{ComesTo}
use Rattle.thy_run.specs.Seeing.{CycleTaken}
use Rattle.thy_run.specs.Stopping.{stop_of}
use Rattle.thy_run.proofs.AdvanceLemmas.{CanGather-stepped, IsBroken-read}
use Rattle.thy_run.proofs.OutcomeLemmas.{ComesTo-unlisted}
use Rattle.thy_run.proofs.advance.report_cycle.Goals as goal

pub gather-requires : goal.gather-requires
gather-requires g c =
    let h = c.requires.stepped in
    record {
      o = line_of c.args.plan.now (turns_then c.args.plan.now h.3 c.args.stepped.did);
      cycles = c.args.done + 1;
      at_moment = h.5.is_step.at_next;
    }

pub conclude-requires-clause-gathered : goal.conclude-requires-clause-gathered
conclude-requires-clause-gathered g c =
    let K = g.M.Computer.kind in
    let h = c.requires.stepped in
    let plan = c.args.plan.now in
    let q = c.args.progress.now in
    let m = g.N.Nvm.device c.args.nvm.now in
    let r = c.args.stepped in
    let v = seen K (origin_of plan) (world_at h.1 h.2 c.args.done h.3) in (
      h.0,
      h.1,
      h.2,
      m,
      c.args.done,
      h.3,
      record {
        goes = h.4;
        few = c.requires.few;
        stepped = h.5;
        gathered = c.in-Ok.ensures.read (line_of plan (turns_then plan h.3 r.did)) (c.args.done + 1) v
            (CanGather-stepped K g.met.M.Computer.lawful plan h.0 h.1 h.2 c.args.done h.3 c.requires.planned h.4 q m r h.5);
        at_cycle = refl;
      },
    )

pub returns-in-Ok : goal.returns-in-Ok
returns-in-Ok g c = λ fitted p n turns t u stepped running w.
    let K = g.M.Computer.kind in
    let plan = c.args.plan.now in
    let q = c.args.progress.now in
    let m = g.N.Nvm.device c.args.nvm.now in
    let r = c.args.stepped in
    let v = seen K (origin_of plan) (world_at p n c.args.done turns) in
    let D : Device → Type 0 = λ d. CycleTaken K g.O.Observer.has_seen g.O.Observer.keeps plan fitted p c.conclude.new.progress n d c.args.done turns
    t (g.T.Sink.stream c.args.terminal.now) (g.T.Sink.stream c.conclude.new.terminal) u (g.R.Sink.stream c.args.report.now)
    (g.R.Sink.stream c.conclude.new.report)
    c.args.observer.now c.conclude.new.observer r c.conclude.result in
    subst D (sym c.in-Ok.ensures.same)
    (c.conclude.ensures fitted p n m c.args.done turns t u
    (record {
      goes = running.goes;
      few = c.requires.few;
      stepped = stepped;
      gathered = c.in-Ok.ensures.read (line_of plan (turns_then plan turns r.did)) (c.args.done + 1) v
          (CanGather-stepped K g.met.M.Computer.lawful plan fitted p n c.args.done turns c.requires.planned running.goes q m r stepped);
      at_cycle = refl;
    })
    running w)

-- a read failed
pub returns-in-Err : goal.returns-in-Err
returns-in-Err g c = λ fitted p n turns t u stepped running w.
    let K = g.M.Computer.kind in
    let plan = c.args.plan.now in
    let q = c.args.progress.now in
    let m = g.N.Nvm.device c.args.nvm.now in
    let d = g.N.Nvm.device c.gather.new.nvm in
    let t1 = g.T.Sink.stream c.args.terminal.now in
    let r1 = g.R.Sink.stream c.args.report.now in
    let S : Stop → Type 0 = λ stop. ComesTo K plan fitted p q n d c.args.done turns turns t t1 t1 u r1 r1 (Breaks stop) in
    record {
      after = turns;
      comes_to = subst S (sym c.from.ensures)
          (ComesTo-unlisted K plan fitted p q n d c.args.done turns turns (stop_of c.in-Err.error) t t1 u r1 running c.requires.few
          (ap (λ y. y.events) stepped.same)
          (IsBroken-read K g.met.M.Computer.lawful plan fitted p n c.args.done turns c.requires.planned running.goes q m c.args.stepped stepped d c.in-Err.error
          c.in-Err.ensures.err c.gather.ensures.frame c.in-Err.ensures.due));
      seen = refl;
      by_step = tt;
    }
