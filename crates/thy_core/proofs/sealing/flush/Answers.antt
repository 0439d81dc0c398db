use Rattle.std.proofs.Common.{Ok, refl, ap, inr}
use Rattle.thy_computer.specs.declared.did.Stall.TheVariants.{Sealing}
use Rattle.thy_computer.specs.NextActor.{Stalled}
use Rattle.thy_core.specs.Cycles.{IsAnyRun}
use Rattle.thy_core.specs.MachineParts.{machine_of}
use Rattle.thy_core.proofs.CycleLaws.{taken_err, framed_once, failed_once, kept_once, flushed_is, flush_cycle, flush_failed}
use Rattle.thy_core.proofs.sealing.flush.Goals as goal

pub returns-in_err-_flushed : goal.returns-in_err-_flushed
returns-in_err-_flushed g c =
    let K = g.S.Scheme.scheme in
    let m = machine_of c.args.m.now in
    let n = g.N.Nvm.device c.args.nvm.now in
    let next = record m { cache = c.flush_one.new.self; scheme = c.flush_one.new.store.scheme } in
    let new = g.N.Nvm.device c.flush_one.new.nvm in
    let once = c.in_err-_flushed.ensures.once (λ is. absurd (cc)) in
    let failed = failed_once K g.N.Nvm.device c.args.m.now.store c.flush_one.new.store c.args.nvm.now c.flush_one.new.nvm
    c.requires.turn.at_moment.sound.up (inr once) c.in_err-_flushed.ensures.cause in
    taken_err K IsAnyRun (Stalled Sealing) m next n new c.from_residual.result c.from_residual.ensures.0
    (λ o cycles _ at sealing. flush_failed K o cycles m n at next new sealing c.requires.whole c.requires.dirty failed.0.access failed.1 refl)
    failed.0.access.frame (failed.0.counted failed.1)

pub returns : goal.returns
returns g c =
    let K = g.S.Scheme.scheme in
    let done = c.in_ok-_flushed.ensures in
    let once = done.once (λ is. c.requires.dirty (done.clean.0 is)) in
    record {
      simulates = λ o cycles _ at sealing.
          flush_cycle K o cycles (machine_of c.args.m.now) (g.N.Nvm.device c.args.nvm.now) at c.flush_one.new.self c.flush_one.new.store.scheme
          (g.N.Nvm.device c.flush_one.new.nvm) c.in_ok-_flushed._flushed sealing c.requires.whole c.requires.dirty
          (record {
            more = λ is. c.requires.dirty (done.clean.0 (ap Ok is));
            cache = done.cache;
            store = done.store;
            reads = done.flat;
            agree = done.agree;
            dirty = done.dirty;
            opened = done.open;
            sized = done.sized;
            access = once.access;
            made = flushed_is K g.N.Nvm.device c.args.m.now c.flush_one.new.store c.args.nvm.now c.flush_one.new.nvm c.flush_one.new.self
                c.in_ok-_flushed._flushed (λ is. c.requires.dirty (done.clean.0 (ap Ok is))) done.made done.cache;
          });
      fails = λ o cycles _ at sealing. tt;
      frame = framed_once K g.N.Nvm.device c.args.m.now.store c.flush_one.new.store c.args.nvm.now c.flush_one.new.nvm (inr once);
      cause = kept_once K g.N.Nvm.device c.args.m.now.store c.flush_one.new.store c.args.nvm.now c.flush_one.new.nvm
          c.requires.turn.at_moment.sound.up (inr once) done.cause;
    }
