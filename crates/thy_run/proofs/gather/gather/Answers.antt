use Rattle.std.proofs.Common.{◌∙◌, sym, ap, subst, refl}
use Rattle.thy_block.specs.Device.{Device}
use Rattle.thy_run.specs.Due.{due_of}
use Rattle.thy_run.specs.Going.{CanGather, IsEnding}
use Rattle.thy_run.proofs.gather.gather.Goals as goal

pub returns-clause-read : goal.returns-clause-read
returns-clause-read g c = λ o k v can.
    let before : Device = g.N.Nvm.device c.args.nvm.now in
    let first = c.in_ok-restored.ensures.same in
    let second = c.in_ok-bytes.ensures.same ∙ first in
    record {
      reload = c.reloads-reload.ensures o k v before c.args.stepped.now can;
      restored = c.in_ok-restored.ensures.read o k v c.args.stepped.now refl can;
      bytes = c.in_ok-bytes.ensures.read o k v c.args.stepped.now refl
          (subst (λ n. CanGather g.M.Computer.kind o k v c.args.progress.now n c.args.stepped.now) (sym first) can)
          ∙ ap (λ n. due_of o c.args.progress.now.events c.args.stepped.now.did (g.M.Computer.kind.view o c.args.progress.now.machine n)) first;
      ended = subst (λ n. IsEnding o v (g.M.Computer.kind.view o c.args.progress.now.machine n) c.in_ok-ended.ended) second
          (c.in_ok-ended.ensures.read o k v c.args.stepped.now refl
          (subst (λ n. CanGather g.M.Computer.kind o k v c.args.progress.now n c.args.stepped.now) (sym second) can));
    }
