use Rattle.std.proofs.Common.{◌≡◌, ℕ}
use Rattle.thy_block.specs.Device.{IsFramed}
use Rattle.thy_run.specs.Going.{origin_of}
use Rattle.thy_run.specs.World.{World}
use Rattle.thy_sweep.specs.Trials.{IsCopied, IsOf, FewBefore}
use Rattle.thy_sweep.proofs.BootLemmas.{IsBooting}
use Rattle.thy_sweep.proofs.trial.booting.boot.Given as goal

-- the boot goes on, from each copy with which it began
abbrev pub invariant-loop-done : goal.invariant-loop-done
invariant-loop-done g l =
    let K = g.M.Computer.kind in
    record {
      boots : (w copy : World g.row.M.Denot) (pick : ℕ) → IsCopied K (origin_of l.plan) pick w copy
          → IsOf copy l.fn.machine (g.N.Nvm.device l.fn.nvm) l.initial.mix → FewBefore w l.most
          → IsBooting K (origin_of l.plan) copy l.machine (g.N.Nvm.device l.nvm) l.mix l.done;
      framed : IsFramed (g.N.Nvm.device l.fn.nvm) (g.N.Nvm.device l.nvm);
      faults : (g.N.Nvm.device l.nvm).faults ≡ (g.N.Nvm.device l.fn.nvm).faults;
    }
