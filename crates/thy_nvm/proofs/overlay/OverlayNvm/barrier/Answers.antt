use Rattle.std.proofs.Common.{refl, sym, subst}
use Rattle.thy_block.specs.Device.{IsFramed, IsSettled}
use Rattle.thy_nvm.specs.Overlaid.{Overlaid}
use Rattle.thy_nvm.proofs.CallLemmas.{IsFramed-settled, plain_count}
use Rattle.thy_nvm.proofs.overlay.OverlayNvm.barrier.Goals as goal

pub returns-clause-ok : goal.returns-clause-ok
returns-clause-ok c =
    let n = c.args.self.now.device in
    subst (λ (o : Overlaid). IsSettled n o.device) (sym c.land_all.ensures.leaves)
    (record { count = plain_count n c.land_all.ensures.plain; device = refl })

pub returns-clause-frame : goal.returns-clause-frame
returns-clause-frame c =
    subst (λ (o : Overlaid). IsFramed c.args.self.now.device o.device) (sym c.land_all.ensures.leaves) (IsFramed-settled c.args.self.now.device)
