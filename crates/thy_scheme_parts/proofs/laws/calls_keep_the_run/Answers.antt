use Rattle.thy_scheme_parts.specs.Design.{design_of}
use Rattle.thy_scheme_parts.proofs.BootLemmas.{boot-drains}
use Rattle.thy_scheme_parts.proofs.DrainLemmas.{drains, merges, promotes}
use Rattle.thy_scheme_parts.proofs.StepLemmas.{engines, engine-fails, seals}
use Rattle.thy_scheme_parts.proofs.laws.calls_keep_the_run.Goals as goal

pub returns-clause-items : goal.returns-clause-items
returns-clause-items g c =
    let D = design_of g.P.Fills.filling g.P.Checkpoints.items g.P.Parts.parts in
    let w = g.met.P.Parts.are_parts.design in
    λ o k s n stands on. (engines D w o k s n stands on, engine-fails D w o k s n stands on)

pub returns-clause-seals : goal.returns-clause-seals
returns-clause-seals g c = seals (design_of g.P.Fills.filling g.P.Checkpoints.items g.P.Parts.parts) g.met.P.Parts.are_parts.design

pub returns-clause-drains : goal.returns-clause-drains
returns-clause-drains g c =
    let D = design_of g.P.Fills.filling g.P.Checkpoints.items g.P.Parts.parts in
    let w = g.met.P.Parts.are_parts in
    λ o s n some. (λ k stands. drains D w.design o k s n stands some, λ booting. boot-drains D w o s n booting.boots some)

pub returns-clause-merges : goal.returns-clause-merges
returns-clause-merges g c =
    let w = g.met.P.Parts.are_parts in
    λ o k s n stands. merges (design_of g.P.Fills.filling g.P.Checkpoints.items g.P.Parts.parts) w.design o k s n stands w.paging

pub returns-clause-promotions : goal.returns-clause-promotions
returns-clause-promotions g c =
    let w = g.met.P.Parts.are_parts in
    λ o k s n stands. promotes (design_of g.P.Fills.filling g.P.Checkpoints.items g.P.Parts.parts) w.design o k s n stands w.paging
