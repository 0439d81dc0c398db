use Rattle.thy_scheme_parts.specs.Design.{design_of}
use Rattle.thy_composed_scheme.proofs.CallLemmas.{seals_then}
use Rattle.thy_composed_scheme.proofs.scheme.ComposedScheme.seal.Goals as goal

pub returns-clause-seals : goal.returns-clause-seals
returns-clause-seals g c = λ o k n stands.
    seals_then (design_of g.P.Fills.filling g.P.Checkpoints.items g.P.Parts.parts) g.met.P.Parts.are_parts o k c.args.cpu.now c.args.epoch
    c.args.self.now c.seal_epoch.new.self n c.seal_epoch.ensures c.requires.idle c.requires.whole c.requires.bare stands
