use Rattle.thy_scheme_parts.specs.Design.{design_of}
use Rattle.thy_composed_scheme.proofs.CallLemmas.{boot_drains_then, drains_then}
use Rattle.thy_composed_scheme.proofs.scheme.ComposedScheme.drain.Goals as goal

pub returns-clause-running : goal.returns-clause-running
returns-clause-running g c = λ o k n stands. drains_then (design_of g.P.Fills.filling g.P.Checkpoints.items g.P.Parts.parts)
    g.met.P.Parts.are_parts o k c.args.self.now c.drain_one.new.self n c.drain_one.ensures c.requires stands

pub returns-clause-booting : goal.returns-clause-booting
returns-clause-booting g c = λ o n booting.
    boot_drains_then (design_of g.P.Fills.filling g.P.Checkpoints.items g.P.Parts.parts) g.met.P.Parts.are_parts o c.args.self.now
    c.drain_one.new.self n
    c.drain_one.ensures c.requires booting
