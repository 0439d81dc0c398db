use Rattle.thy_scheme_parts.specs.Design.{design_of}
use Rattle.thy_composed_scheme.proofs.CallLemmas.{boots_then, boot_fails_then, booted_then}
use Rattle.thy_composed_scheme.proofs.scheme.ComposedScheme.boot_step.Goals as goal

pub returns-clause-ok : goal.returns-clause-ok
returns-clause-ok g c = λ o begins booting.
    boots_then (design_of g.P.Fills.filling g.P.Checkpoints.items g.P.Parts.parts) g.met.P.Parts.are_parts o c.args.start.now
    c.args.self.now c.take_boot_step.new.self (g.N.Nvm.device c.args.nvm.now) (g.N.Nvm.device c.take_boot_step.new.nvm)
    c.take_boot_step.result begins booting c.take_boot_step.ensures.takes c.take_boot_step.ensures.sound

pub returns-clause-err : goal.returns-clause-err
returns-clause-err g c = λ o begins booting.
    boot_fails_then (design_of g.P.Fills.filling g.P.Checkpoints.items g.P.Parts.parts) g.met.P.Parts.are_parts o c.args.start.now
    c.args.self.now c.take_boot_step.new.self (g.N.Nvm.device c.args.nvm.now) (g.N.Nvm.device c.take_boot_step.new.nvm)
    c.take_boot_step.result begins booting c.take_boot_step.ensures.takes c.take_boot_step.ensures.sound

pub returns-clause-exact : goal.returns-clause-exact
returns-clause-exact g c =
    booted_then (design_of g.P.Fills.filling g.P.Checkpoints.items g.P.Parts.parts) c.args.start.now c.args.self.now
    c.take_boot_step.new.self (g.N.Nvm.device c.args.nvm.now)
    (g.N.Nvm.device c.take_boot_step.new.nvm) c.take_boot_step.result c.take_boot_step.ensures.takes
