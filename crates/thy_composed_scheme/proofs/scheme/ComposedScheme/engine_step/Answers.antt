use Rattle.thy_scheme_parts.specs.Design.{design_of}
use Rattle.thy_scheme_parts.specs.Scheme.{scheme_of}
use Rattle.thy_composed_scheme.proofs.CallLemmas.{engines_then, engine_fails_then, made_then}
use Rattle.thy_composed_scheme.proofs.scheme.ComposedScheme.engine_step.Goals as goal

pub returns-clause-ok : goal.returns-clause-ok
returns-clause-ok g c = λ o k stands.
    engines_then (design_of g.P.Fills.filling g.P.Checkpoints.items g.P.Parts.parts) g.met.P.Parts.are_parts o k c.args.self.now
    c.take_item.new.self (g.N.Nvm.device c.args.nvm.now) (g.N.Nvm.device c.take_item.new.nvm) c.requires.way stands
    c.take_item.result c.take_item.ensures.answer c.take_item.ensures.acts

pub returns-clause-err : goal.returns-clause-err
returns-clause-err g c = λ o k stands.
    engine_fails_then (design_of g.P.Fills.filling g.P.Checkpoints.items g.P.Parts.parts) g.met.P.Parts.are_parts o k c.args.self.now
    c.take_item.new.self (g.N.Nvm.device c.args.nvm.now) (g.N.Nvm.device c.take_item.new.nvm) c.requires.way stands
    c.take_item.result c.take_item.ensures.acts

pub returns-clause-exact : goal.returns-clause-exact
returns-clause-exact g c =
    let n = g.N.Nvm.device c.args.nvm.now in
    made_then ((scheme_of (design_of g.P.Fills.filling g.P.Checkpoints.items g.P.Parts.parts)).calls.engine c.args.self.now n)
    c.args.self.now c.take_item.new.self n
    (g.N.Nvm.device c.take_item.new.nvm) c.take_item.result c.take_item.ensures.answer c.take_item.ensures.acts
