use Rattle.thy_scheme_parts.specs.Design.{design_of}
use Rattle.thy_scheme_parts.specs.Calls.{promoted}
use Rattle.thy_composed_scheme.proofs.CallLemmas.{promotes_then, promoted_then}
use Rattle.thy_composed_scheme.proofs.scheme.ComposedScheme.promote_one.Goals as goal

pub returns-clause-ok : goal.returns-clause-ok
returns-clause-ok g c = λ some o k stands.
    promotes_then (design_of g.P.Fills.filling g.P.Checkpoints.items g.P.Parts.parts) g.met.P.Parts.are_parts o k c.args.self.now
    c.promote_next.new.self (g.N.Nvm.device c.args.nvm.now) (g.N.Nvm.device c.promote_next.new.nvm)
    c.promote_next.result some c.promote_next.ensures.promotes c.promote_next.ensures.reads stands

pub returns-clause-exact : goal.returns-clause-exact
returns-clause-exact g c =
    let n = g.N.Nvm.device c.args.nvm.now in
    promoted_then (promoted (design_of g.P.Fills.filling g.P.Checkpoints.items g.P.Parts.parts) c.args.self.now n) c.args.self.now
    c.promote_next.new.self n
    (g.N.Nvm.device c.promote_next.new.nvm) c.promote_next.result c.promote_next.ensures.promotes c.promote_next.ensures.reads
