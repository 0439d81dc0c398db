use Rattle.thy_scheme_parts.specs.Design.{design_of}
use Rattle.std.proofs.Common.{subst}
use Rattle.thy_scheme_parts.specs.Design.{Composed}
use Rattle.thy_scheme_parts.specs.Scheme.{scheme_of}
use Rattle.thy_composed_scheme.proofs.CallLemmas.{store_once, made_then}
use Rattle.thy_composed_scheme.proofs.scheme.ComposedScheme.store.Goals as goal

pub returns-clause-once : goal.returns-clause-once
returns-clause-once g c =
    store_once (design_of g.P.Fills.filling g.P.Checkpoints.items g.P.Parts.parts) g.met.P.Parts.are_parts c.args.b c.args.block.now
    c.args.self.now (g.N.Nvm.device c.args.nvm.now)
    (record {
      sound = subst (λ (s : Composed _). g.P.Parts.parts.sound s.control) c.self.view_is c.recall_sound.ensures;
      inside = c.requires.inside;
      ready = c.requires.ready;
      room = c.requires.room;
    })
    c.store_block.new.self (g.N.Nvm.device c.store_block.new.nvm) c.store_block.result c.store_block.ensures.acts

pub returns-clause-exact : goal.returns-clause-exact
returns-clause-exact g c =
    let n = g.N.Nvm.device c.args.nvm.now in
    made_then ((scheme_of (design_of g.P.Fills.filling g.P.Checkpoints.items g.P.Parts.parts)).calls.store c.args.b c.args.block.now
    c.args.self.now n) c.args.self.now c.store_block.new.self n
    (g.N.Nvm.device c.store_block.new.nvm) c.store_block.result c.store_block.ensures.answer c.store_block.ensures.acts
