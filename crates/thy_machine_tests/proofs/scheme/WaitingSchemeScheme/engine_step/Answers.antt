use Rattle.std.proofs.Common.{◌∙◌, ap}
use Rattle.thy_table.specs.Places.{image_blocks}
use Rattle.thy_machine_tests.proofs.CallLemmas.{engines-on, engine-fails-on, engine-stays, engine-made}
use Rattle.thy_machine_tests.proofs.scheme.WaitingSchemeScheme.engine_step.Goals as goal

pub take_turn-requires-clause-fits : goal.take_turn-requires-clause-fits
take_turn-requires-clause-fits g c = c.requires.stands.stands.sound.below.held.fits

pub take_turn-requires-clause-sized : goal.take_turn-requires-clause-sized
take_turn-requires-clause-sized g c =
    let held = c.requires.stands.stands.sound.below.held in held.moment.sized ∙ ap image_blocks held.fits.same_p

pub take_turn-requires-clause-up : goal.take_turn-requires-clause-up
take_turn-requires-clause-up g c = c.requires.stands.stands.up

pub returns-clause-ok : goal.returns-clause-ok
returns-clause-ok g c = λ o k stands.
    engines-on o k c.args.self.now c.take_turn.new.self (g.N.Nvm.device c.args.nvm.now) (g.N.Nvm.device c.take_turn.new.nvm) stands
    c.requires.way c.take_turn.result c.take_turn.ensures.made

pub returns-clause-err : goal.returns-clause-err
returns-clause-err g c = λ o k stands.
    engine-fails-on o k c.args.self.now c.take_turn.new.self (g.N.Nvm.device c.args.nvm.now) (g.N.Nvm.device c.take_turn.new.nvm) stands
    c.requires.way c.take_turn.ensures.frame c.take_turn.result c.take_turn.ensures.made

pub returns-clause-left : goal.returns-clause-left
returns-clause-left g c =
    engine-stays c.args.self.now c.take_turn.new.self (g.N.Nvm.device c.args.nvm.now) (g.N.Nvm.device c.take_turn.new.nvm) c.take_turn.result
    c.take_turn.ensures.made

pub returns-clause-exact : goal.returns-clause-exact
returns-clause-exact g c =
    engine-made c.args.self.now c.take_turn.new.self (g.N.Nvm.device c.args.nvm.now) (g.N.Nvm.device c.take_turn.new.nvm) c.take_turn.result
    c.take_turn.ensures.made
