use Rattle.thy_machine_tests.proofs.scheme.WaitingSchemeScheme.committed.Goals as goal

pub load_committed-requires-clause-sized : goal.load_committed-requires-clause-sized
load_committed-requires-clause-sized g c = c.requires.stands.stands.sound.below.held.moment.sized

pub load_committed-requires-clause-up : goal.load_committed-requires-clause-up
load_committed-requires-clause-up g c = c.requires.stands.stands.up
