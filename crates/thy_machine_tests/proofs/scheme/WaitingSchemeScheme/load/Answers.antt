use Rattle.thy_machine_tests.proofs.CallLemmas.{block-held, load-held, load-stays}
use Rattle.thy_machine_tests.proofs.scheme.WaitingSchemeScheme.load.Goals as goal

pub load_block-requires-clause-inside : goal.load_block-requires-clause-inside
load_block-requires-clause-inside g c = (block-held c.args.self.now (g.N.Nvm.device c.args.nvm.now) c.args.b c.requires).inside

pub load_block-requires-clause-sized : goal.load_block-requires-clause-sized
load_block-requires-clause-sized g c = (block-held c.args.self.now (g.N.Nvm.device c.args.nvm.now) c.args.b c.requires).sized

pub load_block-requires-clause-up : goal.load_block-requires-clause-up
load_block-requires-clause-up g c = (block-held c.args.self.now (g.N.Nvm.device c.args.nvm.now) c.args.b c.requires).up

pub returns-clause-ok : goal.returns-clause-ok
returns-clause-ok g c =
    load-held c.args.self.now (g.N.Nvm.device c.args.nvm.now) c.args.b c.load_block.result c.requires c.load_block.ensures.ok

pub returns-clause-stays : goal.returns-clause-stays
returns-clause-stays g c =
    load-stays c.args.self.now (g.N.Nvm.device c.args.nvm.now) (g.N.Nvm.device c.load_block.new.nvm) c.load_block.result c.load_block.ensures.reads
