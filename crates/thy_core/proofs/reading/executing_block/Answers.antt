use Rattle.std.proofs.Common.{◌≡◌, IfOk, subst}
use Rattle.thy_block.specs.declared.block.Block.{Block}
use Rattle.thy_core.proofs.ReadingLemmas.{loads_inside, block_hit, block_miss}
use Rattle.thy_core.proofs.reading.executing_block.Goals as goal

pub load-requires : goal.load-requires
load-requires g c =
    loads_inside c.args.m.now.cache (g.S.Scheme.scheme.holding c.args.m.now.store.scheme (g.N.Nvm.device c.args.nvm.now)).blocks c.args.b c.requires

pub returns-in-Some-clause-ok : goal.returns-in-Some-clause-ok
returns-in-Some-clause-ok g c =
    block_hit c.args.m.now.cache (g.S.Scheme.scheme.holding c.args.m.now.store.scheme (g.N.Nvm.device c.args.nvm.now)).blocks c.args.b
    c.peek.result c.in-Some.block c.requires c.peek.ensures.block c.in-Some.is

pub returns-in-None-clause-ok : goal.returns-in-None-clause-ok
returns-in-None-clause-ok g c =
    subst (λ (found : Block). IfOk c.load.result (λ block. block ≡ found))
    (block_miss c.args.m.now.cache (g.S.Scheme.scheme.holding c.args.m.now.store.scheme (g.N.Nvm.device c.args.nvm.now)).blocks c.args.b
    c.peek.result c.requires c.peek.ensures.block c.in-None.is)
    c.load.ensures.ok
