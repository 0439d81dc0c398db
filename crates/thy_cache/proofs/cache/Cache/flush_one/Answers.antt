use Rattle.std.proofs.Common.{rules}
use Rattle.thy_cache.proofs.FlushLaws.{flat-clean}
use Rattle.thy_cache.proofs.cache.Cache.flush_one.Goals as goal

pub returns-in_default-clause-written : goal.returns-in_default-clause-written
returns-in_default-clause-written g c = λ done. flat-clean c.args.self.now
    (g.S.BlockStore.holding c.args.store.now c.args.nvm.now).blocks c.in_default.ensures.none c.requires.agree

pub returns-in-CopyFirst-clause-cache : goal.returns-in-CopyFirst-clause-cache
returns-in-CopyFirst-clause-cache g c = search rules

pub returns-in-CopyFirst-clause-store : goal.returns-in-CopyFirst-clause-store
returns-in-CopyFirst-clause-store g c = search rules

pub returns-in-CopyFirst-clause-made : goal.returns-in-CopyFirst-clause-made
returns-in-CopyFirst-clause-made g c = search rules

pub returns-in-CopyFirst-clause-dirty : goal.returns-in-CopyFirst-clause-dirty
returns-in-CopyFirst-clause-dirty g c = search rules

pub returns-in-CopyFirst-clause-open : goal.returns-in-CopyFirst-clause-open
returns-in-CopyFirst-clause-open g c = search rules

pub returns-in-CopyFirst-clause-clean : goal.returns-in-CopyFirst-clause-clean
returns-in-CopyFirst-clause-clean g c = search rules
