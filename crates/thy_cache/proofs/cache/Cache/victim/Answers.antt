use Rattle.std.proofs.Common.{arith}
use Rattle.std.proofs.lemmas.Grind.{common_steps}
use Rattle.thy_cache.specs.Contents.{index_of, set_of}
use Rattle.thy_cache.specs.Ways.{victim_way}
use Rattle.thy_cache.proofs.FlushLaws.{none-counted}
use Rattle.thy_cache.proofs.cache.Cache.victim.Goals as goal

pub returns-in-Some-clause-victim : goal.returns-in-Some-clause-victim
returns-in-Some-clause-victim c = grind (arith, common_steps)

pub returns-in-Some-clause-clean : goal.returns-in-Some-clause-clean
returns-in-Some-clause-clean c = λ none.
    let b = c.args.b in
    let clean = none-counted c.args.self.now (index_of c.args.self.now b) (victim_way (set_of c.args.self.now b)) none in
    grind (arith, common_steps)
