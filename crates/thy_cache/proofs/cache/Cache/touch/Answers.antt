use Rattle.thy_cache.proofs.LocationLaws.{KeepsLines-read}
use Rattle.thy_cache.proofs.cache.Cache.touch.Goals as goal

pub returns-clause-lines : goal.returns-clause-lines
returns-clause-lines c = rw c.use_line.ensures.cache (KeepsLines-read c.args.self.now c.args.b c.use_line.ensures.inside)
