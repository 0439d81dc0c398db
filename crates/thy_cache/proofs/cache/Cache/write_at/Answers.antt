use Rattle.std.proofs.Common.{sym, ◌∙◌, ap}
use Rattle.std.specs.Option.{is_some}
use Rattle.thy_cache.proofs.LocationLaws.{IsWritten-write, location-hits}
use Rattle.thy_cache.proofs.cache.Cache.write_at.Goals as goal

pub returns-clause-lines : goal.returns-clause-lines
returns-clause-lines c =
    rw c.write_line.ensures.cache
    (IsWritten-write c.args.self.now c.args.b c.args.at c.args.bytes.now c.write_line.ensures.inside
    (sym (location-hits c.args.self.now c.args.b) ∙ ap is_some c.requires.location))
