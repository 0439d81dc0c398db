use Rattle.std.proofs.Common.{ap}
use Rattle.std.specs.Option.{option_map}
use Rattle.thy_cache.specs.declared.line.Line.{Line}
use Rattle.thy_cache.proofs.LocationLaws.{KeepsLines-read}
use Rattle.thy_cache.proofs.WriteLaws.{ReadsAs-peeked}
use Rattle.thy_cache.proofs.cache.Cache.read_at.Goals as goal

pub returns-clause-reads : goal.returns-clause-reads
returns-clause-reads c =
    ReadsAs-peeked c.args.self.now c.args.b c.line_in.result.now.block (ap (option_map (λ (line : Line). line.block)) c.line_in.ensures)

pub returns-clause-lines : goal.returns-clause-lines
returns-clause-lines c = rw c.use_line.ensures.cache (KeepsLines-read c.args.self.now c.args.b c.use_line.ensures.inside)
