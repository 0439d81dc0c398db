use Rattle.std.proofs.Common.{ap}
use Rattle.std.specs.Option.{option_map}
use Rattle.thy_cache.specs.declared.line.Line.{Line}
use Rattle.thy_cache.proofs.WriteLaws.{ReadsAs-peeked}
use Rattle.thy_cache.proofs.cache.Cache.block_in.Goals as goal

pub returns-clause-reads : goal.returns-clause-reads
returns-clause-reads c =
    ReadsAs-peeked c.args.self.now c.args.b c.line_in-line.result.now.block (ap (option_map (λ (line : Line). line.block)) c.line_in-line.ensures)
