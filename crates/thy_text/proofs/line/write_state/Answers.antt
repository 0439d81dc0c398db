use Rattle.std.proofs.Common.{rules}
use Rattle.thy_block.specs.Bytes.{bytes_of}
use Rattle.thy_block.proofs.Streams.{TookPart-more}
use Rattle.thy_text.specs.Lines.{digest_line}
use Rattle.thy_text.proofs.Taking.{Wrote-then}
use Rattle.thy_text.proofs.line.write_state.Goals as goal

pub returns-in_err-write_numbers : goal.returns-in_err-write_numbers
returns-in_err-write_numbers g c =
    let behind = digest_line c.args.digest (bytes_of c.args.state.now.memory) in
    let part = TookPart-more _ _ _ behind c.in_err-write_numbers.ensures.failed in
    record { whole = search rules; failed = search (rules, part) }

pub returns : goal.returns
returns g c = Wrote-then _ _ _ _ _ _ c.in_ok-write_numbers.ensures.whole c.write_digest.ensures
