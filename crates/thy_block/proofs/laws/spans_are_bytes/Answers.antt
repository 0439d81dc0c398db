use Rattle.thy_block.proofs.FlatLemmas.{length-flat}
use Rattle.thy_block.proofs.SpanLaws.{gathered-flat, flat-scattered}
use Rattle.thy_block.proofs.laws.spans_are_bytes.Goals as goal

pub returns-clause-length : goal.returns-clause-length
returns-clause-length c = length-flat

pub returns-clause-read : goal.returns-clause-read
returns-clause-read c = gathered-flat

pub returns-clause-written : goal.returns-clause-written
returns-clause-written c = flat-scattered
