use Rattle.clap.specs.Matches.{found_of}
use Rattle.clap.specs.Walk.{rows_of}
use Rattle.thy_base.proofs.Needing.{readable-memory}
use Rattle.thy_base.proofs.arguments.words.values_in.Goals as goal

pub returns-in-Err-clause-memory : goal.returns-in-Err-clause-memory
returns-in-Err-clause-memory c = readable-memory (rows_of (found_of c.args.matches.now)) c.in-Err.error c.in-None.ensures
