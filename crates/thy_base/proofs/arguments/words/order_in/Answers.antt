use Rattle.std.proofs.Common.{refl, Some, None, Err}
use Rattle.clap.specs.Matches.{found_of}
use Rattle.clap.specs.Walk.{rows_of}
use Rattle.thy_base.proofs.Naming.{answers_name}
use Rattle.thy_base.proofs.Needing.{name-memory}
use Rattle.thy_base.specs.declared.arguments.words.WordsError.TheVariants.{Usage}
use Rattle.thy_base.proofs.arguments.words.order_in.Goals as goal

pub returns-in-Some : goal.returns-in-Some
returns-in-Some c =
    let rows = rows_of (found_of c.args.found.now) in
    record {
      exact = answers_name c.args.name.now rows (Some c.in-Some.verb) c.order_for.result c.in-Some.ensures c.order_for.ensures.exact;
      memory = name-memory c.args.name.now rows c.in-Some.verb c.order_for.result c.in-Some.ensures c.order_for.ensures.memory;
    }

pub returns-in-None-clause-exact : goal.returns-in-None-clause-exact
returns-in-None-clause-exact c =
    answers_name c.args.name.now (rows_of (found_of c.args.found.now)) None (Err Usage) c.in-None.ensures refl
