use Rattle.std.proofs.Common.{◌∙◌}
use Rattle.clap.specs.Simple.{subcommand_rows_of}
use Rattle.thy_base.proofs.Naming.{found_by, name_found, names_command}
use Rattle.thy_base.proofs.Needing.{found-memory}
use Rattle.thy_base.proofs.arguments.words.order.Goals as goal

pub returns-in-Some : goal.returns-in-Some
returns-in-Some c =
    let found = subcommand_rows_of c.args.matches.now in
    let is = found_by found _ _ (c.in-Some.ensures.name ∙ name_found c.args.matches.now) c.in-Some.ensures.rows in
    record {
      exact = names_command found _ _ c.order_in.result is c.order_in.ensures.exact;
      memory = found-memory found _ _ c.order_in.result is c.order_in.ensures.memory;
    }
