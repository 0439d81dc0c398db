use Rattle.std.proofs.Common.{◌∙◌, rules, not, sym}
use Rattle.std.proofs.lemmas.Iterator.{YieldsList-from_slice}
use Rattle.std.proofs.lemmas.Iterator.Adapters.{option_map_id}
use Rattle.std.proofs.lemmas.Iterator.Consumers.{YieldsList-from_copied}
use Rattle.std.proofs.lemmas.Iterator.Search.{find_from_yields_List}
use Rattle.clap.specs.Matches.{found_of}
use Rattle.clap.specs.Walk.{rows_of}
use Rattle.thy_base.specs.Options.{fields}
use Rattle.thy_base.specs.Fields.{is_readable}
use Rattle.thy_base.proofs.arguments.fields.unreadable_option.Goals as goal

pub returns : goal.returns
returns c =
    sym (option_map_id c.find.result)
    ∙ find_from_yields_List (λ field. not (is_readable (rows_of (found_of c.args.matches.now)) field)) _ _ _ c.find.ensures.ran
    (YieldsList-from_copied (YieldsList-from_slice fields (cc))) (λ x b q k. search rules)
