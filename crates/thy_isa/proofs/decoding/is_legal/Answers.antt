use Rattle.std.proofs.Common.{◌∙◌, ap, Option}
use Rattle.std.specs.Prelude.{is_some}
use Rattle.thy_isa.specs.declared.instr.Instr.{Instr}
use Rattle.thy_isa.proofs.OneRow.{is_some-instr_of, rows_of-at_most_one}
use Rattle.thy_isa.proofs.decoding.is_legal.Goals as goal

pub returns : goal.returns
returns c =
    let decoded = c.is_some.ensures ∙ ap (λ (o : Option Instr). is_some o) c.decode.ensures in record {
      decoded = decoded;
      at_most_one = rows_of-at_most_one c.args.word;
      some_row = decoded ∙ is_some-instr_of c.args.word;
    }
