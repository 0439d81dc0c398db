use Rattle.std.proofs.Common.{rules, ◌≡◌, None, sym, ◌∙◌}
use Rattle.thy_isa.specs.Table.{table, first_row}
use Rattle.thy_isa.proofs.RowLaws.{rows_with, instr_of-with}
use Rattle.thy_isa.proofs.decoding.decode_atomic.Goals as goal

pub returns-in_default : goal.returns-in_default
returns-in_default c =
    let none : None ≡ first_row (rows_with 0b0101111 table) c.args.word = search rules in
    none ∙ sym (instr_of-with c.args.word 0b0101111 c.requires)
