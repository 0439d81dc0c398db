use Rattle.std.proofs.Common.{rules}
use Rattle.thy_table.proofs.cell_laws.a_seal_keeps_entries_sound.Goals as goal

pub returns : goal.returns
returns c = λ few low c s whole bare. record {
  of_page = search rules;
  apart0 = search rules;
  apart1 = search rules;
  one = search rules;
  in_nvm_free = search rules;
  in_nvm_bare = search rules;
  pending_moves = search rules;
  pending_home = search rules;
  pending_still = search rules;
  one_buffer = search rules;
  fresh_idle = search rules;
  framed_out = search rules;
}
