use Rattle.std.proofs.Common.{refl}
use Rattle.thy_scheme_parts.proofs.WaitLemmas.{hart_is_barred}
use Rattle.thy_journal_parts.specs.Design.{journal_design}
use Rattle.thy_journal_parts.proofs.laws.a_checkpoint_bars_the_hart.Goals as goal

pub returns : goal.returns
returns c = hart_is_barred journal_design refl
