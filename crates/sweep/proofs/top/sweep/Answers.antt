use Rattle.std.proofs.Common.{refl}
use Rattle.thy_block.specs.declared.parameters.SchemeName.TheVariants.{Thynvm, Journal, Shadow}
use Rattle.thy_files.proofs.RestoringLaws.{reads_by}
use Rattle.sweep.proofs.top.sweep.Goals as goal

pub sweep_words-requires-clause-thynvm : goal.sweep_words-requires-clause-thynvm
sweep_words-requires-clause-thynvm g c = reads_by _ Thynvm (λ p ceiling image. refl) (λ p. refl)

pub sweep_words-requires-clause-journal : goal.sweep_words-requires-clause-journal
sweep_words-requires-clause-journal g c = reads_by _ Journal (λ p ceiling image. refl) (λ p. refl)

pub sweep_words-requires-clause-shadow : goal.sweep_words-requires-clause-shadow
sweep_words-requires-clause-shadow g c = reads_by _ Shadow (λ p ceiling image. refl) (λ p. refl)
