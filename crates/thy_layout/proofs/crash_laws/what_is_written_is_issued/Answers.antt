use Rattle.thy_layout.proofs.SavedLemmas.{IsIssued-next_image, next_image-reads, next_image-commit}
use Rattle.thy_layout.proofs.crash_laws.what_is_written_is_issued.Goals as goal

pub returns-clause-issued : goal.returns-clause-issued
returns-clause-issued c = IsIssued-next_image

pub returns-clause-reads : goal.returns-clause-reads
returns-clause-reads c = next_image-reads

pub returns-clause-commit : goal.returns-clause-commit
returns-clause-commit c = next_image-commit
