use Rattle.std.proofs.Common.{arith}
use Rattle.thy_layout.proofs.HeaderLemmas.{header_fault-header_of}
use Rattle.thy_layout.proofs.ReadBackLemmas.{epoch_of-commit_of, version_of-commit_of, commit_fault-commit_of, is_zero-commit_of}
use Rattle.thy_layout.proofs.laws.header_and_commit_read_back.Goals as goal

pub returns-clause-header : goal.returns-clause-header
returns-clause-header c = λ scheme p few r. header_fault-header_of scheme p few r

pub returns-clause-commit : goal.returns-clause-commit
returns-clause-commit c = λ epoch ceiling below most. record {
  committed = is_zero-commit_of epoch;
  of_epoch = epoch_of-commit_of epoch (omega arith);
  of_version = λ scheme p. version_of-commit_of scheme p epoch;
  fits = λ header. commit_fault-commit_of header epoch ceiling below most;
}
