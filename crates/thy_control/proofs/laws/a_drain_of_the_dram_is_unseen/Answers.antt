use Rattle.thy_control.proofs.DrainLemmas.{IsUnseen-drained, takes_one}
use Rattle.thy_control.proofs.laws.a_drain_of_the_dram_is_unseen.Goals as goal

pub returns-clause-unseen : goal.returns-clause-unseen
returns-clause-unseen c = IsUnseen-drained

pub returns-clause-queued : goal.returns-clause-queued
returns-clause-queued c = takes_one
