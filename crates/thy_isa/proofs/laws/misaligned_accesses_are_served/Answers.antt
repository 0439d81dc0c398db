use Rattle.thy_isa.proofs.TrapLaws.{step-alone_spares, step-plain_spares}
use Rattle.thy_isa.proofs.laws.misaligned_accesses_are_served.Goals as goal

pub returns-clause-alone : goal.returns-clause-alone
returns-clause-alone c = step-alone_spares

pub returns-clause-accesses : goal.returns-clause-accesses
returns-clause-accesses c = step-plain_spares
