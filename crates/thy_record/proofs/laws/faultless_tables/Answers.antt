use Rattle.thy_record.proofs.TableFaultLemmas.{IsTables-faultless, IsFaultless-tables}
use Rattle.thy_record.proofs.laws.faultless_tables.Goals as goal

pub returns : goal.returns
returns c = λ p t. record { found = IsTables-faultless p t; stands = IsFaultless-tables p t }
