use Rattle.thy_record.proofs.EntryLemmas.{IsPlace-place_of, in_dram-place_of, place_of-own}
use Rattle.thy_record.proofs.laws.each_block_has_its_place.Goals as goal

pub returns-clause-there : goal.returns-clause-there
returns-clause-there c = λ p t b s l. record { there = IsPlace-place_of p t b s l; in_nvm = in_dram-place_of t b }

pub returns-clause-own : goal.returns-clause-own
returns-clause-own c = λ t b d same. place_of-own t b d same
