use Rattle.thy_table.proofs.MoveLemmas.{ReadsTheSame-drained, ReadsTheSame-settled, ReadsTheSame-dram_drained}
use Rattle.thy_table.proofs.move_laws.landing_moves_nothing.Goals as goal

pub returns : goal.returns
returns c = λ p d sized. (ReadsTheSame-drained p d sized, λ count. ReadsTheSame-settled p d count sized, ReadsTheSame-dram_drained p d sized)
