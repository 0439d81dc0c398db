use Rattle.thy_layout.proofs.ReadBackLemmas.{cpu_back, epoch_back}
use Rattle.thy_layout.proofs.laws.record_reads_back.Goals as goal

pub returns : goal.returns
returns c = λ p cpu epoch blocks fits of. record {
  cpu_back = cpu_back p cpu epoch blocks fits of;
  epoch_back = epoch_back p cpu epoch blocks fits of;
}
