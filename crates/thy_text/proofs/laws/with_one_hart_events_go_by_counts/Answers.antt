use Rattle.thy_text.proofs.OneHartLaws.{by-counts}
use Rattle.thy_text.proofs.laws.with_one_hart_events_go_by_counts.Goals as goal

pub returns : goal.returns
returns g = by-counts
