use Rattle.std.proofs.Common.{◌≡◌, drop}
use Rattle.thy_table.specs.Counts.{greatest_of}
use Rattle.thy_table.proofs.counts.greatest.Given as goal

abbrev pub invariant-loop-count : goal.invariant-loop-count
invariant-loop-count l = greatest_of l.most (drop l.count-index l.counts) ≡ greatest_of 0 l.counts
