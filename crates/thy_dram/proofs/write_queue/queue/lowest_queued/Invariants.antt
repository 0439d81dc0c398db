use Rattle.std.proofs.Common.{◌≡◌}
use Rattle.std.specs.Prelude.{None}
use Rattle.thy_dram.specs.Lowest.{lowest_over}
use Rattle.thy_dram.proofs.write_queue.queue.lowest_queued.Given as goal

abbrev pub invariant-loop-write : goal.invariant-loop-write
invariant-loop-write l = lowest_over l.from l.lowest l.write-iterator ≡ lowest_over l.from None l.queue.items
