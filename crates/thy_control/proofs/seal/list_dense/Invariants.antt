use Rattle.std.proofs.Common.{◌≡◌, ◌*◌}
use Rattle.thy_control.specs.Seal.{dense_below, with_pages}
use Rattle.thy_control.proofs.seal.list_dense.Given as goal

abbrev pub invariant-loop-k : goal.invariant-loop-k
invariant-loop-k l = record {
  lists : l.ptt ≡ with_pages (dense_below l.counts (64 * l.k)) l.initial.ptt;
  numbers : l.ptt.numbers ≡ l.initial.ptt.numbers;
}
