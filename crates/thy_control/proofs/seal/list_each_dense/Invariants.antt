use Rattle.std.proofs.Common.{◌≡◌}
use Rattle.thy_control.specs.Seal.{ListsDense}
use Rattle.thy_control.proofs.seal.list_each_dense.Given as goal

abbrev pub invariant-loop-page : goal.invariant-loop-page
invariant-loop-page l = record {
  lists : ListsDense l.counts l.first l.page l.initial.ptt l.ptt;
  numbers : l.ptt.numbers ≡ l.initial.ptt.numbers;
}
