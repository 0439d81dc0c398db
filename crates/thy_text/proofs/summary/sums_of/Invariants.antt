use Rattle.std.proofs.Common.{◌≡◌, ◌*◌, ◌≤◌, count_by, sum_by, take}
use Rattle.thy_text.specs.Summary.{ends_early, ends_epoch, overlapped_by}
use Rattle.thy_text.proofs.summary.sums_of.Given as goal

-- what the first i events sum up to, and that it is short
abbrev pub invariant-loop-i : goal.invariant-loop-i
invariant-loop-i l = record {
  epochs : l.epochs ≡ count_by ends_epoch (take l.i l.events);
  early : l.early ≡ count_by ends_early (take l.i l.events);
  overlapped : l.overlapped ≡ sum_by overlapped_by (take l.i l.events);
  few_epochs : l.epochs ≤ l.i;
  few_early : l.early ≤ l.i;
  short : l.overlapped ≤ l.i * 18446744073709551616;
}
