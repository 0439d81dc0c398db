use Rattle.std.proofs.Common.{◌≡◌, ◌≤◌, length, take}
use Rattle.thy_run.specs.Cuts.{cuts_among}
use Rattle.thy_files.proofs.saving.cuts_in.Given as goal

abbrev pub invariant-loop-i : goal.invariant-loop-i
invariant-loop-i l = record {
  counted : l.count ≡ length (cuts_among (take l.i l.events));
  few : l.count ≤ l.i;
}
