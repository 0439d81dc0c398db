use Rattle.std.proofs.Common.{◌≡◌, ◌-◌, ◌*◌, ◌^◌, ◌≤◌, min, drop, map}
use Rattle.thy_sweep.specs.Choices.{place_in, count_of}
use Rattle.thy_sweep.proofs.choices.count_all.Given as goal

-- the places to come make the same of it
abbrev pub invariant-loop-choice : goal.invariant-loop-choice
invariant-loop-choice l = record {
  fits : l.count ≤ 2 ^ 128 - 1;
  same : min (l.count * count_of (map place_in (drop l.choice-index l.places))) (2 ^ 128 - 1) ≡ min (count_of (map place_in l.places)) (2 ^ 128 - 1);
}
