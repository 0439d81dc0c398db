use Rattle.std.proofs.Common.{◌≡◌, ◌+◌, ◌-◌, ◌*◌, ◌^◌, ◌≤◌, min, drop, map}
use Rattle.thy_sweep.specs.Choices.{place_in, count_of, number_of}
use Rattle.thy_sweep.proofs.choices.number_in.Given as goal

-- the digits to come make the same number of it
abbrev pub invariant-loop-choice : goal.invariant-loop-choice
invariant-loop-choice l =
    let to_come = map place_in (drop l.choice-index l.places) in
    let g = l.copy.device.image in
    record {
      fits : l.number ≤ 2 ^ 128 - 1;
      same : min (l.number * count_of to_come + number_of to_come g) (2 ^ 128 - 1) ≡ min (number_of (map place_in l.places) g) (2 ^ 128 - 1);
    }
