use Rattle.std.proofs.Common.{◌≡◌, ◌++◌, take, string_bytes}
use Rattle.std.specs.List.{flat_map}
use Rattle.thy_observe.specs.Ledgers.{count_in}
use Rattle.observe.specs.CountText.{cause_name, count_row}
use Rattle.observe.proofs.counts.add_lines.Given as goal

abbrev pub invariant-loop-cause : goal.invariant-loop-cause
invariant-loop-cause l =
    string_bytes l.text
    ≡ string_bytes l.fn.text ++ flat_map (λ c. count_row (cause_name c) (count_in l.ledger c)) (take l.cause-index l.causes)
