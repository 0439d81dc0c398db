use Rattle.std.proofs.Common.{◌≡◌, ◌++◌, take, string_bytes}
use Rattle.std.specs.List.{flat_map}
use Rattle.observe.specs.CountText.{cause_name, tab}
use Rattle.observe.proofs.counts.add_names.Given as goal

abbrev pub invariant-loop-cause : goal.invariant-loop-cause
invariant-loop-cause l = string_bytes l.text ≡ string_bytes l.fn.text ++ flat_map (λ c. tab ++ cause_name c) (take l.cause-index l.causes)
