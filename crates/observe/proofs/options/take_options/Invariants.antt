use Rattle.std.proofs.Common.{◌≡◌, ◌-◌, map, string_bytes}
use Rattle.observe.specs.Wanting.{options_in, take_many}
use Rattle.observe.proofs.options.take_options.Given as goal

abbrev pub invariant-loop-done : goal.invariant-loop-done
invariant-loop-done l =
    take_many (12 - l.done) l.options (map string_bytes l.words.items) ≡ options_in (map string_bytes l.fn.words.items)
