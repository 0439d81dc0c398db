use Rattle.std.proofs.Common.{map, string_bytes}
use Rattle.sweep.specs.Asking.{Takes, texts_of}
use Rattle.sweep.proofs.asked.take_given.Given as goal

abbrev pub invariant-loop : goal.invariant-loop
invariant-loop l = Takes (map string_bytes l.fn.words.items) (texts_of l.given) (map string_bytes l.words.items)
