use Rattle.std.proofs.lemmas.Result.{on_ok_weaker}
use Rattle.sweep.proofs.trying.note.Goals as goal

pub returns-in-Some-clause-named : goal.returns-in-Some-clause-named
returns-in-Some-clause-named c = on_ok_weaker c.note_boot.result (λ _. c.in_ok-note_difference.ensures) c.note_boot.ensures.ok
