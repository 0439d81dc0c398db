use Rattle.std.proofs.Common.{refl, inl, inr}
use Rattle.std.proofs.lemmas.Result.{on_ok_weaker}
use Rattle.sweep.proofs.trying.note_difference.Goals as goal

pub returns-then-known : goal.returns-then-known
returns-then-known c = inl (c.is_known-known.ensures c.if-known.true, refl)

pub returns : goal.returns
returns c = on_ok_weaker c.add_name.result (λ e. inr e) c.add_name.ensures
