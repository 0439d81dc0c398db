use Rattle.std.proofs.Common.{sym, ◌∙◌}
use Rattle.sweep.proofs.account.Kept.keep.Goals as goal

pub returns : goal.returns
returns g c = λ _. record {
  queued = sym c.in_ok-keep_queue.ensures;
  landed = λ w ws q. c.first_of-self.ensures w ws (sym c.in_ok-keep_queue.ensures ∙ q);
}
