use Rattle.std.proofs.Common.{false, sym, ap, subst}
use Rattle.thy_block.specs.Device.{Crash}
use Rattle.thy_nvm.specs.Chosen.{AreChosen}
use Rattle.thy_nvm.specs.Pick.{landing}
use Rattle.thy_nvm.proofs.choices.leave_chosen.Goals as goal

pub returns-clause-words : goal.returns-clause-words
returns-clause-words c =
    subst (AreChosen c.args.choices.now c.args.ring.now) (sym (ap (λ r. r.image) c.clear_queue.ensures)) c.choose_places.ensures.words

pub returns-clause-left : goal.returns-clause-left
returns-clause-left c =
    subst (Crash (landing false c.args.ring.now)) (sym (ap (λ r. r.image) c.clear_queue.ensures)) c.choose_places.ensures.left
