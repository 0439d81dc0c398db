use Rattle.std.proofs.Common.{◌≡◌, OnOk, subst}
use Rattle.thy_control.specs.State.{State}
use Rattle.thy_thynvm_parts.proofs.FillingLemmas.{frame_loads, may_fill, filled_is_framed}
use Rattle.thy_thynvm_parts.proofs.frame.fill.Goals as goal

pub frame_block-requires-clause-may : goal.frame_block-requires-clause-may
frame_block-requires-clause-may g c =
    may_fill c.args.commit.now c.requires.next.slot c.args.control.now
    (g.N.Nvm.device c.args.nvm.now) c.args.k c.requires.next.lists c.requires.next.next c.requires.sized frame_loads

pub returns-clause-ok : goal.returns-clause-ok
returns-clause-ok g c =
    subst (λ (x : State). OnOk c.frame_block.result (c.frame_block.new.self ≡ x))
    (filled_is_framed c.args.k c.args.control.now (g.N.Nvm.device c.args.nvm.now)) c.frame_block.ensures.copies.state
