use Rattle.std.proofs.Common.{List, ℕ, [], sym, ap, subst, ◌∙◌}
use Rattle.thy_block.specs.declared.block.Block.{Block}
use Rattle.thy_block.specs.Device.{Crash}
use Rattle.thy_dram.specs.Held.{Held}
use Rattle.thy_nvm.specs.Pick.{landing, left_by}
use Rattle.thy_nvm.proofs.pick.leave.Goals as goal

pub returns-clause-ring : goal.returns-clause-ring
returns-clause-ring c =
    c.clear_queue.ensures
    ∙ ap (λ (i : List Block). let r : Held = record { image = i; queue = []; room = c.take_pick.new.ring.room } in r) c.take_pick.ensures.image
    ∙ ap (λ (n : ℕ). record (left_by c.args.whole c.args.pick c.args.ring.now) { room = n }) c.take_pick.ensures.room

pub returns-clause-left : goal.returns-clause-left
returns-clause-left c =
    subst (Crash (landing c.args.whole c.args.ring.now)) (sym (ap (λ r. r.image) c.clear_queue.ensures)) c.take_pick.ensures.left
