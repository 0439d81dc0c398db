use Rattle.std.proofs.lemmas.Grind.{common_steps}
use Rattle.std.proofs.Common.{◌-◌, ◌^◌, ◌≤◌, arith, refl, sym}
use Rattle.thy_block.proofs.BasicLemmas.{OnErr-of}
use Rattle.thy_gap.proofs.SoundLemmas.{due_before, barrier_settles, inner_rests, inner_moves, sound_settled, sound_unsettled, unsettled_seen, rest_before_move, sound_moved, move_settles, sound_failed_to_move, failed_move_seen}
use Rattle.thy_gap.proofs.gap.GapNvm.barrier.Goals as goal

pub invariant_of-self : goal.invariant_of-self
invariant_of-self g c = sound_unsettled c.self.invariant (g.N.Nvm.device c.barrier.new.self) c.barrier.ensures.frame c.in_err-barrier.ensures.err

pub returns-in_err-barrier-clause-err : goal.returns-in_err-barrier-clause-err
returns-in_err-barrier-clause-err g c =
    rw (sym c.self.view_is) (OnErr-of _ (unsettled_seen c.self.invariant (g.N.Nvm.device c.barrier.new.self) c.in_err-barrier.ensures.err))

pub invariant_of-self-then-not-due : goal.invariant_of-self-then-not-due
invariant_of-self-then-not-due g c =
    sound_settled c.self.invariant (g.N.Nvm.device c.barrier.new.self)
    (rw (sym c.self.view_is) at c.requires) c.in_ok-barrier.ensures.ok.device c.barrier.ensures.frame

pub returns-then-not-due-clause-ok : goal.returns-then-not-due-clause-ok
returns-then-not-due-clause-ok g c =
    let few : (g.N.Nvm.device c.self.inside.inner).writes ≤ 2 ^ 64 - 1 = grind (arith, common_steps) in
    rw (sym c.self.view_is)
    (barrier_settles c.self.invariant (g.N.Nvm.device c.barrier.new.self) (due_before (g.N.Nvm.device c.self.inside.inner)
    (g.N.Nvm.device c.barrier.new.self) c.self.inside.since c.self.inside.every c.is_due-due.result
    c.barrier.ensures.frame.whole c.is_due-due.ensures c.if-not-due.true) few c.in_ok-barrier.ensures.ok)

pub returns-then-not-due-clause-inner : goal.returns-then-not-due-clause-inner
returns-then-not-due-clause-inner g c =
    rw (sym c.self.view_is)
    (inner_rests c.self.invariant (g.N.Nvm.device c.barrier.new.self) (due_before (g.N.Nvm.device c.self.inside.inner)
    (g.N.Nvm.device c.barrier.new.self) c.self.inside.since c.self.inside.every c.is_due-due.result
    c.barrier.ensures.frame.whole c.is_due-due.ensures c.if-not-due.true) c.in_ok-barrier.ensures.ok.device)

pub move_line-requires : goal.move_line-requires
move_line-requires g c =
    rest_before_move c.self.invariant (g.N.Nvm.device c.barrier.new.self) (due_before (g.N.Nvm.device c.self.inside.inner)
    (g.N.Nvm.device c.barrier.new.self) c.self.inside.since c.self.inside.every c.is_due-due.result
    c.barrier.ensures.frame.whole c.is_due-due.ensures c.if-not-due.false) (rw (sym c.self.view_is) at c.requires)
    c.in_ok-barrier.ensures.ok.device

pub invariant_of-self-in_err-move_line : goal.invariant_of-self-in_err-move_line
invariant_of-self-in_err-move_line g c =
    sound_failed_to_move c.self.invariant (g.N.Nvm.device c.barrier.new.self) (g.N.Nvm.device c.move_line.new.inner)
    (rw (sym c.self.view_is) at c.requires)
    c.in_ok-barrier.ensures.ok.device c.barrier.ensures.frame c.move_line.ensures.frame c.in_err-move_line.ensures.err

pub returns-in_err-move_line-clause-err : goal.returns-in_err-move_line-clause-err
returns-in_err-move_line-clause-err g c =
    let few : (g.N.Nvm.device c.self.inside.inner).writes ≤ 2 ^ 64 - 1 = grind (arith, common_steps) in
    rw (sym c.self.view_is)
    (OnErr-of _
    (failed_move_seen c.self.invariant (g.N.Nvm.device c.barrier.new.self) (g.N.Nvm.device c.move_line.new.inner) (due_before
    (g.N.Nvm.device c.self.inside.inner) (g.N.Nvm.device c.barrier.new.self) c.self.inside.since c.self.inside.every c.is_due-due.result
    c.barrier.ensures.frame.whole c.is_due-due.ensures c.if-not-due.false) few
    c.in_ok-barrier.ensures.ok c.in_err-move_line.ensures.err c.move_line.ensures.plain c.move_line.ensures.no_fewer))

pub invariant_of-self-2 : goal.invariant_of-self-2
invariant_of-self-2 g c =
    rw c.moved-self-inside.ensures
    (sound_moved c.self.invariant (g.N.Nvm.device c.barrier.new.self) (g.N.Nvm.device c.move_line.new.inner) _ (grind (arith, common_steps))
    (due_before (g.N.Nvm.device c.self.inside.inner)
    (g.N.Nvm.device c.barrier.new.self) c.self.inside.since c.self.inside.every c.is_due-due.result
    c.barrier.ensures.frame.whole c.is_due-due.ensures c.if-not-due.false)
    (rw (sym c.self.view_is) at c.requires) c.in_ok-barrier.ensures.ok.device c.barrier.ensures.frame c.in_ok-move_line.ensures.ok)

pub returns-clause-ok : goal.returns-clause-ok
returns-clause-ok g c =
    let few : (g.N.Nvm.device c.self.inside.inner).writes ≤ 2 ^ 64 - 1 = grind (arith, common_steps) in
    rw (sym c.self.view_is)
    (move_settles c.self.invariant (g.N.Nvm.device c.barrier.new.self)
    (g.N.Nvm.device c.move_line.new.inner) c.moved-self-inside.result _ c.moved-self-inside.ensures
    (grind (arith, common_steps)) (due_before (g.N.Nvm.device c.self.inside.inner)
    (g.N.Nvm.device c.barrier.new.self) c.self.inside.since c.self.inside.every c.is_due-due.result
    c.barrier.ensures.frame.whole c.is_due-due.ensures c.if-not-due.false)
    (rw (sym c.self.view_is) at c.requires) few c.in_ok-barrier.ensures.ok c.in_ok-move_line.ensures.ok
    c.move_line.ensures.plain c.move_line.ensures.no_fewer c.in_ok-move_line.ensures.counts)

pub returns-then-not-due-clause-moves : goal.returns-then-not-due-clause-moves
returns-then-not-due-clause-moves g c = grind (arith, common_steps)

pub returns-clause-moves : goal.returns-clause-moves
returns-clause-moves g c = grind (arith, common_steps)

pub returns-clause-inner : goal.returns-clause-inner
returns-clause-inner g c =
    rw (sym c.self.view_is)
    (inner_moves c.self.invariant (g.N.Nvm.device c.barrier.new.self) (g.N.Nvm.device c.move_line.new.inner) (due_before
    (g.N.Nvm.device c.self.inside.inner) (g.N.Nvm.device c.barrier.new.self) c.self.inside.since c.self.inside.every c.is_due-due.result
    c.barrier.ensures.frame.whole c.is_due-due.ensures c.if-not-due.false) c.in_ok-barrier.ensures.ok.device
    c.in_ok-move_line.ensures.ok)

pub returns-in_err-move_line-clause-stays : goal.returns-in_err-move_line-clause-stays
returns-in_err-move_line-clause-stays g c = rw (sym c.self.view_is) (OnErr-of _ refl)
