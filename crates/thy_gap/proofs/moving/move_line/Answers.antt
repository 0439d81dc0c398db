use Rattle.std.proofs.Common.{◌≡◌, ◌+◌, ◌∙◌, ap, subst, sym, arith}
use Rattle.std.proofs.lemmas.Result.{on_ok_weaker, on_err_weaker}
use Rattle.thy_block.specs.Counts.{next}
use Rattle.thy_block.specs.Device.{Device, newest}
use Rattle.thy_block.specs.declared.block.Block.{Block}
use Rattle.thy_block.proofs.BasicLemmas.{OnErr-of}
use Rattle.thy_gap.specs.Failing.{HasFailedToPut}
use Rattle.thy_gap.specs.Levelled.{is_plain}
use Rattle.thy_gap.specs.Lines.{registers_block}
use Rattle.thy_gap.proofs.MovingLemmas.{failed_at_read, failed_at_copy, failed_at_registers, move_done}
use Rattle.thy_gap.proofs.moving.move_line.Goals as goal

pub returns-in_err-line-clause-err : goal.returns-in_err-line-clause-err
returns-in_err-line-clause-err g c =
    OnErr-of _ (failed_at_read c.args.registers.now (g.N.Nvm.device c.args.inner.now)
    (g.N.Nvm.device c.read.new.self) c.requires c.in_err-line.ensures.err)

pub returns-in_err-put-clause-err : goal.returns-in_err-put-clause-err
returns-in_err-put-clause-err g c =
    OnErr-of _
    (failed_at_copy c.args.registers.now (g.N.Nvm.device c.args.inner.now) (g.N.Nvm.device c.put.new.inner) c.in_ok-line.line c.requires
    (subst (λ (n : Device). HasFailedToPut c.args.registers.now.gap c.in_ok-line.line n (g.N.Nvm.device c.put.new.inner)) c.in_ok-line.ensures.same c.in_err-put.ensures.err))

pub returns-clause-err : goal.returns-clause-err
returns-clause-err g c =
    on_err_weaker c.put-2.result
    (λ failed. failed_at_registers c.args.registers.now (g.N.Nvm.device c.args.inner.now) (g.N.Nvm.device c.put.new.inner)
    (g.N.Nvm.device c.put-2.new.inner) c.in_ok-line.line c.requires
    (c.in_ok-line.ensures.ok ∙ ap (newest (g.N.Nvm.device c.args.inner.now)) c.source.ensures)
    (rw (sym c.in_ok-line.ensures.same) c.in_ok-put.ensures.ok)
    (subst (λ (b : Block). HasFailedToPut (c.args.registers.now.lines + 1) b (g.N.Nvm.device c.put.new.inner) (g.N.Nvm.device c.put-2.new.inner))
    (c.block.ensures ∙ ap registers_block c.moved.ensures) failed))
    c.put-2.ensures.err

pub returns-clause-ok : goal.returns-clause-ok
returns-clause-ok g c =
    on_ok_weaker c.put-2.result
    (λ done. move_done c.args.registers.now (g.N.Nvm.device c.args.inner.now) (g.N.Nvm.device c.put.new.inner)
    (g.N.Nvm.device c.put-2.new.inner) c.in_ok-line.line c.block.result
    (c.in_ok-line.ensures.ok ∙ ap (newest (g.N.Nvm.device c.args.inner.now)) c.source.ensures)
    (c.block.ensures ∙ ap registers_block c.moved.ensures)
    (rw (sym c.in_ok-line.ensures.same) c.in_ok-put.ensures.ok) done)
    c.put-2.ensures.ok

pub returns-in_err-line-clause-plain : goal.returns-in_err-line-clause-plain
returns-in_err-line-clause-plain g c = ap is_plain c.in_err-line.ensures.err.counts.wear

pub returns-in_err-line-clause-no_fewer : goal.returns-in_err-line-clause-no_fewer
returns-in_err-line-clause-no_fewer g c = omega (arith, c.in_err-line.ensures.err.counts.writes)

pub returns-in_err-put-clause-plain : goal.returns-in_err-put-clause-plain
returns-in_err-put-clause-plain g c = c.put.ensures.plain ∙ ap (λ (n : Device). is_plain n.wear) c.in_ok-line.ensures.same

pub returns-in_err-put-clause-no_fewer : goal.returns-in_err-put-clause-no_fewer
returns-in_err-put-clause-no_fewer g c = omega (arith, c.put.ensures.no_fewer, ap (λ (n : Device). n.writes) c.in_ok-line.ensures.same)

pub returns-clause-plain : goal.returns-clause-plain
returns-clause-plain g c = c.put-2.ensures.plain ∙ c.put.ensures.plain ∙ ap (λ (n : Device). is_plain n.wear) c.in_ok-line.ensures.same

pub returns-clause-no_fewer : goal.returns-clause-no_fewer
returns-clause-no_fewer g c =
    omega (arith, c.put-2.ensures.no_fewer, c.put.ensures.no_fewer, ap (λ (n : Device). n.writes) c.in_ok-line.ensures.same)

pub returns-clause-counts : goal.returns-clause-counts
returns-clause-counts g c plain =
    let here : is_plain (g.N.Nvm.device c.read.new.self).wear ≡ is_plain (g.N.Nvm.device c.args.inner.now).wear =
    ap (λ (n : Device). is_plain n.wear) c.in_ok-line.ensures.same in
    on_ok_weaker c.put-2.result
    (λ counted.
    counted
    ∙ ap next (c.in_ok-put.ensures.counts (here ∙ plain))
    ∙ ap (λ (n : Device). next (next n.writes)) c.in_ok-line.ensures.same)
    (c.put-2.ensures.counts (c.put.ensures.plain ∙ here ∙ plain))
