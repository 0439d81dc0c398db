use Rattle.std.proofs.Common.{sym, ◌∙◌}
use Rattle.thy_thynvm_parts.specs.Design.{action_next, written_next}
use Rattle.thy_schemes.proofs.ThynvmActLemmas.{copy_fails}
use Rattle.thy_schemes.proofs.ThynvmActsLemmas.{err_acts, copy_acts, then_acts}
use Rattle.thy_schemes.proofs.thynvm.checkpoints.write_next.Goals as goal

pub returns-in_err-copy_next : goal.returns-in_err-copy_next
returns-in_err-copy_next g c =
    let s = c.args.control.now in
    let n = g.N.Nvm.device c.args.nvm.now in
    let m = g.N.Nvm.device c.copy_next.new.nvm in
    let ends = c.in_err-copy_next.ensures.copies in
    err_acts (action_next s n) (written_next s) c.from_residual.result s n c.copy_next.new.self m c.from_residual.ensures.0
    ends.kept (copy_fails s n m ends.err) ends.frame ends.cause

pub returns-then-branch : goal.returns-then-branch
returns-then-branch g c =
    let ends = c.in_ok-copy_next.ensures.copies in
    copy_acts c.args.control.now (g.N.Nvm.device c.args.nvm.now) c.copy_next.new.self (g.N.Nvm.device c.copy_next.new.nvm)
    (sym c.in_ok-copy_next.ensures.more ∙ c.if-branch.true) ends.state ends.nvm ends.frame ends.cause

pub returns-else-branch : goal.returns-else-branch
returns-else-branch g c =
    let ends = c.in_ok-copy_next.ensures.copies in
    then_acts c.write_page.result c.args.control.now (g.N.Nvm.device c.args.nvm.now) c.copy_next.new.self
    (g.N.Nvm.device c.copy_next.new.nvm) c.write_page.new.control (g.N.Nvm.device c.write_page.new.nvm)
    (sym c.in_ok-copy_next.ensures.more ∙ c.if-branch.false) ends.state ends.nvm c.write_page.ensures
