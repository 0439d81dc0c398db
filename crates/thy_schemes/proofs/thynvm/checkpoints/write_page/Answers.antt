use Rattle.std.proofs.Common.{◌∙◌}
use Rattle.thy_thynvm_parts.specs.Design.{action_next, written_next}
use Rattle.thy_schemes.proofs.ThynvmActLemmas.{some_page, page_state, page_device, page_fails}
use Rattle.thy_schemes.proofs.ThynvmActsLemmas.{err_acts}
use Rattle.thy_schemes.proofs.thynvm.checkpoints.write_page.Goals as goal

pub returns-in_err-page_next : goal.returns-in_err-page_next
returns-in_err-page_next g c =
    let s = c.args.control.now in
    let n = g.N.Nvm.device c.args.nvm.now in
    let m = g.N.Nvm.device c.page_next.new.nvm in
    let ends = c.in_err-page_next.ensures.writes in
    err_acts (action_next s n) (written_next s) c.from_residual.result s n c.page_next.new.self m c.from_residual.ensures.0
    ends.kept (page_fails s n m c.requires.copied ends.err) ends.frame ends.cause

pub returns : goal.returns
returns g c =
    let s = c.args.control.now in
    let n = g.N.Nvm.device c.args.nvm.now in
    let page = some_page s c.args.k c.requires.copied c.requires.next in
    let ends = c.in_ok-page_next.ensures.writes in
    record {
      control = ends.state ∙ page_state s n page.0 c.requires.copied page.1;
      device = ends.nvm ∙ page_device s n page.0 c.requires.copied page.1;
      kept = tt;
      failed = tt;
      frame = ends.frame;
      cause = ends.cause;
    }
