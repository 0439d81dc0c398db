use Rattle.std.proofs.Common.{◌≡◌, Some, sym, ◌∙◌, ap, subst, rules}
use Rattle.thy_block.specs.Device.{Device}
use Rattle.thy_block.proofs.BasicLemmas.{OnErr-of}
use Rattle.thy_control.specs.State.{State, IsSized}
use Rattle.thy_control.specs.Pages.{next_page, block_to_write, FailsWriteOf}
use Rattle.thy_control.proofs.IssueLemmas.{IsDue-entry, IsDue}
use Rattle.thy_control.proofs.StateLemmas.{subst_two}
use Rattle.thy_control.proofs.control.Control.write_lowest.Goals as goal

pub write_block-requires : goal.write_block-requires
write_block-requires g c =
    let s : State = c.args.self.now in
    let same = sym c.seek_page.ensures.same in
    let next = IsDue-entry s c.recall_tables.ensures c.in-Some.j
    (sym c.seek_page.ensures.place ∙ c.in-Some.is) in
    let block = c.block_due-b.ensures ∙ ap (block_to_write c.in-Some.j) c.seek_page.ensures.same in
    let due = subst_two IsDue c.seek_page.ensures.same block next in
    record {
      block = due.inside;
      busy = due.busy;
      due = due.due;
      sized = subst (λ (t : State). IsSized t (g.N.Nvm.device c.args.nvm.now)) same
          c.requires.sized;
      up = c.requires.up;
    }

pub returns-in_err-write_block-in-Some-clause-writes : goal.returns-in_err-write_block-in-Some-clause-writes
returns-in_err-write_block-in-Some-clause-writes g c =
    let s : State = c.args.self.now in
    let m : Device = g.N.Nvm.device c.args.nvm.now in
    let n : Device = g.N.Nvm.device c.write_block.new.nvm in
    let next : next_page s ≡ Some c.in-Some.j = sym c.seek_page.ensures.place ∙ c.in-Some.is in
    let block : c.block_due-b.result ≡ block_to_write c.in-Some.j s =
    c.block_due-b.ensures ∙ ap (block_to_write c.in-Some.j) c.seek_page.ensures.same in
    let ends = c.in_err-write_block-in-Some.ensures in
    record {
      state = search rules;
      nvm = search rules;
      kept = OnErr-of c.from_residual.result (ends.kept ∙ c.seek_page.ensures.same);
      err = OnErr-of c.from_residual.result (record {
        entry = c.in-Some.j;
        next = next;
        fails = subst_two (λ t b. FailsWriteOf b t m n) (sym c.seek_page.ensures.same) (sym block)
            ends.err;
      });
      frame = ends.frame;
      cause = search rules;
    }
