use Rattle.std.proofs.Common.{◌≡◌, Some, sym, ◌∙◌, ap, subst, rules}
use Rattle.thy_block.specs.Device.{Device}
use Rattle.thy_block.proofs.BasicLemmas.{OnErr-of}
use Rattle.thy_control.specs.State.{State, IsSized}
use Rattle.thy_control.specs.Copies.{next_copy, block_listed, FailsCopy}
use Rattle.thy_control.proofs.CopyLemmas.{IsNext-entry, IsNext}
use Rattle.thy_control.proofs.StateLemmas.{subst_two}
use Rattle.thy_control.proofs.control.Control.copy_lowest.Goals as goal

pub copy_block-requires : goal.copy_block-requires
copy_block-requires g c =
    let s : State = c.args.self.now in
    let same = sym c.seek_copy.ensures.same in
    let next = IsNext-entry s c.recall_tables.ensures c.in-Some.i
    (sym c.seek_copy.ensures.place ∙ c.in-Some.is) in
    let block = c.block_at-b.ensures ∙ ap (block_listed c.in-Some.i) c.seek_copy.ensures.same in
    let due = subst_two IsNext c.seek_copy.ensures.same block next in
    record {
      block = due.inside;
      pending = due.pending;
      sized = subst (λ (t : State). IsSized t (g.N.Nvm.device c.args.nvm.now)) same
          c.requires.sized;
      up = c.requires.up;
    }

pub returns-in_err-copy_block-in-Some-clause-copies : goal.returns-in_err-copy_block-in-Some-clause-copies
returns-in_err-copy_block-in-Some-clause-copies g c =
    let s : State = c.args.self.now in
    let m : Device = g.N.Nvm.device c.args.nvm.now in
    let n : Device = g.N.Nvm.device c.copy_block.new.nvm in
    let next : next_copy s ≡ Some c.in-Some.i = sym c.seek_copy.ensures.place ∙ c.in-Some.is in
    let block : c.block_at-b.result ≡ block_listed c.in-Some.i s = c.block_at-b.ensures ∙ ap (block_listed c.in-Some.i) c.seek_copy.ensures.same in
    let ends = c.in_err-copy_block-in-Some.ensures in
    record {
      state = search rules;
      nvm = search rules;
      kept = OnErr-of c.from_residual.result (ends.kept ∙ c.seek_copy.ensures.same);
      err = OnErr-of c.from_residual.result (record {
        entry = c.in-Some.i;
        next = next;
        fails = subst_two (λ t b. FailsCopy b t m n) (sym c.seek_copy.ensures.same) (sym block)
            ends.err;
      });
      frame = ends.frame;
      cause = search rules;
    }
