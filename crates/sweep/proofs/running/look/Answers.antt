use Rattle.std.proofs.Common.{◌≡◌, ◌||◌, sym, ◌∙◌, ap, subst, inl, inr}
use Rattle.std.proofs.lemmas.Result.{on_ok_weaker}
use Rattle.std.specs.Prelude.{Option, is_some, option_map}
use Rattle.thy_block.specs.Device.{Device}
use Rattle.thy_sweep.specs.Lying.{Lying, lying}
use Rattle.sweep.specs.declared.account.Account.{Account}
use Rattle.sweep.specs.declared.account.Kept.{Kept}
use Rattle.sweep.specs.declared.row.Row.{Row}
use Rattle.sweep.specs.Kept.{OpensRow, closed_into, differs_in, extended}
use Rattle.sweep.specs.Still.{IsLooked}
use Rattle.sweep.proofs.running.look.Goals as goal

pub returns-then-not-has-clause-looks : goal.returns-then-not-has-clause-looks
returns-then-not-has-clause-looks g c =
    inl (record { sums = c.pass.ensures.sums; differs = c.pass.ensures.differs; stays = inl (c.pass.ensures.current, sym c.has.ensures ∙ c.if-not-has.true); looked = c.pass.ensures.looked })

pub returns-then-more-clause-looks : goal.returns-then-more-clause-looks
returns-then-more-clause-looks g c =
    let old : Kept = c.args.watch.now.account.kept in
    let n : Device = g.N.Nvm.device c.args.nvm.now in
    let count = c.pass.new.self.count in
    inl (record {
      sums = c.repeats-more.ensures.sums ∙ c.pass.ensures.sums;
      differs = c.repeats-more.ensures.differs ∙ c.pass.ensures.differs;
      stays = inr (record {
        count = count;
        some = ap is_some (sym c.pass.ensures.current) ∙ c.repeats-more.ensures.some c.if-more.true;
        more = c.repeats-more.ensures.more c.if-more.true ∙ ap (option_map (extended c.args.cycle count)) c.pass.ensures.current;
        same = c.repeats-more.ensures.still c.if-more.true;
      });
      looked = subst (λ (k : Kept). IsLooked old k n) (sym c.repeats-more.ensures.kept) c.pass.ensures.looked;
    })

pub returns-clause-looks : goal.returns-clause-looks
returns-clause-looks g c =
    let d : Lying = lying g.N.OverMemory.levels (g.N.OverMemory.memory c.args.nvm.now) (g.N.Nvm.device c.args.nvm.now) in
    let old : Account = c.args.watch.now.account in
    let mid : Account = c.repeats-more.new.self in
    let current : mid.current ≡ old.current = c.repeats-more.ensures.other c.if-more.false ∙ c.pass.ensures.current in
    let sums : mid.sums ≡ old.sums = c.repeats-more.ensures.sums ∙ c.pass.ensures.sums in
    let differs : mid.differs ≡ old.differs = c.repeats-more.ensures.differs ∙ c.pass.ensures.differs in
    on_ok_weaker c.try_row.result
    (λ (h : OpensRow g.M.Computer.kind c.args.plan.now d c.args.progress.now.mix c.args.asked.now c.args.cycle mid c.try_row.new.watch.account).
    inr (record {
      row = h.row;
      opened = h.opened;
      sums = h.sums ∙ ap (λ (o : Option Row). closed_into o mid.sums) current ∙ ap (closed_into old.current) sums;
      first = h.first;
      last = h.last;
      lies = h.lies;
      says = h.says;
      kept = h.kept;
      differs = h.differs ∙ ap (λ b. b || differs_in h.row) differs;
    }))
    c.try_row.ensures.opens
