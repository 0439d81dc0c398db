use Rattle.std.proofs.Common.{◌∙◌}
use Rattle.thy_sweep.specs.Lying.{Lying, lying}
use Rattle.sweep.specs.declared.row.Row.{Row}
use Rattle.sweep.proofs.RowLemmas.{tried-of}
use Rattle.sweep.proofs.running.try_row.Goals as goal

pub recall_lying-requires : goal.recall_lying-requires
recall_lying-requires g c = record { some = c.requires.can.can.3 }

pub returns-in-Ok-clause-opens : goal.returns-in-Ok-clause-opens
returns-in-Ok-clause-opens g c =
    let d : Lying = lying g.N.OverMemory.levels (g.N.OverMemory.memory c.args.nvm.now) (g.N.Nvm.device c.args.nvm.now) in
    let a = c.args.asked.now in
    let new : Row = c.try_cycle.new.row in
    let before : Row = record c.new-row.result { images = new.images } in
    let has = (tried-of g.M.Computer.kind c.args.plan.now d c.args.progress.now.mix a before new c.in_ok-room.ensures.tried).1 in
    record {
      row = new;
      opened = c.in-Ok.ensures.current;
      sums = c.in-Ok.ensures.sums;
      first = has.first ∙ c.new-row.ensures.first;
      last = has.last ∙ c.new-row.ensures.last;
      lies = c.recall_lying.ensures;
      kept = c.in-Ok.ensures.kept;
      differs = c.in-Ok.ensures.differs;
      says = record {
        queued = has.queued ∙ c.new-row.ensures.queued ∙ c.queued.ensures;
        images = c.in_ok-room.ensures.images;
        before = before;
        empty = c.new-row.ensures.empty;
        untried = c.new-row.ensures.untried;
        tried = c.in_ok-room.ensures.tried;
      };
    }
