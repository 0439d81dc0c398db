use Rattle.std.proofs.Common.{sym, ◌∙◌, ap}
use Rattle.thy_block.specs.declared.store.Stored.TheVariants.{Done}
use Rattle.thy_block.specs.Store.{HasStored}
use Rattle.thy_cache.specs.Ways.{is_dirty}
use Rattle.thy_cache.specs.Flat.{flat}
use Rattle.thy_cache.proofs.StoreLaws.{CanStore, after-flat, after-agrees}
use Rattle.thy_cache.proofs.SizeLaws.{KeepsSize-stored}
use Rattle.thy_cache.proofs.cache.Cache.store_line.Goals as goal

pub store-requires-clause-inside : goal.store-requires-clause-inside
store-requires-clause-inside g c = ((c.requires.agree.sets c.args.set).lines c.args.way c.line_at-line.result.now c.line_at-line.ensures).inside

pub returns-in-Done-clause-flat : goal.returns-in-Done-clause-flat
returns-in-Done-clause-flat g c =
    let old = g.S.BlockStore.holding c.args.store.now c.args.nvm.now in
    let new = g.S.BlockStore.holding c.store.new.self c.store.new.nvm in
    let line = c.line_at-line.result.now in
    let can : CanStore c.args.self.now old.blocks c.args.set c.args.way line = record {
      set = c.requires.set;
      stands = c.line_at-line.ensures;
      dirty = ap is_dirty (sym c.line_at-line.ensures) ∙ c.requires.dirty;
      agrees = c.requires.agree;
    } in
    let has : HasStored Done line.at line.block old new = rw c.in-Done.is at c.in_ok-store.ensures.ok in
    ap (λ d. flat d new.blocks) c.clean.ensures ∙ after-flat Done c.args.self.now c.args.set c.args.way line old new can has

pub returns-in-Done-clause-agree : goal.returns-in-Done-clause-agree
returns-in-Done-clause-agree g c =
    let old = g.S.BlockStore.holding c.args.store.now c.args.nvm.now in
    let new = g.S.BlockStore.holding c.store.new.self c.store.new.nvm in
    let line = c.line_at-line.result.now in
    let can : CanStore c.args.self.now old.blocks c.args.set c.args.way line = record {
      set = c.requires.set;
      stands = c.line_at-line.ensures;
      dirty = ap is_dirty (sym c.line_at-line.ensures) ∙ c.requires.dirty;
      agrees = c.requires.agree;
    } in
    let has : HasStored Done line.at line.block old new = rw c.in-Done.is at c.in_ok-store.ensures.ok in
    rw c.clean.ensures (after-agrees Done c.args.self.now c.args.set c.args.way line old new can has)

pub returns-in-Done-clause-sized : goal.returns-in-Done-clause-sized
returns-in-Done-clause-sized g c = rw c.clean.ensures (KeepsSize-stored Done c.args.self.now c.args.set c.args.way c.requires.set)

pub returns-in-CopyFirst-clause-once : goal.returns-in-CopyFirst-clause-once
returns-in-CopyFirst-clause-once g c = c.in_ok-store.ensures.once
