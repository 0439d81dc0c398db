use Rattle.std.proofs.Common.{ap, ◌∙◌}
use Rattle.std.specs.Option.{is_some}
use Rattle.thy_block.specs.Store.{Holding}
use Rattle.thy_cache.specs.Contents.{hits, victim_line_of}
use Rattle.thy_cache.proofs.SizeLaws.{KeepsSize-fill}
use Rattle.thy_cache.proofs.StoreLaws.{CanFill, fill-line_of, filled-flat, filled-agrees, room-clean}
use Rattle.thy_cache.proofs.cache.Cache.fill.Given.{Over}
use Rattle.thy_cache.proofs.cache.Cache.fill.Goals as goal

pub returns-clause-once : goal.returns-clause-once
returns-clause-once g c = c.in_ok-block.ensures.once

can : (g : Over) (c : goal.After-location g)
    → CanFill c.args.self.now (g.S.BlockStore.holding c.args.store.now c.args.nvm.now).blocks c.args.b c.in_ok-block.block
can g c = record {
  set = c.location.ensures.inside;
  way = c.location.ensures.way;
  agrees = c.requires.agree;
  room = room-clean (victim_line_of c.args.self.now c.args.b) c.requires.room;
  missing = c.requires.miss;
  inside = c.requires.inside;
  loaded = c.in_ok-block.ensures.ok;
}

pub returns-clause-hit : goal.returns-clause-hit
returns-clause-hit g c = ap (λ d. hits d c.args.b) c.location.ensures.cache ∙ ap is_some (fill-line_of _ _ _ _ (can g c))

pub returns-clause-flat : goal.returns-clause-flat
returns-clause-flat g c = filled-flat _ _ _ _ _ _ (can g c) c.location.ensures.cache (ap (λ (h : Holding). h.blocks) c.in_ok-block.ensures.same)

pub returns-clause-agree : goal.returns-clause-agree
returns-clause-agree g c = filled-agrees _ _ _ _ _ _ (can g c) c.location.ensures.cache (ap (λ (h : Holding). h.blocks) c.in_ok-block.ensures.same)

pub returns-clause-sized : goal.returns-clause-sized
returns-clause-sized g c = rw c.location.ensures.cache (KeepsSize-fill c.args.self.now c.args.b c.in_ok-block.block c.location.ensures.inside)
