use Rattle.std.proofs.Common.{◌≡◌}
use Rattle.thy_block.specs.declared.store.Stored.TheVariants.{Done}
use Rattle.thy_cache.specs.Ways.{line_at}
use Rattle.thy_cache.specs.Contents.{set_at, cleaned_at, StoresLine}
use Rattle.thy_cache.proofs.StoreLaws.{evict-room_at}
use Rattle.thy_cache.proofs.cache.Cache.evict.Goals as goal

pub returns-clause-room : goal.returns-clause-room
returns-clause-room g c = λ done.
    let old = c.args.self.now in
    let set = c.victim_location-set.result.0 in
    let way = c.victim_location-set.result.1 in
    let cleaned : c.store_line.new.self ≡ cleaned_at set way old = rw done at c.store_line.ensures.cache in
    let stored : StoresLine Done (line_at (set_at old set) way) (g.S.BlockStore.holding c.args.store.now c.args.nvm.now)
    (g.S.BlockStore.holding c.store_line.new.store c.store_line.new.nvm)
    = rw done at c.store_line.ensures.store in
    evict-room_at old c.store_line.new.self c.args.b set way stored.line c.victim_location-set.ensures.set
    c.victim_location-set.ensures.inside c.victim_location-set.ensures.way cleaned stored.stands
