use Rattle.std.proofs.Common.{◌≡◌, length}
use Rattle.thy_cache.specs.Flat.{Agrees}
use Rattle.thy_tests.proofs.cache.play.Given as goal

abbrev pub invariant-loop-row : goal.invariant-loop-row
invariant-loop-row g l = record {
  eight : length (g.S.BlockStore.holding l.store tt).blocks ≡ 8;
  agree : Agrees l.cache (g.S.BlockStore.holding l.store tt).blocks;
}
