use Rattle.std.proofs.Common.{refl}
use Rattle.thy_scheme.proofs.scheme_store.SchemeStoreBlockStore.store.Goals as goal
use Rattle.thy_scheme.proofs.SchemeStoreLemmas.{failure_counts}

pub returns-clause-once : goal.returns-clause-once
returns-clause-once g c = record {
  access = c.store.ensures.once;
  counted = failure_counts c.store.result (g.N.Nvm.device c.args.nvm.now) (g.N.Nvm.device c.store.new.nvm) c.store.ensures.up c.store.ensures.cause;
  unmarked = refl;
}
