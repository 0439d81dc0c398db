use Rattle.std.proofs.Common.{refl}
use Rattle.thy_scheme.proofs.scheme_store.SchemeStoreBlockStore.load.Goals as goal
use Rattle.thy_scheme.proofs.SchemeStoreLemmas.{load_once, load_up, load_leaves, failure_counts, load_counts}

-- one action, or none
pub returns-clause-once : goal.returns-clause-once
returns-clause-once g c =
    let K = g.S.Scheme.scheme in
    let l = g.met.S.Scheme.lawful in
    let s = c.args.self.now.scheme in
    let n = g.N.Nvm.device c.args.nvm.now in
    let new = g.N.Nvm.device c.load.new.nvm in
    record {
      access = load_once K l s n new c.args.b c.load.result c.requires c.load.ensures.stays c.load.ensures.frame
          c.load.ensures.same c.load.ensures.err;
      counted = failure_counts c.load.result n new (load_up K l s n new c.args.b c.load.result c.requires c.load.ensures.same) c.load.ensures.cause;
      unmarked = refl;
    }

-- a failure is counted
pub returns-clause-cause : goal.returns-clause-cause
returns-clause-cause g c =
    load_counts g.S.Scheme.scheme g.met.S.Scheme.lawful c.args.self.now.scheme (g.N.Nvm.device c.args.nvm.now)
    (g.N.Nvm.device c.load.new.nvm) c.args.b c.load.result
    c.requires c.load.ensures.same c.load.ensures.err

pub returns-clause-loads : goal.returns-clause-loads
returns-clause-loads g c = record {
  scheme = refl;
  nvm = load_leaves (g.N.Nvm.device c.args.nvm.now) (g.N.Nvm.device c.load.new.nvm) c.load.result c.load.ensures.same c.load.ensures.err;
}
