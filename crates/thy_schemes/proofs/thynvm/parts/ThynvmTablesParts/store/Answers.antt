use Rattle.thy_thynvm_parts.proofs.StoreLemmas.{works}
use Rattle.thy_schemes.proofs.ThynvmActsLemmas.{store_acts}
use Rattle.thy_schemes.proofs.thynvm.parts.ThynvmTablesParts.store.Goals as goal

pub store-requires-clause-block : goal.store-requires-clause-block
store-requires-clause-block g c =
    (works c.args.b c.args.block.now c.args.control.now (g.N.Nvm.device c.args.nvm.now) c.requires).inside

pub returns-clause-acts : goal.returns-clause-acts
returns-clause-acts g c =
    store_acts c.args.b c.args.block.now c.args.control.now (g.N.Nvm.device c.args.nvm.now) c.store.result c.store.new.self
    (g.N.Nvm.device c.store.new.nvm) c.store.ensures.state c.store.ensures.nvm c.store.ensures.kept c.store.ensures.err
    c.store.ensures.frame c.store.ensures.cause
