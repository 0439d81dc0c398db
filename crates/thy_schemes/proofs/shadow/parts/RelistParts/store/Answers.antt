use Rattle.thy_shadow_parts.specs.Design.{shadow_design}
use Rattle.thy_scheme_parts.proofs.HeldLemmas.{held_block}
use Rattle.thy_schemes.proofs.ShadowActLemmas.{store_acts}
use Rattle.thy_schemes.proofs.ShadowBlockLemmas.{small_work}
use Rattle.thy_schemes.proofs.shadow.parts.RelistParts.store.Goals as goal

pub store-requires-clause-block : goal.store-requires-clause-block
store-requires-clause-block g c =
    let s = c.args.control.now in
    let n = g.N.Nvm.device c.args.nvm.now in
    small_work s n c.args.b (held_block shadow_design s n c.args.b c.requires.inside).inside

pub returns-clause-acts : goal.returns-clause-acts
returns-clause-acts g c =
    store_acts c.args.b c.args.block.now c.args.control.now (g.N.Nvm.device c.args.nvm.now) c.store.result c.store.new.self
    (g.N.Nvm.device c.store.new.nvm) c.store.ensures.pool c.store.ensures.same c.store.ensures.kept c.store.ensures.err
    c.store.ensures.frame c.store.ensures.cause
