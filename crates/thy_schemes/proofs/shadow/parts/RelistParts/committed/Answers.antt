use Rattle.std.proofs.Common.{◌≡◌, IfOk, sym, subst}
use Rattle.thy_block.specs.declared.block.Block.{Block}
use Rattle.thy_schemes.proofs.ShadowBlockLemmas.{small_commit, commit_at}
use Rattle.thy_schemes.proofs.shadow.parts.RelistParts.committed.Goals as goal

pub committed-requires-clause-block : goal.committed-requires-clause-block
committed-requires-clause-block g c = small_commit c.args.control.now (g.N.Nvm.device c.args.nvm.now) c.args.b c.requires.inside

pub returns-clause-ok : goal.returns-clause-ok
returns-clause-ok g c =
    let s = c.args.control.now in
    let n = g.N.Nvm.device c.args.nvm.now in
    subst (λ (x : Block). IfOk c.committed.result (λ block. block ≡ x))
    (sym (commit_at s n c.args.b (small_commit s n c.args.b c.requires.inside)))
    c.committed.ensures.ok
