use Rattle.std.proofs.Common.{◌≡◌, IfOk, sym, ◌∙◌, subst}
use Rattle.thy_block.specs.declared.block.Block.{Block}
use Rattle.thy_schemes.proofs.JournalBlockLemmas.{small_committed, applied_at, home_block_at}
use Rattle.thy_schemes.proofs.journal.parts.RefillParts.committed.Goals as goal

pub load-requires-clause-block : goal.load-requires-clause-block
load-requires-clause-block g c =
    small_committed c.args.stage c.args.control.now (g.N.Nvm.device c.args.nvm.now) c.args.b
    c.requires.inside

pub home-requires-clause-block : goal.home-requires-clause-block
home-requires-clause-block g c =
    small_committed c.args.stage c.args.control.now (g.N.Nvm.device c.args.nvm.now) c.args.b
    c.requires.inside

pub returns-then-is_applied-clause-ok : goal.returns-then-is_applied-clause-ok
returns-then-is_applied-clause-ok g c =
    let s = c.args.control.now in
    let n = g.N.Nvm.device c.args.nvm.now in
    subst (λ (x : Block). IfOk c.load.result (λ block. block ≡ x))
    (applied_at c.args.stage s n c.args.b (sym c.is_applied.ensures ∙ c.if-is_applied.true)
    (small_committed c.args.stage s n c.args.b c.requires.inside))
    c.load.ensures.ok

pub returns-else-is_applied-clause-ok : goal.returns-else-is_applied-clause-ok
returns-else-is_applied-clause-ok g c =
    let s = c.args.control.now in
    let n = g.N.Nvm.device c.args.nvm.now in
    subst (λ (x : Block). IfOk c.home.result (λ block. block ≡ x))
    (home_block_at c.args.stage s n c.args.b (sym c.is_applied.ensures ∙ c.if-is_applied.false)
    (small_committed c.args.stage s n c.args.b c.requires.inside))
    c.home.ensures.ok
