use Rattle.std.proofs.Common.{◌≡◌, IfOk, sym, subst}
use Rattle.thy_block.specs.declared.block.Block.{Block}
use Rattle.thy_schemes.proofs.JournalBlockLemmas.{small, work_at}
use Rattle.thy_schemes.proofs.journal.parts.RefillParts.load.Goals as goal

pub load-requires-clause-block : goal.load-requires-clause-block
load-requires-clause-block g c = small c.args.control.now (g.N.Nvm.device c.args.nvm.now) c.args.b c.requires.inside

pub returns-clause-ok : goal.returns-clause-ok
returns-clause-ok g c =
    let s = c.args.control.now in
    let n = g.N.Nvm.device c.args.nvm.now in
    subst (λ (x : Block). IfOk c.load.result (λ block. block ≡ x))
    (sym (work_at s n c.args.b (small s n c.args.b c.requires.inside)))
    c.load.ensures.ok
