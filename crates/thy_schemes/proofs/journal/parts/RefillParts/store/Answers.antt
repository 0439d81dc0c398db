use Rattle.thy_journal_parts.specs.Design.{journal_design}
use Rattle.thy_scheme_parts.proofs.HeldLemmas.{held_block}
use Rattle.thy_schemes.proofs.JournalBlockLemmas.{small}
use Rattle.thy_schemes.proofs.journal.parts.RefillParts.store.Goals as goal

pub store-requires-clause-block : goal.store-requires-clause-block
store-requires-clause-block g c =
    let s = c.args.control.now in
    let n = g.N.Nvm.device c.args.nvm.now in
    small s n c.args.b (held_block journal_design s n c.args.b c.requires.inside).inside
