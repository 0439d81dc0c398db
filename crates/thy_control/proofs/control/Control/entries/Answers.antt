use Rattle.std.proofs.Common.{List, Option, ℕ, map, ap, subst, sym, ◌∙◌, refl}
use Rattle.thy_layout.specs.Entries.{entry_word, HaveWords}
use Rattle.thy_block.specs.Words.{block_of}
use Rattle.thy_control.specs.CheckpointTables.{tables1}
use Rattle.thy_control.specs.TableBlocks.{entries_of}
use Rattle.thy_control.specs.State.{State}
use Rattle.thy_control.proofs.TablesLemmas.{AreTablesOf-under_way}
use Rattle.thy_control.proofs.TableBlockLemmas.{HaveWords-entries}
use Rattle.thy_record.proofs.SlotLemmas.{table_block_of-entries}
use Rattle.thy_control.proofs.control.Control.entries.Goals as goal

pub table_block-requires : goal.table_block-requires
table_block-requires c =
    let s : State = c.args.self.now in
    subst (λ (es : List (Option ℕ)). HaveWords es) (sym c.listed_in.ensures)
    (HaveWords-entries s.p (tables1 s) c.args.k c.recall_tables.ensures.range (AreTablesOf-under_way s c.recall_tables.ensures).valid)

pub returns : goal.returns
returns c =
    let s : State = c.args.self.now in
    c.table_block.ensures ∙ ap (λ es. block_of (map entry_word es)) c.listed_in.ensures
    ∙ table_block_of-entries (tables1 s) c.args.k (entries_of (tables1 s) c.args.k) refl
