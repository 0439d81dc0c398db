use Rattle.std.proofs.Common.{List, Option, ℕ, map, ap, subst, sym, ◌∙◌}
use Rattle.thy_layout.specs.Entries.{entry_word, HaveWords}
use Rattle.thy_block.specs.Words.{block_of}
use Rattle.thy_journal_parts.specs.State.{State, table_of}
use Rattle.thy_layout.proofs.EightLemmas.{HaveWords-eight, block_of_eight}
use Rattle.thy_images.proofs.JournalSlotLemmas.{HaveWords-table}
use Rattle.thy_journal_parts.proofs.TableLemmas.{IsTable-table_of}
use Rattle.thy_journal_parts.proofs.log.Log.table_block.Goals as goal

pub table_block-requires : goal.table_block-requires
table_block-requires c =
    let s : State = c.args.self.now in
    subst (λ (es : List (Option ℕ)). HaveWords es) (sym c.listed_in.ensures)
    (HaveWords-eight (table_of s) c.args.k
    (HaveWords-table s.p (table_of s) c.recall_sound.ensures.range (IsTable-table_of s c.recall_sound.ensures)))

pub returns : goal.returns
returns c =
    let s : State = c.args.self.now in
    c.table_block.ensures ∙ ap (λ (es : List (Option ℕ)). block_of (map entry_word es)) c.listed_in.ensures ∙ block_of_eight (table_of s) c.args.k
