use Rattle.std.proofs.Common.{List, Option, ℕ, map, ap, subst, sym, ◌∙◌}
use Rattle.thy_layout.specs.Entries.{entry_word, HaveWords}
use Rattle.thy_block.specs.Words.{block_of}
use Rattle.thy_layout.proofs.EightLemmas.{HaveWords-eight, block_of_eight}
use Rattle.thy_images.proofs.ShadowSlotLemmas.{HaveWords-map}
use Rattle.thy_shadow_parts.specs.State.{State, next_table}
use Rattle.thy_shadow_parts.proofs.TableLemmas.{IsMap-next}
use Rattle.thy_shadow_parts.proofs.pool.Pool.table_block.Goals as goal

pub table_block-requires : goal.table_block-requires
table_block-requires c =
    let s : State = c.args.self.now in
    subst (λ (es : List (Option ℕ)). HaveWords es) (sym c.listed_in.ensures)
    (HaveWords-eight (next_table s) c.args.k (HaveWords-map s.p (next_table s) c.recall_sound.ensures.range (IsMap-next s c.recall_sound.ensures)))

pub returns : goal.returns
returns c =
    let s : State = c.args.self.now in
    c.table_block.ensures ∙ ap (λ (es : List (Option ℕ)). block_of (map entry_word es)) c.listed_in.ensures
    ∙ block_of_eight (next_table s) c.args.k
