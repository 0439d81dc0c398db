-- A slot is listed in one way: its table says of every entry what that lists.
use Rattle.std.proofs.Common.{◌≡◌, ℕ, List, [], ◌∷◌, map, Option, Some, None, option_map, refl, sym, ◌∙◌, ap}
use Rattle.thy_block.specs.declared.block.Block.{Block}
use Rattle.thy_block.specs.declared.parameters.Parameters.{Parameters}
use Rattle.thy_block.specs.Geometry.{memory_blocks}
use Rattle.thy_checkpoint.specs.Filling.{ListsOn}
use Rattle.thy_dram.specs.Contents.{Contents}
use Rattle.thy_images.specs.JournalSlots.{table_in}
use Rattle.thy_journal_parts.specs.declared.entry.Listed.{Listed}
use Rattle.thy_journal_parts.specs.Keys.{block_key, listing_of}
use Rattle.thy_journal_parts.specs.State.{State, state_in, table_of}
use Rattle.thy_journal_parts.specs.Filling.{filling_journal}
use Rattle.thy_table.specs.Listing.{listing}

-- what the entries list gives them back
entries_back : (es : List (Option Listed)) → map (option_map listing_of) (map (option_map block_key) es) ≡ es
entries_back [] = refl
entries_back (None ∷ es) = ap (λ (xs : List (Option Listed)). None ∷ xs) (entries_back es)
entries_back (Some e ∷ es) = ap (λ (xs : List (Option Listed)). Some e ∷ xs) (entries_back es)

pub slot_listed_once : (c d e : State) (commit : Block) (slot : List Block)
    → ListsOn filling_journal commit slot c d → ListsOn filling_journal commit slot c e → d ≡ e
slot_listed_once c d e commit slot a b =
    let same : d.p ≡ e.p = a.left.same_p ∙ sym b.left.same_p in
    let tables : table_of d ≡ table_of e = a.lists.table ∙ ap (λ (p : Parameters). table_in p slot) same ∙ sym b.lists.table in
    let entries : d.table.entries ≡ e.table.entries
    = sym (entries_back d.table.entries) ∙ ap (map (option_map listing_of)) tables ∙ entries_back e.table.entries in
    let numbers : d.table.numbers ≡ e.table.numbers = a.lists.state.numbers ∙ ap memory_blocks same ∙ sym b.lists.state.numbers in
    ap (λ (p : Parameters). state_in p d.table d.dram) same
    ∙ ap (λ (es : List (Option Listed)). state_in e.p (listing es d.table.numbers) d.dram) entries
    ∙ ap (λ (n : ℕ). state_in e.p (listing e.table.entries n) d.dram) numbers
    ∙ ap (λ (dram : Contents). state_in e.p e.table dram) (a.left.same_dram ∙ sym b.left.same_dram)
