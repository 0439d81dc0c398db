-- The table of a slot is listed, entry by entry.
use Rattle.std.proofs.Common.{◌≡◌, ℕ, ◌+◌, ◌<◌, ◌≤◌, false, List, length, Some, None, option_map, sym, ◌∙◌, ap, subst, inl, inr, arith}
use Rattle.std.proofs.lemmas.Bool.{cases_Bool, cases_lt, cases_eq}
use Rattle.std.proofs.lemmas.List.{ext_get_or}
use Rattle.thy_block.specs.declared.block.Block.{Block}
use Rattle.thy_block.specs.declared.parameters.Parameters.{Parameters}
use Rattle.thy_block.specs.Geometry.{memory_blocks}
use Rattle.thy_dram.specs.Contents.{Contents}
use Rattle.thy_layout.specs.Entries.{entry_at as listed_at}
use Rattle.thy_table.specs.Listing.{entry_at, lists, index_of}
use Rattle.thy_table.proofs.ListingLaws.{index_of-none, entry_at-with_same, entry_at-with_other}
use Rattle.thy_checkpoint.specs.Filling.{ListsOn}
use Rattle.thy_images.specs.JournalSlots.{IsTable, table_in}
use Rattle.thy_journal_parts.specs.Keys.{block_key}
use Rattle.thy_journal_parts.specs.State.{State, IsSoundState, table_of}
use Rattle.thy_journal_parts.specs.Stores.{with_listing_at}
use Rattle.thy_journal_parts.proofs.TableLemmas.{length-table_of, listed_at-table_of, key_of}
use Rattle.thy_journal_parts.specs.Filling.{IsFresh, filling_journal}
use Rattle.thy_journal_parts.specs.Listed.{ListsUpTo}
use Rattle.thy_journal_parts.proofs.FillLemmas.{length-table_in}

pub lists_start : (p : Parameters) (slot : List Block) (s : State) → s.p ≡ p → IsFresh s
    → ListsUpTo 0 p slot s
lists_start p slot s same h = record {
  state = h.state;
  same_p = same;
  below = λ j l. absurd (omega (arith, l));
  free = λ j l. h.free j;
}

-- ---- one entry

module _ (p : Parameters) (i : ℕ) (slot : List Block) (s : State)
    (table : IsTable p (table_in p slot)) (h : ListsUpTo i p slot s) where
  -- what the slot lists at it is a block of memory, and no entry lists it yet
  pub listed_inside : (b : ℕ) → Some b ≡ listed_at (table_in p slot) i → b < memory_blocks s.p
  listed_inside b is =
      subst (λ (q : Parameters). b < memory_blocks q) (sym h.same_p)
      (table.blocks i b (record { is = sym is }))

  pub not_listed : (b : ℕ) → Some b ≡ listed_at (table_in p slot) i
      → index_of block_key b s.table ≡ None
  not_listed b is = index_of-none block_key s.table b (λ j.
      elim (cases_Bool (lists block_key b (entry_at s.table j))) as (λ _. lists block_key b (entry_at s.table j) ≡ false) [
        | inl held ↦ elim (cases_lt j i) as (λ _. lists block_key b (entry_at s.table j) ≡ false) [
          | inl low ↦
              let there : listed_at (table_in p slot) j ≡ Some b =
              sym (h.below j low) ∙ key_of (entry_at s.table j) b held in
              let same : j ≡ i =
              table.once j i b (record { is = there }) (record { is = sym is }) in
              absurd (omega (arith, low, same))
          | inr high ↦
              let none : lists block_key b (entry_at s.table j) ≡ false = ap (lists block_key b) (h.free j high) in none
        ]
        | inr free ↦ free
      ])

  -- a block that it lists was listed
  pub lists_some : (b : ℕ) (t : State) → i < p.btt → Some b ≡ listed_at (table_in p slot) i
      → t ≡ with_listing_at i b s → IsSoundState t
      → ListsUpTo (i + 1) p slot t
  lists_some b t low is made sound =
      let inside : i < length s.table.entries =
      omega (arith, low, h.state.size, ap (λ (q : Parameters). q.btt) h.same_p) in
      let u : State = with_listing_at i b s in
      let listed : ListsUpTo (i + 1) p slot u = record {
        state = subst IsSoundState made sound;
        same_p = h.same_p;
        below = λ j l. elim (cases_eq j i)
            as (λ _. option_map block_key (entry_at u.table j) ≡ listed_at (table_in p slot) j) [
              | inl same ↦
                  ap (λ (k : ℕ). option_map block_key (entry_at u.table k)) same
                  ∙ ap (option_map block_key) (entry_at-with_same s.table i _ inside)
                  ∙ is ∙ ap (listed_at (table_in p slot)) (sym same)
              | inr other ↦
                  ap (option_map block_key) (entry_at-with_other s.table i j _ other)
                  ∙ h.below j (omega (arith, l, other))
            ];
        free = λ j l.
            entry_at-with_other s.table i j _ (λ q. omega (arith, l, q))
            ∙ h.free j (omega (arith, l));
      } in
      subst (ListsUpTo (i + 1) p slot) (sym made) listed

  -- an empty entry of the table is passed over
  pub lists_none : None ≡ listed_at (table_in p slot) i → ListsUpTo (i + 1) p slot s
  lists_none is = record {
    state = h.state;
    same_p = h.same_p;
    below = λ j l. elim (cases_eq j i)
        as (λ _. option_map block_key (entry_at s.table j) ≡ listed_at (table_in p slot) j) [
          | inl same ↦
              ap (option_map block_key) (h.free j (omega (arith, same))) ∙ is
              ∙ ap (listed_at (table_in p slot)) (sym same)
          | inr other ↦ h.below j (omega (arith, l, other))
        ];
    free = λ j l. h.free j (omega (arith, l));
  }

-- ---- all of them

pub lists_all : (p : Parameters) (slot : List Block) (old s : State) (i : ℕ) → old.p ≡ p → p.btt ≤ i
    → ListsUpTo i p slot s → s.dram ≡ old.dram
    → (commit : Block) → ListsOn filling_journal commit slot old s
lists_all p slot old s i same past h dram commit =
    let long : length (table_of s) ≡ p.btt =
    length-table_of s ∙ h.state.size ∙ ap (λ (q : Parameters). q.btt) h.same_p in
    record {
      lists = record {
        state = h.state;
        table =
            ext_get_or None (table_of s) (table_in p slot) (long ∙ sym (length-table_in p slot))
            (λ j l. listed_at-table_of s j ∙ h.below j (omega (arith, l, long, past)))
            ∙ ap (λ (q : Parameters). table_in q slot) (sym h.same_p);
      };
      left = record {
        same_p = h.same_p ∙ sym same;
        same_dram = dram;
        keeps = ap (λ (d : Contents). d.room) dram;
      };
    }
