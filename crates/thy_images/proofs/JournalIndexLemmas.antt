-- The numbers of memory's places, entry by entry of the table.
use Rattle.std.proofs.Common.{◌≡◌, ℕ, ◌+◌, ◌<◌, List, take, slice_set, slice_index_or, Option, Some, None, refl, sym, ◌∙◌, ap, inl, inr, arith}
use Rattle.std.proofs.lemmas.Bool.{cases_eq}
use Rattle.std.proofs.lemmas.List.{length-set, get_or-set_same, get_or-set_other}
use Rattle.std.proofs.lemmas.List.FromFn.{fill_by_all}
use Rattle.thy_block.specs.declared.parameters.Parameters.{Parameters}
use Rattle.thy_block.specs.Geometry.{memory_blocks}
use Rattle.thy_layout.specs.Entries.{entry_at, Lists, entry_of}
use Rattle.thy_layout.proofs.EntryLemmas.{entry_of-take_here, entry_of-take_other}
use Rattle.thy_images.specs.JournalIndex.{with_block}
use Rattle.thy_images.specs.JournalCheckpointParts.{memory_places}
use Rattle.thy_images.specs.JournalPlaces.{journal_place, place_by, place_of}
use Rattle.thy_images.specs.JournalSlots.{IsTable}
use Rattle.thy_images.proofs.JournalPartsLemmas.{length-memory_places, memory_place}

-- with one entry more
module _ (p : Parameters) (s : ℕ) (table : List (Option ℕ)) (i : ℕ) (t : IsTable p table) where
  block_by : (o : Option ℕ) → entry_at table i ≡ o
      → with_block p s i o (memory_places p s (take i table)) ≡ memory_places p s (take (i + 1) table)
  block_by None h =
      fill_by_all (place_of p s (take (i + 1) table)) (memory_places p s (take i table))
      (memory_blocks p) 0 (length-memory_places p s (take i table))
      (λ b l.
      memory_place p s (take i table) b 0 l
      ∙ ap (place_by p s b) (sym (entry_of-take_other table i b (λ lists. let is = lists.is in cc))))
  block_by (Some n) h =
      let v : ℕ = journal_place p s i in
      let old : List ℕ = memory_places p s (take i table) in
      let here : Lists table i n = record { is = h } in
      let small : n < memory_blocks p = t.blocks i n here in
      fill_by_all (place_of p s (take (i + 1) table)) (slice_set old n v) (memory_blocks p) 0
      (length-set old n v ∙ length-memory_places p s (take i table))
      (λ b l. elim (cases_eq b n) as (λ _. slice_index_or (slice_set (memory_places p s (take i table)) n (journal_place p s i)) b 0 ≡ place_of p s (take (i + 1) table) b) [
        | inl e ↦
            ap (λ (x : ℕ). slice_index_or (slice_set (memory_places p s (take i table)) n (journal_place p s i)) x 0) e
            ∙ get_or-set_same (memory_places p s (take i table)) n (journal_place p s i) 0
            (omega (arith, small, length-memory_places p s (take i table)))
            ∙ sym (ap (place_by p s b) (ap (entry_of (take (i + 1) table)) e ∙ entry_of-take_here table i n here (λ k other. t.once k i n other here)))
        | inr ne ↦
            get_or-set_other (memory_places p s (take i table)) n b (journal_place p s i) 0 ne
            ∙ memory_place p s (take i table) b 0 l
            ∙ ap (place_by p s b) (sym (entry_of-take_other table i b (λ lists. let is = lists.is in ne (let same : b ≡ n = cc in same))))
      ])

  pub block_listed : (old new : List ℕ) → old ≡ memory_places p s (take i table) → new ≡ with_block p s i (entry_at table i) old
      → new ≡ memory_places p s (take (i + 1) table)
  block_listed old new before after = after ∙ ap (with_block p s i (entry_at table i)) before ∙ block_by (entry_at table i) refl
