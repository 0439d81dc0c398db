-- The numbers of memory's places, entry by entry of both tables.
use Rattle.std.proofs.Common.{◌≡◌, ℕ, ◌+◌, ◌*◌, ◌%◌, ◌<◌, List, [], length, take, slice_set, slice_index_or, Option, Some, None, refl, sym, ◌∙◌, ap, subst, inl, inr, arith}
use Rattle.std.proofs.lemmas.Bool.{cases_eq}
use Rattle.std.proofs.lemmas.List.{length-set, get_or-set_same, get_or-set_other, ext_get_or}
use Rattle.thy_block.specs.declared.parameters.Parameters.{Parameters}
use Rattle.thy_table.specs.declared.place.Place.TheVariants.{Home, AlternateBlock}
use Rattle.thy_block.specs.Geometry.{memory_blocks}
use Rattle.thy_table.specs.Places.{number_of}
use Rattle.thy_block.specs.Store.{page_of}
use Rattle.thy_layout.proofs.EntryLemmas.{entry_of-take_here, entry_of-take_other}
use Rattle.thy_record.specs.Index.{index_by, ListsOnce, with_block, HasPageOf}
use Rattle.thy_layout.specs.Entries.{entry_at, Lists, entry_of}
use Rattle.thy_record.specs.Tables.{place_by_entries, place_in_page}
use Rattle.thy_record.proofs.IssuingLemmas.{length-memory_numbers, memory_number}

-- ---- the numbers

pub length-index_by : (p : Parameters) (btt ptt : List (Option ℕ)) → length (index_by p btt ptt) ≡ memory_blocks p
length-index_by p btt ptt = length-memory_numbers p (record { btt = btt; ptt = ptt })

index_at : (p : Parameters) (btt ptt : List (Option ℕ)) (b : ℕ) → b < memory_blocks p
    → slice_index_or (index_by p btt ptt) b 0 ≡ number_of p (place_by_entries (entry_of btt b) (entry_of ptt (page_of b)) b)
index_at p btt ptt b l = memory_number p (record { btt = btt; ptt = ptt }) b 0 l

-- a list that has them one by one
index_is : (p : Parameters) (btt ptt : List (Option ℕ)) (index : List ℕ) → length index ≡ memory_blocks p
    → ((b : ℕ) → b < memory_blocks p
    → slice_index_or index b 0 ≡ number_of p (place_by_entries (entry_of btt b) (entry_of ptt (page_of b)) b))
    → index ≡ index_by p btt ptt
index_is p btt ptt index long each =
    ext_get_or 0 index (index_by p btt ptt) (long ∙ sym (length-index_by p btt ptt))
    (λ b below. let l : b < memory_blocks p = omega (arith, long) in each b l ∙ sym (index_at p btt ptt b l))

-- with nothing listed all of memory is at home
pub homes_are : (p : Parameters) (index : List ℕ) → length index ≡ memory_blocks p
    → ((b : ℕ) → b < memory_blocks p → slice_index_or index b 0 ≡ number_of p (Home b)) → index ≡ index_by p [] []
homes_are p index long each = index_is p [] [] index long each

-- ---- an entry of the block table

module _ (p : Parameters) (btt ptt : List (Option ℕ)) (i : ℕ) (t : ListsOnce (memory_blocks p) btt) where
  block_by : (o : Option ℕ) → entry_at btt i ≡ o → with_block p i o (index_by p (take i btt) ptt) ≡ index_by p (take (i + 1) btt) ptt
  block_by None h =
      index_is p (take (i + 1) btt) ptt (index_by p (take i btt) ptt) (length-index_by p (take i btt) ptt)
      (λ b l.
      index_at p (take i btt) ptt b l
      ∙ ap (λ (e : Option ℕ). number_of p (place_by_entries e (entry_of ptt (page_of b)) b))
      (sym (entry_of-take_other btt i b (λ lists. let is = lists.is in cc))))
  block_by (Some n) h =
      let v : ℕ = number_of p (AlternateBlock i) in
      let old : List ℕ = index_by p (take i btt) ptt in
      let here : Lists btt i n = record { is = h } in
      let small : n < memory_blocks p = t.inside i n here in
      index_is p (take (i + 1) btt) ptt (slice_set (index_by p (take i btt) ptt) n (number_of p (AlternateBlock i)))
      (length-set (index_by p (take i btt) ptt) n (number_of p (AlternateBlock i)) ∙ length-index_by p (take i btt) ptt)
      (λ b l. elim (cases_eq b n) as (λ _. slice_index_or (slice_set (index_by p (take i btt) ptt) n (number_of p (AlternateBlock i))) b 0
      ≡ number_of p (place_by_entries (entry_of (take (i + 1) btt) b) (entry_of ptt (page_of b)) b)) [
        | inl e ↦
            ap (λ (x : ℕ). slice_index_or (slice_set (index_by p (take i btt) ptt) n (number_of p (AlternateBlock i))) x 0) e
            ∙ get_or-set_same (index_by p (take i btt) ptt) n (number_of p (AlternateBlock i)) 0
            (omega (arith, small, length-index_by p (take i btt) ptt))
            ∙ sym (ap (λ (o : Option ℕ). number_of p (place_by_entries o (entry_of ptt (page_of b)) b))
            (ap (entry_of (take (i + 1) btt)) e ∙ entry_of-take_here btt i n here (λ k other. t.once k i n other here)))
        | inr ne ↦
            get_or-set_other (index_by p (take i btt) ptt) n b (number_of p (AlternateBlock i)) 0 ne
            ∙ index_at p (take i btt) ptt b l
            ∙ ap (λ (o : Option ℕ). number_of p (place_by_entries o (entry_of ptt (page_of b)) b))
            (sym (entry_of-take_other btt i b (λ lists. let is = lists.is in ne (let same : b ≡ n = cc in same))))
      ])

  pub block_listed : (old new : List ℕ) → old ≡ index_by p (take i btt) ptt → new ≡ with_block p i (entry_at btt i) old
      → new ≡ index_by p (take (i + 1) btt) ptt
  block_listed old new before after = after ∙ ap (with_block p i (entry_at btt i)) before ∙ block_by (entry_at btt i) refl

-- ---- an entry of the page table

module _ (p : Parameters) (ptt : List (Option ℕ)) (j : ℕ) (t : ListsOnce p.pages ptt) where
  page_by : (o : Option ℕ) → entry_at ptt j ≡ o → (new : List ℕ) → length new ≡ memory_blocks p
      → HasPageOf p j o (index_by p [] (take j ptt)) new → new ≡ index_by p [] (take (j + 1) ptt)
  page_by None h new long has =
      index_is p [] (take (j + 1) ptt) new long
      (λ b l.
      ap (λ (xs : List ℕ). slice_index_or xs b 0) has
      ∙ index_at p [] (take j ptt) b l
      ∙ ap (λ (e : Option ℕ). number_of p (place_in_page e b))
      (sym (entry_of-take_other ptt j (page_of b) (λ lists. let is = lists.is in cc))))
  page_by (Some page) h new long has =
      let here : Lists ptt j page = record { is = h } in
      index_is p [] (take (j + 1) ptt) new long
      (λ b l. elim (cases_eq (page_of b) page)
      as (λ _. slice_index_or new b 0 ≡ number_of p (place_in_page (entry_of (take (j + 1) ptt) (page_of b)) b)) [
        | inl e ↦
            let at : b ≡ 64 * page + b % 64 = omega (arith, e) in
            ap (λ (x : ℕ). slice_index_or new x 0) at
            ∙ has.here (b % 64) (omega arith)
            ∙ sym (ap (λ (o : Option ℕ). number_of p (place_in_page o b))
            (ap (entry_of (take (j + 1) ptt)) e ∙ entry_of-take_here ptt j page here (λ k other. t.once k j page other here)))
        | inr ne ↦
            has.others b ne
            ∙ index_at p [] (take j ptt) b l
            ∙ ap (λ (o : Option ℕ). number_of p (place_in_page o b))
            (sym (entry_of-take_other ptt j (page_of b) (λ lists. let is = lists.is in ne (let same : page_of b ≡ page = cc in same))))
      ])

  pub page_listed : (old new : List ℕ) → old ≡ index_by p [] (take j ptt) → length new ≡ length old
      → HasPageOf p j (entry_at ptt j) old new → new ≡ index_by p [] (take (j + 1) ptt)
  page_listed old new before long has =
      page_by (entry_at ptt j) refl new (long ∙ ap length before ∙ length-index_by p [] (take j ptt))
      (subst (λ (xs : List ℕ). HasPageOf p j (entry_at ptt j) xs new) before has)
