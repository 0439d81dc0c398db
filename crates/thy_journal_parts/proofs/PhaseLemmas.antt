-- What the NVM holds of a checkpoint, by its phase: over writes elsewhere, over a device that reads the same, and from one
-- position to the next.
use Rattle.std.proofs.Common.{◌≡◌, ◌≢◌, ℕ, ◌+◌, ◌%◌, ◌<◌, length, map, Option, Some, None, refl, sym, ◌∙◌, ap, subst, inl, inr, arith}
use Rattle.std.proofs.lemmas.Bool.{cases_lt}
use Rattle.thy_block.specs.declared.block.Block.{Block}
use Rattle.thy_block.specs.Device.{Device, newest, written_to}
use Rattle.thy_block.specs.Geometry.{memory_blocks}
use Rattle.thy_block.proofs.DeviceLemmas.{newest-written_to, newest-written_to_other}
use Rattle.thy_layout.specs.Entries.{Lists, entry_at, entry_of}
use Rattle.thy_layout.proofs.AskingLemmas.{half}
use Rattle.thy_layout.proofs.EntryLemmas.{entry_of-Some, entry_of-None, Lists-inside}
use Rattle.thy_images.specs.JournalPlaces.{image_blocks, home_place, journal_place, place_by, place_of}
use Rattle.thy_images.specs.JournalCheckpointParts.{memory_places}
use Rattle.thy_images.proofs.JournalPartsLemmas.{journal_behind}
use Rattle.thy_journal_parts.specs.Holding.{works, homes}
use Rattle.thy_journal_parts.specs.Items.{next_live, block_listed}
use Rattle.thy_journal_parts.specs.State.{State, IsSoundState, table_of, entry_for, buffer_of, home_of, work_by, work_of}
use Rattle.thy_journal_parts.proofs.TableLemmas.{IsTable-table_of, live_lists, listed_below, listed_before, length-table_of, entry_for-is}
use Rattle.thy_scheme_parts.proofs.MemoryLemmas.{map_below, map_places}
use Rattle.thy_journal_parts.specs.Design.{AreJournaled, AreHome}
use Rattle.thy_journal_parts.proofs.WorkLemmas.{works_same, home_over}

-- ---- places

-- a place that is no home
abbrev pub IsAside : State → ℕ → Type 0
IsAside s x = (b : ℕ) → b < memory_blocks s.p → home_place s.p b ≢ x

pub aside_journal : (s : State) (h i : ℕ) → IsAside s (journal_place s.p h i)
aside_journal s h i b small = λ q. omega (arith, small, q)

-- ---- memory over a write that is no home's

module _ (s : State) (n : Device) (sized : length n.image ≡ image_blocks s.p) where
  pub works_over : (x : ℕ) (block : Block) → IsAside s x → works s (written_to n x block) ≡ works s n
  works_over x block other =
      works_same s n (written_to n x block)
      (λ b l none. home_over s n x block b sized l (other b l))

  pub homes_over : (x : ℕ) (block : Block) → IsAside s x → homes s (written_to n x block) ≡ homes s n
  homes_over x block other =
      map_below (memory_blocks s.p) (home_of s (written_to n x block)) (home_of s n)
      (λ b l. home_over s n x block b sized l (other b l))

-- ---- the journal

module _ (epoch : ℕ) (s : State) (n : Device) (sound : IsSoundState s) (sized : length n.image ≡ image_blocks s.p) where
  abbrev at : ℕ → ℕ
  at i = journal_place s.p (epoch % 2) i

  pub at_inside : (i : ℕ) → i < s.p.btt → at i < length n.image
  at_inside i l =
      let inside = (journal_behind s.p (epoch % 2) i (half epoch) l).1 in
      omega (arith, inside, sized)

  pub listed_inside : (i b : ℕ) → Lists (table_of s) i b → i < s.p.btt
  listed_inside i b lists = let inside = Lists-inside (table_of s) i b lists in omega (arith, inside, length-table_of s, sound.size)

  -- a write before or after the journals leaves them
  pub journaled_over : (from x : ℕ) (block : Block) → ((i : ℕ) → i < s.p.btt → at i ≢ x) → AreJournaled epoch s n from
      → AreJournaled epoch s (written_to n x block) from
  journaled_over from x block other h = record {
    each = λ i b l lists.
        let inside = listed_inside i b lists in
        newest-written_to_other n x block (at i) (other i inside) (at_inside i inside) ∙ h.each i b l lists;
  }

  -- after the write of the next live entry, the journal has one entry more
  pub journaled_on : (i : ℕ) → next_live i s ≡ Some i → AreJournaled epoch s n i
      → AreJournaled epoch s (written_to n (at i) (buffer_of s i)) (i + 1)
  journaled_on i found h = record { each = each_one } where
    each_one : (j b : ℕ) → j < i + 1 → Lists (table_of s) j b → newest (written_to n (at i) (buffer_of s i)) (at j) ≡ buffer_of s j
    each_one j b l lists = elim (cases_lt j i) as (λ _. newest (written_to n (at i) (buffer_of s i)) (at j) ≡ buffer_of s j) [
      | inl less ↦
          let inside = listed_inside j b lists in
          newest-written_to_other n (at i) (buffer_of s i) (at j) (λ q. omega (arith, q, less)) (at_inside j inside) ∙ h.each j b less lists
      | inr more ↦
          let here : j ≡ i = omega (arith, l, more) in
          ap (λ (k : ℕ). newest (written_to n (at i) (buffer_of s i)) (at k)) here ∙ newest-written_to n (at i) (buffer_of s i)
          ∙ ap (buffer_of s) (sym here)
    ]

  pub journaled_past : (from k : ℕ) → next_live from s ≡ Some k → AreJournaled epoch s n from → AreJournaled epoch s n k
  journaled_past from k found h = record { each = λ i b l lists. h.each i b (listed_before s from k i b found lists l) lists }

  pub journaled_all : (from : ℕ) → next_live from s ≡ None → AreJournaled epoch s n from → AreJournaled epoch s n s.p.btt
  journaled_all from found h = record { each = λ i b l lists. h.each i b (listed_below s from i b found lists) lists }

  -- blocks of the journal are there over a device that reads the same
  pub journaled_reads : (m : Device) (from : ℕ) → ((x : ℕ) → x < length n.image → newest m x ≡ newest n x) → AreJournaled epoch s n from
      → AreJournaled epoch s m from
  journaled_reads m from reads h = record {
    each = λ i b l lists. reads (at i) (at_inside i (listed_inside i b lists)) ∙ h.each i b l lists;
  }

  -- ---- memory, at its places by the table

  place_reads : AreJournaled epoch s n s.p.btt → (b : ℕ) (o : Option ℕ) → entry_of (table_of s) b ≡ o
      → newest n (place_by s.p (epoch % 2) b o) ≡ work_by s n b o
  place_reads all b None found = refl
  place_reads all b (Some i) found =
      let lists = entry_of-Some (table_of s) b i found in
      all.each i b (listed_inside i b lists) lists

  pub memory_is_work : AreJournaled epoch s n s.p.btt → map (newest n) (memory_places s.p (epoch % 2) (table_of s)) ≡ works s n
  memory_is_work all =
      map_places (memory_blocks s.p) (newest n) (place_of s.p (epoch % 2) (table_of s))
      (work_of s n)
      (λ b l.
      place_reads all b (entry_of (table_of s) b) refl
      ∙ ap (work_by s n b) (entry_for-is s b sound))

-- ---- homes

module _ (s : State) (n : Device) (sound : IsSoundState s) (sized : length n.image ≡ image_blocks s.p) where
  pub home_inside : (i b : ℕ) → Lists (table_of s) i b → home_place s.p b < length n.image
  home_inside i b lists = let small = (IsTable-table_of s sound).blocks i b lists in omega (arith, small, sized)

  -- writing home a block that is in a buffer changes no load
  pub works_home : (i : ℕ) → next_live i s ≡ Some i → works s (written_to n (home_place s.p (block_listed i s)) (buffer_of s i)) ≡ works s n
  works_home i found =
      works_same s n (written_to n (home_place s.p (block_listed i s)) (buffer_of s i)) (λ b l none.
      home_over s n (home_place s.p (block_listed i s)) (buffer_of s i) b sized l (λ q.
      let here : block_listed i s ≡ b = omega (arith, q) in
      entry_of-None (table_of s) b i (entry_for-is s b sound ∙ none) (subst (λ (c : ℕ). Lists (table_of s) i c) here (live_lists s i i sound found))))

  -- one live entry more has its buffer at the home of its block
  abbrev at_home : ℕ → ℕ
  at_home i = home_place s.p (block_listed i s)

  pub home_on : (i : ℕ) → next_live i s ≡ Some i → AreHome s n i
      → AreHome s (written_to n (home_place s.p (block_listed i s)) (buffer_of s i)) (i + 1)
  home_on i found h = record { each = each_one } where
    lists_here : Lists (table_of s) i (block_listed i s)
    lists_here = live_lists s i i sound found

    one_block : (j b : ℕ) → j ≡ i → Lists (table_of s) j b → b ≡ block_listed i s
    one_block j b here lists =
        let this = lists.is in
        let that = lists_here.is in
        let moved : entry_at (table_of s) j ≡ entry_at (table_of s) i = ap (entry_at (table_of s)) here in
        cc

    each_one : (j b : ℕ) → j < i + 1 → Lists (table_of s) j b
        → newest (written_to n (at_home i) (buffer_of s i)) (home_place s.p b) ≡ buffer_of s j
    each_one j b l lists = elim (cases_lt j i) as (λ _. newest (written_to n (at_home i) (buffer_of s i)) (home_place s.p b) ≡ buffer_of s j) [
      | inl less ↦
          newest-written_to_other n (at_home i) (buffer_of s i) (home_place s.p b)
          (λ q.
          let same_block : b ≡ block_listed i s = omega (arith, q) in
          let same_entry : j ≡ i = (IsTable-table_of s sound).once j i b lists
          (subst (λ (c : ℕ). Lists (table_of s) i c) (sym same_block) lists_here) in
          omega (arith, same_entry, less))
          (home_inside j b lists)
          ∙ h.each j b less lists
      | inr more ↦
          let here : j ≡ i = omega (arith, l, more) in
          let same_block : b ≡ block_listed i s = one_block j b here lists in
          ap (λ (c : ℕ). newest (written_to n (at_home i) (buffer_of s i)) (home_place s.p c)) same_block
          ∙ newest-written_to n (at_home i) (buffer_of s i) ∙ ap (buffer_of s) (sym here)
    ]

  pub home_past : (from k : ℕ) → next_live from s ≡ Some k → AreHome s n from → AreHome s n k
  home_past from k found h = record { each = λ i b l lists. h.each i b (listed_before s from k i b found lists l) lists }

  pub home_reads : (m : Device) (from : ℕ) → ((x : ℕ) → x < length n.image → newest m x ≡ newest n x) → AreHome s n from → AreHome s m from
  home_reads m from reads h = record { each = λ i b l lists. reads (home_place s.p b) (home_inside i b lists) ∙ h.each i b l lists }

  -- with none left, every home reads as its block was stored last
  home_is_work : (from : ℕ) → next_live from s ≡ None → AreHome s n from → (b : ℕ) (o : Option ℕ) → entry_for s b ≡ o
      → home_of s n b ≡ work_by s n b o
  home_is_work from found h b None is = refl
  home_is_work from found h b (Some i) is =
      let l = entry_of-Some (table_of s) b i (entry_for-is s b sound ∙ is) in h.each i b (listed_below s from i b found l) l

  pub homes_are_works : (from : ℕ) → next_live from s ≡ None → AreHome s n from → homes s n ≡ works s n
  homes_are_works from found h =
      map_below (memory_blocks s.p) (home_of s n) (work_of s n)
      (λ b l. home_is_work from found h b (entry_for s b) refl)

  -- all blocks load the same over a device that reads the same
  pub works_reads : (m : Device) → ((x : ℕ) → x < length n.image → newest m x ≡ newest n x) → works s m ≡ works s n
  works_reads m reads = works_same s n m (λ b small none. reads (home_place s.p b) (omega (arith, small, sized)))

  pub homes_reads : (m : Device) → ((x : ℕ) → x < length n.image → newest m x ≡ newest n x) → homes s m ≡ homes s n
  homes_reads m reads =
      map_below (memory_blocks s.p) (home_of s m) (home_of s n)
      (λ b small. reads (home_place s.p b) (omega (arith, small, sized)))
