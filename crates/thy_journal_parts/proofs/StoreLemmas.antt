-- A store changes one block, as each load of the log then shows, and leaves what loads and stores keep.
use Rattle.std.proofs.Common.{◌≡◌, ◌≢◌, ℕ, ◌+◌, ◌<◌, ◌≤◌, true, false, List, ◌∷◌, length, map, slice_set, Option, Some, None, unwrap_or, refl, sym, ◌∙◌, ap, subst, inr, arith}
use Rattle.std.specs.List.{range_with_len}
use Rattle.std.specs.Option.{option_or}
use Rattle.std.proofs.lemmas.List.{length-set, get_or-set_same, get_or-set_other}
use Rattle.std.proofs.lemmas.List.FromFn.{length-map-range_with_len}
use Rattle.std.proofs.lemmas.List.Sums.{sum_by-set}
use Rattle.thy_block.specs.declared.block.Block.{Block}
use Rattle.thy_block.specs.declared.parameters.Parameters.{Parameters}
use Rattle.thy_block.specs.Device.{Device, zero_block, newest, IsFramed, HasFailed}
use Rattle.thy_block.specs.Geometry.{memory_blocks}
use Rattle.thy_block.specs.Store.{IsStored}
use Rattle.thy_layout.specs.Spares.{Spares}
use Rattle.thy_layout.proofs.SparesLemmas.{Spares-no_more}
use Rattle.thy_dram.specs.Contents.{written}
use Rattle.thy_layout.specs.Layout.{looked_by}
use Rattle.thy_table.specs.Listing.{Listing, IsListing, entry_at, index_of, free_index, free_count, with_entry, added_at}
use Rattle.thy_table.proofs.IndexLemmas.{free_one, lists-some, lists-inside}
use Rattle.thy_table.proofs.ListingLaws.{free_first, free_found, index_of-lists, IsListing-put, index_of-put, index_of-put_other}
use Rattle.thy_images.specs.JournalLayout.{journal_layouts}
use Rattle.thy_images.specs.JournalPlaces.{image_blocks, home_place}
use Rattle.thy_images.specs.JournalCheckpointParts.{HoldsCheckpoint}
use Rattle.thy_journal_parts.specs.declared.entry.Listed.{Listed}
use Rattle.thy_journal_parts.specs.Holding.{works}
use Rattle.thy_journal_parts.specs.Keys.{block_key, listing_of}
use Rattle.thy_journal_parts.specs.State.{State, IsSoundState, entry_for, work_by, work_of}
use Rattle.thy_journal_parts.specs.Stores.{after_store, put_into, store_entry, listing_for, with_listing}
use Rattle.thy_journal_parts.proofs.StateLemmas.{IsSoundState-table, IsSoundState-dram}
use Rattle.thy_checkpoint.specs.Items.{Phase, Resting}
use Rattle.thy_scheme_parts.specs.Holding.{holding_of}
use Rattle.thy_scheme_parts.specs.Moments.{IsMoment}
use Rattle.thy_scheme_parts.specs.Storing.{CanStore, MakesStore, StaysAt, StaysOver, IsStoring}
use Rattle.thy_scheme_parts.proofs.HeldLemmas.{IsHeldBlock, blocks_held, held_block}
use Rattle.thy_scheme_parts.proofs.LeavesLemmas.{leaves-same, leaves-failed, leaves-both}
use Rattle.thy_scheme_parts.proofs.MemoryLemmas.{map_set}
use Rattle.thy_scheme_parts.proofs.WaitLemmas.{stays_waiting}
use Rattle.thy_journal_parts.specs.Design.{rests_at, StaysLog, journal_design}

-- ---- the table in which a block is listed

-- an entry lists the block, and every other block is at the place at which it was
record IsListedAt (s : State) (b i : ℕ) (u : Listing Listed) : Type 0 where
  here : index_of block_key b u ≡ Some i
  others : (c : ℕ) → c ≢ b → index_of block_key c u ≡ index_of block_key c s.table
  once : IsListing block_key u
  long : length u.entries ≡ length s.table.entries
  numbers : u.numbers ≡ s.table.numbers
  inside : i < length s.table.entries
  free : free_count s.table ≤ free_count u + 1

listed_some : (s : State) (b i : ℕ) → IsSoundState s → entry_for s b ≡ Some i → IsListedAt s b i s.table
listed_some s b i sound e = record {
  here = e;
  others = λ c other. refl;
  once = sound.once;
  long = refl;
  numbers = refl;
  inside = lists-inside block_key s.table.entries i b (index_of-lists block_key s.table b i e);
  free = omega arith;
}

listed_none : (s : State) (b i : ℕ) → IsSoundState s → b < memory_blocks s.p → entry_for s b ≡ None → free_index s.table ≡ Some i
    → IsListedAt s b i (with_entry i (Some (listing_of b)) s.table)
listed_none s b i sound small e found =
    let first = free_first s.table i found in
    let room : b < s.table.numbers = subst (λ (x : ℕ). b < x) (sym sound.numbers) small in
    let set = sum_by-set free_one s.table.entries i (Some (listing_of b)) None first.0 in
    record {
      here = index_of-put block_key s.table sound.once i (listing_of b) first.0 e room;
      others = λ c other.
          index_of-put_other block_key s.table sound.once i (listing_of b) c first.0 first.1 e room
          other;
      once = IsListing-put block_key s.table sound.once i (listing_of b) first.0 e room;
      long = length-set s.table.entries i (Some (listing_of b));
      numbers = refl;
      inside = first.0;
      free = omega (arith, ap free_one first.1, set);
    }

-- ---- the log after a store

after_is : (b : ℕ) (block : Block) (s : State) → after_store b block s ≡ put_into (store_entry b s) block (listing_for b s)
unfolding after_store
after_is b block s = refl

after_some : (b : ℕ) (block : Block) (s : State) (i : ℕ) → entry_for s b ≡ Some i → after_store b block s ≡ put_into i block s
after_some b block s i e =
    after_is b block s
    ∙ ap (λ (o : Option ℕ). put_into (unwrap_or (option_or o (free_index s.table)) 0) block (record s { table = with_listing o b s.table })) e

after_none : (b : ℕ) (block : Block) (s : State) (i : ℕ) → entry_for s b ≡ None → free_index s.table ≡ Some i
    → after_store b block s ≡ put_into i block (record s { table = with_entry i (Some (listing_of b)) s.table })
after_none b block s i e found =
    after_is b block s
    ∙ ap (λ (o : Option ℕ). put_into (unwrap_or (option_or o (free_index s.table)) 0) block (record s { table = with_listing o b s.table })) e
    ∙ ap (λ (o : Option ℕ). put_into (unwrap_or o 0) block
    (record s { table = record s.table { entries = added_at o (listing_of b) s.table.entries } })) found

-- a store, with the entry that it takes and the table that lists the block there
record IsStoredAt (b : ℕ) (block : Block) (s : State) : Type 0 where
  i : ℕ
  u : Listing Listed
  listed : IsListedAt s b i u
  is : after_store b block s ≡ put_into i block (record s { table = u })

stored_at : (b : ℕ) (block : Block) (s : State) → IsSoundState s → b < memory_blocks s.p → 0 < free_count s.table → IsStoredAt b block s
stored_at b block s sound small room = by_entry (entry_for s b) refl where
  by_entry : (o : Option ℕ) → entry_for s b ≡ o → IsStoredAt b block s
  by_entry None e =
      let free = free_found s.table room in
      record {
        i = free.0;
        u = with_entry free.0 (Some (listing_of b)) s.table;
        listed = listed_none s b free.0 sound small e free.1;
        is = after_none b block s free.0 e free.1;
      }
  by_entry (Some i) e = record { i = i; u = s.table; listed = listed_some s b i sound e; is = after_some b block s i e }

-- ---- what it holds

module _ (b : ℕ) (block : Block) (s : State) (n : Device) (sound : IsSoundState s) (small : b < memory_blocks s.p) (i : ℕ)
    (u : Listing Listed)
    (l : IsListedAt s b i u) where
  abbrev t : State
  t = put_into i block (record s { table = u })

  buffer_inside : i < length s.dram.blocks
  buffer_inside = let low = l.inside in let size = sound.size in omega (arith, low, size, sound.dram_size)

  -- an entry lists one block
  own_entry : (c : ℕ) → c ≢ b → index_of block_key c u ≡ Some i → ⊥
  own_entry c other e =
      let mine = lists-some block_key b (entry_at u i) (index_of-lists block_key u b i l.here) in
      let its = lists-some block_key c (entry_at u i) (index_of-lists block_key u c i e) in
      let same : Some mine.0 ≡ Some its.0 = sym mine.1 ∙ its.1 in
      let one : mine.0 ≡ its.0 = cc in
      other (sym its.2 ∙ sym (ap block_key one) ∙ mine.2)

  work_here : work_of t n b ≡ block
  work_here = ap (work_by t n b) l.here ∙ get_or-set_same s.dram.blocks i block zero_block buffer_inside

  work_there : (c : ℕ) (o : Option ℕ) → c ≢ b → index_of block_key c u ≡ o → work_by t n c o ≡ work_by s n c o
  work_there c None other e = refl
  work_there c (Some j) other e =
      get_or-set_other s.dram.blocks i j block zero_block (λ (q : j ≡ i). own_entry c other (e ∙ ap Some q))

  work_other : (c : ℕ) → c ≢ b → work_of t n c ≡ work_of s n c
  work_other c other = work_there c (index_of block_key c u) other refl ∙ ap (work_by s n c) (l.others c other)

  works_stored : works t n ≡ slice_set (works s n) b block
  works_stored =
      map_set (memory_blocks s.p) (work_of t n) (work_of s n) b block small work_here
      (λ c l other. work_other c other)

  stored_sound : IsSoundState t
  stored_sound =
      let listed : IsSoundState (record s { table = u }) = IsSoundState-table s.p s.table u s.dram sound l.long l.numbers l.once in
      IsSoundState-dram s.p u s.dram (written s.dram i block) listed (length-set s.dram.blocks i block)

-- ---- what it makes

module _ (b : ℕ) (block : Block) (s : State) (n : Device) (can : CanStore journal_design b s n) where
  held : IsHeldBlock journal_design s n b
  held = held_block journal_design s n b can.inside

  small : b < memory_blocks s.p
  small = let low = held.inside in omega (arith, low, length-map-range_with_len (work_of s n) 0 (memory_blocks s.p))

  at : IsStoredAt b block s
  at = stored_at b block s can.sound small can.room

  abbrev after : State
  after = put_into at.i block (record s { table = at.u })

  stores_after : IsStored b block (holding_of journal_design s n) (holding_of journal_design after n)
  stores_after = record {
    blocks =
        blocks_held journal_design after n refl held.sized held.up
        ∙ works_stored b block s n can.sound small at.i at.u at.listed
        ∙ ap (λ (x : List Block). slice_set x b block) (sym (blocks_held journal_design s n refl held.sized held.up));
    free = at.listed.free;
    ready = refl;
    closed = λ page. refl;
    owed = λ page. omega arith;
  }

  makes_after : MakesStore journal_design b block s n after n
  makes_after = record {
    stored = stores_after;
    dram = inr (record { at = at.i; block = block; left = refl; nvm = refl });
    copies = λ fewer. absurd (omega (arith, fewer));
    stays = record {
      same_p = refl;
      room = refl;
      sound = λ h. stored_sound b block s n can.sound small at.i at.u at.listed;
      nvm = leaves-same n;
    };
    still = λ h. let no : false ≡ true = h in absurd cc;
  }

  makes_store : MakesStore journal_design b block s n (after_store b block s) n
  makes_store = subst (λ (x : State). MakesStore journal_design b block s n x n) (sym at.is) makes_after

-- ---- what stays

failed_stays : (s : State) (n m : Device) → HasFailed n m → IsFramed n m → StaysLog s n s m
failed_stays s n m failed framed =
    record { same_p = refl; room = refl; sound = λ h. h; nvm = leaves-failed n m failed framed }

on_stays : (a : State) (l : Device) (b : State) (m : Device) (c : State) (n : Device) → StaysLog a l b m → StaysLog b m c n
    → StaysLog a l c n
on_stays a l b m c n first second = record {
  same_p = second.same_p ∙ first.same_p;
  room = second.room ∙ first.room;
  sound = λ h. second.sound (first.sound h);
  nvm = leaves-both l m n first.nvm second.nvm;
}

rests_less : (phase : Phase) (table : Listing Listed) → rests_at phase true table
    → rests_at phase false table
rests_less Resting table rests = tt
rests_less phase table rests = tt

-- homes go by the geometry alone
abbrev homes_by : Device → Parameters → List Block
homes_by n p = map (λ b. newest n (home_place p b)) (range_with_len 0 (memory_blocks p))

module _ (epoch : ℕ) (s : State) (n : Device) (t : State) (m : Device) (moment : IsMoment journal_design Resting epoch s n)
    (stays : StaysLog s n t m) where
  stays_idle : StaysAt journal_design Resting epoch s n t n
  stays_idle = record {
    moment = record {
      sound = stays.sound moment.sound;
      sized = moment.sized ∙ ap image_blocks (sym stays.same_p);
      stands = stays.sound moment.sound;
      holds = tt;
    };
    sealed = tt;
    committed = ap (homes_by n) stays.same_p;
    keeps = λ g h. record {
      kept = h.kept;
      table = h.table;
      meant = subst (λ (p : Parameters). HoldsCheckpoint p g h.kept h.table) (sym stays.same_p) h.meant;
      other = tt;
      applied = tt;
    };
    makes = λ g h. h;
    rests = λ b r. tt;
    slot = tt;
    header = refl;
    commit = refl;
  }

  stays_resting : StaysOver journal_design Resting epoch s n t m
  stays_resting = record {
    kept = λ g h. spares g;
    made = λ g h. spares g;
    left = λ from. omega (arith, ap (λ (p : Parameters). p.btt) stays.same_p);
    owed_later = omega arith;
    up = λ up.
        subst (λ (d : Device). StaysAt journal_design Resting epoch s n t d)
        (sym (stays.nvm.same up)) stays_idle;
  } where
    spares : (g : List Block) → Spares (1 ∷ looked_by (journal_layouts s.p) g) n m
    spares g =
        Spares-no_more (1 ∷ looked_by (journal_layouts s.p) g) n m stays.nvm.no_more
        stays.nvm.as_long

pub is_storing : IsStoring journal_design
is_storing = record {
  access = λ b block s. tt;
  store = makes_store;
  store_fails = λ b block s n m can failed framed. absurd failed;
  load_fails = failed_stays;
  stored_once = λ s b. refl;
  still_same = λ s. refl;
  still_on = λ a b c first second. second ∙ first;
  still_rests = λ sealed phase s t same rests. subst (rests_at phase true) (sym same) rests;
  rests_less = λ sealed phase s rests. rests_less phase s.table rests;
  stays_same = λ s n. record { same_p = refl; room = refl; sound = λ h. h; nvm = leaves-same n };
  stays_on = on_stays;
  stays_p = λ s n t m stays. stays.same_p;
  stays_room = λ s n t m stays. stays.room;
  stays_sound = λ s n t m stays. stays.sound;
  stays = stays_waiting journal_design refl stays_resting;
}
