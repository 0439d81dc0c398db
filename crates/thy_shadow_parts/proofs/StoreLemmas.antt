-- A store changes one block, or copies one, and leaves what loads and stores keep.
use Rattle.std.proofs.Common.{◌≡◌, ◌≢◌, ℕ, ◌+◌, ◌-◌, ◌*◌, ◌%◌, ◌<◌, ◌≤◌, nat_lt, Bool, true, false, if◌then◌else◌, is_some, List, ◌∷◌, length, slice_set, Option, Some, None, refl, sym, ◌∙◌, ap, subst, inl, inr, arith}
use Rattle.std.specs.List.{range_with_len}
use Rattle.std.proofs.lemmas.Bool.{cases_eq, eq-eqb, ltb-true, ltb-false}
use Rattle.std.proofs.lemmas.List.{length-set}
use Rattle.std.proofs.lemmas.List.FromFn.{length-map-range_with_len}
use Rattle.std.proofs.lemmas.List.Sums.{sum_by-set}
use Rattle.thy_block.specs.declared.block.Block.{Block}
use Rattle.thy_block.specs.declared.parameters.Parameters.{Parameters}
use Rattle.thy_block.specs.declared.store.Stored.{Stored}
use Rattle.thy_block.specs.declared.store.Stored.TheVariants.{Done, CopyFirst}
use Rattle.thy_block.specs.Device.{Device, newest, HasFailed, IsFramed}
use Rattle.thy_block.specs.Geometry.{memory_blocks}
use Rattle.thy_block.specs.Places.{frame_place}
use Rattle.thy_block.specs.Store.{page_of, IsOpenFor, HasStored}
use Rattle.thy_block.proofs.BasicLemmas.{not_some}
use Rattle.thy_layout.specs.Spares.{Spares}
use Rattle.thy_layout.proofs.SparesLemmas.{Spares-no_more}
use Rattle.thy_dram.specs.Contents.{written}
use Rattle.thy_layout.specs.Layout.{looked_by}
use Rattle.thy_layout.proofs.AskingLemmas.{map-alike}
use Rattle.thy_table.specs.Listing.{Listing, entry_at, free_index, free_count, with_entry}
use Rattle.thy_table.proofs.IndexLemmas.{free_one}
use Rattle.thy_table.proofs.ListingLaws.{free_first, index_of-put, index_of-put_other}
use Rattle.thy_computer.specs.Action.{IsAccess, after, FailsTo}
use Rattle.thy_computer.specs.Dram.{ActsOnDram, WritesBlock}
use Rattle.thy_images.specs.ShadowCheckpointParts.{HoldsCheckpoint}
use Rattle.thy_images.specs.ShadowLayout.{shadow_layouts}
use Rattle.thy_images.specs.ShadowPlaces.{image_blocks, pool_place, pool_page}
use Rattle.thy_checkpoint.specs.Items.{Phase, Resting}
use Rattle.thy_shadow_parts.specs.declared.entry.Begun.{Begun}
use Rattle.thy_shadow_parts.specs.declared.entry.Framed.{Framed}
use Rattle.thy_shadow_parts.specs.declared.entry.Held.{Held}
use Rattle.thy_shadow_parts.specs.Holding.{works, agrees, agree_by, copied_by, opened_by, copies_agree}
use Rattle.thy_shadow_parts.specs.Keys.{number_key, page_key, held as held_entry, framed, begun_for}
use Rattle.thy_shadow_parts.specs.State.{State, state_in, IsSoundState, frame_of, pool_of, page_place, committed_of, committed_table, frame_block, work_by, work_of}
use Rattle.thy_shadow_parts.specs.Stores.{StoreCase, Into, Fill, Copy, copies_by, copies_for, free_frame, case_by, store_case, put_into, filled, copied_into, after_case, after_store, stored_by, store_action}
use Rattle.thy_shadow_parts.proofs.DrainLemmas.{IsSoundState-dram}
use Rattle.thy_shadow_parts.proofs.StateLemmas.{free_frame_is, free_page, filled_state, full_sound as pool_full_sound, IsSoundState-begun}
use Rattle.thy_shadow_parts.proofs.TableLemmas.{table_by-same}
use Rattle.thy_scheme_parts.specs.Holding.{holding_of}
use Rattle.thy_scheme_parts.specs.Moments.{IsMoment}
use Rattle.thy_scheme_parts.specs.Storing.{CanStore, MakesStore, StaysAt, StaysOver, IsStoring}
use Rattle.thy_scheme_parts.proofs.HeldLemmas.{IsHeldBlock, blocks_held, held_block}
use Rattle.thy_scheme_parts.proofs.LeavesLemmas.{leaves-same, leaves-failed, leaves-both, was_up}
use Rattle.thy_scheme_parts.proofs.MemoryLemmas.{map_set}
use Rattle.thy_scheme_parts.proofs.WaitLemmas.{stays_waiting}
use Rattle.thy_shadow_parts.specs.Design.{rests_at, storeless_by, IsStill, owed_now, StaysPool, shadow_design}
use Rattle.thy_shadow_parts.proofs.CopyLemmas.{AreCopied, begun_copied, are_copied, all_pass, block_same, apart_frame, apart_block, put_here, put_there, frame_inside, frame_has, one_page}
use Rattle.thy_shadow_parts.proofs.PhaseLemmas.{commits_alike}

-- ---- a store of a block, over a sound pool

module _ (b : ℕ) (block : Block) (s : State) (n : Device) (sound : IsSoundState s) (small : b < memory_blocks s.p) where
  abbrev x : ℕ
  x = page_of b

  abbrev c : ℕ
  c = b % 64

  page_small : x < s.p.pages
  page_small = omega (arith, small)

  block_small : c < 64
  block_small = omega arith

  -- another block of memory is of another page, or another block of that page
  other_block : (a : ℕ) → a ≢ b → page_of a ≡ x → a % 64 ≢ c
  other_block a other page = λ e. other (omega (arith, page, e))

  -- ---- into the frame of its page

  module _ (j : ℕ) (found : frame_of s x ≡ Some j) where
    abbrev into : State
    into = put_into j c block s

    into_here : work_of into n b ≡ block
    into_here = ap (work_by into n b) found ∙ put_here s sound j c block (frame_inside s sound x j found) block_small

    into_there : (a : ℕ) (o : Option ℕ) → frame_of s (page_of a) ≡ o → a ≢ b → work_by into n a o ≡ work_by s n a o
    into_there a None is other = refl
    into_there a (Some i) is other = put_there s j c block i (a % 64)
        (elim (cases_eq i j) as (λ _. frame_place s.p i (a % 64) ≢ frame_place s.p j c) [
          | inl same ↦ apart_block s.p i j (a % 64) c (omega arith) block_small
              (other_block a other (one_page s (page_of a) x i j is found same))
          | inr apart ↦ apart_frame s.p i j (a % 64) c (omega arith) block_small apart
        ])

    pub works_into : works into n ≡ slice_set (works s n) b block
    works_into =
        map_set (memory_blocks s.p) (work_of into n) (work_of s n) b block small into_here
        (λ a l other. into_there a (frame_of s (page_of a)) refl other)

    -- a filled frame is not the one that is begun
    not_free : (g : Begun) → s.begun ≡ Some g → free_frame s ≢ j
    not_free g is = λ e.
        let none = (free_first s.frames (free_frame s) (free_frame_is s (sound.begun g is).room)).1 in
        let both : None ≡ Some (framed x) = sym none ∙ ap (entry_at s.frames) e ∙ frame_has s x j found in
        absurd cc

    into_agrees : (g : Option Begun) → s.begun ≡ g → agree_by s n g ≡ true → agree_by into n g ≡ true
    into_agrees None is agree = refl
    into_agrees (Some g) is agree =
        let few = (sound.begun g is).few in
        all_pass (agrees into n g.page) g.copied
        (λ d l.
        block_same (frame_block into (free_frame s) d) (newest n (page_place s g.page d))
        (put_there s j c block (free_frame s) d (apart_frame s.p (free_frame s) j d c (omega (arith, few, l)) block_small (not_free g is))
        ∙ begun_copied s n g agree d l))

    pub copies_into : copies_agree s n ≡ true → copies_agree into n ≡ true
    copies_into agree = into_agrees s.begun refl agree

    -- no frame is begun for a page that has one
    pub closed_into : (g : Option Begun) → s.begun ≡ g → IsOpenFor b (opened_by g) → opened_by g ≡ None
    closed_into None is opened = refl
    closed_into (Some g) is (inl none) = cc
    closed_into (Some g) is (inr this) =
        let page : g.page ≡ x = cc in
        let both : None ≡ Some j = sym (sound.begun g is).unframed ∙ ap (frame_of s) page ∙ found in
        cc

    pub sound_into : IsSoundState into
    sound_into =
        IsSoundState-dram s (written s.dram (frame_place s.p j c) block) sound
        (length-set s.dram.blocks (frame_place s.p j c) block)

  -- ---- into no frame, since its page has none

  module _ (unframed : frame_of s x ≡ None) (room : 0 < free_count s.frames) where
    -- the lowest free frame
    abbrev j : ℕ
    j = free_frame s

    is_lowest : free_index s.frames ≡ Some j
    is_lowest = free_frame_is s room

    j_inside : j < s.p.ptt
    j_inside = let low = (free_first s.frames j is_lowest).0 in let size = sound.frames_size in omega (arith, low, size)

    j_free : entry_at s.frames j ≡ None
    j_free = (free_first s.frames j is_lowest).1

    -- the lowest free frame is not the frame of any page
    not_lowest : (y i : ℕ) → frame_of s y ≡ Some i → i ≢ j
    not_lowest y i found = λ e.
        let both : None ≡ Some (framed y) = sym j_free ∙ ap (entry_at s.frames) (sym e) ∙ frame_has s y i found in
        absurd cc

    -- ---- a copy of a block of the page comes first

    module _ (k : ℕ) (few : k < 64) where
      abbrev copy : Block
      copy = newest n (page_place s x k)

      abbrev copied : State
      copied = copied_into j x k copy s

      copied_there : (a : ℕ) (o : Option ℕ) → frame_of s (page_of a) ≡ o → work_by copied n a o ≡ work_by s n a o
      copied_there a None is = refl
      copied_there a (Some i) is =
          put_there s j k copy i (a % 64) (apart_frame s.p i j (a % 64) k (omega arith) few (not_lowest (page_of a) i is))

      -- a copy leaves what each block loads
      pub works_copied : works copied n ≡ works s n
      works_copied =
          map-alike (work_of copied n) (work_of s n) (range_with_len 0 (memory_blocks s.p))
          (λ a inside. copied_there a (frame_of s (page_of a)) refl)

      copied_each : AreCopied s n x k → (d : ℕ) → d < k + 1 → frame_block copied j d ≡ newest n (page_place s x d)
      copied_each before d l = elim (cases_eq d k) as (λ _. frame_block copied j d ≡ newest n (page_place s x d)) [
        | inl last ↦
            ap (λ (i : ℕ). frame_block copied j i) last ∙ put_here s sound j k copy j_inside few
            ∙ sym (ap (λ (i : ℕ). newest n (page_place s x i)) last)
        | inr earlier ↦
            let low : d < k = omega (arith, l, earlier) in
            put_there s j k copy j d (apart_block s.p j j d k (omega (arith, low, few)) few earlier) ∙ before d low
      ]

      pub copies_copied : AreCopied s n x k → copies_agree copied n ≡ true
      copies_copied before =
          all_pass (agrees copied n x) (k + 1)
          (λ d l. block_same (frame_block copied j d) (newest n (page_place s x d)) (copied_each before d l))

      pub sound_copied : IsSoundState copied
      sound_copied =
          let put : IsSoundState (put_into j k copy s)
          = IsSoundState-dram s (written s.dram (frame_place s.p j k) copy) sound
          (length-set s.dram.blocks (frame_place s.p j k) copy) in
          IsSoundState-begun (put_into j k copy s) (begun_for x (k + 1)) put
          (record { page = page_small; unframed = unframed; few = omega (arith, few); room = room })

      -- one copy less is owed
      pub owed_copied : (g : Option Begun) → copies_by x g ≡ k → IsOpenFor b (opened_by g)
          → 64 * free_count s.frames - (k + 1) + 1 ≤ 64 * free_count s.frames - copied_by g
      owed_copied None is opened = omega (arith, is, few, room)
      owed_copied (Some g) is (inl none) = cc
      owed_copied (Some g) is (inr this) =
          let page : g.page ≡ x = cc in
          let same : g.copied ≡ k = sym (ap (λ (z : Bool). if z then g.copied else 0) (eq-eqb g.page x page)) ∙ is in
          omega (arith, same, few, room)

    -- ---- the frame is whole, and becomes the page's

    module _ (place : ℕ) (is_place : free_index s.pool ≡ Some place) (whole : AreCopied s n x 64) where
      abbrev frames : Listing Framed
      frames = with_entry j (Some (framed x)) s.frames

      abbrev pool : Listing Held
      pool = with_entry place (Some (held_entry (s.p.pages + j))) s.pool

      abbrev full : State
      full = state_in s.p pool frames None s.dram

      pub filled_is : filled j x s ≡ full
      filled_is = filled_state s sound x j place page_small unframed is_lowest is_place

      full_sound : IsSoundState full
      full_sound = pool_full_sound s sound x j place page_small unframed is_lowest is_place

      at_place : (place < length s.pool.entries) × (entry_at s.pool place ≡ None)
          × ((k : ℕ) → k < place → is_some (entry_at s.pool k) ≡ true)
      at_place = free_first s.pool place is_place

      frame_size : j < length s.frames.entries
      frame_size = (free_first s.frames j is_lowest).0

      page_number : x < s.frames.numbers
      page_number = let numbers = sound.frames_numbers in omega (arith, numbers, page_small)

      pool_number : s.p.pages + j < s.pool.numbers
      pool_number = let numbers = sound.pool_numbers in omega (arith, numbers, j_inside)

      unclaimed : pool_of s (s.p.pages + j) ≡ None
      unclaimed = not_some (pool_of s (s.p.pages + j)) (sym (sound.claimed j) ∙ ap is_some j_free)

      -- the page has that frame, and every other page what it had
      frame_here : frame_of full x ≡ Some j
      frame_here = index_of-put page_key s.frames sound.frames_once j (framed x) frame_size unframed page_number

      frame_there : (y : ℕ) → y ≢ x → frame_of full y ≡ frame_of s y
      frame_there y other =
          index_of-put_other page_key s.frames sound.frames_once j (framed x) y frame_size j_free unframed page_number other

      pool_there : (y : ℕ) → y < s.p.pages → pool_of full y ≡ pool_of s y
      pool_there y l =
          index_of-put_other number_key s.pool sound.pool_once place (held_entry (s.p.pages + j)) y at_place.0 at_place.1 unclaimed pool_number
          (λ e. omega (arith, e, l))

      pub table_full : committed_table full ≡ committed_table s
      table_full = table_by-same s.p (pool_of full) (pool_of s) pool_there

      abbrev put : State
      put = put_into j c block full

      put_is_here : work_of put n b ≡ block
      put_is_here = ap (work_by put n b) frame_here ∙ put_here full full_sound j c block j_inside block_small

      -- a block of the page that was copied is as it was committed
      put_copied : (a : ℕ) → a ≢ b → page_of a ≡ x → work_of put n a ≡ work_of s n a
      put_copied a other page =
          let low : a % 64 < 64 = omega arith in
          ap (λ (y : ℕ). work_by put n a (frame_of full y)) page
          ∙ ap (work_by put n a) frame_here
          ∙ put_there full j c block j (a % 64) (apart_block s.p j j (a % 64) c low block_small (other_block a other page))
          ∙ whole (a % 64) low
          ∙ sym (ap (λ (y : ℕ). newest n (page_place s y (a % 64))) page)
          ∙ sym (ap (work_by s n a) (ap (frame_of s) page ∙ unframed))

      -- one of any other page loads as before
      committed_there : (a : ℕ) → a < memory_blocks s.p → committed_of put n a ≡ committed_of s n a
      committed_there a l =
          ap (λ (o : Option ℕ). newest n (pool_place s.p (pool_page o) (a % 64))) (pool_there (page_of a) (omega (arith, l)))

      put_other : (a : ℕ) (o : Option ℕ) → a < memory_blocks s.p → frame_of s (page_of a) ≡ o → work_by put n a o ≡ work_by s n a o
      put_other a None l is = committed_there a l
      put_other a (Some i) l is =
          put_there full j c block i (a % 64) (apart_frame s.p i j (a % 64) c (omega arith) block_small (not_lowest (page_of a) i is))

      put_is_there : (a : ℕ) → a < memory_blocks s.p → a ≢ b → work_of put n a ≡ work_of s n a
      put_is_there a l other = elim (cases_eq (page_of a) x) as (λ _. work_of put n a ≡ work_of s n a) [
        | inl same ↦ put_copied a other same
        | inr apart ↦ ap (work_by put n a) (frame_there (page_of a) apart) ∙ put_other a (frame_of s (page_of a)) l refl
      ]

      pub works_put : works put n ≡ slice_set (works s n) b block
      works_put = map_set (memory_blocks s.p) (work_of put n) (work_of s n) b block small put_is_here put_is_there

      pub sound_put : IsSoundState put
      sound_put =
          IsSoundState-dram full (written s.dram (frame_place s.p j c) block) full_sound
          (length-set s.dram.blocks (frame_place s.p j c) block)

      -- one frame less is free
      pub free_full : free_count frames + 1 ≡ free_count s.frames
      free_full =
          let set = sum_by-set free_one s.frames.entries j (Some (framed x)) None frame_size in
          let was : free_one (entry_at s.frames j) ≡ 1 = ap free_one j_free in
          omega (arith, set, was)

      pub owed_full : (g : Option Begun) → s.begun ≡ g → 64 * free_count frames - 0 ≤ 64 * free_count s.frames - copied_by g
      owed_full None is = omega (arith, free_full)
      owed_full (Some g) is = let most = (sound.begun g is).few in omega (arith, free_full, most)

-- ---- what it makes, by its case

record MakesCase (case : StoreCase) (b : ℕ) (block : Block) (s : State) (n : Device) (t : State) : Type 0 where
  stored : HasStored (stored_by case) b block (holding_of shadow_design s n) (holding_of shadow_design t n)
  dram : ActsOnDram n n s.dram t.dram
  copies : owed_now t + 1 ≤ owed_now s → WritesBlock n n s.dram t.dram
  stays : StaysPool s n t n
  still : storeless_by (stored_by case) true ≡ true → IsStill s t

abbrev Makes : StoreCase → ℕ → Block → State → Device → Type 0
Makes case b block s n = MakesCase case b block s n (after_case case b block n s)

module _ (b : ℕ) (block : Block) (s : State) (n : Device) (can : CanStore shadow_design b s n) where
  held : IsHeldBlock shadow_design s n b
  held = held_block shadow_design s n b can.inside

  small : b < memory_blocks s.p
  small = let low = held.inside in omega (arith, low, length-map-range_with_len (work_of s n) 0 (memory_blocks s.p))

  abbrev sound : IsSoundState s
  sound = can.sound

  room : 0 < free_count s.frames
  room = can.room

  agree : copies_agree s n ≡ true
  agree = held.agrees

  held_before : (holding_of shadow_design s n).blocks ≡ works s n
  held_before = blocks_held shadow_design s n agree held.sized held.up

  makes_into : (j : ℕ) → frame_of s (page_of b) ≡ Some j → Makes (Into j) b block s n
  makes_into j found =
      let t : State = put_into j (b % 64) block s in
      let copied : copies_agree t n ≡ true = copies_into b block s n sound small j found agree in
      record {
        stored = record {
          blocks =
              blocks_held shadow_design t n copied held.sized held.up
              ∙ works_into b block s n sound small j found
              ∙ ap (λ (ws : List Block). slice_set ws b block) (sym held_before);
          free = omega arith;
          ready = refl;
          closed = λ opened. closed_into b block s n sound small j found s.begun refl opened;
          owed = λ opened. omega arith;
        };
        dram = inr (record { at = frame_place s.p j (b % 64); block = block; left = refl; nvm = refl });
        copies = λ fewer. inr (record { at = frame_place s.p j (b % 64); block = block; left = refl; nvm = refl });
        stays = record {
          same_p = refl;
          room = refl;
          table = refl;
          sound = λ h. sound_into b block s n sound small j found;
          copies = λ before up. copies_into b block s n sound small j found before;
          nvm = leaves-same n;
        };
        still = λ h. let no : false ≡ true = h in absurd cc;
      }

  makes_copy : frame_of s (page_of b) ≡ None → (k : ℕ) → copies_for (page_of b) s ≡ k → k < 64 → Makes (Copy (free_frame s) k) b block s n
  makes_copy unframed k is few =
      let j : ℕ = free_frame s in
      let x : ℕ = page_of b in
      let new : Block = newest n (page_place s x k) in
      let t : State = copied_into j x k new s in
      let before : copies_agree s n ≡ true → AreCopied s n x k = λ all. subst (λ (m : ℕ). AreCopied s n x m) is (are_copied s n x all) in
      let copied : copies_agree t n ≡ true = copies_copied b block s n sound small unframed room k few (before agree) in
      record {
        stored = record {
          blocks =
              blocks_held shadow_design t n copied held.sized held.up
              ∙ works_copied b block s n sound small unframed room k few
              ∙ sym held_before;
          free = omega arith;
          ready = refl;
          open_page = λ opened. inr refl;
          owed = λ opened. owed_copied b block s n sound small unframed room k few s.begun is opened;
        };
        dram = inr (record { at = frame_place s.p j k; block = new; left = refl; nvm = refl });
        copies = λ fewer. inr (record { at = frame_place s.p j k; block = new; left = refl; nvm = refl });
        stays = record {
          same_p = refl;
          room = refl;
          table = refl;
          sound = λ h. sound_copied b block s n sound small unframed room k few;
          copies = λ all up. copies_copied b block s n sound small unframed room k few (before all);
          nvm = leaves-same n;
        };
        still = λ h. record { frames = refl; pool = refl };
      }

  makes_fill : frame_of s (page_of b) ≡ None → 64 ≤ copies_for (page_of b) s → Makes (Fill (free_frame s)) b block s n
  makes_fill unframed many =
      let j : ℕ = free_frame s in
      let x : ℕ = page_of b in
      let q : ℕ = (free_page s sound room).0 in
      let at : free_index s.pool ≡ Some q = (free_page s sound room).1 in
      let whole : AreCopied s n x 64 = λ d low. are_copied s n x agree d (omega (arith, low, many)) in
      let u : State = full b block s n sound small unframed room q at whole in
      let t : State = put_into j (b % 64) block u in
      let made : MakesCase (Fill j) b block s n t = record {
        stored = record {
          blocks =
              blocks_held shadow_design t n refl held.sized held.up
              ∙ works_put b block s n sound small unframed room q at whole
              ∙ ap (λ (ws : List Block). slice_set ws b block) (sym held_before);
          free = omega (arith, free_full b block s n sound small unframed room q at whole);
          ready = refl;
          closed = λ opened. refl;
          owed = λ opened. owed_full b block s n sound small unframed room q at whole s.begun refl;
        };
        dram = inr (record { at = frame_place s.p j (b % 64); block = block; left = refl; nvm = refl });
        copies = λ fewer. inr (record { at = frame_place s.p j (b % 64); block = block; left = refl; nvm = refl });
        stays = record {
          same_p = refl;
          room = refl;
          table = table_full b block s n sound small unframed room q at whole;
          sound = λ h. sound_put b block s n sound small unframed room q at whole;
          copies = λ all up. refl;
          nvm = leaves-same n;
        };
        still = λ h. let no : false ≡ true = h in absurd cc;
      } in
      subst (λ (v : State). MakesCase (Fill j) b block s n (put_into j (b % 64) block v))
      (sym (filled_is b block s n sound small unframed room q at whole)) made

  -- by the frame of the page, and by what was copied
  makes_none : frame_of s (page_of b) ≡ None → (few : Bool) → nat_lt (copies_for (page_of b) s) 64 ≡ few
      → Makes (if few then Copy (free_frame s) (copies_for (page_of b) s) else Fill (free_frame s)) b block s n
  makes_none unframed true e = makes_copy unframed (copies_for (page_of b) s) refl (ltb-true (copies_for (page_of b) s) 64 e)
  makes_none unframed false e = makes_fill unframed (ltb-false (copies_for (page_of b) s) 64 e)

  makes_by : (o : Option ℕ) → frame_of s (page_of b) ≡ o → Makes (case_by s (page_of b) o) b block s n
  makes_by None found = makes_none found (nat_lt (copies_for (page_of b) s) 64) refl
  makes_by (Some j) found = makes_into j found

  makes_case : Makes (store_case b s) b block s n
  makes_case = makes_by (frame_of s (page_of b)) refl

after_is : (b : ℕ) (block : Block) (n : Device) (s : State) → after_store b block n s ≡ after_case (store_case b s) b block n s
unfolding after_store
after_is b block n s = refl

-- no store into shadow paging writes the NVM
after_access : (case : StoreCase) (b : ℕ) (s : State) (n : Device) → after n.writes (store_action case b s) n ≡ n
after_access (Into j) b s n = refl
after_access case b s n = refl

makes_store : (b : ℕ) (block : Block) (s : State) (n : Device) → CanStore shadow_design b s n
    → MakesStore shadow_design b block s n (after_store b block n s) (after n.writes (store_action (store_case b s) b s) n)
makes_store b block s n can =
    let of : MakesCase (store_case b s) b block s n (after_case (store_case b s) b block n s) = makes_case b block s n can in
    let made : MakesStore shadow_design b block s n (after_case (store_case b s) b block n s) n
    = record { stored = of.stored; dram = of.dram; copies = of.copies; stays = of.stays; still = of.still } in
    subst (λ (t : State). MakesStore shadow_design b block s n t (after n.writes (store_action (store_case b s) b s) n)) (sym (after_is b block n s))
    (subst (λ (m : Device). MakesStore shadow_design b block s n (after_case (store_case b s) b block n s) m)
    (sym (after_access (store_case b s) b s n)) made)

-- ---- what stays

failed_stays : (s : State) (n m : Device) → HasFailed n m → IsFramed n m → StaysPool s n s m
failed_stays s n m failed framed = record {
  same_p = refl;
  room = refl;
  table = refl;
  sound = λ h. h;
  copies = λ all up. let both : true ≡ false = sym failed.down ∙ up in absurd cc;
  nvm = leaves-failed n m failed framed;
}

-- a copy whose read failed
failed_by : (case : StoreCase) (b : ℕ) (s : State) (n m : Device) → FailsTo (store_action case b s) n m → IsFramed n m → StaysPool s n s m
failed_by (Copy j k) b s n m failed framed = failed_stays s n m failed framed
failed_by case b s n m failed framed = absurd failed

is_access : (case : StoreCase) (b : ℕ) (s : State) → IsAccess (store_action case b s)
is_access (Into j) b s = tt
is_access case b s = tt

stored_once : (stored : Stored) → storeless_by stored false ≡ false
stored_once Done = refl
stored_once CopyFirst = refl

on_stays : (a : State) (l : Device) (b : State) (m : Device) (c : State) (n : Device) → StaysPool a l b m → StaysPool b m c n
    → StaysPool a l c n
on_stays a l b m c n first second = record {
  same_p = second.same_p ∙ first.same_p;
  room = second.room ∙ first.room;
  table = second.table ∙ first.table;
  sound = λ h. second.sound (first.sound h);
  copies = λ all up. second.copies (first.copies all (was_up m n second.nvm up)) up;
  nvm = leaves-both l m n first.nvm second.nvm;
}

rests_less : (phase : Phase) (frames : Listing Framed) → rests_at phase true frames
    → rests_at phase false frames
rests_less Resting frames rests = tt
rests_less phase frames rests = tt

module _ (epoch : ℕ) (s : State) (n : Device) (t : State) (m : Device) (moment : IsMoment shadow_design Resting epoch s n)
    (stays : StaysPool s n t m) where
  meant_then : (g : List Block) (kept : ℕ) → HoldsCheckpoint s.p g kept (committed_table s) → HoldsCheckpoint t.p g kept (committed_table t)
  meant_then g kept meant =
      subst (λ (p : Parameters). HoldsCheckpoint p g kept (committed_table t)) (sym stays.same_p)
      (subst (HoldsCheckpoint s.p g kept) (sym stays.table) meant)

  stays_idle : copies_agree t n ≡ true → StaysAt shadow_design Resting epoch s n t n
  stays_idle copies = record {
    moment = record {
      sound = stays.sound moment.sound;
      sized = moment.sized ∙ ap image_blocks (sym stays.same_p);
      stands = stays.sound moment.sound;
      holds = copies;
    };
    sealed = tt;
    committed = commits_alike s t n stays.same_p stays.table;
    keeps = λ g h. record { kept = h.kept; meant = meant_then g h.kept h.meant; other = tt };
    makes = λ g h. h;
    rests = λ b r. tt;
    slot = tt;
    header = refl;
    commit = refl;
  }

  stays_resting : StaysOver shadow_design Resting epoch s n t m
  stays_resting = record {
    kept = λ g h. spares g;
    made = λ g h. spares g;
    left = λ from. omega (arith, ap (λ (p : Parameters). p.ptt) stays.same_p);
    owed_later = omega arith;
    up = λ up.
        subst (λ (d : Device). StaysAt shadow_design Resting epoch s n t d)
        (sym (stays.nvm.same up))
        (stays_idle
        (subst (λ (d : Device). copies_agree t d ≡ true) (stays.nvm.same up)
        (stays.copies moment.holds up)));
  } where
    spares : (g : List Block) → Spares (1 ∷ looked_by (shadow_layouts s.p) g) n m
    spares g =
        Spares-no_more (1 ∷ looked_by (shadow_layouts s.p) g) n m stays.nvm.no_more
        stays.nvm.as_long

pub is_storing : IsStoring shadow_design
is_storing = record {
  access = λ b block s. is_access (store_case b s) b s;
  store = makes_store;
  store_fails = λ b block s n m can failed framed. failed_by (store_case b s) b s n m failed framed;
  load_fails = failed_stays;
  stored_once = λ s b. stored_once (stored_by (store_case b s));
  still_same = λ s. record { frames = refl; pool = refl };
  still_on = λ a b c first second. record { frames = second.frames ∙ first.frames; pool = second.pool ∙ first.pool };
  still_rests = λ sealed phase s t same rests. subst (rests_at phase true) (sym same.frames) rests;
  rests_less = λ sealed phase s rests. rests_less phase s.frames rests;
  stays_same = λ s n. record {
    same_p = refl;
    room = refl;
    table = refl;
    sound = λ h. h;
    copies = λ all up. all;
    nvm = leaves-same n;
  };
  stays_on = on_stays;
  stays_p = λ s n t m stays. stays.same_p;
  stays_room = λ s n t m stays. stays.room;
  stays_sound = λ s n t m stays. stays.sound;
  stays = stays_waiting shadow_design refl stays_resting;
}
