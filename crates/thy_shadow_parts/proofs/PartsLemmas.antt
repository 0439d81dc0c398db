-- Shadow paging is a scheme of lawful parts: what holds when power comes on, at the end of a boot, and of all of it.
use Rattle.std.proofs.Common.{◌≡◌, ℕ, ◌<◌, nat_lt, true, false, List, length, Some, refl, sym, ◌∙◌, ap, subst, arith}
use Rattle.thy_block.specs.declared.block.Block.{Block}
use Rattle.thy_block.specs.declared.parameters.Parameters.{Parameters}
use Rattle.thy_block.specs.Device.{Device, block_at}
use Rattle.thy_block.specs.Geometry.{IsInRange, memory_blocks}
use Rattle.thy_block.specs.Store.{page_of}
use Rattle.thy_dram.specs.Contents.{Contents}
use Rattle.thy_isa.specs.Step.{State as Plain}
use Rattle.thy_layout.specs.Commit.{commit_of, epoch_of}
use Rattle.thy_layout.specs.Layout.{slot_in}
use Rattle.thy_layout.proofs.ReadBackLemmas.{epoch_of-commit_of}
use Rattle.thy_table.specs.Listing.{IsListing, entry_at, lists, listing, empty_table}
use Rattle.thy_table.proofs.ListingLaws.{entry_at-empty, free_count-all, IsListing-free, IsListing-once}
use Rattle.thy_computer.specs.Kind.{IsDramOf}
use Rattle.thy_checkpoint.specs.Boot.{Booting}
use Rattle.thy_checkpoint.specs.Filling.{first_slot_of}
use Rattle.thy_checkpoint.specs.Recovers.{IsRestored}
use Rattle.thy_checkpoint.specs.Start.{CanStart}
use Rattle.thy_images.specs.ShadowCheckpointParts.{HoldsCheckpoint}
use Rattle.thy_images.specs.ShadowLayout.{shadow_layouts}
use Rattle.thy_images.specs.ShadowPlaces.{image_blocks, pool_pages}
use Rattle.thy_images.specs.ShadowSlots.{IsMap, table_in}
use Rattle.thy_checkpoint.specs.Items.{Resting}
use Rattle.thy_shadow_parts.specs.declared.entry.Framed.{Framed}
use Rattle.thy_shadow_parts.specs.Holding.{works, commits, agree_by, opened_by}
use Rattle.thy_shadow_parts.specs.Keys.{number_key, page_key}
use Rattle.thy_shadow_parts.specs.State.{State, IsSoundState, pool_of, committed_table, committed_of, work_by, work_of}
use Rattle.thy_shadow_parts.specs.Stores.{new_state, first_entries}
use Rattle.thy_shadow_parts.proofs.CommitLemmas.{held_lists}
use Rattle.thy_shadow_parts.proofs.DrainLemmas.{IsSoundState-drained}
use Rattle.thy_shadow_parts.proofs.StateLemmas.{IsSoundState-new, entry_at-first, first_lists, first_page}
use Rattle.thy_shadow_parts.proofs.TableLemmas.{IsMap-committed, table_by-same}
use Rattle.thy_shadow_parts.specs.Filling.{filling_shadow, first_table, IsFresh, IsUnframed}
use Rattle.thy_shadow_parts.proofs.FirstLemmas.{IsMap-first, table_first}
use Rattle.thy_shadow_parts.proofs.ListLemmas.{unframed_none}
use Rattle.thy_scheme_parts.specs.AreParts.{AreParts}
use Rattle.thy_scheme_parts.specs.Paging.{IsPaging}
use Rattle.thy_scheme_parts.specs.Powering.{EndsBoot, IsPowering}
use Rattle.thy_scheme_parts.proofs.MemoryLemmas.{map_below}
use Rattle.thy_shadow_parts.specs.Design.{shadow_design}
use Rattle.thy_shadow_parts.proofs.DesignLemmas.{is_design}
use Rattle.thy_shadow_parts.proofs.StoreLemmas.{is_storing}

-- ---- power comes on

-- pages of a new pool list their own numbers, and no frame lists a page
lists_first : (p : Parameters) (q n : ℕ) → lists number_key n (entry_at (listing (first_entries p) (pool_pages p)) q) ≡ true
    → (q < p.pages) × (q ≡ n)
lists_first p q n h =
    first_lists p q n (nat_lt q p.pages) refl (sym (ap (lists number_key n) (entry_at-first p (pool_pages p) q)) ∙ h)

pool_once : (p : Parameters) → IsListing number_key (listing (first_entries p) (pool_pages p))
pool_once p = IsListing-once number_key (listing (first_entries p) (pool_pages p))
    (λ q r n a b. (lists_first p q n a).1 ∙ sym (lists_first p r n b).1)
    (λ q n a.
    let of = lists_first p q n a in
    omega (arith, of.0, of.1))

module _ (p : Parameters) (dram : Contents) where
  -- a new pool has every page of memory in the page of the pool with its number
  page_first : IsSoundState (new_state p dram) → (x : ℕ) → x < p.pages → pool_of (new_state p dram) x ≡ Some x
  page_first sound x l =
      sound.pool_once.found x x (held_lists x (entry_at (new_state p dram).pool x) (entry_at-first p (pool_pages p) x ∙ first_page p x l))

  pub first_committed : IsSoundState (new_state p dram) → committed_table (new_state p dram) ≡ first_table p
  first_committed sound = table_by-same p (pool_of (new_state p dram)) (λ x. Some x) (page_first sound)

  -- a new pool is as when power comes on: no frame is filled or begun
  new_fresh : IsInRange p → IsDramOf p dram → IsFresh (new_state p dram)
  new_fresh range is =
      let sound : IsSoundState (new_state p dram) =
      IsSoundState-new p dram range is.blocks (pool_once p)
      (IsListing-free page_key (empty_table p.ptt p.pages)
      (entry_at-empty {E = Framed} p.ptt p.pages)) in
      record {
        unframed = record { state = sound; free = λ j. entry_at-empty p.ptt p.pages j; unbegun = refl };
        first = first_committed sound;
      }

-- ---- in both ends of a boot

-- while no frame is filled, what was committed is what was stored last
commits_are_works : (s : State) (n : Device) → IsUnframed s → commits s n ≡ works s n
commits_are_works s n h =
    map_below (memory_blocks s.p) (committed_of s n) (work_of s n)
    (λ b l. sym (ap (work_by s n b) (unframed_none s (page_of b) h)))

ends : (s : State) (n : Device) (g : List Block) (kept : ℕ) → IsUnframed s → length n.image ≡ image_blocks s.p
    → HoldsCheckpoint s.p g kept (committed_table s) → EndsBoot shadow_design Resting s n g
ends s n g kept h sized meant = record {
  moment = λ epoch. record { sound = h.state; sized = sized; stands = h.state; holds = ap (agree_by s n) h.unbegun };
  keeps = λ epoch. record { kept = kept; meant = meant; other = tt };
  committed = commits_are_works s n h;
  rests = free_count-all s.frames.entries h.free;
  closed = ap opened_by h.unbegun;
  whole = refl;
}

-- ---- a checkpoint was restored

restored : (s : State) (n : Device) (b : Booting) → s.p ≡ b.p → length n.image ≡ image_blocks b.p → IsRestored filling_shadow n b s
    → EndsBoot shadow_design Resting s n n.image
restored s n b same sized found =
    let h : IsUnframed s = found.listed.lists.unframed in
    ends s n n.image (epoch_of b.commit) h (sized ∙ ap image_blocks (sym same)) (record {
      of_epoch = ap epoch_of found.listed.head.commit_is.is;
      table_is =
          ap (λ (p : Parameters). table_in s.p (slot_in (shadow_layouts p) n.image)) same
          ∙ ap (table_in s.p) (sym found.listed.slot_is)
          ∙ sym found.listed.lists.table;
      whole = IsMap-committed s h.state;
    })

-- ---- the program is loaded

loaded : (s : State) (n : Device) (g : List Block) (start : Plain) → IsFresh s → length n.image ≡ image_blocks s.p → CanStart s.p start
    → block_at g 1 ≡ commit_of 0 → slot_in (shadow_layouts s.p) g ≡ first_slot_of filling_shadow s.p start
    → EndsBoot shadow_design Resting s n g
loaded s n g start fresh sized can commit slot =
    ends s n g 0 fresh.unframed sized (record {
      of_epoch = ap epoch_of commit ∙ epoch_of-commit_of 0 (omega arith);
      table_is = ap (table_in s.p) slot ∙ table_first s.p start can.geometry ∙ sym fresh.first;
      whole = subst (IsMap s.p) (sym fresh.first) (IsMap-first s.p);
    })

-- ---- all of it

is_powering : IsPowering shadow_design
is_powering = record {
  power_p = λ p dram. refl;
  power_dram = λ p dram. refl;
  power_fresh = new_fresh;
  fresh_sound = λ s fresh. fresh.unframed.state;
  drained_sound = IsSoundState-drained;
  keeps_room = λ s t same. same;
  restores = λ s n b same settled sized found. restored s n b same sized found;
  begins = λ s n g start fresh settled sized can commit slot. loaded s n g start fresh sized can commit slot;
}

is_paging : IsPaging shadow_design
is_paging = record {
  merges = λ epoch s n moment some. let no : false ≡ true = some in absurd cc;
  promotes = λ phase epoch s n moment some. let no : false ≡ true = some in absurd cc;
}

pub are_parts : AreParts shadow_design
are_parts = record { design = is_design; powering = is_powering; storing = is_storing; paging = is_paging }
