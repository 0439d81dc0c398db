-- The journal is a scheme of lawful parts: what holds when power comes on, at the end of a boot, and of all of it.
use Rattle.std.proofs.Common.{◌≡◌, true, false, List, length, None, refl, sym, ◌∙◌, ap, arith}
use Rattle.std.specs.Option.{option_map}
use Rattle.std.proofs.lemmas.List.{length-replicate, get_or-replicate, ext_get_or}
use Rattle.thy_block.specs.declared.block.Block.{Block}
use Rattle.thy_block.specs.declared.parameters.Parameters.{Parameters}
use Rattle.thy_block.specs.Device.{Device, block_at}
use Rattle.thy_block.specs.Geometry.{IsInRange, memory_blocks}
use Rattle.thy_block.specs.Places.{dram_blocks}
use Rattle.thy_dram.specs.Contents.{Contents}
use Rattle.thy_isa.specs.Step.{State as Plain}
use Rattle.thy_layout.specs.Commit.{commit_of, epoch_of}
use Rattle.thy_layout.specs.Layout.{slot_in}
use Rattle.thy_layout.proofs.ReadBackLemmas.{epoch_of-commit_of}
use Rattle.thy_table.specs.Listing.{empty_table}
use Rattle.thy_table.proofs.ListingLaws.{entry_at-empty, free_count-all, IsListing-free}
use Rattle.thy_computer.specs.Kind.{IsDramOf}
use Rattle.thy_checkpoint.specs.Boot.{Booting}
use Rattle.thy_checkpoint.specs.Filling.{first_slot_of}
use Rattle.thy_checkpoint.specs.Recovers.{IsRestored}
use Rattle.thy_checkpoint.specs.Start.{CanStart}
use Rattle.thy_images.specs.JournalCheckpointParts.{HoldsCheckpoint}
use Rattle.thy_images.specs.JournalLayout.{journal_layouts}
use Rattle.thy_images.specs.JournalPlaces.{image_blocks}
use Rattle.thy_images.specs.JournalSlots.{table_in}
use Rattle.thy_journal_parts.specs.declared.entry.Listed.{Listed}
use Rattle.thy_journal_parts.specs.Keys.{block_key}
use Rattle.thy_journal_parts.specs.State.{State, IsSoundState, table_of, home_of, work_of, work_by, new_state}
use Rattle.thy_journal_parts.proofs.DrainLemmas.{IsSoundState-drained}
use Rattle.thy_journal_parts.proofs.TableLemmas.{IsTable-table_of, length-table_of, listed_at-table_of}
use Rattle.thy_journal_parts.specs.Filling.{filling_journal, IsFresh, no_table}
use Rattle.thy_journal_parts.proofs.FirstLemmas.{IsTable-none, table_first, entry_for-fresh}
use Rattle.thy_checkpoint.specs.Items.{Resting, Applying}
use Rattle.thy_scheme_parts.specs.AreParts.{AreParts}
use Rattle.thy_scheme_parts.specs.Paging.{IsPaging}
use Rattle.thy_scheme_parts.specs.Powering.{EndsBoot, IsPowering}
use Rattle.thy_scheme_parts.proofs.MemoryLemmas.{map_below}
use Rattle.thy_journal_parts.specs.Design.{journal_design}
use Rattle.thy_journal_parts.proofs.DesignLemmas.{is_design}
use Rattle.thy_journal_parts.proofs.StoreLemmas.{is_storing}

-- ---- power comes on

new_sound : (p : Parameters) (dram : Contents) → IsInRange p → length dram.blocks ≡ dram_blocks p → IsSoundState (new_state p dram)
new_sound p dram range size = record {
  range = range;
  size = length-replicate p.btt None;
  numbers = refl;
  once =
      IsListing-free block_key (empty_table p.btt (memory_blocks p))
      (entry_at-empty p.btt (memory_blocks p));
  dram_size = size;
}

new_fresh : (p : Parameters) (dram : Contents) → IsInRange p → IsDramOf p dram → IsFresh (new_state p dram)
new_fresh p dram range is = record {
  state = new_sound p dram range is.blocks;
  free = entry_at-empty {E = Listed} p.btt (memory_blocks p);
}

-- ---- a checkpoint was restored: its journal is to be applied

module _ (s : State) (n : Device) (b : Booting) (same : s.p ≡ b.p) (sized : length n.image ≡ image_blocks b.p)
    (found : IsRestored filling_journal n b s) where
  meant : HoldsCheckpoint s.p n.image (epoch_of b.commit) (table_of s)
  meant = record {
    of_epoch = ap epoch_of found.listed.head.commit_is.is;
    table_is =
        ap (λ (p : Parameters). table_in s.p (slot_in (journal_layouts p) n.image)) same
        ∙ ap (table_in s.p) (sym found.listed.slot_is)
        ∙ sym found.listed.lists.table;
    whole = IsTable-table_of s found.listed.lists.state;
  }

  restored : EndsBoot journal_design (Applying 0) s n n.image
  restored = record {
    moment = λ epoch. record {
      sound = found.listed.lists.state;
      sized = sized ∙ ap image_blocks (sym same);
      stands = found.listed.lists.state;
      holds = record { each = λ i c low lists. absurd (omega (arith, low)) };
    };
    keeps = λ epoch. record { kept = epoch_of b.commit; table = table_of s; meant = meant; other = tt; applied = refl };
    committed = refl;
    rests = tt;
    closed = refl;
    whole = refl;
  }

-- ---- the program is loaded

module _ (s : State) (n : Device) (g : List Block) (start : Plain) (fresh : IsFresh s) (sized : length n.image ≡ image_blocks s.p)
    (can : CanStart s.p start)
    (commit : block_at g 1 ≡ commit_of 0) (slot : slot_in (journal_layouts s.p) g ≡ first_slot_of filling_journal s.p start) where
  table_free : table_of s ≡ no_table s.p
  table_free =
      let size : length (table_of s) ≡ s.p.btt = length-table_of s ∙ fresh.state.size in
      ext_get_or None (table_of s) (no_table s.p) (size ∙ sym (IsTable-none s.p).long)
      (λ i low.
      listed_at-table_of s i ∙ ap (option_map block_key) (fresh.free i)
      ∙ sym (get_or-replicate s.p.btt i None None (omega (arith, low, size))))

  meant_first : HoldsCheckpoint s.p g 0 (table_of s)
  meant_first = record {
    of_epoch = ap epoch_of commit ∙ epoch_of-commit_of 0 (omega arith);
    table_is = ap (table_in s.p) slot ∙ table_first s.p start can.geometry ∙ sym table_free;
    whole = IsTable-table_of s fresh.state;
  }

  loaded : EndsBoot journal_design Resting s n g
  loaded = record {
    moment = λ epoch. record { sound = fresh.state; sized = sized; stands = fresh.state; holds = tt };
    keeps = λ epoch. record { kept = 0; table = table_of s; meant = meant_first; other = tt; applied = tt };
    committed =
        map_below (memory_blocks s.p) (home_of s n) (work_of s n)
        (λ c l. sym (ap (work_by s n c) (entry_for-fresh s c fresh)));
    rests = free_count-all s.table.entries fresh.free;
    closed = refl;
    whole = refl;
  }

is_powering : IsPowering journal_design
is_powering = record {
  power_p = λ p dram. refl;
  power_dram = λ p dram. refl;
  power_fresh = new_fresh;
  fresh_sound = λ s fresh. fresh.state;
  drained_sound = IsSoundState-drained;
  keeps_room = λ s t same. same;
  restores = λ s n b same settled sized found. restored s n b same sized found;
  begins = λ s n g start fresh settled sized can commit slot. loaded s n g start fresh sized can commit slot;
}

is_paging : IsPaging journal_design
is_paging = record {
  merges = λ epoch s n moment some. let no : false ≡ true = some in absurd cc;
  promotes = λ phase epoch s n moment some. let no : false ≡ true = some in absurd cc;
}

pub are_parts : AreParts journal_design
are_parts = record { design = is_design; powering = is_powering; storing = is_storing; paging = is_paging }
