-- The places of the parts of a checkpoint, and that it is one once they were issued.
use Rattle.std.proofs.Common.{◌≡◌, ℕ, zero, suc, ◌+◌, ◌%◌, ◌^◌, ◌<◌, ◌≤◌, true, List, length, get_or, Contains, Option, Some, None, refl, sym, ◌∙◌, ap, subst, arith}
use Rattle.std.proofs.lemmas.List.FromFn.{length-map-range_with_len, get_or-map-range_with_len}
use Rattle.thy_block.specs.declared.block.Block.{Block}
use Rattle.thy_block.specs.declared.parameters.Parameters.{Parameters}
use Rattle.thy_block.specs.Device.{Device, newest}
use Rattle.thy_block.specs.Geometry.{IsInRange, memory_blocks}
use Rattle.thy_block.proofs.BasicLemmas.{all_none}
use Rattle.thy_isa.specs.declared.state.CpuState.{CpuState}
use Rattle.thy_isa.specs.OnBlocks.{state_from}
use Rattle.thy_layout.specs.Commit.{epoch_of, commit_of, commit_fault}
use Rattle.thy_layout.specs.Cpu.{IsRecordable, cpu_of_record}
use Rattle.thy_layout.specs.Decoded.{At}
use Rattle.thy_layout.specs.Header.{header_fault}
use Rattle.thy_layout.specs.Entries.{entry_of}
use Rattle.thy_layout.proofs.EntryLemmas.{entry_of-Some, Lists-inside}
use Rattle.thy_layout.proofs.AskingLemmas.{half}
use Rattle.thy_layout.proofs.ReadBackLemmas.{epoch_of-commit_of, commit_fault-commit_of, is_zero-commit_of}
use Rattle.thy_layout.proofs.SavedLemmas.{next_image-commit}
use Rattle.thy_computer.specs.Issuing.{CheckpointParts, slot_of, ArePlaced, ArePartsOf, IsCheckpoint}
use Rattle.thy_layout.specs.Layout.{fault_of}
use Rattle.thy_computer.proofs.IssuingLemmas.{issued_is_checkpoint}
use Rattle.thy_images.specs.JournalPlaces.{scheme_number, slot_blocks, slot_place, first_home, image_blocks, journal_place, place_by, place_of}
use Rattle.thy_images.specs.JournalSlots.{IsTable, table_in, slot_fault}
use Rattle.thy_images.specs.JournalLayout.{journal_layouts}
use Rattle.thy_images.specs.JournalCheckpointParts.{ReadsBack, memory_places, parts_by, IsIssuing, IsIssuedCheckpoint}
use Rattle.thy_images.proofs.JournalSlotLemmas.{slot_reads_back}

-- ---- the places of memory

module _ (p : Parameters) (s : ℕ) (table : List (Option ℕ)) where
  pub length-memory_places : (let xs : List ℕ = memory_places p s table in length xs) ≡ memory_blocks p
  length-memory_places = length-map-range_with_len (place_of p s table) 0 (memory_blocks p)

  pub memory_place : (k otherwise : ℕ) → k < memory_blocks p
      → (let xs : List ℕ = memory_places p s table in get_or xs k otherwise) ≡ place_of p s table k
  memory_place k otherwise l =
      get_or-map-range_with_len (place_of p s table) 0 (memory_blocks p) k k otherwise l (omega arith)

  -- each place of memory is the place of a block
  pub memory_place_of : (x : ℕ) → Contains (memory_places p s table) x → (b : ℕ) × (b < memory_blocks p) × (place_of p s table b ≡ x)
  memory_place_of x (k, l, is) =
      let inside : k < memory_blocks p = omega (arith, length-memory_places) in
      (k, inside, sym (memory_place k x inside) ∙ is)

-- the journals are after the slots, within the image
pub journal_behind : (p : Parameters) (s i : ℕ) → s < 2 → i < p.btt
    → (first_home p ≤ journal_place p s i) × (journal_place p s i < image_blocks p)
journal_behind p zero i l m = (omega arith, omega arith)
journal_behind p (suc zero) i l m = (omega arith, omega arith)
journal_behind p (suc (suc s)) i l m = absurd (omega arith)

-- the place of a block is after the slots, within the image
pub place_by_behind : (p : Parameters) (s : ℕ) (table : List (Option ℕ)) (b : ℕ) (found : Option ℕ) → IsTable p table → s < 2
    → b < memory_blocks p
    → entry_of table b ≡ found → (first_home p ≤ place_by p s b found) × (place_by p s b found < image_blocks p)
place_by_behind p s table b None h l m e = (omega arith, omega arith)
place_by_behind p s table b (Some i) h l m e =
    let inside = Lists-inside table i b (entry_of-Some table b i e) in
    journal_behind p s i l (omega (arith, inside, h.long))

pub memory_behind : (p : Parameters) (s : ℕ) (table : List (Option ℕ)) (x : ℕ) → IsTable p table → s < 2
    → Contains (memory_places p s table) x
    → (first_home p ≤ x) × (x < image_blocks p)
memory_behind p s table x h l inside =
    let of = memory_place_of p s table x inside in
    subst (λ y. (first_home p ≤ y) × (y < image_blocks p)) of.2
    (place_by_behind p s table of.0 (entry_of table of.0) h l of.1 refl)

-- ---- the slots

pub slot_behind : (p : Parameters) (s k : ℕ) → s < 2 → k < slot_blocks p → (2 ≤ slot_place p s + k) × (slot_place p s + k < first_home p)
slot_behind p zero k l m = (omega arith, omega arith)
slot_behind p (suc zero) k l m = (omega arith, omega arith)
slot_behind p (suc (suc s)) k l m = absurd (omega arith)

pub slot_fits : (p : Parameters) (s : ℕ) → s < 2 → slot_place p s + slot_blocks p ≤ image_blocks p
slot_fits p zero l = omega arith
slot_fits p (suc zero) l = omega arith
slot_fits p (suc (suc s)) l = absurd (omega arith)

pub ArePlaced-parts : (p : Parameters) (cpu : CpuState) (table : List (Option ℕ)) (epoch : ℕ) → IsTable p table
    → ArePlaced (image_blocks p) (parts_by p cpu table epoch)
ArePlaced-parts p cpu table epoch h = record {
  slot_behind = omega arith;
  slot_inside = slot_fits p (epoch % 2) (half epoch);
  memory_behind = λ x inside. let behind = (memory_behind p (epoch % 2) table x h (half epoch) inside).0 in omega (arith, behind);
  memory_inside = λ x inside. (memory_behind p (epoch % 2) table x h (half epoch) inside).1;
  apart = λ k l inside.
      let before = (slot_behind p (epoch % 2) k (half epoch) l).1 in
      let behind = (memory_behind p (epoch % 2) table (slot_place p (epoch % 2) + k) h (half epoch) inside).0 in
      omega (arith, before, behind);
}

-- ---- the whole checkpoint

module _ (p : Parameters) (ceiling : ℕ) (cpu : CpuState) (table : List (Option ℕ)) (epoch : ℕ) (range : IsInRange p)
    (recordable : IsRecordable p ceiling cpu) (most : ceiling ≤ 2 ^ 64) (below : epoch < ceiling) (whole : IsTable p table) where
  abbrev parts : CheckpointParts
  parts = parts_by p cpu table epoch

  epoch_is : epoch_of (commit_of epoch) ≡ epoch
  epoch_is = epoch_of-commit_of epoch (omega arith)

  back : ReadsBack p ceiling cpu table epoch (slot_of parts)
  back = slot_reads_back p ceiling cpu table epoch range recordable whole most (omega arith)

  parts_of : ArePartsOf (journal_layouts p) (commit_of epoch) parts
  parts_of = record {
    placed = ArePlaced-parts p cpu table epoch whole;
    slot_place = ap (λ (e : ℕ). slot_place p (e % 2)) epoch_is;
    slot_blocks = refl;
    memory =
        ap (λ (e : ℕ). memory_places p (e % 2) (table_in p (slot_of parts))) epoch_is
        ∙ ap (memory_places p (epoch % 2)) back.table_back;
  }

  no_fault : (header : Block) → header_fault scheme_number header p true ≡ None
      → fault_of (journal_layouts p) ceiling true header (commit_of epoch) (slot_of parts) ≡ None
  no_fault header fits =
      all_none (header_fault scheme_number header p true)
      (commit_fault header (commit_of epoch) ceiling)
      (slot_fault p ceiling (epoch_of (commit_of epoch)) (slot_of parts)) fits
      (commit_fault-commit_of header epoch ceiling below most)
      (ap (λ (e : ℕ). slot_fault p ceiling e (slot_of parts)) epoch_is ∙ back.faultless)

  pub issued_decodes : (n : Device) (memory : List Block)
      → IsIssuing p n cpu table epoch memory (slot_blocks p)
      → header_fault scheme_number (newest n 0) p true ≡ None
      → IsIssuedCheckpoint p ceiling n cpu table epoch memory
  issued_decodes n memory h header =
      let all : IsCheckpoint (journal_layouts p) ceiling n (commit_of epoch) parts memory =
      issued_is_checkpoint (journal_layouts p) ceiling n (commit_of epoch) parts memory parts_of
      h.parts (is_zero-commit_of epoch)
      (no_fault (newest n 0) header) in
      record {
        meant = record {
          of_epoch =
              ap epoch_of (next_image-commit (commit_of epoch) n (omega (arith, h.parts.sized)))
              ∙ epoch_is;
          table_is = ap (table_in p) all.slot ∙ back.table_back;
          whole = whole;
        };
        decodes =
            all.decodes
            ∙ ap (λ (e : ℕ). At e (state_from p (cpu_of_record p (slot_of parts)) memory)) epoch_is
            ∙ ap (λ (x : CpuState). At epoch (state_from p x memory)) back.cpu_back;
        issued = all.issued;
      }
