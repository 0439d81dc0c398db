-- A checkpoint in version 2 of images: where its parts go, and that it is one once they were issued.
use Rattle.std.proofs.Common.{◌≡◌, ℕ, zero, suc, ◌+◌, ◌%◌, ◌^◌, ◌<◌, ◌≤◌, true, List, None, ◌∙◌, ap, arith, length}
use Rattle.std.specs.Option.{option_or}
use Rattle.std.proofs.lemmas.List.FromFn.{get_or-map-range_with_len, length-map-range_with_len}
use Rattle.thy_block.specs.declared.block.Block.{Block}
use Rattle.thy_block.specs.declared.parameters.Parameters.{Parameters}
use Rattle.thy_layout.specs.declared.layout_version.LayoutVersion.TheVariants.{VersionTwo, VersionOne}
use Rattle.thy_block.specs.Device.{Device, newest, zero_block, block_at}
use Rattle.thy_block.specs.Geometry.{IsInRange, console_room}
use Rattle.thy_record.specs.VersionSlots.{blocks_of_slot, place_of_slot}
use Rattle.thy_table.specs.Places.{slot_blocks, slot_place, image_blocks}
use Rattle.thy_block.proofs.BasicLemmas.{all_none}
use Rattle.thy_isa.specs.declared.state.CpuState.{CpuState}
use Rattle.thy_isa.specs.OnBlocks.{state_from}
use Rattle.thy_layout.specs.Commit.{commit_of, epoch_of, version_of, commit_fault, slot_of_epoch}
use Rattle.thy_layout.specs.Cpu.{IsRecordable, cpu_of_record}
use Rattle.thy_layout.specs.Decoded.{At}
use Rattle.thy_layout.specs.Header.{header_fault}
use Rattle.thy_record.specs.Number.{scheme_number}
use Rattle.thy_record.specs.Images.{memory_numbers}
use Rattle.thy_record.specs.Slots.{slot_block_of, IsSlotOf, AreCounts, tables_in, counts_in, slot_fault}
use Rattle.thy_record.specs.Tables.{Tables, IsTables}
use Rattle.thy_layout.proofs.AskingLemmas.{half}
use Rattle.thy_record.proofs.IssuingLemmas.{memory_between, slot_of_memory}
use Rattle.thy_layout.proofs.ReadBackLemmas.{epoch_of-commit_of, version_of-commit_of, commit_fault-commit_of, is_zero-commit_of, FitsRecord-recordable, cpu_back}
use Rattle.thy_record.proofs.SlotLemmas.{BeginsWithRecord-slot, tables_in-back, counts_back, slot_fault-back, tables_of_slot}
use Rattle.thy_layout.specs.Saved.{next_image}
use Rattle.thy_layout.proofs.SavedLemmas.{next_image-commit}
use Rattle.thy_computer.specs.Issuing.{slot_of, ArePlaced, ArePartsOf, IsCheckpoint, CheckpointParts, AreIssued}
use Rattle.thy_layout.specs.Layout.{decode_by}
use Rattle.thy_record.specs.ThynvmLayouts.{thynvm_layouts}
use Rattle.thy_record.specs.ThynvmParts.{parts_by, IsIssuing, IsIssuedCheckpoint, IssuedDecodes}
use Rattle.thy_computer.proofs.IssuingLemmas.{issued_is_checkpoint}
use Rattle.thy_record.specs.Issuing.{HoldsCheckpoint}
use Rattle.thy_record.specs.Migrated.{IsWrittenAnew, MeansTheSame}
use Rattle.thy_record.proofs.MigratedLemmas.{anew_means_the_same}
use Rattle.thy_record.specs.Migration.{migrated_parts, IsMigrated, MigrationDecodes}

-- ---- where the parts go

pub slot_fits : (p : Parameters) (s : ℕ) → s < 2 → slot_place p s + slot_blocks p ≤ image_blocks p
slot_fits p zero l = omega arith
slot_fits p (suc zero) l = omega arith
slot_fits p (suc (suc s)) l = absurd (omega arith)

-- the parts of a checkpoint of an epoch, of these blocks of its slot, with these tables
abbrev pub parts_in : Parameters → (ℕ → Block) → Tables → ℕ → CheckpointParts
parts_in p blocks t epoch = record {
  slot_place = slot_place p (slot_of_epoch epoch);
  slot_blocks = slot_blocks p;
  slot = blocks;
  memory = memory_numbers p t;
}

pub ArePlaced-parts : (p : Parameters) (blocks : ℕ → Block) (t : Tables) (epoch : ℕ) → IsTables p t
    → ArePlaced (image_blocks p) (parts_in p blocks t epoch)
ArePlaced-parts p blocks t epoch tables = record {
  slot_behind = omega arith;
  slot_inside = slot_fits p (epoch % 2) (half epoch);
  memory_behind = λ x inside. let between = (memory_between p t x tables inside).0 in omega (arith, between);
  memory_inside = λ x inside. let between = (memory_between p t x tables inside).1 in omega (arith, between);
  apart = λ k l inside. slot_of_memory p t (epoch % 2) k tables inside;
}

-- ---- the whole checkpoint

module _ (p : Parameters) (ceiling epoch : ℕ) (blocks : ℕ → Block) (t : Tables)
    (most : ceiling ≤ 2 ^ 64) (below : epoch < ceiling)
    (tables : IsTables p t) (tables_are : tables_in p (slot_of (parts_in p blocks t epoch)) ≡ t)
    (faultless : slot_fault VersionTwo p ceiling epoch (slot_of (parts_in p blocks t epoch)) ≡ None)
  where
    abbrev whole_slot : List Block
    whole_slot = slot_of (parts_in p blocks t epoch)

    epoch_is : epoch_of (commit_of epoch) ≡ epoch
    epoch_is = epoch_of-commit_of epoch (omega arith)

    version_is : version_of scheme_number p (commit_of epoch) ≡ VersionTwo
    version_is = version_of-commit_of scheme_number p epoch

    parts_of : ArePartsOf (thynvm_layouts p) (commit_of epoch) (parts_in p blocks t epoch)
    parts_of = record {
      placed = ArePlaced-parts p blocks t epoch tables;
      slot_place = ap (λ f. place_of_slot f p (epoch_of (commit_of epoch) % 2)) version_is ∙ ap (λ (e : ℕ). slot_place p (e % 2)) epoch_is;
      slot_blocks = ap (λ f. blocks_of_slot f p) version_is;
      memory = ap (memory_numbers p) tables_are;
    }

    no_fault : (header : Block) → header_fault scheme_number header p true ≡ None
        → option_or (header_fault scheme_number header p true) (option_or (commit_fault header (commit_of epoch) ceiling)
        (slot_fault (version_of scheme_number p (commit_of epoch)) p ceiling
        (epoch_of (commit_of epoch)) whole_slot)) ≡ None
    no_fault header fits =
        all_none (header_fault scheme_number header p true) (commit_fault header (commit_of epoch) ceiling)
        (slot_fault (version_of scheme_number p (commit_of epoch)) p ceiling
        (epoch_of (commit_of epoch)) whole_slot) fits
        (commit_fault-commit_of header epoch ceiling below most)
        (ap (λ f. slot_fault f p ceiling (epoch_of (commit_of epoch)) whole_slot) version_is
        ∙ ap (λ (e : ℕ). slot_fault VersionTwo p ceiling e whole_slot) epoch_is ∙ faultless)

    -- issued whole, it is the checkpoint
    module _ (n : Device) (memory : List Block)
        (h : AreIssued (image_blocks p) (parts_in p blocks t epoch) n memory (slot_blocks p))
        (header : header_fault scheme_number (newest n 0) p true ≡ None) where
      pub is_checkpoint : IsCheckpoint (thynvm_layouts p) ceiling n (commit_of epoch)
          (parts_in p blocks t epoch) memory
      is_checkpoint =
          issued_is_checkpoint (thynvm_layouts p) ceiling n (commit_of epoch)
          (parts_in p blocks t epoch) memory parts_of h
          (is_zero-commit_of epoch) (no_fault (newest n 0) header)

      pub is_meant : HoldsCheckpoint p (next_image n (commit_of epoch)) VersionTwo epoch t
      is_meant =
          let commit_same = next_image-commit (commit_of epoch) n (omega (arith, h.sized)) in
          record {
            of_version = ap (version_of scheme_number p) commit_same ∙ version_is;
            of_epoch = ap epoch_of commit_same ∙ epoch_is;
            tables = ap (tables_in p) is_checkpoint.slot ∙ tables_are;
            whole = tables;
          }

      pub meant_decodes : {cpu : CpuState} → cpu_of_record p whole_slot ≡ cpu
          → decode_by (thynvm_layouts p) ceiling (next_image n (commit_of epoch)) ≡ At epoch
          (state_from p cpu memory)
      meant_decodes cpu_is =
          is_checkpoint.decodes
          ∙ ap (λ (e : ℕ). At e (state_from p (cpu_of_record p whole_slot) memory)) epoch_is
          ∙ ap (λ (c : CpuState). At epoch (state_from p c memory)) cpu_is

module _ (p : Parameters) (ceiling : ℕ) (cpu : CpuState) (t : Tables) (counts : ℕ → Block) (epoch : ℕ) (range : IsInRange p)
    (recordable : IsRecordable p ceiling cpu)
    (most : ceiling ≤ 2 ^ 64) (below : epoch < ceiling) (tables : IsTables p t) (counts_are : AreCounts p counts) where
  abbrev slot : List Block
  slot = slot_of (parts_by p cpu t counts epoch)

  small : epoch < 2 ^ 64
  small = omega arith

  pub slot_is : IsSlotOf p cpu t counts epoch slot
  slot_is = record {
    each = λ k l. get_or-map-range_with_len (slot_block_of p cpu t counts epoch) 0 (slot_blocks p) k k zero_block l (omega arith);
  }

  pub tables_are : tables_in p slot ≡ t
  tables_are = tables_in-back p cpu t counts epoch slot range tables slot_is

  pub cpu_is : cpu_of_record p slot ≡ cpu
  cpu_is =
      let room : console_room p < 2 ^ 64 = omega arith in
      cpu_back p cpu epoch slot (FitsRecord-recordable p ceiling cpu epoch range recordable room most small)
      (BeginsWithRecord-slot p cpu t counts epoch slot slot_is)

  slot_faultless : slot_fault VersionTwo p ceiling epoch slot ≡ None
  slot_faultless =
      slot_fault-back p ceiling cpu t counts epoch slot range recordable tables counts_are most
      small slot_is

  module _ (n : Device) (memory : List Block)
      (h : IsIssuing p n cpu t counts epoch memory (slot_blocks p))
      (header : header_fault scheme_number (newest n 0) p true ≡ None) where
    pub issued_is : IsIssuedCheckpoint p ceiling n cpu t counts epoch memory
    issued_is =
        let blocks = slot_block_of p cpu t counts epoch in
        let all = is_checkpoint p ceiling epoch blocks t most below tables tables_are slot_faultless
        n memory h.parts header in
        record {
          meant = is_meant p ceiling epoch blocks t most below tables tables_are slot_faultless n
              memory h.parts header;
          counted = ap (counts_in VersionTwo p) all.slot
              ∙ counts_back p cpu t counts epoch slot slot_is;
          decodes = meant_decodes p ceiling epoch blocks t most below tables tables_are
              slot_faultless n memory h.parts header cpu_is;
          issued = all.issued;
        }

pub issued_decodes : IssuedDecodes
issued_decodes p ceiling n cpu t counts epoch memory range recordable most below h header =
    issued_is p ceiling cpu t counts epoch range recordable most below h.tables h.counts_are n
    memory h header

-- ---- an image of version 1 is migrated

module _ (p : Parameters) (ceiling epoch : ℕ) (slot : List Block) (most : ceiling ≤ 2 ^ 64) (below : epoch < ceiling)
    (long : length slot ≡ blocks_of_slot VersionOne p) (none : slot_fault VersionOne p ceiling epoch slot ≡ None) where
  abbrev anew : List Block
  anew = slot_of (migrated_parts p slot epoch)

  is_anew : IsWrittenAnew p slot anew
  is_anew = record {
    short = long;
    long = length-map-range_with_len (block_at slot) 0 (slot_blocks p);
    each = λ k l. get_or-map-range_with_len (block_at slot) 0 (slot_blocks p) k k zero_block l (omega arith);
  }

  same : MeansTheSame p ceiling epoch slot anew
  same = anew_means_the_same p ceiling epoch slot anew is_anew none

  module _ (n : Device) (memory : List Block) (header : header_fault scheme_number (newest n 0) p true ≡ None)
      (h : AreIssued (image_blocks p) (migrated_parts p slot epoch) n memory (slot_blocks p)) where
    pub is_migrated : IsMigrated p ceiling n slot epoch memory
    is_migrated =
        let t = tables_in p slot in
        let tables = tables_of_slot VersionOne p ceiling epoch slot none in
        let all = is_checkpoint p ceiling epoch (block_at slot) t most below tables same.tables_same
        same.faultless n memory h header in
        record {
          meant = is_meant p ceiling epoch (block_at slot) t most below tables same.tables_same
              same.faultless n memory h header;
          counted = ap (counts_in VersionTwo p) all.slot ∙ same.no_counts;
          decodes = meant_decodes p ceiling epoch (block_at slot) t most below tables
              same.tables_same same.faultless n memory h header same.cpu_same;
          issued = all.issued;
        }

pub migration_decodes : MigrationDecodes
migration_decodes p ceiling n slot epoch memory most below long none header h =
    is_migrated p ceiling epoch slot most below long none n memory header h
