-- Where a boot ends: at a restart of the kept mark, or at the start.
use Rattle.std.proofs.Common.{◌≡◌, ℕ, true, List, replicate, None, sym, ◌∙◌, ap, subst, arith}
use Rattle.thy_block.specs.declared.block.Block.{Block}
use Rattle.thy_block.specs.declared.parameters.Parameters.{Parameters}
use Rattle.thy_layout.specs.declared.layout_version.LayoutVersion.{LayoutVersion}
use Rattle.thy_layout.specs.declared.layout_version.LayoutVersion.TheVariants.{VersionTwo}
use Rattle.thy_block.specs.declared.mark.Mark.{Mark}
use Rattle.thy_block.specs.Device.{block_at, newest}
use Rattle.thy_block.proofs.DeviceLemmas.{newest-empty}
use Rattle.thy_isa.specs.declared.state.CpuState.{CpuState}
use Rattle.thy_isa.specs.OnBlocks.{state_from}
use Rattle.thy_layout.specs.Commit.{epoch_of, version_of}
use Rattle.thy_layout.specs.Cpu.{cpu_of_record}
use Rattle.thy_layout.specs.Header.{header_fault}
use Rattle.thy_layout.specs.Slots.{cpu_fault}
use Rattle.thy_record.specs.Number.{scheme_number}
use Rattle.thy_record.specs.Images.{slot_in}
use Rattle.thy_record.specs.Issuing.{HoldsCheckpoint}
use Rattle.thy_record.specs.Slots.{tables_in, counts_in}
use Rattle.thy_record.specs.Tables.{Tables, IsTables}
use Rattle.thy_layout.proofs.ReadBackLemmas.{epoch_of-commit_of}
use Rattle.thy_layout.proofs.SlotLemmas.{fits_cpu}
use Rattle.thy_record.proofs.IssuingLemmas.{thynvm_are_layouts}
use Rattle.thy_control.specs.CheckpointTables.{tables0}
use Rattle.thy_control.proofs.TablesLemmas.{AreTablesOf-committed}
use Rattle.thy_computer.specs.Origin.{at}
use Rattle.thy_computer.specs.Safe.{ceiling}
use Rattle.thy_computer.proofs.StorableAt.{IsRecordable-at}
use Rattle.thy_computer.proofs.KeepsLemmas.{at-start}
use Rattle.thy_checkpoint.specs.declared.boot_stage.Stage.{Stage}
use Rattle.thy_checkpoint.specs.Boot.{slot_read}
use Rattle.thy_checkpoint.specs.Recovers.{IsRestored}
use Rattle.thy_checkpoint.specs.Sound.{IsLoaded, IsRecovering, IsSoundAt}
use Rattle.thy_checkpoint.proofs.FoundLemmas.{restored_is_kept}
use Rattle.thy_checkpoint.specs.Start.{CanStart}
use Rattle.thy_checkpoint.proofs.LoadedLemmas.{loaded-memory, loaded-state, loaded-header}
use Rattle.thy_checkpoint.proofs.StartLemmas.{CanStart-origin}
use Rattle.thy_thynvm_parts.specs.Booted.{RestoredIsBooted, LoadedIsStarted}
use Rattle.thy_thynvm_parts.specs.Filling.{loads, filling_thynvm}
use Rattle.thy_thynvm_parts.specs.Start.{no_tables}
use Rattle.thy_thynvm_parts.proofs.FillingLemmas.{filling_is_lawful, none_listed, all_hold}
use Rattle.thy_thynvm_parts.proofs.StartLemmas.{IsTables-none, counts-none, start_version, first_back}

pub restored_is_booted : RestoredIsBooted
restored_is_booted o g n b c origin sound is =
    let p : Parameters = o.geometry in
    let epoch : ℕ = epoch_of b.commit in
    let slot : List Block = slot_read filling_thynvm b in
    let kept = restored_is_kept filling_thynvm filling_is_lawful o g n b c sound is in
    let m : Mark = kept.0 in
    let f : IsRestored filling_thynvm n b c = kept.5 in
    let rec : IsRecovering filling_thynvm g n b c = subst (λ (q : Stage). IsSoundAt filling_thynvm o q g n b c) is sound.so_far in
    let cpu : CpuState = cpu_of_record b.p slot in
    let version : LayoutVersion = version_of scheme_number b.p b.commit in
    let meant : HoldsCheckpoint b.p n.image version epoch (tables0 c) = record {
      of_version = ap (version_of scheme_number b.p) f.listed.head.commit_is.is;
      of_epoch = ap epoch_of f.listed.head.commit_is.is;
      tables = ap (tables_in b.p) (sym f.listed.slot_is) ∙ ap (λ (q : Parameters). tables_in q slot) (sym rec.read.same_p) ∙ sym f.listed.lists.are;
      whole = subst (λ (q : Parameters). IsTables q (tables0 c)) rec.read.same_p (AreTablesOf-committed c f.listed.lists.tables).valid;
    } in
    let meant_mark : HoldsCheckpoint p g.before version m.epoch (tables0 c)
    = subst (λ (q : Parameters). HoldsCheckpoint q g.before version m.epoch (tables0 c)) sound.geometry
    (subst (λ (h : List Block). HoldsCheckpoint b.p h version m.epoch (tables0 c)) (sym rec.before_is)
    (subst (λ (x : ℕ). HoldsCheckpoint b.p n.image version x (tables0 c)) (sym kept.2) meant)) in
    let header : header_fault scheme_number (newest n 0) p true ≡ None
    = ap (λ (x : Block). header_fault scheme_number x p true) (newest-empty n 0 rec.read.settled)
    ∙ ap (λ (q : Parameters). header_fault scheme_number (block_at n.image 0) q true) (sym sound.geometry) ∙ f.listed.head.header_fits in
    let state : state_from p cpu (loads c n) ≡ at o m.count
    = ap (λ (q : Parameters). state_from q cpu (loads c n)) (sym sound.geometry) ∙ kept.4 in
    let fits : cpu_fault p ceiling slot ≡ None
    = subst (λ (q : Parameters). cpu_fault q ceiling slot ≡ None) sound.geometry
    (thynvm_are_layouts.cpu b.p ceiling b.commit slot f.listed.slot_fits) in
    let fit = fits_cpu p b.p ceiling slot fits in
    let lasts : counts_in version p (slot_in p g.before) ≡ c.counts.lasts
    = ap (λ (q : Parameters). counts_in version q (slot_in q g.before)) (sym sound.geometry)
    ∙ ap (λ (h : List Block). counts_in version b.p (slot_in b.p h)) rec.before_is
    ∙ ap (counts_in version b.p) (sym f.listed.slot_is)
    ∙ ap (λ (q : Parameters). counts_in (version_of scheme_number q b.commit) q slot) (sym rec.read.same_p)
    ∙ sym f.listed.lists.counts in (
      m,
      kept.1,
      kept.2,
      kept.3,
      record {
        settled = rec.read.settled;
        meant = meant_mark;
        lasts = lasts;
        has = record {
          booting = f.listed.lists.booting;
          header = header;
          holds = f.whole;
          state = state;
          counted = kept.3.meant.counted;
          recordable = IsRecordable-at o m.count cpu (loads c n) origin state fit.1 fit.0;
        };
      },
    )

pub loaded_is_started : LoadedIsStarted
loaded_is_started o g n b c origin sound is =
    let p : Parameters = o.geometry in
    let can : CanStart p o.start = CanStart-origin o origin in
    let far : IsLoaded filling_thynvm o g n c = subst (λ (q : Stage). IsSoundAt filling_thynvm o q g n b c) is sound.so_far in
    let tables : tables0 c ≡ no_tables p = none_listed c n far.fresh far.settled ∙ ap no_tables sound.same_p in
    let back = first_back p o.start can in
    let state = loaded-state filling_thynvm filling_is_lawful o origin g n c sound.same_p far in
    let lasts : counts_in VersionTwo p (slot_in p g.next) ≡ c.counts.lasts
    = ap (counts_in VersionTwo p) far.made.slot ∙ back.counts_back ∙ counts-none p.pages
    ∙ ap (λ (q : Parameters). replicate q.pages 0) (sym sound.same_p) ∙ sym far.fresh.fresh.no_counts in
    let meant : HoldsCheckpoint p g.next VersionTwo 0 (no_tables p) = record {
      of_version = ap (version_of scheme_number p) far.made.commit ∙ start_version p;
      of_epoch = ap epoch_of far.made.commit ∙ epoch_of-commit_of 0 (omega arith);
      tables = ap (tables_in p) far.made.slot ∙ back.tables_back;
      whole = IsTables-none p;
    } in
    record {
      over = record {
        settled = far.settled;
        meant = subst (λ (t : Tables). HoldsCheckpoint p g.next VersionTwo 0 t) (sym tables) meant;
        lasts = lasts;
        has = record {
          booting = far.fresh.fresh.booting;
          header = loaded-header filling_thynvm filling_is_lawful o origin g n c sound.same_p far;
          holds = all_hold c n far.fresh far.settled;
          state = state;
          counted = ap (λ s. s.count) (at-start o);
          recordable = can.recordable;
        };
      };
      tables = tables;
      memory = loaded-memory filling_thynvm filling_is_lawful o origin g n c sound.same_p far;
      start = state ∙ at-start o;
    }
