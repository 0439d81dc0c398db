use Rattle.std.proofs.Common.{◌≡◌, ◌*◌, List, sym, ◌∙◌, ap, arith}
use Rattle.thy_block.specs.declared.block.Block.{Block}
use Rattle.thy_block.specs.declared.parameters.Parameters.{Parameters}
use Rattle.thy_layout.specs.declared.layout_version.LayoutVersion.{LayoutVersion}
use Rattle.thy_record.specs.VersionSlots.{blocks_of_slot}
use Rattle.thy_layout.specs.Commit.{epoch_of, version_of}
use Rattle.thy_layout.specs.Files.{blocks_of}
use Rattle.thy_record.specs.Number.{scheme_number}
use Rattle.thy_record.specs.Slots.{tables_in, counts_in, count_fault}
use Rattle.thy_record.proofs.SlotLemmas.{tables_of_slot}
use Rattle.thy_computer.specs.Safe.{ceiling}
use Rattle.thy_thynvm_parts.specs.Listed.{with_lasts}
use Rattle.thy_thynvm_parts.proofs.ListingLemmas.{same_p-listed}
use Rattle.thy_thynvm_parts.proofs.BootSlotLemmas.{counts_fit, ListsUpTo-empty, no_counts-listed, lists_on}
use Rattle.thy_record.proofs.IssuingLemmas.{least_slot}
use Rattle.thy_thynvm_parts.proofs.listing.list_slot.Goals as goal

pub list_all-requires-clause-slot : goal.list_all-requires-clause-slot
list_all-requires-clause-slot c = omega (arith, c.requires.slot, least_slot c.args.geometry.now c.args.commit.now)

pub list_all-requires-clause-tables : goal.list_all-requires-clause-tables
list_all-requires-clause-tables c =
    let p : Parameters = c.args.geometry.now in
    tables_of_slot (version_of scheme_number p c.args.commit.now) p ceiling (epoch_of c.args.commit.now) (blocks_of c.args.slot.now) c.requires.fits

pub list_all-requires-clause-fresh : goal.list_all-requires-clause-fresh
list_all-requires-clause-fresh c =
    ListsUpTo-empty c.args.geometry.now (blocks_of c.args.slot.now) c.args.control.now c.requires.geometry c.requires.fresh

pub list_counts-requires : goal.list_counts-requires
list_counts-requires c =
    let p : Parameters = c.args.geometry.now in
    let slot : List Block = blocks_of c.args.slot.now in
    let version = c.version_of-version.ensures in
    let listed = c.list_all.ensures in
    record {
      slot = c.requires.slot ∙ ap (λ (f : LayoutVersion). 64 * blocks_of_slot f p) (sym version);
      geometry = same_p-listed p.btt p.ptt (tables_in p slot) c.args.control.now
          c.list_all.new.control listed ∙ c.requires.geometry;
      booting = listed.lists.booting;
      none = no_counts-listed p (tables_in p slot) c.args.control.now c.list_all.new.control
          c.requires.geometry c.requires.fresh listed;
      fine = ap (λ (f : LayoutVersion). count_fault f p slot) version
          ∙ counts_fit (version_of scheme_number p c.args.commit.now) p ceiling
          (epoch_of c.args.commit.now) slot c.requires.fits;
    }

pub returns : goal.returns
returns c =
    let p : Parameters = c.args.geometry.now in
    let slot : List Block = blocks_of c.args.slot.now in
    let counted : c.list_counts.new.control ≡ with_lasts (counts_in (version_of scheme_number p c.args.commit.now) p slot) c.list_all.new.control
    = c.list_counts.ensures.counts
    ∙ ap (λ (f : LayoutVersion). with_lasts (counts_in f p slot) c.list_all.new.control) c.version_of-version.ensures in
    lists_on p c.args.commit.now slot c.args.control.now c.list_all.new.control c.list_counts.new.control c.requires.geometry c.list_all.ensures
    counted c.list_counts.ensures.booting c.recall_tables.ensures
