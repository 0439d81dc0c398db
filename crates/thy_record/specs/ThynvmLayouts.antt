-- Part of the claim.
-- Images of both versions as one layout: the commit block names the version of its slot, and all places follow from it.
use Rattle.std.specs.Prelude.{ℕ, Option, Some, None}
use Rattle.thy_block.specs.declared.parameters.Parameters.{Parameters}
use Rattle.thy_layout.specs.declared.layout_version.LayoutVersion.{LayoutVersion}
use Rattle.thy_layout.specs.declared.layout_version.LayoutVersion.TheVariants.{VersionOne, VersionTwo}
use Rattle.thy_record.specs.VersionSlots.{blocks_of_slot, place_of_slot}
use Rattle.thy_table.specs.Places.{slot_blocks, blocks_one, image_blocks, number_of}
use Rattle.thy_layout.specs.Commit.{epoch_of, version_of, slot_of_epoch}
use Rattle.thy_layout.specs.Decoded.{Reading}
use Rattle.thy_layout.specs.Layout.{Layout, Layouts, reading}
use Rattle.thy_record.specs.Number.{scheme_number}
use Rattle.thy_record.specs.Slots.{tables_in, slot_fault}
use Rattle.thy_record.specs.Tables.{place_of}
use Rattle.thy_computer.specs.Origin.{Origin}

-- the blocks of an image of version 1 are enough, if the commit block is of that version, and so with one hart
abbrev pub older_of : Parameters → LayoutVersion → Option ℕ
older_of p VersionOne = Some (blocks_one p)
older_of p VersionTwo = None

abbrev pub thynvm_layouts : Layouts
thynvm_layouts p = record {
  p = p;
  scheme = scheme_number;
  image_blocks = image_blocks p;
  older_blocks = λ commit. older_of p (version_of scheme_number p commit);
  slot_place = λ commit. place_of_slot (version_of scheme_number p commit) p (slot_of_epoch (epoch_of commit));
  slot_blocks = λ commit. blocks_of_slot (version_of scheme_number p commit) p;
  most_slot = slot_blocks p;
  place = λ commit slot b. number_of p (place_of (tables_in p slot) b);
  slot_bad = λ ceiling commit slot. slot_fault (version_of scheme_number p commit) p ceiling (epoch_of commit) slot;
}

-- the layout of a run's own images
abbrev pub layout_of : Origin → Layout
layout_of o = thynvm_layouts o.geometry

-- what an image means
abbrev pub decode_image : Reading
decode_image = reading thynvm_layouts
