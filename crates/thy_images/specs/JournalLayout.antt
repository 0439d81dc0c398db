-- Part of the claim.
-- Images of the journal as a layout.
use Rattle.std.specs.Prelude.{None}
use Rattle.thy_layout.specs.Commit.{epoch_of, slot_of_epoch}
use Rattle.thy_layout.specs.Decoded.{Reading}
use Rattle.thy_layout.specs.Layout.{Layouts, reading}
use Rattle.thy_images.specs.JournalPlaces.{scheme_number, slot_blocks, slot_place, image_blocks, place_of}
use Rattle.thy_images.specs.JournalSlots.{table_in, slot_fault}

abbrev pub journal_layouts : Layouts
journal_layouts p = record {
  p = p;
  scheme = scheme_number;
  image_blocks = image_blocks p;
  older_blocks = λ commit. None;
  slot_place = λ commit. slot_place p (slot_of_epoch (epoch_of commit));
  slot_blocks = λ commit. slot_blocks p;
  most_slot = slot_blocks p;
  place = λ commit slot b. place_of p (slot_of_epoch (epoch_of commit)) (table_in p slot) b;
  slot_bad = λ ceiling commit slot. slot_fault p ceiling (epoch_of commit) slot;
}

-- what an image means
abbrev pub decode_journal : Reading
decode_journal = reading journal_layouts
