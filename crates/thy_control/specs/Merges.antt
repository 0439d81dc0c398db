-- Part of the claim.
-- Buffers that lie over the frames of their pages, and what the merge of one makes of the controller.
use Rattle.std.specs.Prelude.{ℕ, Option, Some, None}
use Rattle.thy_block.specs.Device.{block_at}
use Rattle.thy_table.specs.Places.{number_of}
use Rattle.thy_dram.specs.Contents.{Contents, written}
use Rattle.thy_table.specs.Listing.{with_entry, next_from}
use Rattle.thy_table.specs.Cells.{seat_of, frame_at, buffer_at}
use Rattle.thy_table.specs.Checkpoint.{merged}
use Rattle.thy_control.specs.Copies.{block_listed}
use Rattle.thy_control.specs.Overlay.{is_overlaid, overlaid}
use Rattle.thy_control.specs.State.{State, cell_of}

-- the entry that is merged next: the first whose block has work over the frame of its page
abbrev pub next_merge : State → Option ℕ
next_merge s = next_from (is_overlaid s.ptt) 0 s.btt

-- how many entries are still to be merged
abbrev pub overlays : State → ℕ
overlays s = overlaid s.ptt s.btt

-- the DRAM after a block was copied from its buffer into the frame
unfoldable pub dram_merged : ℕ → State → Contents
dram_merged b s =
    let x = seat_of (cell_of s b) in
    written s.dram (number_of s.p (frame_at x)) (block_at s.dram.blocks (number_of s.p (buffer_at x)))

-- the controller after a block was copied from its buffer into the frame: the block's entry is cleared, and the page is
-- dirty
unfoldable pub merged_block : ℕ → State → State
merged_block b s = record s {
  btt = with_entry (cell_of s b).i None s.btt;
  ptt = with_entry (cell_of s b).j (Some (merged (cell_of s b)).page) s.ptt;
  dram = dram_merged b s;
}

-- the controller after the merge of this entry, if there is one
abbrev pub after_merge : Option ℕ → State → State
after_merge None s = s
after_merge (Some i) s = merged_block (block_listed i s) s
