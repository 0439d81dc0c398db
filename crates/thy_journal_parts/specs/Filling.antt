-- Part of the claim.
-- What the boot fills: the log, with the checkpoint that an image has in a journal. A position is an entry of the table.
use Rattle.std.specs.Prelude.{◌≡◌, ℕ, ◌<◌, List, replicate, is_some, Option, None}
use Rattle.thy_block.specs.declared.block.Block.{Block}
use Rattle.thy_block.specs.declared.parameters.Parameters.{Parameters}
use Rattle.thy_block.specs.Device.{Device, block_at, newest}
use Rattle.thy_block.specs.Places.{commit_place}
use Rattle.thy_isa.specs.Step.{cpu_of}
use Rattle.thy_layout.specs.Commit.{epoch_of, slot_of_epoch}
use Rattle.thy_layout.specs.Entries.{Lists}
use Rattle.thy_table.specs.Listing.{entry_at, first_from}
use Rattle.thy_checkpoint.specs.Filling.{FillingOf}
use Rattle.thy_images.specs.JournalPlaces.{journal_place}
use Rattle.thy_layout.specs.TableSlots.{slot_block_of}
use Rattle.thy_images.specs.JournalSlots.{table_in}
use Rattle.thy_images.specs.JournalLayout.{journal_layouts}
use Rattle.thy_journal_parts.specs.Holding.{works}
use Rattle.thy_journal_parts.specs.State.{State, IsSoundState, table_of, buffer_of}
use Rattle.thy_journal_parts.specs.Stores.{after_drain, put_into}

-- every entry of the log is free
pub record IsFresh (s : State) : Type 0 where
  pub state : IsSoundState s
  pub free : (i : ℕ) → entry_at s.table i ≡ None

-- the table of a slot is listed
pub record HasListed (slot : List Block) (s : State) : Type 0 where
  pub state : IsSoundState s
  pub table : table_of s ≡ table_in s.p slot

-- the slot that the commit block of an image names
abbrev pub slot_named : Block → ℕ
slot_named commit = slot_of_epoch (epoch_of commit)

-- the buffers of the live entries below one hold what the journal of the image's slot holds for them
pub record AreFilled (s : State) (n : Device) (from : ℕ) : Type 0 where
  pub each : (i b : ℕ) → i < from → Lists (table_of s) i b
      → buffer_of s i ≡ newest n (journal_place s.p (slot_named (block_at n.image commit_place)) i)

-- the first entry from one on that lists a block
abbrev pub next_entry : Parameters → List Block → ℕ → Option ℕ
next_entry p slot from = first_from is_some from (table_in p slot)

-- the table of a start lists nothing: every block of memory is at home
abbrev pub no_table : Parameters → List (Option ℕ)
no_table p = replicate p.btt None

abbrev pub filling_journal : FillingOf State
filling_journal = record {
  layouts = journal_layouts;
  p = λ s. s.p;
  dram = λ s. s.dram;
  drained = after_drain;
  fresh = IsFresh;
  lists = λ commit slot s. HasListed slot s;
  filled = AreFilled;
  whole = λ s n. AreFilled s n s.p.btt;
  next_fill = λ p commit slot from. next_entry p slot from;
  most_fills = λ p. p.btt;
  fill_place = λ s commit k. journal_place s.p (slot_named commit) k;
  with_fill = λ commit k block s. put_into k block s;
  keeps = λ s t. t.dram.room ≡ s.dram.room;
  loads = works;
  first_slot = λ p s k. slot_block_of p (cpu_of s) (no_table p) 0 k;
}
