-- What holds of the journal beside what holds of every scheme of parts.
use Rattle.std.specs.Prelude.{◌≡◌, ◌+◌, ◌*◌, ◌≤◌, max, true, false}
use Rattle.thy_block.specs.declared.parameters.Parameters.{Parameters}
use Rattle.thy_block.specs.Device.{Device}
use Rattle.thy_block.specs.Geometry.{memory_blocks}
use Rattle.thy_computer.specs.Origin.{Origin}
use Rattle.thy_scheme.specs.CheckpointMarks.{CheckpointMarks}
use Rattle.thy_scheme.specs.Scheme.{Stands}
use Rattle.thy_scheme.specs.Pace.{most_spent}
use Rattle.thy_images.specs.JournalPlaces.{slot_blocks}
use Rattle.thy_journal_parts.specs.State.{State}
use Rattle.thy_scheme_parts.specs.Design.{Composed}
use Rattle.thy_journal_parts.specs.Scheme.{journal_scheme}

-- A boot reads the commit block. Then it writes memory's blocks, the slot's and four more, or it reads the header, the
-- slot and a block for each entry of the table. A checkpoint takes two actions for each entry, one for each of the
-- slot's blocks, and four more.
abbrev pub BootsAreShort : Type 0
BootsAreShort =
    (p : Parameters)
    → (journal_scheme.most_booting p ≡ 1 + max (memory_blocks p + slot_blocks p + 4) (1 + slot_blocks p + p.btt))
    × (journal_scheme.most_engine p ≡ 2 * p.btt + (slot_blocks p + 4))

-- an epoch spends fewer cycles than 17 for each of its instructions, three for each entry of the table, one for each of
-- the slot's blocks, and five more
abbrev pub EpochsAreShort : Type 0
EpochsAreShort = (p : Parameters) → most_spent journal_scheme p ≤ 17 * p.epoch + 3 * p.btt + slot_blocks p + 5

-- every entry is free if nothing was stored since the last seal and nothing is under way
abbrev pub EntriesAreFree : Type 0
EntriesAreFree =
    (o : Origin) (k : CheckpointMarks) (s : Composed State) (n : Device)
    → Stands journal_scheme o k s n
    → journal_scheme.storeless s ≡ true → journal_scheme.under_way s ≡ false
    → journal_scheme.free s ≡ o.geometry.btt
