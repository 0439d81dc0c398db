-- Part of the claim.
-- What a step that reads does at the NVM, and what it makes of boot and controller.
use Rattle.std.specs.Prelude.{◌≡◌, ℕ, ◌+◌, length}
use Rattle.thy_block.specs.Device.{Device, newest}
use Rattle.thy_block.specs.Places.{commit_place, header_place}
use Rattle.thy_computer.specs.Action.{Action, Rest, ReadAt}
use Rattle.thy_checkpoint.specs.declared.boot_stage.ReadStage.{ReadStage}
use Rattle.thy_checkpoint.specs.declared.boot_stage.ReadStage.TheVariants.{Unread, Header, Slot, Fills, Refusing}
use Rattle.thy_checkpoint.specs.Boot.{Booting, layout_in, at_stage, after_commit, after_header, filling_from, with_slot_block, has_more, gone_on, GoesOn}
use Rattle.thy_checkpoint.specs.Filling.{FillingOf}

-- the action of a boot that reads: one block, by the stage; none for a refusal that comes again
abbrev pub read_action : {C : Type 0} → FillingOf C → Booting → C → ReadStage → Action
read_action F b c Unread = ReadAt commit_place
read_action F b c Header = ReadAt header_place
read_action F b c (Slot next) = ReadAt ((layout_in F b).slot_place b.commit + next)
read_action F b c (Fills k) = ReadAt (F.fill_place c b.commit k)
read_action F b c (Refusing bad) = Rest

-- the boot with the next block of the slot
abbrev pub slot_kept : {C : Type 0} → FillingOf C → ℕ → Device → Booting → Booting
slot_kept F next n b = with_slot_block next (newest n ((layout_in F b).slot_place b.commit + next)) b

-- the boot after the read
abbrev pub read_on : {C : Type 0} → FillingOf C → ReadStage → Device → Booting → Booting
read_on F Unread n b = after_commit (newest n commit_place) b
read_on F Header n b = at_stage (after_header (layout_in F b) (newest n header_place) b) b
read_on F (Slot next) n b = gone_on F next (slot_kept F next n b)
read_on F (Fills k) n b = at_stage (filling_from F (k + 1) b) b
read_on F (Refusing bad) n b = b

-- the controller after it: with the last block of the slot it lists the checkpoint, and a position is filled with its block
abbrev pub FillsOn : {C : Type 0} → FillingOf C → ReadStage → Device → Booting → C → C → Type 0
FillsOn F (Slot next) n b old new = GoesOn F (has_more F next b) (slot_kept F next n b) old new
FillsOn F (Fills k) n b old new = new ≡ F.with_fill b.commit k (newest n (F.fill_place old b.commit k)) old
FillsOn F _ n b old new = new ≡ old

-- a block of the slot that is read has 64 bytes
abbrev pub IsBlock : {C : Type 0} → FillingOf C → ReadStage → Device → Booting → Type 0
IsBlock F (Slot next) n b = length (newest n ((layout_in F b).slot_place b.commit + next)).0 ≡ 64
IsBlock F _ n b = Unit {0}
