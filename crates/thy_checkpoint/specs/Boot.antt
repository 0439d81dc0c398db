-- Part of the claim.
-- The boot of any layout: its stage, and what each block that it reads makes of it.
use Rattle.std.specs.Prelude.{◌≡◌, ℕ, ◌+◌, ◌*◌, ◌<◌, nat_lt, Bool, true, false, if◌then◌else◌, List, length, take, replicate, Option, Some, None}
use Rattle.std.specs.Option.{option_or}
use Rattle.thy_block.specs.declared.block.Block.{Block}
use Rattle.thy_block.specs.declared.parameters.Parameters.{Parameters}
use Rattle.thy_block.specs.Bytes.{written}
use Rattle.thy_block.specs.Device.{zero_block}
use Rattle.thy_layout.specs.declared.bad_image.BadImage.{BadImage}
use Rattle.thy_layout.specs.declared.layout_version.LayoutVersion.{LayoutVersion}
use Rattle.thy_layout.specs.declared.layout_version.LayoutVersion.TheVariants.{VersionOne, VersionTwo}
use Rattle.thy_layout.specs.Commit.{is_zero, epoch_of, version_of}
use Rattle.thy_layout.specs.Cpu.{cpu_of_record}
use Rattle.thy_layout.specs.Files.{blocks_of}
use Rattle.thy_layout.specs.Layout.{Layout, header_bad, commit_bad}
use Rattle.thy_computer.specs.declared.round.Round.TheVariants.{Write}
use Rattle.thy_computer.specs.Round.{IsInRound}
use Rattle.thy_computer.specs.declared.boot_step.BootStep.{BootStep}
use Rattle.thy_computer.specs.declared.boot_step.BootStep.TheVariants.{GoesOn as Continues, Loaded as HasLoaded, Restarted, Refused}
use Rattle.thy_computer.specs.Safe.{ceiling}
use Rattle.thy_checkpoint.specs.declared.boot_stage.Stage.{Stage}
use Rattle.thy_checkpoint.specs.declared.boot_stage.Stage.TheVariants.{Reads, Loads, Migrates, Over}
use Rattle.thy_checkpoint.specs.declared.boot_stage.ReadStage.TheVariants.{Header, Slot, Fills, Refusing, Unread}
use Rattle.thy_checkpoint.specs.declared.boot_stage.End.TheVariants.{Restored, Loaded}
use Rattle.thy_checkpoint.specs.Filling.{FillingOf, ListsOn, layout_at, anew}

-- a boot: its stage, with the commit block, and the bytes of the slot, as far as they were read
pub record Booting : Type 0 where
  pub p : Parameters
  pub commit : Block
  pub slot : List ℕ
  pub stage : Stage

-- a new boot has read nothing, and has room for this many blocks of a slot
abbrev pub empty_boot : ℕ → Parameters → Booting
empty_boot room p = record { p = p; commit = zero_block; slot = replicate (64 * room) 0; stage = Reads Unread }

abbrev pub new_boot : {C : Type 0} → FillingOf C → Parameters → Booting
new_boot F p = empty_boot (layout_at F p).most_slot p

-- the layout of a boot's image
abbrev pub layout_in : {C : Type 0} → FillingOf C → Booting → Layout
layout_in F b = layout_at F b.p

-- the blocks of a commit block's slot, in the room for it: that slot may be shorter
abbrev pub slot_bytes : {C : Type 0} → FillingOf C → Parameters → Block → List ℕ → List Block
slot_bytes F p commit bytes = take ((layout_at F p).slot_blocks commit) (blocks_of bytes)

abbrev pub slot_read : {C : Type 0} → FillingOf C → Booting → List Block
slot_read F b = slot_bytes F b.p b.commit b.slot

-- the first fault of a commit block's slot
abbrev pub slot_fault : {C : Type 0} → FillingOf C → Booting → Option BadImage
slot_fault F b = (layout_in F b).slot_bad ceiling b.commit (slot_read F b)

-- the version of the checkpoint that was found
abbrev pub version_in : {C : Type 0} → FillingOf C → Booting → LayoutVersion
version_in F b = version_of (layout_in F b).scheme b.p b.commit

-- what is read or written again next is there; what is written again is the slot of the same epoch
abbrev pub IsThere : {C : Type 0} → FillingOf C → Booting → Stage → Type 0
IsThere F b (Reads (Slot next)) = next < (layout_in F b).slot_blocks b.commit
IsThere F b (Reads (Fills k)) = k < F.most_fills b.p
IsThere F b (Migrates r) = IsInRound ((layout_in F b).slot_blocks (anew b.commit)) r
IsThere F b _ = Unit {0}

pub record IsBoot {C : Type 0} (F : FillingOf C) (b : Booting) : Type 0 where
  pub room : length b.slot ≡ 64 * (layout_in F b).most_slot
  pub there : IsThere F b b.stage

-- what a step returns that left the boot in this state
abbrev pub answer_at : {C : Type 0} → FillingOf C → Stage → Booting → BootStep
answer_at F (Reads (Refusing bad)) b = Refused bad
answer_at F (Over Restored) b = Restarted (cpu_of_record b.p (slot_read F b)) (epoch_of b.commit)
answer_at F (Over Loaded) b = HasLoaded
answer_at F q b = Continues

abbrev pub answer_of : {C : Type 0} → FillingOf C → Booting → BootStep
answer_of F b = answer_at F b.stage b

-- ---- what a block makes of the stage

-- a refusal if there is a fault, else the next stage
abbrev pub refusing_or : Option BadImage → Stage → Stage
refusing_or None next = next
refusing_or (Some bad) next = Reads (Refusing bad)

-- the boot at another stage
abbrev pub at_stage : Stage → Booting → Booting
at_stage stage b = record b { stage = stage }

-- the commit block; if it is zero, the program is loaded from its first block on
abbrev pub stage_of_commit : Block → Stage
stage_of_commit block = if is_zero block then Loads (Write 0) else Reads Header

abbrev pub after_commit : Block → Booting → Booting
after_commit block b = record b { commit = block; stage = stage_of_commit block }

-- the header, after the commit block: the first fault of both, and the stage
abbrev pub head_fault : Layout → Block → Block → Option BadImage
head_fault l header commit = option_or (header_bad l header true) (commit_bad ceiling header commit)

abbrev pub after_header : Layout → Block → Booting → Stage
after_header l header b = refusing_or (head_fault l header b.commit) (Reads (Slot 0))

-- the stage once all is filled: the checkpoint is restored, or, if it is of an older form, it is migrated first
abbrev pub filled_by : LayoutVersion → Stage
filled_by VersionOne = Migrates (Write 0)
filled_by VersionTwo = Over Restored

-- the stage that fills the next position, or the stage after all are filled
abbrev pub filling_or : LayoutVersion → Option ℕ → Stage
filling_or version None = filled_by version
filling_or version (Some k) = Reads (Fills k)

-- the stage of a boot that fills, from a position on
abbrev pub filling_from : {C : Type 0} → FillingOf C → ℕ → Booting → Stage
filling_from F from b = filling_or (version_in F b) (F.next_fill b.p b.commit (slot_read F b) from)

-- the stage of a boot once the whole slot was read
abbrev pub after_slot : {C : Type 0} → FillingOf C → Booting → Stage
after_slot F b = refusing_or (slot_fault F b) (filling_from F 0 b)

-- the boot with a block of the slot
abbrev pub with_slot_block : ℕ → Block → Booting → Booting
with_slot_block k block b = record b { slot = written b.slot (64 * k) block.0 }

-- the slot has more blocks than up to this one
abbrev pub has_more : {C : Type 0} → FillingOf C → ℕ → Booting → Bool
has_more F next b = nat_lt (next + 1) ((layout_in F b).slot_blocks b.commit)

-- the boot after block `next` of the slot was kept: with the last of them the slot is judged
abbrev pub gone_on : {C : Type 0} → FillingOf C → ℕ → Booting → Booting
gone_on F next b = at_stage (if has_more F next b then Reads (Slot (next + 1)) else after_slot F b) b

-- the controller after the slot was judged: without a fault it lists the checkpoint, otherwise it is as before
abbrev pub IsJudged : {C : Type 0} → FillingOf C → Option BadImage → Booting → C → C → Type 0
IsJudged F None b old new = ListsOn F b.commit (slot_read F b) old new
IsJudged F (Some bad) b old new = new ≡ old

abbrev pub GoesOn : {C : Type 0} → FillingOf C → Bool → Booting → C → C → Type 0
GoesOn F true b old new = new ≡ old
GoesOn F false b old new = IsJudged F (slot_fault F b) b old new
