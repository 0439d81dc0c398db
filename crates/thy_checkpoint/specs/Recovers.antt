-- What was read of an image so far, and what the controller has of it.
use Rattle.std.specs.Prelude.{◌≡◌, ℕ, ◌+◌, ◌*◌, ◌<◌, true, false, List, [], length, Some, None}
use Rattle.thy_block.specs.declared.block.Block.{Block}
use Rattle.thy_block.specs.Device.{Device, block_at}
use Rattle.thy_block.specs.Places.{commit_place, header_place}
use Rattle.thy_layout.specs.Commit.{is_zero, epoch_of, commit_of}
use Rattle.thy_layout.specs.Decoded.{Nothing, Refused as IsRefused, At}
use Rattle.thy_layout.specs.Files.{block_in}
use Rattle.thy_layout.specs.declared.layout_version.LayoutVersion.TheVariants.{VersionOne}
use Rattle.thy_layout.specs.Layout.{Layout, header_bad, commit_bad, state_by, slot_in, memory_in, decode_by}
use Rattle.thy_computer.specs.Safe.{ceiling}
use Rattle.thy_checkpoint.specs.declared.boot_stage.Stage.{Stage}
use Rattle.thy_checkpoint.specs.declared.boot_stage.Stage.TheVariants.{Reads, Loads, Migrates, Over}
use Rattle.thy_checkpoint.specs.declared.boot_stage.ReadStage.{ReadStage}
use Rattle.thy_checkpoint.specs.declared.boot_stage.ReadStage.TheVariants.{Unread, Header, Slot, Fills, Refusing}
use Rattle.thy_checkpoint.specs.declared.boot_stage.End.TheVariants.{Restored, Loaded}
use Rattle.thy_computer.specs.declared.round.Round.{Round}
use Rattle.thy_computer.specs.declared.round.Round.TheVariants.{Write}
use Rattle.thy_checkpoint.specs.Boot.{Booting, layout_in, slot_read, slot_fault, version_in}
use Rattle.thy_checkpoint.specs.Filling.{FillingOf}
use Rattle.thy_checkpoint.specs.Left.{reads_left, boot_left}

-- the commit block of an image was read
pub record HasCommit (g : List Block) (commit : Block) : Type 0 where
  pub committed : is_zero commit ≡ false
  pub is : block_at g commit_place ≡ commit

-- the commit block of an image was read, and neither header nor commit block has a fault
pub record HasHead (l : Layout) (g : List Block) (commit : Block) : Type 0 where
  pub commit_is : HasCommit g commit
  pub header_fits : header_bad l (block_at g header_place) true ≡ None
  pub commit_fits : commit_bad ceiling (block_at g header_place) commit ≡ None

-- the first n blocks of these bytes are the slot's
pub record HasSlot (l : Layout) (g : List Block) (commit : Block) (n : ℕ) (slot : List ℕ) : Type 0 where
  pub each : (k : ℕ) → k < n → block_in slot k ≡ block_at g (l.slot_place commit + k)

-- the slot of an image was read and has no fault, and the controller lists it
pub record HasListed {C : Type 0} (F : FillingOf C) (g : List Block) (b : Booting) (c : C) : Type 0 where
  pub head : HasHead (layout_in F b) g b.commit
  pub slot_is : slot_read F b ≡ slot_in (layout_in F b) g
  pub slot_fits : slot_fault F b ≡ None
  pub lists : F.lists b.commit (slot_read F b) c

-- the checkpoint's positions are all filled, and memory is the image's
pub record IsRestored {C : Type 0} (F : FillingOf C) (n : Device) (b : Booting) (c : C) : Type 0 where
  pub listed : HasListed F n.image b c
  pub whole : F.whole c n
  pub found : decode_by (layout_in F b) ceiling n.image
      ≡ At (epoch_of b.commit) (state_by (layout_in F b) (slot_read F b) (F.loads c n))

-- all is filled from an image of an older form, which will be written again from its first block on; memory is where
-- that image has it
pub record IsFoundOld {C : Type 0} (F : FillingOf C) (r : Round) (n : Device) (b : Booting) (c : C) : Type 0 where
  pub restored : IsRestored F n b c
  pub memory : F.loads c n ≡ memory_in (layout_in F b) n.image
  pub room : length b.slot ≡ 64 * (layout_in F b).most_slot
  pub version : version_in F b ≡ VersionOne
  pub first : r ≡ Write 0

-- a boot has restored a checkpoint of the form of today, with the commit block that is written for its epoch
pub record IsFoundNew {C : Type 0} (F : FillingOf C) (n : Device) (b : Booting) (c : C) : Type 0 where
  pub restored : IsRestored F n b c
  pub stated : block_at n.image commit_place ≡ commit_of (epoch_of b.commit)

-- by the stage, what was read of the image in the NVM
abbrev pub HasReadAt : {C : Type 0} → FillingOf C → Stage → Device → Booting → C → Type 0
HasReadAt F (Reads Unread) n b c = F.fresh c
HasReadAt F (Reads Header) n b c = F.fresh c × HasCommit n.image b.commit
HasReadAt F (Reads (Slot next)) n b c =
    F.fresh c × HasHead (layout_in F b) n.image b.commit × HasSlot (layout_in F b) n.image b.commit next b.slot
HasReadAt F (Reads (Fills k)) n b c =
    HasListed F n.image b c × F.filled c n k × (F.next_fill b.p b.commit (slot_read F b) k ≡ Some k)
HasReadAt F (Reads (Refusing bad)) n b c = decode_by (layout_in F b) ceiling n.image ≡ IsRefused bad
HasReadAt F (Loads r) n b c = F.fresh c × (decode_by (layout_in F b) ceiling n.image ≡ Nothing) × (r ≡ Write 0)
HasReadAt F (Migrates r) n b c = IsFoundOld F r n b c
HasReadAt F (Over Restored) n b c = IsFoundNew F n b c
HasReadAt F (Over Loaded) n b c = ⊥

-- a boot that reads, and the controller that it fills, over a device with nothing queued
pub record HasRead {C : Type 0} (F : FillingOf C) (n : Device) (b : Booting) (c : C) : Type 0 where
  pub same_p : F.p c ≡ b.p
  pub sized : length n.image ≡ (layout_in F b).image_blocks
  pub settled : n.queue ≡ []
  pub so_far : HasReadAt F b.stage n b c

-- a step of the recovery leaves one action less to the boot's end; a refusal comes again
abbrev pub IsNearer : {C : Type 0} → FillingOf C → Booting → ReadStage → Booting → Type 0
IsNearer F b (Refusing bad) d = d.stage ≡ Reads (Refusing bad)
IsNearer F b r d = boot_left F d d.stage < reads_left F b r
