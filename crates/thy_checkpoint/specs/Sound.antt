-- A boot over a run's checkpoints: what the device keeps of them, and what was read or written so far.
use Rattle.std.specs.Prelude.{◌≡◌, ℕ, ◌*◌, true, List, [], length, Option, Some, None}
use Rattle.thy_block.specs.declared.block.Block.{Block}
use Rattle.thy_block.specs.declared.mark.Mark.{Mark}
use Rattle.thy_block.specs.Device.{Device, block_at, newest, at_rest}
use Rattle.thy_block.specs.Marks.{mark}
use Rattle.thy_block.specs.Places.{commit_place, header_place}
use Rattle.thy_layout.specs.Saved.{Kept, next_image}
use Rattle.thy_computer.specs.Origin.{Origin, at}
use Rattle.thy_computer.specs.Keeps.{IsOf}
use Rattle.thy_computer.specs.Issuing.{CheckpointParts, slot_of}
use Rattle.thy_layout.specs.declared.layout_version.LayoutVersion.TheVariants.{VersionOne}
use Rattle.thy_layout.specs.Commit.{commit_of, epoch_of}
use Rattle.thy_layout.specs.Layout.{Layout, header_bad, slot_in, state_by}
use Rattle.thy_computer.specs.Moves.{Standing, standing, IsKeeping}
use Rattle.thy_computer.specs.declared.round.Round.{Round}
use Rattle.thy_computer.specs.declared.round.Round.TheVariants.{Commit, Confirm}
use Rattle.thy_computer.specs.Round.{IsInRound}
use Rattle.thy_computer.specs.Rounds.{saved_in, made_after, HasWritten, HasWrittenBefore, AreIssuedBefore}
use Rattle.thy_checkpoint.specs.declared.boot_stage.Stage.{Stage}
use Rattle.thy_checkpoint.specs.declared.boot_stage.Stage.TheVariants.{Reads as Reading, Loads, Migrates, Over}
use Rattle.thy_checkpoint.specs.declared.boot_stage.End.TheVariants.{Restored, Loaded}
use Rattle.thy_checkpoint.specs.Boot.{Booting, layout_in, slot_read, version_in}
use Rattle.thy_checkpoint.specs.Loads.{first_writes}
use Rattle.thy_checkpoint.specs.Migrating.{renewing, renewed_parts}
use Rattle.thy_checkpoint.specs.Filling.{FillingOf, First, layout_at, first_by, anew}
use Rattle.thy_checkpoint.specs.Recovers.{HasListed, HasRead}

-- the layout of a run's images, and the first checkpoint, which is made of the start
abbrev pub layout_for : {C : Type 0} → FillingOf C → Origin → Layout
layout_for F o = layout_at F o.geometry

abbrev pub first_of : {C : Type 0} → FillingOf C → Origin → First
first_of F o = first_by F o.geometry o.start

-- the mark of the start's checkpoint
abbrev pub start_mark : Origin → Mark
start_mark o = mark 0 o.start.count

-- the image that the boot finds, with its mark, if it is a checkpoint, and the image that loading or a migration makes
pub record BootImages : Type 0 where
  pub before : List Block
  pub kept : Option Mark
  pub next : List Block

-- if none is kept, the start's is under way
abbrev pub sealed_by : Origin → Option Mark → Option Mark
sealed_by o None = Some (start_mark o)
sealed_by o (Some m) = None

-- the epoch of the mark that is kept
abbrev pub epoch_kept : Option Mark → ℕ
epoch_kept None = 0
epoch_kept (Some m) = m.epoch

-- by the stage, which images a cut may leave; a migration writes the mark that is kept, as both its images are
abbrev pub standing_in_boot : Origin → Stage → BootImages → Device → Standing
standing_in_boot o (Reading at) g n = standing n (Kept g.before) g.kept (sealed_by o g.kept)
standing_in_boot o (Loads r) g n = standing n (saved_in r g.before g.next) None (Some (start_mark o))
standing_in_boot o (Migrates r) g n = standing n (saved_in r g.before g.next) g.kept g.kept
standing_in_boot o (Over Restored) g n = standing n (Kept g.before) g.kept (sealed_by o g.kept)
standing_in_boot o (Over Loaded) g n = standing n (Kept g.next) (Some (start_mark o)) None

-- what a migration has made is the image that is kept, with its last action
abbrev pub renewed_image : Round → BootImages → List Block
renewed_image Confirm g = g.next
renewed_image r g = g.before

-- the images after an action of a round
abbrev pub images_after : First → Stage → Device → BootImages → BootImages
images_after f (Loads r) n g = record g { next = made_after f.commit r n g.next }
images_after f (Migrates r) n g = record g { before = renewed_image r g; next = made_after (commit_of (epoch_kept g.kept)) r n g.next }
images_after f stage n g = g

-- ---- what was written

-- from the first barrier on, the next image is the start's checkpoint
pub record IsFirstImage (o : Origin) (l : Layout) (f : First) (image : List Block) : Type 0 where
  pub of : IsOf o l image (start_mark o)
  pub commit : block_at image commit_place ≡ f.commit
  pub slot : slot_in l image ≡ slot_of f.parts

abbrev pub IsMade : Origin → Layout → First → Round → List Block → Type 0
IsMade o l f Commit next = IsFirstImage o l f next
IsMade o l f Confirm next = IsFirstImage o l f next
IsMade o l f r next = Unit {0}

-- ---- what was written again

-- an image is the same checkpoint of that mark, of the form of today
pub record IsAnew (o : Origin) (l : Layout) (m : Mark) (commit : Block) (parts : CheckpointParts) (image : List Block) : Type 0 where
  pub of : IsOf o l image m
  pub commit_is : block_at image commit_place ≡ commit
  pub header : header_bad l (block_at image header_place) true ≡ None
  pub slot : slot_in l image ≡ slot_of parts

-- from the first barrier on the next image is that; it is what the device has once all has landed, with the commit block
abbrev pub IsMadeAnew : Origin → Layout → Mark → Block → CheckpointParts → Round → List Block → Device → Type 0
IsMadeAnew o l m commit parts Commit next n = IsAnew o l m commit parts next × (next_image n commit ≡ next)
IsMadeAnew o l m commit parts Confirm next n = IsAnew o l m commit parts next × ((at_rest n).image ≡ next)
IsMadeAnew o l m commit parts r next n = Unit {0}

-- ---- the boot

-- while a boot reads, nothing is written
pub record IsRecovering {C : Type 0} (F : FillingOf C) (g : BootImages) (n : Device) (b : Booting) (c : C) : Type 0 where
  pub before_is : g.before ≡ n.image
  pub read : HasRead F n b c

-- while it loads, there is no checkpoint, and the controller lists nothing
pub record IsLoading {C : Type 0} (F : FillingOf C) (o : Origin) (r : Round) (g : BootImages) (n : Device) (c : C) : Type 0 where
  pub none : g.kept ≡ None
  pub fresh : F.fresh c
  pub there : IsInRound (first_writes (first_of F o)).blocks r
  pub made : IsMade o (layout_for F o) (first_of F o) r g.next
  pub stood : HasWrittenBefore (first_writes (first_of F o)) r n

-- while it migrates: the checkpoint of a mark was found, of an older form; the controller lists it, and memory is its
pub record IsMigrating {C : Type 0} (F : FillingOf C) (o : Origin) (r : Round) (g : BootImages) (n : Device) (b : Booting)
    (c : C) : Type 0 where
  pub m : Mark
  pub kept : g.kept ≡ Some m
  pub epoch : epoch_of b.commit ≡ m.epoch
  pub version : version_in F b ≡ VersionOne
  pub there : IsInRound (renewing F b).blocks r
  pub room : length b.slot ≡ 64 * (layout_in F b).most_slot
  pub listed : HasListed F g.before b c
  pub whole : F.whole c n
  pub state : state_by (layout_in F b) (slot_read F b) (F.loads c n) ≡ at o m.count
  pub header : header_bad (layout_in F b) (newest n header_place) true ≡ None
  pub issued : AreIssuedBefore (layout_in F b).image_blocks (renewed_parts F b) (anew b.commit) r n (F.loads c n)
  pub made : IsMadeAnew o (layout_for F o) m (anew b.commit) (renewed_parts F b) r g.next n

-- the program is loaded: the controller lists nothing, and memory is the start's
pub record IsLoaded {C : Type 0} (F : FillingOf C) (o : Origin) (g : BootImages) (n : Device) (c : C) : Type 0 where
  pub fresh : F.fresh c
  pub sized : length n.image ≡ (layout_for F o).image_blocks
  pub settled : n.queue ≡ []
  pub made : IsFirstImage o (layout_for F o) (first_of F o) g.next
  pub stood : HasWritten (first_writes (first_of F o)) (first_writes (first_of F o)).blocks n

abbrev pub IsSoundAt : {C : Type 0} → FillingOf C → Origin → Stage → BootImages → Device → Booting → C → Type 0
IsSoundAt F o (Reading at) g n b c = IsRecovering F g n b c
IsSoundAt F o (Loads r) g n b c = IsLoading F o r g n c
IsSoundAt F o (Migrates r) g n b c = IsMigrating F o r g n b c
IsSoundAt F o (Over Restored) g n b c = IsRecovering F g n b c
IsSoundAt F o (Over Loaded) g n b c = IsLoaded F o g n c

-- a boot of a run, with the images of its checkpoints
pub record IsSoundBoot {C : Type 0} (F : FillingOf C) (o : Origin) (g : BootImages) (n : Device) (b : Booting) (c : C) : Type 0 where
  pub geometry : b.p ≡ o.geometry
  pub same_p : F.p c ≡ o.geometry
  pub keeps : IsKeeping o (layout_for F o) (standing_in_boot o b.stage g n)
  pub so_far : IsSoundAt F o b.stage g n b c
