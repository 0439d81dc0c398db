-- What holds of every boot of a run, whatever the layout and whatever is filled.
use Rattle.std.specs.Prelude.{◌≡◌, ◌≢◌, ◌+◌, ◌<◌, ◌≤◌, false, [], length, Option, Some, None}
use Rattle.thy_block.specs.declared.parameters.Parameters.{Parameters}
use Rattle.thy_block.specs.declared.mark.Mark.{Mark}
use Rattle.thy_block.specs.Device.{Device, block_at, drained, IsFramed}
use Rattle.thy_block.specs.Places.{commit_place}
use Rattle.thy_layout.specs.Saved.{Kept}
use Rattle.thy_isa.specs.Step.{State}
use Rattle.thy_layout.specs.declared.bad_image.BadImage.{BadImage}
use Rattle.thy_layout.specs.Commit.{epoch_of, commit_of}
use Rattle.thy_computer.specs.declared.boot_step.BootStep.{BootStep}
use Rattle.thy_computer.specs.declared.boot_step.BootStep.TheVariants.{GoesOn, Loaded}
use Rattle.thy_computer.specs.Action.{AsksBy, ActsBy, doubt_after_fault}
use Rattle.thy_computer.specs.Booting.{view_of_image, boot_did}
use Rattle.thy_computer.specs.CoreStep.{CoreStep}
use Rattle.thy_computer.specs.Dram.{ActsOnDram}
use Rattle.thy_computer.specs.Origin.{Origin, IsOrigin, at}
use Rattle.thy_computer.specs.Safe.{ceiling, Safe}
use Rattle.thy_computer.specs.Views.{doubt_of}
use Rattle.thy_computer.specs.Keeps.{Keeps, HasKept}
use Rattle.thy_layout.specs.Layout.{state_by, decode_by, reading}
use Rattle.thy_computer.specs.Moves.{Standing, standing, Move}
use Rattle.thy_checkpoint.specs.declared.boot_stage.Stage.{Stage}
use Rattle.thy_checkpoint.specs.declared.boot_stage.Stage.TheVariants.{Reads, Loads, Migrates, Over}
use Rattle.thy_checkpoint.specs.declared.boot_stage.ReadStage.{ReadStage}
use Rattle.thy_checkpoint.specs.declared.boot_stage.ReadStage.TheVariants.{Refusing}
use Rattle.thy_checkpoint.specs.declared.boot_stage.End.TheVariants.{Restored}
use Rattle.thy_computer.specs.declared.round.Round.TheVariants.{Confirm}
use Rattle.thy_computer.specs.Rounds.{saved_after_fault}
use Rattle.thy_checkpoint.specs.Boot.{Booting, new_boot, layout_in, slot_read, answer_of}
use Rattle.thy_checkpoint.specs.Filling.{FillingOf, layout_at}
use Rattle.thy_checkpoint.specs.Left.{most_migration, boot_left}
use Rattle.thy_checkpoint.specs.Recovers.{HasRead, IsRestored}
use Rattle.thy_checkpoint.specs.Shows.{migrates_at, seen_at}
use Rattle.thy_checkpoint.specs.Sound.{BootImages, start_mark, layout_for, first_of, standing_in_boot, images_after, IsSoundBoot}
use Rattle.thy_checkpoint.specs.Start.{CanStart}
use Rattle.thy_checkpoint.specs.Steps.{CanStep, Steps, action_of, Fails}

-- a new boot with a controller that lists nothing has read nothing of the image in the NVM
abbrev pub NewHasRead : {C : Type 0} → FillingOf C → Type 0
NewHasRead {C} F =
    (p : Parameters) (n : Device) (c : C)
    → F.fresh c → F.p c ≡ p → length n.image ≡ (layout_in F (new_boot F p)).image_blocks → n.queue ≡ [] → HasRead F n (new_boot F p) c

-- over a device with nothing queued, whose image means the mark that is kept, it is one of a run
abbrev pub NewIsSound : {C : Type 0} → FillingOf C → Type 0
NewIsSound {C} F =
    (o : Origin) (g : BootImages) (n : Device) (c : C)
    → F.fresh c → F.p c ≡ o.geometry → g.before ≡ n.image → length n.image ≡ (layout_for F o).image_blocks → n.queue ≡ []
    → HasKept o (layout_for F o) n.image g.kept → IsSoundBoot F o g n (new_boot F o.geometry) c

-- the boot is not over
abbrev pub IsGoing : Stage → Type 0
IsGoing (Over end) = ⊥
IsGoing stage = Unit {0}

-- a boot that is not over may take a step
abbrev pub SoundMayStep : {C : Type 0} → FillingOf C → Type 0
SoundMayStep {C} F =
    (o : Origin) (g : BootImages) (n : Device) (b : Booting) (c : C)
    → IsOrigin o → IsSoundBoot F o g n b c → IsGoing b.stage → n.down ≡ false → CanStep F o.start n b c

-- whatever a cut leaves then is the committed mark, whole, or, once loading's commit block was written, the start's
abbrev pub SoundIsSafe : {C : Type 0} → FillingOf C → Type 0
SoundIsSafe {C} F =
    (o : Origin) (g : BootImages) (n : Device) (b : Booting) (c : C)
    → IsSoundBoot F o g n b c → Safe (reading F.layouts) o (seen_at o g.kept b.stage).done (doubt_of (seen_at o g.kept b.stage)) n

-- if a step was taken, the next one may be taken, until the boot is over
abbrev pub MayGoOn : {C : Type 0} → FillingOf C → Type 0
MayGoOn {C} F =
    (s : State) (n : Device) (b : Booting) (c : C) (m : Device) (d : Booting) (e : C)
    → CanStart b.p s → n.down ≡ false → CanStep F s n b c → Steps F s n b c m d e → IsGoing d.stage
    → (d.p ≡ b.p) × (m.down ≡ false) × CanStep F s m d e

-- a step is a move of the run's checkpoints
pub record IsMoved {C : Type 0} (F : FillingOf C) (o : Origin) (g : BootImages) (n : Device) (b : Booting) (m : Device)
    (d : Booting) (e : C) : Type 0 where
  pub move : Move o (layout_for F o) (standing_in_boot o b.stage g n)
      (standing_in_boot o d.stage (images_after (first_of F o) b.stage n g) m)
  pub sound : IsSoundBoot F o (images_after (first_of F o) b.stage n g) m d e
  pub shows : CoreStep o (seen_at o g.kept b.stage) (boot_did (answer_of F d)) (seen_at o g.kept d.stage)

-- every step of a run's boot is one, and the boot is one of the run afterwards
abbrev pub StepsMove : {C : Type 0} → FillingOf C → Type 0
StepsMove {C} F =
    (o : Origin) (g : BootImages) (n : Device) (b : Booting) (c : C) (m : Device) (d : Booting) (e : C)
    → IsOrigin o → IsSoundBoot F o g n b c → Steps F o.start n b c m d e → IsMoved F o g n b m d e

-- a step that failed is a move too: the write of a commit block leaves two images in doubt, and every other step what
-- was. So a cut leaves the committed mark, whole, or the start's, if its commit block was written before or that was
-- its write
abbrev pub standing_after_fault : Origin → Stage → BootImages → Device → Standing
standing_after_fault o (Loads r) g n = standing n (saved_after_fault r g.before g.next) None (Some (start_mark o))
standing_after_fault o (Migrates r) g n = standing n (saved_after_fault r g.before g.next) g.kept g.kept
standing_after_fault o stage g n = standing_in_boot o stage g n

pub record IsFailed {C : Type 0} (F : FillingOf C) (o : Origin) (g : BootImages) (n : Device) (b : Booting) (c : C) (m : Device) : Type 0 where
  pub move : Move o (layout_for F o) (standing_in_boot o b.stage g n) (standing_after_fault o b.stage g m)
  pub safe : Safe (reading F.layouts) o (seen_at o g.kept b.stage).done
      (doubt_after_fault (action_of F o.start b c) (seen_at o g.kept b.stage)) m

abbrev pub FailuresMove : {C : Type 0} → FillingOf C → Type 0
FailuresMove {C} F =
    (o : Origin) (g : BootImages) (n : Device) (b : Booting) (c : C) (m : Device)
    → IsOrigin o → IsSoundBoot F o g n b c → IsGoing b.stage → Fails F o.start b c n m → IsFramed n m → IsFailed F o g n b c m

-- ---- its end

-- a restart has the kept mark's state, and its checkpoint is kept, as what was read or written again has it, with the commit
-- block that is written for its epoch
abbrev pub RestoredIsKept : {C : Type 0} → FillingOf C → Type 0
RestoredIsKept {C} F =
    (o : Origin) (g : BootImages) (n : Device) (b : Booting) (c : C)
    → IsSoundBoot F o g n b c → b.stage ≡ Over Restored
    → (m : Mark) × (g.kept ≡ Some m) × (m.epoch ≡ epoch_of b.commit) × Keeps o (layout_for F o) n (Kept g.before) (Some m) None
    × (state_by (layout_in F b) (slot_read F b) (F.loads c n) ≡ at o m.count) × IsRestored F n b c
    × (block_at n.image commit_place ≡ commit_of (epoch_of b.commit))

-- the boot of a run is never refused
abbrev pub NeverRefused : {C : Type 0} → FillingOf C → Type 0
NeverRefused {C} F =
    (o : Origin) (g : BootImages) (n : Device) (b : Booting) (c : C) (bad : BadImage)
    → IsSoundBoot F o g n b c → b.stage ≢ Reads (Refusing bad)

-- ---- an older form

-- a scheme with a number above 0 has none, so its boots never migrate
abbrev pub NumberedNeverMigrate : {C : Type 0} → FillingOf C → Type 0
NumberedNeverMigrate {C} F =
    (o : Origin) (g : BootImages) (n : Device) (b : Booting) (c : C)
    → ((p : Parameters) → 0 < (layout_at F p).scheme) → IsSoundBoot F o g n b c → migrates_at b.stage ≡ false

-- none of a boot's actions is counted for migration, in a scheme with a number above 0
abbrev pub NumberedCountNone : {C : Type 0} → FillingOf C → Type 0
NumberedCountNone F = (p : Parameters) → 0 < (layout_at F p).scheme → most_migration (layout_at F p) p ≡ 0

-- ---- drains

abbrev pub DrainsKeepBoot : {C : Type 0} → FillingOf C → Type 0
DrainsKeepBoot {C} F =
    (o : Origin) (g : BootImages) (n : Device) (b : Booting) (c : C)
    → IsSoundBoot F o g n b c → IsSoundBoot F o g (drained n) b c × IsSoundBoot F o g n b (F.drained c)

-- a drain of the NVM is a move
abbrev pub DrainsMove : {C : Type 0} → FillingOf C → Type 0
DrainsMove F =
    (o : Origin) (g : BootImages) (n : Device) (b : Booting)
    → Move o (layout_for F o) (standing_in_boot o b.stage g n) (standing_in_boot o b.stage g (drained n))

-- ---- what is seen

-- a boot that reads shows what the image means
abbrev pub ShowsImage : {C : Type 0} → FillingOf C → Type 0
ShowsImage {C} F =
    (o : Origin) (g : BootImages) (n : Device) (b : Booting) (c : C) (r : ReadStage)
    → IsSoundBoot F o g n b c → b.stage ≡ Reads r
    → seen_at o g.kept b.stage ≡ view_of_image o.start.count (decode_by (layout_for F o) ceiling n.image)

-- ---- actions

-- a step acts once on the NVM, as it is asked to by a boot that migrates or does not
abbrev pub StepsAct : {C : Type 0} → FillingOf C → Type 0
StepsAct {C} F =
    (s : State) (n : Device) (b : Booting) (c : C) (m : Device) (d : Booting) (e : C)
    → Steps F s n b c m d e → ActsBy (migrates_at b.stage) (boot_did (answer_of F d)) n m

-- if a checkpoint was found, a step leaves the NVM as it was, unless the boot migrates
abbrev pub FoundStays : {C : Type 0} → FillingOf C → Type 0
FoundStays {C} F =
    (o : Origin) (kept : Option Mark) (mark : Mark) (n : Device) (b : Booting) (c : C) (m : Device) (d : Booting) (e : C)
    → (seen_at o kept b.stage).done ≡ Some mark → migrates_at b.stage ≡ false → Steps F o.start n b c m d e → m ≡ n

-- what a step that failed was to return: that the program is loaded, if it was loading's last, else that the boot continues
abbrev pub failed_answer : Stage → BootStep
failed_answer (Loads Confirm) = Loaded
failed_answer stage = GoesOn

-- the action in which a step failed is one that the step was to take, by what it was to return
abbrev pub FailuresAct : {C : Type 0} → FillingOf C → Type 0
FailuresAct {C} F =
    (s : State) (b : Booting) (c : C) (n m : Device)
    → Fails F s b c n m → AsksBy (migrates_at b.stage) (boot_did (failed_answer b.stage)) (action_of F s b c)

-- the DRAM has one write more at most, and of the controller is left what listing and filling leave
abbrev pub StepsFill : {C : Type 0} → FillingOf C → Type 0
StepsFill {C} F =
    (s : State) (n : Device) (b : Booting) (c : C) (m : Device) (d : Booting) (e : C)
    → Steps F s n b c m d e → ActsOnDram n m (F.dram c) (F.dram e) × F.keeps c e

-- an action lowers how many are left by one at least
abbrev pub StepsComeNearer : {C : Type 0} → FillingOf C → Type 0
StepsComeNearer {C} F =
    (s : State) (n : Device) (b : Booting) (c : C) (m : Device) (d : Booting) (e : C)
    → CanStep F s n b c → Steps F s n b c m d e → ((bad : BadImage) → b.stage ≢ Reads (Refusing bad))
    → boot_left F d d.stage + 1 ≤ boot_left F b b.stage
