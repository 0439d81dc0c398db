-- What is seen of every boot of a run that is not over, whatever the layout and whatever is filled.
use Rattle.std.specs.Prelude.{◌≡◌, ◌≤◌, ◌+◌, ◌&&◌, true, false, List, [], length, Option, Some}
use Rattle.thy_block.specs.declared.block.Block.{Block}
use Rattle.thy_block.specs.declared.parameters.Parameters.{Parameters}
use Rattle.thy_block.specs.declared.mark.Mark.{Mark}
use Rattle.thy_block.specs.Device.{Device, HasFailed}
use Rattle.thy_layout.specs.Decoded.{Reading}
use Rattle.thy_computer.specs.Action.{FailsTo}
use Rattle.thy_computer.specs.Origin.{Origin}
use Rattle.thy_computer.specs.Safe.{ceiling}
use Rattle.thy_computer.specs.Views.{loads}
use Rattle.thy_computer.specs.Keeps.{HasKept}
use Rattle.thy_layout.specs.Layout.{decode_by}
use Rattle.thy_checkpoint.specs.declared.boot_stage.Stage.{Stage}
use Rattle.thy_checkpoint.specs.Boot.{Booting}
use Rattle.thy_checkpoint.specs.Filling.{FillingOf, layout_at}
use Rattle.thy_checkpoint.specs.Laws.{IsGoing}
use Rattle.thy_checkpoint.specs.Left.{boot_left}
use Rattle.thy_checkpoint.specs.Shows.{migrates_at, seen_at}
use Rattle.thy_checkpoint.specs.Sound.{BootImages, layout_for, IsSoundBoot}
use Rattle.thy_checkpoint.specs.Steps.{action_at}
use Rattle.thy_scheme.specs.Boots.{IsBootView}
use Rattle.thy_scheme.specs.Laws.{IsOwn}
use Rattle.thy_scheme_parts.specs.Seen.{view_at, has_read_at, loads_at}

-- images of its length are read as the layout says
abbrev pub IsReadBy : {C : Type 0} → FillingOf C → Reading → Type 0
IsReadBy F read =
    (p : Parameters) (g : List Block)
    → length g ≡ (layout_at F p).image_blocks → read p ceiling g ≡ decode_by (layout_at F p) ceiling g

-- what a boot shows is the mark that is kept, as the trait of schemes has it
abbrev pub ViewIsKept : {C : Type 0} → FillingOf C → Type 0
ViewIsKept {C} F =
    (read : Reading) (o : Origin) (g : BootImages) (n : Device) (b : Booting) (c : C)
    → IsReadBy F read → IsSoundBoot F o g n b c → IsGoing b.stage
    → (view_at read o b.stage n ≡ seen_at o g.kept b.stage) × IsBootView o (seen_at o g.kept b.stage)

-- a boot loads exactly if the commit block was read and it shows no checkpoint
abbrev pub LoadsIfNone : {C : Type 0} → FillingOf C → Type 0
LoadsIfNone {C} F =
    (read : Reading) (o : Origin) (g : BootImages) (n : Device) (b : Booting) (c : C)
    → IsReadBy F read → IsSoundBoot F o g n b c → IsGoing b.stage
    → loads_at b.stage ≡ (has_read_at b.stage && loads (view_at read o b.stage n))

-- if a checkpoint was found nothing is queued, unless it is being written again
abbrev pub FoundIsSettled : {C : Type 0} → FillingOf C → Type 0
FoundIsSettled {C} F =
    (o : Origin) (g : BootImages) (n : Device) (b : Booting) (c : C) (m : Mark)
    → IsSoundBoot F o g n b c → IsGoing b.stage → (seen_at o g.kept b.stage).done ≡ Some m → migrates_at b.stage ≡ false → n.queue ≡ []

-- if a checkpoint was found, a step that failed wrote nothing, unless the checkpoint is being written again
abbrev pub FoundFailsUnwritten : {C : Type 0} → FillingOf C → Type 0
FoundFailsUnwritten {C} F =
    (o : Origin) (kept : Option Mark) (m : Mark) (b : Booting) (c : C) (n new : Device) (q : Stage)
    → (seen_at o kept q).done ≡ Some m → migrates_at q ≡ false → FailsTo (action_at F q o.start b c) n new → HasFailed n new

-- a boot that has fewer actions left than one of its geometry has read the commit block
abbrev pub FewerHasRead : {C : Type 0} → FillingOf C → Type 0
FewerHasRead F =
    (b d : Booting) (q : Stage) → d.p ≡ b.p → boot_left F d q + 1 ≤ boot_left F b b.stage → has_read_at q ≡ true

-- an image that is the run's own is the checkpoint of a mark, or the run began without one
abbrev pub OwnHasMark : {C : Type 0} → FillingOf C → Type 0
OwnHasMark F =
    (read : Reading) (o : Origin) (n : Device)
    → IsReadBy F read → length n.image ≡ (layout_for F o).image_blocks → IsOwn o (read o.geometry ceiling n.image)
    → (kept : Option Mark) × HasKept o (layout_for F o) n.image kept
