-- A run of a comparison, which saves nothing, leaves the shelf alone.
use Rattle.std.proofs.Common.{◌≡◌, Bool, true, false, Option, None, List}
use Rattle.thy_base.specs.declared.config.Config.{Config}
use Rattle.thy_block.specs.declared.outside.PutError.{PutError}
use Rattle.thy_block.specs.Device.{Device}
use Rattle.thy_block.specs.Outside.{Stock}
use Rattle.thy_block.specs.declared.parameters.SchemeName.{SchemeName}
use Rattle.thy_text.specs.Event.{Event}
use Rattle.thy_outcome.specs.Answering.{NvmOf}
use Rattle.thy_outcome.specs.Comparing.{RunsBy, Stage, Subject, under}
use Rattle.thy_outcome.specs.Machines.{Choice}
use Rattle.thy_outcome.specs.Saving.{SavesUnder, saves}

-- a run that saves nothing leaves shelf and device as they stood when it stopped
pub saves_none : (due : Bool) (c : Config) (stood left : Device) (old new : Stock) (why : Option PutError)
    → SavesUnder None due c stood left old new why → (left ≡ stood) × (new ≡ old) × (why ≡ None)
saves_none true c stood left old new why h = h
saves_none false c stood left old new why h = h

-- a run by a scheme leaves the shelf alone
pub shelf_stays : {N : Type 0} (c : Choice) (d : NvmOf N) (x : Subject) (first : Bool) (scheme : SchemeName) (old new : Stage N)
    (events : List Event)
    → RunsBy c d x first scheme old new events → new.around.shelf ≡ old.around.shelf
shelf_stays c d x first scheme old new events r =
    let seen = r.over.ran.seen in
    (saves_none (saves seen.ending.stop)
    (under scheme x.job).config seen.stood r.over.ran.left old.around.shelf new.around.shelf seen.why seen.saved).1
