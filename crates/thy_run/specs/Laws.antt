-- Part of the claim.
-- What follows for every run, whatever the cuts left.
use Rattle.std.specs.Prelude.{◌≡◌, ℕ, ◌≤◌, zero, suc, List, [], ◌∷◌, ◌++◌, length, None, Option, Some}
use Rattle.thy_base.specs.Config.{IsRising}
use Rattle.thy_block.specs.declared.mark.Mark.{Mark}
use Rattle.thy_block.specs.declared.block.Block.{Block}
use Rattle.thy_block.specs.Device.{Device, Crash, IsCut}
use Rattle.thy_layout.specs.Decoded.{Decoded, Nothing, Refused, At, Reading}
use Rattle.thy_computer.specs.Kind.{KindOf}
use Rattle.thy_text.specs.Event.{Event}
use Rattle.thy_block.specs.Marks.{mark}
use Rattle.thy_text.specs.Marks.{Marks, Course, loading_marks, marks_from, Restarts, AllLawful}
use Rattle.thy_text.specs.Released.{released}
use Rattle.thy_computer.specs.Origin.{Origin, at, IsOrigin}
use Rattle.thy_computer.specs.WithTurns.{with_turns}
use Rattle.thy_computer.specs.Booting.{found_first}
use Rattle.thy_computer.specs.Safe.{ceiling}
use Rattle.thy_run.specs.Every.{every_of}
use Rattle.thy_run.specs.Cuts.{cuts_among, numbered, cuts_up_to, last_cuttable}
use Rattle.thy_run.specs.Images.{Found, found, HasLeft, AllFit}
use Rattle.thy_run.specs.Progress.{IsSoonOver, IsPaced}
use Rattle.thy_run.specs.Strides.{IsStriding}
use Rattle.thy_run.specs.Unfinished.{Stopped}
use Rattle.thy_run.specs.World.{Given, tear}
use Rattle.thy_run.specs.declared.ending.Stop.{Stop}

-- what the events of a run are checked against; it does not depend on the turns reported so far
abbrev pub course_of : Origin → Course
course_of o = record { at = λ k turns. at (with_turns o turns) k; start = o.start.count; epoch = o.geometry.epoch; harts = o.geometry.harts }

-- the marks before any event, at this count: the checkpoint that the start was taken from is kept, or the start is sealed
abbrev pub marks_at : ℕ → Option Mark → Marks
marks_at start None = loading_marks start
marks_at start (Some m) = record { kept = Some (mark m.epoch start); sealed = None; kept_turns = []; sealed_turns = [] }

abbrev pub first_marks : Origin → Marks
first_marks o = marks_at o.start.count o.kept

-- the marks that events leave
abbrev pub marks_of : Origin → List Event → Marks
marks_of o events = marks_from o.start.count (first_marks o) events

-- what a restart can find before any event
abbrev pub found_at_start : Origin → Found
found_at_start o = found (found_first o o.kept) None

-- what the terminal has taken of the console after these events: the console of the committed checkpoint
abbrev pub released_of : Origin → List Event → List ℕ
released_of o events = released (λ k turns. (at (with_turns o turns) k).console) o.start.count (first_marks o) events

-- What an image may mean after events that left these marks: nothing, if none is kept, or what a restart may restore.
abbrev pub MayStand : Course → Marks → Decoded → Type 0
MayStand c m Nothing = m.kept ≡ None
MayStand c m (Refused bad) = ⊥
MayStand c m (At epoch state) = Restarts c m epoch state.count state

-- whatever a cut leaves of a device is safe for marks
abbrev pub IsSafe : Reading → Origin → Marks → Device → Type 0
IsSafe read o m n = (g : List Block) → Crash n g → MayStand (course_of o) m (read o.geometry ceiling g)

-- the picks of the first k cuts
abbrev pub torn : List ℕ → ℕ → List ℕ
torn tears zero = []
torn tears (suc k) = torn tears k ++ tear tears k ∷ []

-- The device that a run leaves has the number of blocks and the room in its queue that it had after its fit, its blocks
-- land whole if they did so then, and it is reached by the same loans. If it levels, it moves a block after the same number of
-- writes. It has kept an image for each cut, and no more than cuts are listed, and has the room for images that it was fitted
-- with.
pub record LeavesRoom (given : Given) (events : List Event) (n : Device) : Type 0 where
  pub blocks : length n.image ≡ length given.fitted.image
  pub kept : length n.left ≡ length (cuts_among events)
  pub few : length n.left ≤ length given.config.cuts
  pub room : n.left_room ≡ given.fitted.left_room
  pub queue_room : n.queue_room ≡ given.fitted.queue_room
  pub lent : n.lent ≡ given.fitted.lent
  pub whole : n.whole ≡ given.fitted.whole
  pub every : every_of n.wear ≡ every_of given.fitted.wear

-- What is promised of a run. Its events are lawful. Each cut left one image, and the restarts are what these images
-- mean. Its cuts and their picks are the listed ones. The device was not fitted again, has room for one more cut, and
-- is safe for the marks that the events leave. The run has a bounded number of cycles, and of two epochs in a row one
-- retired an instruction.
pub record Promise {M : Type 0} (K : KindOf M) (o : Origin) (given : Given) (cycles : ℕ) (events : List Event) (n : Device) : Type 0 where
  pub events_lawful : AllLawful (course_of o) (first_marks o) events
  pub restarts_decode : AllFit (K.decode o.geometry ceiling) (HasLeft cycles) (found_at_start o) events n.left
  pub cuts_listed : cuts_among events ≡ numbered 1 (cuts_up_to (last_cuttable events cycles) given.config.cuts)
  pub picks_listed : n.picks ≡ torn given.config.tears (length (cuts_among events))
  pub fits_stay : n.fits ≡ given.fitted.fits
  pub room : LeavesRoom given events n
  pub safe_at_return : IsSafe K.decode o (marks_of o events) n
  pub soon : IsSoonOver K o given.config.cuts cycles
  pub paced : IsPaced K o given cycles
  pub strides : IsStriding o.start.count events

-- every run keeps its promise
abbrev pub RunKeepsPromise : {M : Type 0} → KindOf M → Type 0
RunKeepsPromise K =
    (o : Origin) (given : Given) (cycles : ℕ) (events : List Event) (n : Device) (stop : Stop)
    → IsOrigin o → IsRising 0 given.config.cuts → Stopped K o given cycles events n stop → Promise K o given cycles events n

-- What one more cut leaves of a device, whatever its pick, is safe for the marks for which the device was safe. So is
-- an image that is taken after a run.
abbrev pub OneMoreCutIsSafe : {M : Type 0} → KindOf M → Type 0
OneMoreCutIsSafe K =
    (o : Origin) (m : Marks) (pick : ℕ) (n new : Device)
    → IsCut pick n new → IsSafe K.decode o m n → IsSafe K.decode o m new
