-- Part of the claim.
-- The device that a run sees: the one that is handed in, or, with a gap, the levelled lines that it holds. A saved image has no
-- trace of the gap: a run with a gap can be resumed without, and the other way round.
use Rattle.std.specs.Prelude.{◌≡◌, ◌≢◌, ℕ, ◌+◌, ◌-◌, ◌<◌, ◌^◌, ◌==◌, if◌then◌else◌, Bool, true, false, List, map, length, take, Option, Some, None}
use Rattle.thy_block.specs.declared.block.Block.{Block}
use Rattle.thy_block.specs.declared.outside.PutError.{PutError}
use Rattle.thy_block.specs.Device.{Device, Crash, Plain, Levels}
use Rattle.thy_block.specs.Outside.{Stock}
use Rattle.thy_block.specs.Flat.{flat}
use Rattle.thy_gap.specs.Lines.{moved_times, unmoved, registers_in}
use Rattle.thy_gap.specs.Seen.{unmapped}
use Rattle.thy_layout.specs.Decoded.{Reading}
use Rattle.thy_text.specs.Event.{Event}
use Rattle.thy_computer.specs.Kind.{KindOf}
use Rattle.thy_computer.specs.Origin.{Origin}
use Rattle.thy_computer.specs.Safe.{ceiling}
use Rattle.thy_run.specs.Cuts.{cuts_among}
use Rattle.thy_run.specs.Images.{HasLeft, AllFit}
use Rattle.thy_run.specs.Laws.{IsSafe, marks_of, found_at_start}
use Rattle.thy_outcome.specs.Saving.{IsPut}

-- what an image of the device is to a run: itself; with a gap, the lines that it holds by its own registers
abbrev pub through : ℕ → List Block → List Block
through gap g = if gap == 0 then g else unmapped g

-- what the run sees before: the device itself; with a gap, one with its counts, whose blocks land whole if its do, and a fit
-- makes all else
pub record IsFoundAs (gap : ℕ) (handed seen : Device) : Type 0 where
  pub direct : gap ≡ 0 → seen ≡ handed
  pub faults : seen.faults ≡ handed.faults
  pub fits : seen.fits ≡ handed.fits
  pub whole : seen.whole ≡ handed.whole

-- What the run sees says how often a line has moved: at each barrier before which the option's number of writes was made since the
-- last move. The registers that the device holds, if it is up, are what this count makes of the first ones, while the count has not
-- saturated.
pub record HasMoved (gap : ℕ) (handed seen : Device) : Type 0 where
  pub since : ℕ
  pub moves : ℕ
  pub says : seen.wear ≡ Levels gap since moves
  pub registers : handed.down ≡ false → moves < 2 ^ 64 - 1
      → registers_in handed.image ≡ moved_times moves (unmoved (length seen.image))

-- what the run sees of the device afterwards: the device itself; with a gap, what the images of the device are to it,
-- and all else the same
pub record IsLeftAs (gap : ℕ) (handed seen : Device) : Type 0 where
  pub direct : gap ≡ 0 → seen ≡ handed
  pub image : through gap handed.image ≡ seen.image
  pub crash : (g : List Block) → Crash handed g → Crash seen (through gap g)
  pub left : map (through gap) handed.left ≡ seen.left
  pub picks : seen.picks ≡ handed.picks
  pub queue_room : seen.queue_room ≡ handed.queue_room
  pub left_room : seen.left_room ≡ handed.left_room
  pub down : seen.down ≡ handed.down
  pub faults : seen.faults ≡ handed.faults
  pub fits : seen.fits ≡ handed.fits
  pub whole : seen.whole ≡ handed.whole
  -- what barriers wrote of their own is counted too
  pub writes : seen.writes ≡ handed.writes
  -- with a gap over a device whose barriers make no write of their own
  pub moved : gap ≢ 0 → handed.wear ≡ Plain → HasMoved gap handed seen

-- ---- what follows for the device that is handed back, without the one that the run saw

-- what the images of the device mean
abbrev pub read_through : ℕ → Reading → Reading
read_through gap read = λ p limit g. read p limit (through gap g)

-- how many images a save leaves
abbrev pub images_of_save : Option (List ℕ) → Bool → ℕ
images_of_save (Some name) true = 1
images_of_save name due = 0

-- The device that is handed back is safe for the marks of the events; each restart is what the cut before it left; and
-- each cut left one image, and a save's one more.
pub record IsHandedBack {M : Type 0} (K : KindOf M) (o : Origin) (gap cycles : ℕ) (events : List Event) (saved : ℕ)
    (n : Device) : Type 0 where
  pub safe_at_return : IsSafe (read_through gap K.decode) o (marks_of o events) n
  pub restarts_decode : AllFit (read_through gap K.decode o.geometry ceiling) (HasLeft cycles) (found_at_start o) events
      (take (length (cuts_among events)) n.left)
  pub images : length n.left ≡ length (cuts_among events) + saved

-- what a save put on the shelf is what the image is to the run that it left; and without one the shelf is left alone
abbrev pub PutsThrough : ℕ → Option (List ℕ) → Bool → Device → Stock → Stock → Option PutError → Type 0
PutsThrough gap (Some name) true left old new why = IsPut name (flat (through gap left.image)) old new why
PutsThrough gap name due left old new why = (new ≡ old) × (why ≡ None)
