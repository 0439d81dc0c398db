-- Part of the claim.
-- A run: its cycles, the power cuts between them, and the events that they give.
use Rattle.std.specs.Prelude.{◌≡◌, ℕ, zero, suc, ◌+◌, ◌-◌, ◌==◌, Bool, true, false, ◌&&◌, not, nat_lt, if◌then◌else◌, MatchBool, List, [], ◌∷◌, ◌++◌, length, slice_index, slice_index_or, take, drop, Option, None}
use Rattle.thy_base.specs.declared.config.Config.{Config}
use Rattle.thy_block.specs.declared.mark.Mark.{Mark}
use Rattle.thy_block.specs.declared.mix.Mix.{Mix}
use Rattle.thy_block.specs.Device.{Device, IsCut}
use Rattle.thy_block.specs.Mix.{mix_start, mix_pick, mix_next}
use Rattle.thy_block.specs.Places.{dram_blocks}
use Rattle.thy_dram.specs.Contents.{lost, fresh}
use Rattle.thy_layout.specs.Decoded.{Decoded}
use Rattle.thy_computer.specs.Kind.{KindOf, IsStep}
use Rattle.thy_text.specs.declared.reporting.Reporting.{Reporting}
use Rattle.thy_text.specs.Event.{Event, EpochEnd, Commit, Cut, Restart, Reload, Ended}
use Rattle.thy_computer.specs.declared.did.Did.{Did}
use Rattle.thy_computer.specs.declared.did.Did.TheVariants.{Loaded, Restarted, Retired, Sealed, Committed}
use Rattle.thy_computer.specs.declared.did.Stepped.{Stepped}
use Rattle.thy_computer.specs.declared.view.View.{View}
use Rattle.thy_computer.specs.Booting.{first_view, view_of_image}
use Rattle.thy_computer.specs.Views.{loads, halts, is_halt}
use Rattle.thy_computer.specs.Origin.{Origin, at}
use Rattle.thy_computer.specs.Safe.{ceiling, Safe}
use Rattle.thy_computer.specs.WithTurns.{with_turns, AgreeBelow, count_of, reach}

-- a run between two cycles
pub record World (M : Type 0) : Type 0 where
  pub machine : M
  pub device : Device
  -- the schedule of the cycles that are to come
  pub mix : Mix
  -- how many cuts have fallen
  pub passed : ℕ
  -- how many cycles are done
  pub cycles : ℕ
  -- no cycle was done since the latest cut
  pub fresh : Bool
  pub events : List Event
  -- the harts that retired the instructions up to the machine's state, as far as they are reported
  pub turns : List ℕ

-- the run with the turns reported so far
abbrev pub line : {M : Type 0} → Origin → World M → Origin
line o w = with_turns o w.turns

-- what the machine shows
abbrev pub seen : {M : Type 0} → KindOf M → Origin → World M → View
seen K o w = K.view (line o w) w.machine w.device

-- ---- turns

-- the turns reported once a cycle did this: with two harts the turn of an instruction which retired is added
abbrev pub turns_after : ℕ → List ℕ → Did → List ℕ
turns_after harts turns (Retired hart) = if harts == 1 then turns else turns ++ hart ∷ []
turns_after harts turns did = turns

-- the turns that are kept by a cut whose image means this: those up to the checkpoint that is found
abbrev pub turns_kept : Origin → List ℕ → Decoded → List ℕ
turns_kept o turns d = take (reach (view_of_image o.start.count d) - o.start.count) turns

-- a run's turns after a committed checkpoint
abbrev pub turns_behind : Origin → Option Mark → List ℕ
turns_behind o done = drop (count_of done - o.start.count) o.turns

-- ---- events

-- the event of what a cycle did from this view; an epoch's end reports the turns after the committed checkpoint
abbrev pub did_events : Origin → View → Did → ℕ → List Event
did_events o v Loaded cycle = Commit 0 cycle 0 ∷ []
did_events o v (Restarted epoch count) cycle = Restart epoch count (at o count) ∷ []
did_events o v (Sealed epoch count cause) cycle = EpochEnd epoch count cause (turns_behind o v.done) ∷ []
did_events o v (Committed epoch overlapped) cycle = Commit epoch cycle overlapped ∷ []
did_events o v did cycle = []

-- the first cycle after a cut reports that the file is loaded again
abbrev pub reload_events : Bool → View → List Event
reload_events fresh next = if fresh && loads next then Reload ∷ [] else []

-- a cycle that halts reports the end
abbrev pub end_events : Origin → View → View → ℕ → List Event
end_events o v next cycle = if halts v next then Ended (at o next.count).status next.count cycle (at o next.count) ∷ [] else []

-- the events of a cycle
abbrev pub events_of : Origin → Bool → View → Did → View → ℕ → List Event
events_of o fresh v did next cycle = reload_events fresh next ++ did_events o v did cycle ++ end_events o v next cycle

-- ---- cycles

-- the world after a step, once these turns are reported
abbrev pub after_step : {M : Type 0} → KindOf M → Origin → World M → M → Device → List ℕ → Did → World M
after_step K o w m n turns did = record w {
  machine = m;
  device = n;
  mix = mix_next o.geometry.harts w.mix;
  cycles = w.cycles + 1;
  fresh = false;
  events = w.events ++ events_of (with_turns o turns) w.fresh (seen K o w) did (K.view (with_turns o turns) m n) (w.cycles + 1);
  turns = turns;
}

-- The machine takes the schedule's next step, along the turns that are reported once it is done. They agree with the
-- turns reported before up to the machine's state, and the machine shows the same.
pub record TakesStep {M : Type 0} (K : KindOf M) (o : Origin) (w next : World M) : Type 0 where
  pub r : Stepped
  pub going : is_halt (seen K o w).phase ≡ false
  pub turns_are : next.turns ≡ turns_after o.geometry.harts w.turns r.did
  pub agree : AgreeBelow (line o w) next.turns (reach (seen K o w))
  pub alike : K.view (line o next) w.machine w.device ≡ seen K o w
  pub is_step : IsStep K (line o next) w.cycles (mix_pick o.geometry.harts w.mix) w.machine next.machine w.device next.device r
  pub next_is : next ≡ after_step K o w next.machine next.device next.turns r.did

-- a cut falls after this cycle: the next listed one, and the run has not ended
abbrev pub is_due : {M : Type 0} → KindOf M → Origin → List ℕ → World M → Bool
is_due K o cuts w = not (is_halt (seen K o w).phase) && (nat_lt w.passed (length cuts) && slice_index cuts w.passed == w.cycles)

-- the world after a cut that keeps these turns
abbrev pub cut_off : {M : Type 0} → World M → M → Device → List ℕ → World M
cut_off w m n turns = record w {
  machine = m;
  device = n;
  passed = w.passed + 1;
  fresh = true;
  events = w.events ++ Cut (w.passed + 1) w.cycles ∷ [];
  turns = turns;
}

-- Power is cut, and comes on again: a new machine over the DRAM that the pick leaves of the old one's. It has read
-- nothing, and will restore what the device's image decodes to. The turns after that checkpoint are forgotten.
pub record IsCutOff {M : Type 0} (K : KindOf M) (o : Origin) (pick : ℕ) (w next : World M) : Type 0 where
  pub cut : IsCut pick w.device next.device
  pub powered : K.powered o.geometry next.machine
  pub dram : K.dram next.machine ≡ lost (K.dram w.machine) pick
  pub kept : next.turns ≡ turns_kept o w.turns (K.decode o.geometry ceiling next.device.image)
  pub at_moment : K.is_at (line o next) w.cycles next.machine next.device
  pub found : seen K o next ≡ view_of_image o.start.count (K.decode o.geometry ceiling next.device.image)
  pub next_is : next ≡ cut_off w next.machine next.device next.turns

-- the pick of a cut: the listed one, or 0 if none is listed
abbrev pub tear : List ℕ → ℕ → ℕ
tear tears i = slice_index_or tears i 0

-- one cycle: a step, and the cut that falls after it
pub record Cycle {M : Type 0} (K : KindOf M) (o : Origin) (cuts tears : List ℕ) (w next : World M) : Type 0 where
  pub between : World M
  pub steps : TakesStep K o w between
  pub cut : MatchBool (is_due K o cuts between) (IsCutOff K o (tear tears between.passed) between next) (next ≡ between)

-- What a run is given in addition to its program: its configuration, which lists the cuts and their picks and has the
-- schedule's seed, whether its report has digests of memory, and the device after its fit.
pub record Given : Type 0 where
  pub config : Config
  pub digest : Bool
  pub fitted : Device

-- how the events of a run are reported
abbrev pub reporting : Given → Reporting
reporting given = record { digest = given.digest; harts = given.config.harts }

-- power comes on for the first time, over a device that was fitted and a DRAM of zeros; no turn is reported yet
pub record IsFirst {M : Type 0} (K : KindOf M) (o : Origin) (given : Given) (w : World M) : Type 0 where
  pub unlisted : w.turns ≡ []
  pub device : w.device ≡ given.fitted
  pub powered : K.powered o.geometry w.machine
  pub dram : K.dram w.machine ≡ fresh (dram_blocks o.geometry) o.geometry.dramq
  pub at_moment : K.is_at (line o w) 0 w.machine w.device
  pub found : seen K o w ≡ first_view o
  pub safe : Safe K.decode (line o w) (first_view o).done None w.device
  pub left : w.device.left ≡ []
  pub picks : w.device.picks ≡ []
  pub empty : w.device.queue ≡ []
  pub mix : w.mix ≡ mix_start given.config.mix
  pub passed : w.passed ≡ 0
  pub cycles : w.cycles ≡ 0
  pub fresh : w.fresh ≡ false
  pub events : w.events ≡ []

-- a world after k cycles from the first
abbrev pub Ran : {M : Type 0} → KindOf M → Origin → Given → ℕ → World M → Type 0
Ran K o given zero w = IsFirst K o given w
Ran {M = M} K o given (suc k) w = (before : World M) × Ran K o given k before × Cycle K o given.config.cuts given.config.tears before w
