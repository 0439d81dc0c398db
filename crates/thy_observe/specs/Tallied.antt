-- What the tally of cycles is.
use Rattle.std.specs.Prelude.{◌≡◌, ℕ, ◌<◌, false, List, [], Some, None, length, slice_index_or, count_by}
use Rattle.thy_run.specs.Watching.{Taken}
use Rattle.thy_computer.specs.declared.did.Stepped.{Stepped}
use Rattle.thy_observe.specs.declared.tally.Tally.{Tally}
use Rattle.thy_observe.specs.Kinds.{how_many, has_waited}
use Rattle.thy_observe.specs.EventCycles.{event_cycles_from, retired_after}
use Rattle.thy_observe.specs.Shares.{nobodys, shares_after}

-- A tally has these cycles: how many they are, how many are of each kind, how many the engine took at the turn of the
-- hart, the count after them, and what each hart did. It also has the cycles that made events, which are lost if memory
-- ran out for one; if no event was made none is lost.
pub record IsTally (t : Tally) (seen : List Taken) : Type 0 where
  pub cycles : t.cycles ≡ length seen
  pub kinds : length t.kinds ≡ 17
  pub counts : (i : ℕ) → i < 17 → slice_index_or t.kinds i 0 ≡ how_many i seen
  pub waiting : t.waiting ≡ count_by has_waited seen
  pub retired : t.retired ≡ retired_after None seen
  pub shares : t.shares ≡ shares_after nobodys seen
  pub event_cycles : t.lost ≡ false → t.event_cycles.items ≡ event_cycles_from 1 None seen
  pub whole : event_cycles_from 1 None seen ≡ [] → t.lost ≡ false

-- a tally has these cycles, and keeps the step of the next one
abbrev pub KeepsTally : Tally → List Taken → Stepped → Type 0
KeepsTally t seen r = IsTally t seen × (t.kept ≡ Some r)
