-- The cycles in which events were made, and how many instructions were retired by then.
use Rattle.std.specs.Prelude.{ℕ, ◌+◌, ◌==◌, ◌<◌, if◌then◌else◌, Bool, Option, Some, None, List, [], ◌∷◌, ◌++◌}
use Rattle.thy_computer.specs.declared.did.Did.{Did}
use Rattle.thy_computer.specs.declared.did.Did.TheVariants.{Loaded, Restarted, Retired}
use Rattle.thy_run.specs.Watching.{Taken}
use Rattle.thy_observe.specs.declared.event_cycle.EventCycle.{EventCycle}
use Rattle.thy_observe.specs.declared.event_cycle.RetiredCount.{RetiredCount}

-- one instruction more is retired
abbrev pub further : Option RetiredCount → Option RetiredCount
further None = None
further (Some p) = Some (record { from = p.from; since = p.since + 1 })

-- the count after a step: what is loaded begins with no instruction retired, and what is restored with the count that
-- it has
abbrev pub retired_after_step : Option RetiredCount → Did → Option RetiredCount
retired_after_step retired Loaded = Some (record { from = 0; since = 0 })
retired_after_step retired (Restarted epoch count) = Some (record { from = count; since = 0 })
retired_after_step retired (Retired hart) = further retired
retired_after_step retired did = retired

-- the count after the cut that may fall after a step: none, as a boot follows
abbrev pub retired_after_cut : Option RetiredCount → Bool → Option RetiredCount
retired_after_cut retired fell = if fell then None else retired

-- how many instructions are retired after these cycles
abbrev pub retired_after : Option RetiredCount → List Taken → Option RetiredCount
retired_after retired [] = retired
retired_after retired (t ∷ seen) = retired_after (retired_after_cut (retired_after_step retired t.stepped.did) t.fell) seen

-- a cycle by its number and how many events it made; none if it made no events
abbrev pub event_cycle_of : ℕ → Option RetiredCount → Taken → List EventCycle
event_cycle_of cycle retired t =
    if t.reported == 0 then [] else record { cycle = cycle; retired = retired_after_step retired t.stepped.did; reported = t.reported; fell = t.fell } ∷ []

-- the cycles among these that made events, if the first has this number
abbrev pub event_cycles_from : ℕ → Option RetiredCount → List Taken → List EventCycle
event_cycles_from cycle retired [] = []
event_cycles_from cycle retired (t ∷ seen) =
    event_cycle_of cycle retired t ++ event_cycles_from (cycle + 1) (retired_after_cut (retired_after_step retired t.stepped.did) t.fell) seen

-- fewer instructions were retired than this since it began or was restored
abbrev pub IsShort : Option RetiredCount → ℕ → Type 0
IsShort None limit = Unit {0}
IsShort (Some p) limit = p.since < limit
