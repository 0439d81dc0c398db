-- The lines of a run's events, and how many instructions it lost at power cuts.
use Rattle.std.specs.Prelude.{◌≡◌, ℕ, ◌+◌, ◌-◌, ◌^◌, min, List, [], ◌∷◌, ◌++◌, length, take, drop, map, Option, Some, None, unwrap_or, codes}
use Rattle.std.specs.Fmt.{decimal}
use Rattle.std.specs.List.{flat_map}
use Rattle.thy_run.specs.Watching.{Taken}
use Rattle.thy_text.specs.declared.reporting.Reporting.{Reporting}
use Rattle.thy_text.specs.Event.{Event, Scheme, Cut, Restart, Reload}
use Rattle.thy_text.specs.Lines.{line_of}
use Rattle.thy_observe.specs.declared.event_cycle.EventCycle.{EventCycle}
use Rattle.thy_observe.specs.declared.event_cycle.RetiredCount.{RetiredCount}
use Rattle.thy_observe.specs.EventCycles.{event_cycles_from, retired_after}
use Rattle.observe.specs.declared.lines.Losses.{Losses}
use Rattle.observe.specs.declared.lines.Stamp.{Stamp}

-- a sum that saturates at the last value of a 64-bit number
abbrev pub plus : ℕ → ℕ → ℕ
plus a b = min (a + b) (2 ^ 64 - 1)

-- ---- how many instructions are retired at an event

-- the count of instructions at an event: none in a boot
abbrev pub count_at : Option RetiredCount → Option ℕ
count_at None = None
count_at (Some r) = Some (plus r.from r.since)

-- A restart has its own count, and what is loaded, also again, has none yet. All other events have the count after the step of
-- their cycle.
abbrev pub count_in : Event → Option RetiredCount → Option ℕ
count_in (Scheme number) retired = Some 0
count_in (Restart epoch count state) retired = Some count
count_in Reload retired = Some 0
count_in (Cut index cycle) retired = count_at retired
count_in event retired = Some (unwrap_or (count_at retired) 0)

-- ---- the events with their cycles

-- an event, with its cycle and the count after the cycle's step
pub record Stamped : Type 0 where
  pub stamp : Stamp
  pub event : Event

abbrev pub made_in : Stamp → Event → Stamped
made_in stamp event = record { stamp = stamp; event = event }

abbrev pub stamp_of : EventCycle → Stamp
stamp_of c = record { cycle = c.cycle; retired = c.retired }

-- the events of these cycles, in order; those that are left were made in the cycle that was broken off
abbrev pub stamped : (broken : Stamp) → List EventCycle → List Event → List Stamped
stamped broken [] events = map (made_in broken) events
stamped broken (c ∷ cycles) events = map (made_in (stamp_of c)) (take c.reported events) ++ stamped broken cycles (drop c.reported events)

-- the cycle that was broken off comes after all that are done, and has the count before its step
abbrev pub broken_after : List Taken → Stamp
broken_after seen = record { cycle = plus (length seen) 1; retired = retired_after None seen }

-- the events of a run with these cycles
abbrev pub events_of : List Taken → List Event → List Stamped
events_of seen events = stamped (broken_after seen) (event_cycles_from 1 None seen) events

-- ---- their lines

abbrev pub count_cell : Option ℕ → List ℕ
count_cell None = codes "-"
count_cell (Some count) = decimal count

-- the cycle and the count, before the line of an event
abbrev pub stamp_cells : ℕ → Option ℕ → List ℕ
stamp_cells cycle count = decimal cycle ++ (codes " " ++ (count_cell count ++ codes " "))

-- the line of an event: cycle and count, and then its line in the report
abbrev pub event_line : Reporting → Stamped → List ℕ
event_line reporting s = stamp_cells s.stamp.cycle (count_in s.event s.stamp.retired) ++ line_of reporting s.event

abbrev pub lines_of : Reporting → List Stamped → List ℕ
lines_of reporting ss = flat_map (event_line reporting) ss

-- ---- how many instructions are lost at power cuts

-- a cut outside a boot, at this count
abbrev pub cut_at : Losses → Option ℕ → Losses
cut_at l None = l
cut_at l (Some count) = record { at = Some count; lost = l.lost }

-- a run goes on from this count: what it had more at the cut before, if there was one, is lost
abbrev pub back_to : Option ℕ → Losses → Option ℕ → Losses
back_to (Some at) l (Some count) = record { at = None; lost = plus l.lost (at - count) }
back_to at l count = l

-- what was lost, after an event of this count: a cut, a restart, or a file that is loaded again
abbrev pub lost_by : Losses → Event → Option ℕ → Losses
lost_by l (Cut index cycle) count = cut_at l count
lost_by l (Restart epoch at state) count = back_to l.at l count
lost_by l Reload count = back_to l.at l count
lost_by l event count = l

abbrev pub lost_in : Losses → Stamped → Losses
lost_in l s = lost_by l s.event (count_in s.event s.stamp.retired)

-- what was lost, after these events
abbrev pub losses_of : Losses → List Stamped → Losses
losses_of l [] = l
losses_of l (s ∷ ss) = losses_of (lost_in l s) ss

abbrev pub no_losses : Losses
no_losses = record { at = None; lost = 0 }

-- ---- both

-- To a text and to what was lost before, the lines of these events were added, and what is lost by them.
pub record HasAdded (reporting : Reporting) (ss : List Stamped) (text : List ℕ) (losses : Losses) (next : List ℕ) (after : Losses) : Type 0 where
  pub lines : next ≡ text ++ lines_of reporting ss
  pub lost : after ≡ losses_of losses ss
