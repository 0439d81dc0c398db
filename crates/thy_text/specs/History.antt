-- Part of the claim.
-- The events of a call.
use Rattle.std.specs.Prelude.{List, [], ◌++◌}
use Rattle.thy_text.specs.Event.{Event}

-- the events of a call, in two lists: the events of the run that was begun last stand alone
pub record Recorded : Type 0 where
  pub earlier : List Event
  pub last : List Event

-- all events of a call, in order
abbrev pub all_of : Recorded → List Event
all_of h = h.earlier ++ h.last

-- the events of one run, or none
abbrev pub of_run : List Event → Recorded
of_run events = record { earlier = []; last = events }
