-- The program's events, with the plain machine's states.
use Rattle.thy_block.specs.Bytes.{bytes_of}
use Rattle.thy_isa.specs.Step.{state_of}
use Rattle.thy_text.specs.declared.event.Event.{Event as RustEvent}
use Rattle.thy_text.specs.declared.event.Event.TheVariants.{Scheme as RustScheme, EpochEnd as RustEpochEnd, Commit as RustCommit, Cut as RustCut, Restart as RustRestart, Reload as RustReload, Ended as RustEnded}
use Rattle.thy_text.specs.Event.{Event, Scheme, EpochEnd, Commit, Cut, Restart, Reload, Ended}

-- an event of the program
abbrev pub event_of : RustEvent → Event
event_of (RustScheme number) = Scheme number
event_of (RustEpochEnd epoch count cause turns) = EpochEnd epoch count cause (bytes_of turns)
event_of (RustCommit epoch cycle overlapped) = Commit epoch cycle overlapped
event_of (RustCut index cycle) = Cut index cycle
event_of (RustRestart epoch count state) = Restart epoch count (state_of state)
event_of RustReload = Reload
event_of (RustEnded status count cycle state) = Ended status count cycle (state_of state)
