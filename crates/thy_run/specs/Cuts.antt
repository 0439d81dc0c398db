-- Part of the claim.
-- The listed cuts as events.
use Rattle.std.specs.Prelude.{ℕ, ◌+◌, ◌-◌, Bool, true, false, nat_le, if◌then◌else◌, List, [], ◌∷◌, filter, take_while}
use Rattle.std.specs.List.{list_any}
use Rattle.thy_text.specs.Event.{Event, Cut, Ended}

abbrev pub is_cut : Event → Bool
is_cut (Cut index cycle) = true
is_cut event = false

abbrev pub is_end : Event → Bool
is_end (Ended status count cycle state) = true
is_end event = false

-- the run has ended
abbrev pub has_ended : List Event → Bool
has_ended events = list_any is_end events

-- the cuts among events
abbrev pub cuts_among : List Event → List Event
cuts_among events = filter is_cut events

-- cuts after these cycles, numbered from an index on
abbrev pub numbered : ℕ → List ℕ → List Event
numbered index [] = []
numbered index (cycle ∷ cycles) = Cut index cycle ∷ numbered (index + 1) cycles

-- the last cycle after which a cut may have fallen: no cut falls after the cycle that ended the run
abbrev pub last_cuttable : List Event → ℕ → ℕ
last_cuttable events cycles = if has_ended events then cycles - 1 else cycles

-- the listed cuts up to a cycle
abbrev pub cuts_up_to : ℕ → List ℕ → List ℕ
cuts_up_to cycle cuts = take_while (λ c. nat_le c cycle) cuts
