use Rattle.std.proofs.Common.{◌≡◌, ◌-◌, ◌++◌, length, drop, map}
use Rattle.thy_sweep.specs.Choices.{place_in, places_from, places_of}
use Rattle.thy_sweep.proofs.choices.Choices.of.Given as goal

-- the places so far, and those from here on
abbrev pub invariant-places : goal.invariant-places
invariant-places l = let n = l.nvm.device in map place_in l.places.items ++ places_from l.from (drop l.from n.image) n.queue ≡ places_of n

abbrev pub decreases-places : goal.decreases-places
decreases-places l = length l.nvm.device.image - l.from
