-- Places of one device are distinguished by their numbers, and the places of the NVM lie between the slots of both versions.
use Rattle.std.proofs.Common.{rules}
use Rattle.thy_table.specs.Places.{NumbersNamePlaces, PlacesAreBetweenSlots}

pub numbers_name : NumbersNamePlaces
numbers_name p x y l m d e = search rules

pub between_slots : PlacesAreBetweenSlots
between_slots p x l d = search rules
