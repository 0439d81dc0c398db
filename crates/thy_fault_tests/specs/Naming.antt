-- A shelf in memory that also records under which names its calls failed.
use Rattle.std.specs.Prelude.{ℕ, List, Some, map, string_bytes, String}
use Rattle.std.specs.declared.alloc.Global.{Global}
use Rattle.thy_block.specs.Outside.{Stock}
use Rattle.thy_out.specs.Rack.{Rack, found}

-- the bytes of each name
abbrev pub names_of : List (String Global) → List (List ℕ)
names_of names = map string_bytes names

-- what a rack holds and counts, with these names
abbrev pub naming : Rack → List (String Global) → Stock
naming rack failed = record { held = Some (found rack.files); failed = Some (names_of failed); faults = rack.faults }
