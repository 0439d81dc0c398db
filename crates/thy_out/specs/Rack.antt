-- A shelf in memory.
use Rattle.std.specs.Prelude.{ℕ, if◌then◌else◌, List, [], ◌∷◌, Option, None, Some, bytes_eq, map, string_bytes, String, Vec}
use Rattle.std.specs.declared.alloc.Global.{Global}
use Rattle.thy_block.specs.Counts.{next}
use Rattle.thy_block.specs.Outside.{Stock}
use Rattle.thy_out.specs.Counts.{is_listed}

-- the files, each a name and its bytes; the calls so far, those that fail, the faults
pub record Rack : Type 0 where
  pub files : List (List ℕ × List ℕ)
  pub calls : ℕ
  pub failing : List ℕ
  pub faults : ℕ

-- the bytes of the first file of this name
abbrev pub found : List (List ℕ × List ℕ) → List ℕ → Option (List ℕ)
found [] name = None
found (file ∷ files) name = if bytes_eq file.0 name then Some file.1 else found files name

-- what is known of a rack: its contents, but not under which names calls failed, since recording a name would allocate
abbrev pub stock_of : Rack → Stock
stock_of rack = record { held = Some (found rack.files); failed = None; faults = rack.faults }

-- the rack after a call
abbrev pub called : Rack → Rack
called rack = record rack {
  calls = next rack.calls;
  faults = if is_listed rack.failing rack.calls then next rack.faults else rack.faults;
}

-- names and bytes as lists
abbrev pub entries : List (String Global × Vec ℕ Global) → List (List ℕ × List ℕ)
entries files = map (λ file. (string_bytes file.0, file.1.items)) files
