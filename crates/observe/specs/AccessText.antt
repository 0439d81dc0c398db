-- The accesses to the NVM as a table, and what is asked for of it.
use Rattle.std.specs.Prelude.{ℕ, Bool, true, false, ◌||◌, not, is_none, unwrap_or, if◌then◌else◌, Option, Some, None, List, [], ◌∷◌, ◌++◌, codes}
use Rattle.std.specs.Fmt.{decimal}
use Rattle.std.specs.List.{flat_map}
use Rattle.std.specs.Str.{bytes_eq}
use Rattle.thy_observe.specs.declared.accesses.Accessed.{Accessed}
use Rattle.thy_observe.specs.declared.tracing.Window.{Window}
use Rattle.observe.specs.declared.options.Options.{Options}
use Rattle.observe.specs.CountText.{cause_name, tab}

-- ---- the name and the window

-- the name, if there is one, and the arguments that are left
abbrev pub Naming : Type 0
Naming = Option (List ℕ) × List (List ℕ)

abbrev pub is_accesses : List ℕ → Bool
is_accesses word = bytes_eq word (codes "--accesses")

abbrev pub name_by : Bool → (program word name : List ℕ) → List (List ℕ) → Naming
name_by true program word name rest = (Some name, program ∷ rest)
name_by false program word name rest = (None, program ∷ word ∷ name ∷ rest)

-- `--accesses` and a name are taken if they follow the program's name
abbrev pub name_in : List (List ℕ) → Naming
name_in (program ∷ word ∷ name ∷ rest) = name_by (is_accesses word) program word name rest
name_in words = (None, words)

-- the cycles whose accesses are asked for: if no bound is given, all
abbrev pub cycles_of : Options → Window
cycles_of o = record { first = unwrap_or o.accesses_from 1; last = o.accesses_to }

-- a first or a last cycle of the accesses is given
abbrev pub has_cycle : Options → Bool
has_cycle o = not (is_none o.accesses_from) || not (is_none o.accesses_to)

-- ---- the table

abbrev pub way_name : (writes : Bool) → List ℕ
way_name writes = if writes then codes "write" else codes "read"

-- the row of an access: the cycle, the device, how a block is accessed, its place, and why
abbrev pub access_row : Accessed → List ℕ
access_row a =
    decimal a.cycle ++ (codes "\tnvm\t" ++ (way_name a.writes ++ (tab ++ (decimal a.at ++ (tab ++ (cause_name a.cause ++ codes "\n"))))))

-- a row for each access, or for none
abbrev pub access_rows : List Accessed → List ℕ
access_rows [] = codes "none\n"
access_rows (a ∷ rows) = flat_map access_row (a ∷ rows)

-- the first line: the names of the columns
abbrev pub access_head : List ℕ
access_head = codes "cycle\tdevice\taccess\tplace\tcause\n"

abbrev pub table_text : List Accessed → List ℕ
table_text rows = access_head ++ access_rows rows
