-- What a run's cycles made of the program's state: the start is loaded, a checkpoint restored, an instruction retired, or the
-- state is lost at a cut.
use Rattle.std.specs.Prelude.{◌≡◌, ℕ, ◌+◌, Bool, true, false, List, [], ◌∷◌, ◌++◌, length, map, Option, Some, None, IfSome, is_some, Vec}
use Rattle.std.specs.List.{flat_map}
use Rattle.std.specs.declared.alloc.Global.{Global}
use Rattle.thy_computer.specs.declared.did.Did.{Did}
use Rattle.thy_computer.specs.declared.did.Did.TheVariants as did
use Rattle.thy_computer.specs.declared.did.Stepped.{Stepped}
use Rattle.thy_run.specs.Watching.{Taken}
use Rattle.thy_observe.specs.declared.changes.Change.{Change}
use Rattle.thy_observe.specs.declared.changes.Change.TheVariants.{Loaded, Restored, Retired, Lost}
use Rattle.thy_observe.specs.declared.changes.Changes.{Changes}
use Rattle.thy_observe.specs.declared.changes.Dated.{Dated}

-- what a step that did this made of the program's state, if anything
abbrev pub change_of : Did → Option Change
change_of did.Loaded = Some Loaded
change_of (did.Restarted epoch count) = Some (Restored count)
change_of (did.Retired hart) = Some (Retired hart)
change_of d = None

abbrev pub as_list : Option Change → List Change
as_list None = []
as_list (Some change) = change ∷ []

-- what the cut that may fall after a step made of the program's state
abbrev pub lost_in : Bool → List Change
lost_in true = Lost ∷ []
lost_in false = []

abbrev pub changes_in : Taken → List Change
changes_in t = as_list (change_of t.stepped.did) ++ lost_in t.fell

-- the changes that these cycles made of the program's state, in order
abbrev pub changes_of : List Taken → List Change
changes_of seen = flat_map changes_in seen

-- ---- with the number of the cycle

-- a change in the cycle of this number
abbrev pub dated : ℕ → Change → Dated
dated cycle change = record { cycle = cycle; change = change }

-- what these cycles made of the program's state, each change with its cycle, if the first cycle has this number
abbrev pub dated_from : ℕ → List Taken → List Dated
dated_from cycle [] = []
dated_from cycle (t ∷ seen) = map (dated cycle) (changes_in t) ++ dated_from (cycle + 1) seen

abbrev pub dated_of : List Taken → List Dated
dated_of seen = dated_from 1 seen

-- these changes were added to a list, if there was one and still is
abbrev pub Adds : Option (Vec Dated Global) → Option (Vec Dated Global) → List Dated → Type 0
Adds old new more = (before : List Dated) → IfSome old (λ v. v.items ≡ before) → IfSome new (λ v. v.items ≡ before ++ more)

-- the number of these cycles is counted, and what is listed is what they made of the state
abbrev pub AreChanges : Changes → List Taken → Type 0
AreChanges c seen = (c.cycles ≡ length seen) × IfSome c.listed (λ v. v.items ≡ dated_of seen)

-- changes are listed: that is wanted, and memory has not run out for one
abbrev pub lists_changes : Changes → Bool
lists_changes c = is_some c.listed

-- these cycles are listed, and the step of the next one is kept
abbrev pub KeepsChanges : Changes → List Taken → Stepped → Type 0
KeepsChanges c seen r = AreChanges c seen × (c.kept ≡ Some r)
