-- Part of the claim.
-- A run with other turns: how far two agree, and how far what is seen of a machine speaks of them.
use Rattle.std.specs.Prelude.{◌≡◌, ℕ, ◌<◌, ◌≤◌, List, Option, Some, None}
use Rattle.thy_block.specs.declared.mark.Mark.{Mark}
use Rattle.thy_computer.specs.declared.did.Did.{Did}
use Rattle.thy_computer.specs.declared.did.Did.TheVariants.{Retired}
use Rattle.thy_computer.specs.declared.view.Phase.{Phase}
use Rattle.thy_computer.specs.declared.view.Phase.TheVariants.{Boot, Run, Halt}
use Rattle.thy_computer.specs.declared.view.View.{View}
use Rattle.thy_computer.specs.Origin.{Origin, turn_at}

-- a run with other turns
abbrev pub with_turns : Origin → List ℕ → Origin
with_turns o turns = record o { turns = turns }

-- two lists of turns give the same hart at each count below one
abbrev pub AgreeBelow : Origin → List ℕ → ℕ → Type 0
AgreeBelow o turns k = (j : ℕ) → j < k → turn_at (with_turns o turns) j ≡ turn_at o j

-- the count of a mark, if there is one
abbrev pub count_of : Option Mark → ℕ
count_of None = 0
count_of (Some m) = m.count

-- how far a view speaks of the plain machine: to its count, and in a boot to the count of the checkpoint found
abbrev pub reach_in : Phase → View → ℕ
reach_in Boot v = count_of v.done
reach_in Run v = v.count
reach_in Halt v = v.count

abbrev pub reach : View → ℕ
reach v = reach_in v.phase v

-- A hart that retired an instruction is one of those that there are. It did so after the boot, at a count not below
-- the start's.
pub record IsAtWork (o : Origin) (v : View) (hart : ℕ) : Type 0 where
  pub there : hart < o.geometry.harts
  pub runs : v.phase ≡ Run
  pub late : o.start.count ≤ v.count

abbrev pub IsThere : Origin → View → Did → Type 0
IsThere o v (Retired hart) = IsAtWork o v hart
IsThere o v did = Unit {0}

-- the run gives an instruction that was retired to the hart that retired it
abbrev pub HasTurn : Origin → View → Did → Type 0
HasTurn o v (Retired hart) = turn_at o v.count ≡ hart
HasTurn o v did = Unit {0}
