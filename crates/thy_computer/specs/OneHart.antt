-- With one hart.
use Rattle.std.specs.Prelude.{◌≡◌, ℕ, List, [], None}
use Rattle.thy_computer.specs.declared.did.Did.{Did}
use Rattle.thy_computer.specs.declared.view.View.{View}
use Rattle.thy_computer.specs.Origin.{Origin, at}
use Rattle.thy_computer.specs.WithTurns.{with_turns, IsThere, HasTurn}

-- if no turns are listed, whatever a cycle did has its turn
abbrev pub EachHasItsTurn : Type 0
EachHasItsTurn =
    (o : Origin) (v : View) (did : Did) → o.geometry.harts ≡ 1 → IsThere (with_turns o []) v did → HasTurn (with_turns o []) v did

-- turns do not matter: the plain machine is in the same state at each count
abbrev pub TurnsDontMatter : Type 0
TurnsDontMatter =
    (o : Origin) (turns : List ℕ) (k : ℕ) → o.start.other ≡ None → at (with_turns o turns) k ≡ at (with_turns o []) k
