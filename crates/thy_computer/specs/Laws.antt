-- What holds of the plain machine by turns, of how far views reach, and of the hart that retires an instruction.
use Rattle.std.specs.Prelude.{◌≡◌, ℕ, ◌-◌, ◌<◌, ◌≤◌, List, [], ◌∷◌, ◌++◌, length, Option, Some}
use Rattle.thy_block.specs.declared.mark.Mark.{Mark}
use Rattle.thy_block.specs.declared.mix.Pick.{Pick}
use Rattle.thy_block.specs.Device.{Device}
use Rattle.thy_isa.specs.Step.{steps}
use Rattle.thy_layout.specs.Decoded.{Reading}
use Rattle.thy_computer.specs.declared.did.Did.{Did}
use Rattle.thy_computer.specs.declared.did.Did.TheVariants.{Retired}
use Rattle.thy_computer.specs.declared.did.Stall.{Stall}
use Rattle.thy_computer.specs.declared.view.View.{View}
use Rattle.thy_computer.specs.CoreStep.{Retires, CoreStep}
use Rattle.thy_computer.specs.Pace.{retires}
use Rattle.thy_computer.specs.Origin.{Origin, setting_of, turn_at, at}
use Rattle.thy_computer.specs.Safe.{Safe}
use Rattle.thy_computer.specs.WithTurns.{with_turns, AgreeBelow, count_of, reach, IsThere, HasTurn}
use Rattle.thy_computer.specs.NextActor.{Pressure, NextActor}

-- turns that agree below a count lead to one state at it
abbrev pub TurnsLeadTo : Type 0
TurnsLeadTo = (o : Origin) (turns : List ℕ) (k : ℕ) → AgreeBelow o turns k → at (with_turns o turns) k ≡ at o k

-- with turns that agree below both marks' counts what is safe is safe
abbrev pub StaysSafe : Type 0
StaysSafe =
    (read : Reading) (o : Origin) (turns : List ℕ) (k : ℕ) (kept sealed : Option Mark) (n : Device)
    → count_of kept ≤ k → count_of sealed ≤ k → AgreeBelow o turns k → Safe read o kept sealed n → Safe read (with_turns o turns) kept sealed n

-- while each turn is hart 0's, the plain machine takes one step after another
abbrev pub HartZeroSteps : Type 0
HartZeroSteps =
    (o : Origin) (k : ℕ) → ((j : ℕ) → j < k → turn_at o j ≡ 0) → at o k ≡ steps (setting_of o) (k - o.start.count) o.start

-- while each turn is hart 0's, the plain machine takes one step after another, also if no turns are listed
abbrev pub StepsWithoutTurns : Type 0
StepsWithoutTurns = (o : Origin) (k : ℕ) → at (with_turns o []) k ≡ steps (setting_of o) (k - o.start.count) o.start

-- the view after a step reaches at least as far as the view before it
abbrev pub StepsReach : Type 0
StepsReach = (o : Origin) (v next : View) (did : Did) → CoreStep o v did next → reach v ≤ reach next

-- after an instruction was retired the view reaches further than the count before it
abbrev pub RetiresReach : Type 0
RetiresReach = (o : Origin) (v next : View) (hart : ℕ) → Retires o hart v next → v.count < reach next

-- a step that retires no instruction leads to a view that reaches no further from the start
abbrev pub StaysThere : Type 0
StaysThere =
    (o : Origin) (v next : View) (did : Did)
    → CoreStep o v did next → retires did ≡ 0 → reach next - o.start.count ≡ reach v - o.start.count

-- Turns that list those up to a count, and one more, give this one at the count, and agree below it with those listed
-- before.
abbrev pub LastHasItsTurn : Type 0
LastHasItsTurn =
    (o : Origin) (turns : List ℕ) (hart k : ℕ) → o.start.count ≤ k → length turns ≡ k - o.start.count
    → (turn_at (with_turns o (turns ++ hart ∷ [])) k ≡ hart) × AgreeBelow (with_turns o turns) (turns ++ hart ∷ []) k

-- whatever a cycle did, some turns that agree so far give it its hart
abbrev pub FindsTurns : Type 0
FindsTurns =
    (o : Origin) (v : View) (did : Did) → IsThere o v did
    → (turns : List ℕ) × AgreeBelow o turns (reach v) × HasTurn (with_turns o turns) v did

-- With two harts an instruction is retired by the hart that began it. Until then it stays begun (HandsOn). So all moves
-- since the last retirement, the last seal, or since power came on, are made by the hart that retires the next one.
abbrev pub BegunIsRetired : Type 0
BegunIsRetired =
    (o : Origin) (pick : Pick) (nvm : ℕ) (v : View) (p : Pressure) (begun hart : ℕ) (stall : Option Stall)
    → o.geometry.harts ≡ 2 → p.begun ≡ Some begun → NextActor o pick nvm v p (Retired hart) stall → hart ≡ begun
