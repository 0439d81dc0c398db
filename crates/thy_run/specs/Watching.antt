-- What an observer of a run sees: its done cycles, one after another.
use Rattle.std.specs.Prelude.{◌≡◌, ℕ, zero, suc, ◌+◌, ◌-◌, Bool, true, List, [], ◌∷◌, ◌++◌, length}
use Rattle.thy_computer.specs.declared.did.Stepped.{Stepped}
use Rattle.thy_computer.specs.Kind.{KindOf}
use Rattle.thy_computer.specs.Origin.{Origin}
use Rattle.thy_run.specs.World.{World, Given, Cycle, IsFirst, is_due}

-- a done cycle: what it did, how many events were made in it, and whether a cut fell after it
pub record Taken : Type 0 where
  pub stepped : Stepped
  pub reported : ℕ
  pub fell : Bool

abbrev pub taken : Stepped → ℕ → Bool → Taken
taken stepped reported fell = record { stepped = stepped; reported = reported; fell = fell }

-- a cycle of a run
abbrev pub taken_in : {M : Type 0} (K : KindOf M) (o : Origin) (cuts tears : List ℕ) (w next : World M)
    → Cycle K o cuts tears w next → Taken
taken_in K o cuts tears w next c =
    taken c.steps.r (length next.events - length w.events) (is_due K o cuts c.between)

-- the cycles of a run up to this world
abbrev pub IsListed : {M : Type 0} → KindOf M → Origin → Given → ℕ → World M → List Taken → Type 0
IsListed K o given zero w seen = IsFirst K o given w × (seen ≡ [])
IsListed {M = M} K o given (suc k) w seen =
    (before : World M) × (earlier : List Taken) × (c : Cycle K o given.config.cuts given.config.tears before w)
    × IsListed K o given k before earlier
    × (seen ≡ earlier ++ taken_in K o given.config.cuts given.config.tears before w c ∷ [])

-- ---- what an observer is asked

-- an observer may see the cycle of this number: it has seen all before
abbrev pub CanSee : {O : Type 0} → (O → List Taken → Type 0) → O → ℕ → Type 0
CanSee has_seen o cycle = (seen : List Taken) × has_seen o seen × (cycle ≡ length seen + 1)

-- the observer may see the cycle of the step that it keeps: it has seen all before
abbrev pub CanSeeCut : {O : Type 0} → (O → List Taken → Stepped → Type 0) → O → ℕ → Type 0
CanSeeCut keeps o cycle = (seen : List Taken) × (r : Stepped) × keeps o seen r × (cycle ≡ length seen + 1)

-- an observer has seen one more cycle
abbrev pub Sees : {O : Type 0} → (O → List Taken → Type 0) → O → O → Taken → Type 0
Sees has_seen old new t = (seen : List Taken) → has_seen old seen → has_seen new (seen ++ t ∷ [])

-- an observer keeps a step, after which a cut falls
abbrev pub Keeps : {O : Type 0} → (O → List Taken → Type 0) → (O → List Taken → Stepped → Type 0) → O → O → Stepped → Type 0
Keeps has_seen keeps old new r = (seen : List Taken) → has_seen old seen → keeps new seen r

-- an observer has seen the cycle of this step, after which the cut fell
abbrev pub SeesCutAfter : {O : Type 0} → (O → List Taken → Type 0) → (O → List Taken → Stepped → Type 0) → O → O → ℕ → Type 0
SeesCutAfter has_seen keeps old new reported =
    (seen : List Taken) (r : Stepped) → keeps old seen r → has_seen new (seen ++ taken r reported true ∷ [])

-- an observer forgets the step: the cycle is not done
abbrev pub Forgets : {O : Type 0} → (O → List Taken → Type 0) → (O → List Taken → Stepped → Type 0) → O → O → Type 0
Forgets has_seen keeps old new = (seen : List Taken) (r : Stepped) → keeps old seen r → has_seen new seen
