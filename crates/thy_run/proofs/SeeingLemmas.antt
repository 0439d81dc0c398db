-- What an observer of the loop has seen.
use Rattle.std.proofs.Common.{◌≡◌, ℕ, suc, zero, ◌+◌, ◌-◌, Bool, true, None, List, [], ◌∷◌, ◌++◌, length, refl, sym, ◌∙◌, ap, subst, length-append, arith}
use Rattle.thy_block.specs.Device.{Device}
use Rattle.thy_block.specs.Outside.{Stream}
use Rattle.thy_computer.specs.declared.did.Stepped.{Stepped}
use Rattle.thy_computer.specs.Kind.{KindOf, IsLawful}
use Rattle.thy_computer.specs.Origin.{Origin}
use Rattle.thy_run.specs.declared.ending.Ending.{Ending}
use Rattle.thy_run.specs.declared.plan.Plan.{Plan}
use Rattle.thy_run.specs.declared.progress.Progress.{Progress}
use Rattle.thy_run.specs.Going.{origin_of, turns_then, given_of, world_at, IsDone, AwaitsCut, IsCutOffTo}
use Rattle.thy_run.specs.Rounds.{RunEndsAt}
use Rattle.thy_run.specs.Seeing.{Awaited, Watched, RunEndsSeen}
use Rattle.thy_run.specs.Watching.{Taken, taken, taken_in, IsListed, CanSee, CanSeeCut, Forgets, Keeps, Sees, SeesCutAfter}
use Rattle.thy_run.specs.World.{World, Given, IsFirst}
use Rattle.thy_run.proofs.AdvanceLemmas.{cut_turns, done_cut}

-- the number of listed cycles is the number of done ones
pub length-listed : {M : Type 0} (K : KindOf M) (o : Origin) (given : Given) (k : ℕ) (w : World M) (seen : List Taken)
    → IsListed K o given k w seen → length seen ≡ k
length-listed K o given zero w seen h = ap length h.1
length-listed K o given (suc k) w seen (before, earlier, c, h, is) =
    let n : length seen ≡ length earlier + 1 =
    ap length is ∙ length-append earlier (taken_in K o given.config.cuts given.config.tears before w c ∷ []) in
    let e : length earlier ≡ k = length-listed K o given k before earlier h in
    omega (arith, n, e)

-- an observer that has seen all done cycles may be asked to see the next
pub CanSee-watched : {M O : Type 0} (K : KindOf M) (has_seen : O → List Taken → Type 0) (plan : Plan) (fitted : Device) (p : Progress M)
    (n : Device) (k : ℕ) (turns : List ℕ) (o : O)
    → Watched K has_seen plan fitted p n k turns o → CanSee has_seen o (k + 1)
CanSee-watched K has_seen plan fitted p n k turns o (seen, listed, h) =
    let e : length seen ≡ k = length-listed K (origin_of plan) (given_of plan fitted) k (world_at p n k turns) seen listed in
    (seen, h, omega (arith, e))

-- an observer that has seen nothing has seen the cycles of a run before its first one
pub Watched-first : {M O : Type 0} (K : KindOf M) (has_seen : O → List Taken → Type 0) (plan : Plan) (p : Progress M) (n : Device) (o : O)
    → IsFirst K (origin_of plan) (given_of plan n) (world_at p n 0 []) → has_seen o [] → Watched K has_seen plan n p n 0 [] o
Watched-first K has_seen plan p n o first h = ([], (first, refl), h)

module _ {M O : Type 0} (K : KindOf M) (has_seen : O → List Taken → Type 0) (plan : Plan) (fitted : Device) where
  -- an observer has seen a done cycle too
  Listed-done : (p q : Progress M) (n m : Device) (k : ℕ) (turns after : List ℕ) (r : Stepped) (fell : Bool) (bytes : List ℕ)
      (reported : ℕ) (new : O)
      → IsDone K plan p q n m k turns after r fell bytes → reported ≡ length q.events - length p.events → (seen : List Taken)
      → IsListed K (origin_of plan) (given_of plan fitted) k (world_at p n k turns) seen
      → has_seen new (seen ++ taken r reported fell ∷ []) → Watched K has_seen plan fitted q m (k + 1) after new
  Listed-done p q n m k turns after r fell bytes reported new d many seen listed h =
      let now : Taken = taken_in K (origin_of plan) plan.config.cuts plan.config.tears (world_at p n k turns) (world_at q m (k + 1) after) d.cycle in
      let same : taken r reported fell ≡ now =
      ap (λ x. taken x reported fell) (sym d.by_step) ∙ ap (λ x. taken d.cycle.steps.r x fell) many
      ∙ ap (λ x. taken d.cycle.steps.r (length q.events - length p.events) x) (sym d.has_fallen) in
      let e : suc k ≡ k + 1 = omega arith in (
        seen ++ taken r reported fell ∷ [],
        subst (λ (j : ℕ). IsListed K (origin_of plan) (given_of plan fitted) j (world_at q m (k + 1) after) (seen ++ taken r reported fell ∷ [])) e
            (world_at p n k turns, seen, d.cycle, listed, ap (λ x. seen ++ x ∷ []) same),
        h,
      )

  pub Watched-done : (p q : Progress M) (n m : Device) (k : ℕ) (turns after : List ℕ) (r : Stepped) (fell : Bool) (bytes : List ℕ)
      (reported : ℕ) (old new : O)
      → IsDone K plan p q n m k turns after r fell bytes → reported ≡ length q.events - length p.events
      → Watched K has_seen plan fitted p n k turns old → Sees has_seen old new (taken r reported fell)
      → Watched K has_seen plan fitted q m (k + 1) after new
  Watched-done p q n m k turns after r fell bytes reported old new d many (seen, listed, h) sees =
      Listed-done p q n m k turns after r fell bytes reported new d many seen listed (sees seen h)

  -- the observer has seen the cycles of a run that ends where it has seen them
  pub RunEndsSeen-at : (new : Device) (e : Ending) (terminal shown report read : Stream) (p : Progress M) (n : Device) (k : ℕ)
      (turns : List ℕ) (o : O)
      → RunEndsAt K plan fitted new e terminal shown report read (world_at p n k turns) → e.cycles ≡ k
      → Watched K has_seen plan fitted p n k turns o → RunEndsSeen K has_seen plan fitted new e terminal shown report read o
  RunEndsSeen-at new e terminal shown report read p n k turns o (ends, last) cycles (seen, listed, h) = (
    ends,
    (
      seen,
      subst (λ (w : World M). IsListed K (origin_of plan) (given_of plan fitted) e.cycles w seen) (sym last)
          (subst (λ (j : ℕ). IsListed K (origin_of plan) (given_of plan fitted) j (world_at p n k turns) seen) (sym cycles) listed),
      h,
    ),
  )

-- if a cut is due after a cycle
module _ {M O : Type 0} (K : KindOf M) (has_seen : O → List Taken → Type 0) (keeps : O → List Taken → Stepped → Type 0) (plan : Plan)
    (fitted : Device) (p q : Progress M) (n m : Device) (k : ℕ) (turns : List ℕ) where
  -- an observer keeps the step of a cycle after which a cut falls
  pub Awaited-kept : (r : Stepped) (old new : O) → Watched K has_seen plan fitted p n k turns old → Keeps has_seen keeps old new r
      → Awaited K keeps plan fitted p n k turns r new
  Awaited-kept r old new (seen, listed, h) kept = (seen, listed, kept seen h)

  -- an observer that keeps a step may be asked to see the cycle of that step
  pub CanSeeCut-awaited : (r : Stepped) (o : O) → Awaited K keeps plan fitted p n k turns r o → CanSeeCut keeps o (k + 1)
  CanSeeCut-awaited r o (seen, listed, h) =
      let e : length seen ≡ k = length-listed K (origin_of plan) (given_of plan fitted) k (world_at p n k turns) seen listed in
      (seen, r, h, omega (arith, e))

  -- if the cut could not be made, it forgets the step
  pub Watched-forgotten : (r : Stepped) (old new : O) → Awaited K keeps plan fitted p n k turns r old → Forgets has_seen keeps old new
      → Watched K has_seen plan fitted p n k turns new
  Watched-forgotten r old new (seen, listed, h) forgets = (seen, listed, forgets seen r h)

-- an observer has seen the cycles of a run after a cut
pub Watched-cut : {M O : Type 0} (K : KindOf M) (laws : IsLawful K) (has_seen : O → List Taken → Type 0)
    (keeps : O → List Taken → Stepped → Type 0) (plan : Plan) (fitted : Device) (p q q' : Progress M) (n m m' : Device) (k : ℕ)
    (turns : List ℕ) (r : Stepped) (bytes : List ℕ)
    (reported first len : ℕ) (old new : O)
    → AwaitsCut K plan p q n m k turns r bytes → IsCutOffTo K plan q q' m m' (k + 1) → reported ≡ len - first → len ≡ length q'.events
    → first ≡ length p.events → Awaited K keeps plan fitted p n k turns r old → SeesCutAfter has_seen keeps old new reported
    → Watched K has_seen plan fitted q' m' (k + 1) (cut_turns K plan (turns_then plan turns r.did) m') new
Watched-cut K laws has_seen keeps plan fitted p q q' n m m' k turns r bytes reported first len old new awaits cut many all before
    (seen, listed, h) sees =
    Listed-done K has_seen plan fitted p q' n m' k turns (cut_turns K plan (turns_then plan turns r.did) m') r true bytes reported new
    (done_cut K laws plan p q n m k turns r None bytes awaits.noted q' m' refl (k + 1) refl awaits.due cut).0
    (many ∙ ap (λ l. l - first) all ∙ ap (λ f. length q'.events - f) before) seen listed (sees seen r h)
