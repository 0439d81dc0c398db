-- An instruction that is begun is retired by the hart that began it.
use Rattle.std.proofs.Common.{◌≡◌, ◌≢◌, ℕ, ◌==◌, Bool, true, false, if◌then◌else◌, unwrap_or, Option, Some, None, sym, ◌∙◌, ap}
use Rattle.thy_block.specs.declared.mix.Pick.{Pick}
use Rattle.thy_block.specs.declared.mix.Pick.TheVariants.{Hart, Second, Engine as EnginePick, NvmDrain, DramDrain}
use Rattle.thy_computer.specs.declared.did.Stall.{Stall}
use Rattle.thy_computer.specs.declared.view.Phase.{Phase}
use Rattle.thy_computer.specs.declared.view.Phase.TheVariants.{Boot, Run, Halt}
use Rattle.thy_computer.specs.declared.view.View.{View}
use Rattle.thy_computer.specs.Laws.{BegunIsRetired}
use Rattle.thy_computer.specs.Origin.{Origin}
use Rattle.thy_computer.specs.NextActor.{Actor, Nvm, Dram, Checkpoint, Advances, Pressure, begins, hart_at, stall_in, advancing, hart_actor, engine_actor, actor_of, hart_in}

-- a hart that advances is the one that the turn is of
advances : (stall : Option Stall) (mine hart : ℕ) → advancing stall mine ≡ Advances hart → mine ≡ hart
advances None mine hart e = ap hart_in e
advances (Some stall) mine hart e = absurd (cc)

-- a turn that is a hart's is not another actor's
module _ (turn other : Actor) (hart : ℕ) (apart : other ≢ Advances hart) where
  by_then : (b : Bool) → (if b then turn else other) ≡ Advances hart → turn ≡ Advances hart
  by_then true e = e
  by_then false e = absurd (apart e)

  by_else : (b : Bool) → (if b then other else turn) ≡ Advances hart → turn ≡ Advances hart
  by_else true e = absurd (apart e)
  by_else false e = e

module _ (o : Origin) (v : View) (p : Pressure) (hart : ℕ) where
  comes : (pick : Pick) → hart_actor o pick v p ≡ Advances hart → hart_at o.geometry.harts pick p ≡ hart
  comes pick e = advances (stall_in o v.phase v p) (hart_at o.geometry.harts pick p) hart e

  passes : (pick : Pick) (phase : Phase) → engine_actor o pick phase v p ≡ Advances hart → hart_actor o pick v p ≡ Advances hart
  passes pick Boot e = e
  passes pick Run e = by_else (hart_actor o pick v p) Checkpoint hart (λ (is : Checkpoint ≡ Advances hart). absurd (cc)) p.under_way e
  passes pick Halt e = e

  -- the hart that advances is the one that the pick comes to
  comes_to : (pick : Pick) (nvm : ℕ) → actor_of o pick nvm v p ≡ Advances hart → hart_at o.geometry.harts pick p ≡ hart
  comes_to Hart nvm e = comes Hart e
  comes_to Second nvm e = comes Second e
  comes_to EnginePick nvm e = comes EnginePick (passes EnginePick v.phase e)
  comes_to NvmDrain nvm e =
      comes NvmDrain (by_then (hart_actor o NvmDrain v p) Nvm hart (λ (is : Nvm ≡ Advances hart). absurd (cc)) (nvm == 0) e)
  comes_to DramDrain nvm e =
      comes DramDrain (by_then (hart_actor o DramDrain v p) Dram hart (λ (is : Dram ≡ Advances hart). absurd (cc)) (p.dram == 0) e)

pub begun-is-retired : BegunIsRetired
begun-is-retired o pick nvm v p begun hart stall two is t =
    let there : hart_at o.geometry.harts pick p ≡ hart = comes_to o v p hart pick nvm t.0 in
    let mine : hart_at o.geometry.harts pick p ≡ begun
    = ap (λ (n : ℕ). hart_at n pick p) two ∙ ap (λ (b : Option ℕ). unwrap_or b (begins pick p.last)) is in
    sym there ∙ mine
