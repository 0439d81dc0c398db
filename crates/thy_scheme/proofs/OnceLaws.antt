-- A cycle has one outcome, and power comes on over a DRAM in one way.
use Rattle.std.proofs.Common.{◌≡◌, ◌==◌, Bool, true, false, List, ℕ, sym, ◌∙◌, ap, ap₂}
use Rattle.thy_block.specs.declared.parameters.Parameters.{Parameters}
use Rattle.thy_block.specs.Device.{Device, CountAlike}
use Rattle.thy_cache.specs.Contents.{dirty_count}
use Rattle.thy_computer.specs.declared.boot_step.BootStep.{BootStep}
use Rattle.thy_computer.specs.declared.did.Did.{Did}
use Rattle.thy_computer.specs.declared.did.Stall.{Stall}
use Rattle.thy_computer.specs.declared.did.Stall.TheVariants.{Booting, Sealing, Waiting, Halted}
use Rattle.thy_computer.proofs.ActionLemmas.{after-once}
use Rattle.thy_computer.specs.Booting.{boot_did}
use Rattle.thy_computer.specs.Origin.{Origin}
use Rattle.thy_computer.specs.WithTurns.{with_turns}
use Rattle.thy_computer.specs.NextActor.{Actor, Nvm, Dram, Checkpoint, Advances, Stalled}
use Rattle.thy_scheme.specs.Laws.{IsLawful as IsLawfulScheme}
use Rattle.thy_scheme.specs.Scheme.{SchemeOf}
use Rattle.thy_scheme.specs.MachineCalls.{after_boot}
use Rattle.thy_scheme.specs.MachineExact.{Outcome, IsOutcome, Boots, MakesFirst, MakesStalled, MakesCycle}
use Rattle.thy_scheme.specs.Machine.{Machine, machine_on}
use Rattle.thy_scheme.specs.Sound.{IsPowered}

-- two cycles did the same, and left the same machine and NVM
abbrev Same : {S : Type 0} → Did → Did → Machine S → Machine S → Device → Device → Type 0
Same d e x y u v = (d ≡ e) × (x ≡ y) × (u ≡ v)

outcome_once : {S : Type 0} (c : Outcome S) (n : Device) (d e : Did) (x y : Machine S) (u v : Device) → IsOutcome c n d x u
    → IsOutcome c n e y v
    → CountAlike n u v → Same d e x y u v
outcome_once c n d e x y u v a b alike =
    (a.did_is ∙ sym b.did_is, a.machine_is ∙ sym b.machine_is, after-once c.action n u v a.nvm_is b.nvm_is alike)

module _ {S : Type 0} (K : SchemeOf S) (l : IsLawfulScheme K) (o : Origin) (turns other : List ℕ) (m x y : Machine S) (n u v : Device)
    (d e : Did) (alike : CountAlike n u v) where
  boots_once : Boots K (with_turns o turns) m n d x u → Boots K (with_turns o other) m n e y v → Same d e x y u v
  boots_once a b =
      let once = l.boot_once o.start m.scheme n a.step b.step a.scheme b.scheme u v a.made b.made alike in (
        a.did_is ∙ ap boot_did once.0 ∙ sym b.did_is,
        a.machine_is ∙ ap₂ (λ (step : BootStep) (t : S). after_boot o step t m) once.0 once.1 ∙ sym b.machine_is,
        once.2,
      )

  first_once : (promotes clean overlaid : Bool) → MakesFirst K promotes clean overlaid m n d x u
      → MakesFirst K promotes clean overlaid m n e y v
      → Same d e x y u v
  first_once true clean overlaid a b = outcome_once _ n d e x y u v a b alike
  first_once false false overlaid a b = outcome_once _ n d e x y u v a b alike
  first_once false true true a b = outcome_once _ n d e x y u v a b alike
  first_once false true false a b = outcome_once _ n d e x y u v a b alike

  stalled_once : (stall : Stall) → MakesStalled K (with_turns o turns) stall m n d x u → MakesStalled K (with_turns o other) stall m n e y v
      → Same d e x y u v
  stalled_once Booting a b = boots_once a b
  stalled_once Sealing a b = first_once (K.promoting m.scheme) (dirty_count m.cache == 0) (K.overlaid m.scheme) a b
  stalled_once Waiting a b = outcome_once _ n d e x y u v a b alike
  stalled_once Halted a b = outcome_once _ n d e x y u v a b alike

  pub cycle_once : (actor : Actor) → MakesCycle K (with_turns o turns) actor m n d x u → MakesCycle K (with_turns o other) actor m n e y v
      → Same d e x y u v
  cycle_once Nvm a b = outcome_once _ n d e x y u v a b alike
  cycle_once Dram a b = outcome_once _ n d e x y u v a b alike
  cycle_once Checkpoint a b = outcome_once _ n d e x y u v a b alike
  cycle_once (Advances hart) a b = outcome_once _ n d e x y u v a b alike
  cycle_once (Stalled stall) a b = stalled_once stall a b

pub powered_once : {S : Type 0} (K : SchemeOf S) (p : Parameters) (m x : Machine S) → IsPowered K p m → IsPowered K p x
    → K.dram m.scheme ≡ K.dram x.scheme → m ≡ x
powered_once K p m x a b same = a.exact ∙ ap (machine_on K p) same ∙ sym b.exact
