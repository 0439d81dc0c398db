-- After which cycles images are tried, what of a state that is restored is compared, and whether what is found of an image is known.
use Rattle.std.specs.Prelude.{◌≡◌, ◌⊎◌, ℕ, ◌-◌, ◌%◌, ◌^◌, ◌<◌, ◌≤◌, ◌==◌, nat_lt, not, Bool, true, false, ◌&&◌, is_none, List, [], ◌∷◌, ◌++◌, Option, Some, None, unwrap_or}
use Rattle.thy_block.specs.Counts.{next}
use Rattle.thy_isa.specs.declared.state.CpuState.{CpuState}
use Rattle.thy_isa.specs.Step.{State, state_of}
use Rattle.thy_plain.specs.Machine.{Machine, StopsAt, after_steps}
use Rattle.thy_sweep.specs.declared.lead.Booted.{Booted}
use Rattle.thy_sweep.specs.declared.trial.part.Part.{Part}
use Rattle.thy_sweep.specs.declared.trial.part.Part.TheVariants.{State as Whole, Processor}
use Rattle.thy_sweep.specs.declared.trial.part.Restored.{Restored}
use Rattle.thy_sweep.specs.declared.trial.part.Restored.TheVariants.{State as WholeState, Processor as Cpu}
use Rattle.thy_sweep.specs.declared.trial.room.Found.{Found}
use Rattle.thy_sweep.specs.Trials.{IsReadOf}
use Rattle.thy_computer.specs.declared.did.Did.{Did}
use Rattle.thy_computer.specs.declared.did.Did.TheVariants.{Loaded, Restarted, Retired}
use Rattle.sweep.specs.declared.asked.Asked.{Asked}
use Rattle.sweep.specs.declared.beside.Beside.{Beside}
use Rattle.sweep.specs.declared.row.Name.{Name}

-- images are tried after a cycle
abbrev pub has : Asked → ℕ → Bool
has a cycle = (not (nat_lt cycle a.from) && nat_lt 0 a.step) && ((cycle - a.from) % a.step == 0)

-- how many instructions are retired once a cycle did this
abbrev pub counted : (count start : ℕ) → Did → ℕ
counted count start (Retired hart) = next count
counted count start (Restarted epoch restored) = restored
counted count start Loaded = start
counted count start did = count

-- ---- what is compared

-- this whole state was read
abbrev pub IsState : State → Restored → Type 0
IsState s (WholeState read) = s ≡ state_of read
IsState s (Cpu read) = ⊥

-- this processor was read
abbrev pub IsProcessor : CpuState → Restored → Type 0
IsProcessor cpu (WholeState read) = ⊥
IsProcessor cpu (Cpu read) = cpu ≡ read

-- what was read of two states is the same: as much of both as is compared
abbrev pub AreSame : Part → Restored → Restored → Type 0
AreSame Whole (WholeState a) b = IsState (state_of a) b
AreSame Processor (Cpu a) b = IsProcessor a b
AreSame part a b = ⊥

-- a state is the plain machine's at the checkpoint under way, if there is one
abbrev pub IsOfSealed : Part → Option Restored → Restored → Type 0
IsOfSealed c None s = ⊥
IsOfSealed c (Some sealed) s = AreSame c sealed s

-- a state is the plain machine's at a checkpoint that a cut can lead to, in what is compared
abbrev pub IsBeside : Beside → Restored → Type 0
IsBeside b s = AreSame b.compared b.done s ⊎ IsOfSealed b.compared b.sealed s

-- a boot loaded the start
abbrev pub is_load : Option Booted → Bool
is_load None = false
is_load (Some b) = is_none b.mark

-- a state that was restored is the plain machine's; if none was, the boot loaded the start
abbrev pub IsKnownBy : Beside → Option Booted → Option Restored → Type 0
IsKnownBy b booted None = is_load booted ≡ true
IsKnownBy b booted (Some s) = IsBeside b s

abbrev pub IsKnown : Beside → Found → Type 0
IsKnown b f = IsKnownBy b f.booted f.state

-- an image is named among those that differ, unless what was found is known
abbrev pub IsNamed : Beside → Found → Name → List Name → List Name → Type 0
IsNamed b f name old new = (IsKnown b f × (new ≡ old)) ⊎ (new ≡ old ++ (name ∷ []))

-- ---- the plain machine beside the run

-- the plain machine has run to a count, or as far as its program runs: it goes back to no count, and only to one that a run can have
abbrev pub RunsTo : ℕ → Machine → Machine → Type 0
RunsTo count old new =
    old.state.count ≤ count → count < 2 ^ 62
    → (k : ℕ) × StopsAt old (count - old.state.count) k × (new ≡ after_steps k old)

-- what is kept of the checkpoint under way is of the plain machine's state, as much as is compared
abbrev pub IsOf : Part → Option Restored → State → Type 0
IsOf c None s = ⊥
IsOf c (Some kept) s = IsReadOf s c kept

abbrev pub IsSealed : Beside → Type 0
IsSealed b = IsOf b.compared b.sealed b.plain.state

-- the checkpoint under way, if there is one, is the committed one
abbrev pub committed : Beside → Beside
committed b = record b { done = unwrap_or b.sealed b.done; sealed = None }
