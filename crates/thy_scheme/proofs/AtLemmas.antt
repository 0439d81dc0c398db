-- The plain machine at a count, and the processor's part of a state.
use Rattle.std.proofs.Common.{◌≡◌, ℕ, zero, suc, ◌+◌, ◌≤◌, true, List, [], refl, sym, ◌∙◌, ap, arith, inl, inr}
use Rattle.std.proofs.lemmas.Bool.{cases_lt}
use Rattle.thy_block.specs.declared.block.Block.{Block}
use Rattle.thy_block.specs.declared.parameters.Parameters.{Parameters}
use Rattle.thy_isa.specs.declared.state.CpuState.{CpuState}
use Rattle.thy_isa.specs.OnBlocks.{state_from}
use Rattle.thy_isa.specs.Step.{State, state_with, crossed, fronted, step, step_of, is_running}
use Rattle.thy_isa.proofs.StepLaws.{step-count}
use Rattle.thy_hart.specs.HartState.{HartState}
use Rattle.thy_hart.specs.OneStep.{current}
use Rattle.thy_computer.specs.Kind.{without_memory}
use Rattle.thy_computer.specs.Origin.{Origin, setting_of, turn_at, at, runs_at}
use Rattle.thy_computer.proofs.TurnLaws.{at-next, at-early}
use Rattle.thy_scheme.specs.Machine.{cpu_fronted}
use Rattle.thy_scheme.proofs.BegunLaws.{cpu-fronted-suc, fronted-twice, count-fronted, status-fronted}

-- a state that has its count is not before the start
pub at-late : (o : Origin) (k : ℕ) → (at o k).count ≡ k → o.start.count ≤ k
at-late o k h = elim (cases_lt k o.start.count) as (λ _. o.start.count ≤ k) [
  | inl l ↦
      let early : o.start.count ≡ k = ap (λ s. s.count) (sym (at-early o k (omega arith))) ∙ h in
      omega arith
  | inr l ↦ l
]

-- the instruction of a hart is a step of the plain machine, with this hart in front before and after it
pub at-hart : (o : Origin) (k hart : ℕ) → o.start.count ≤ k → turn_at o k ≡ hart
    → fronted hart (at o (k + 1)) ≡ step (setting_of o) (fronted hart (at o k))
unfolding step_of
at-hart o k hart late mine =
    ap (fronted hart) (at-next o k late ∙ ap (λ h. step_of (setting_of o) h (at o k)) mine)
    ∙ fronted-twice hart (step (setting_of o) (fronted hart (at o k)))

-- the instruction of a hart adds one to the count
pub at-count : (o : Origin) (k hart : ℕ) → o.start.count ≤ k → turn_at o k ≡ hart → (at o k).count ≡ k → runs_at o k ≡ true
    → (at o (k + 1)).count ≡ k + 1
at-count o k hart late mine is runs =
    sym (count-fronted hart (at o (k + 1)))
    ∙ ap (λ (s : State). s.count) (at-hart o k hart late mine)
    ∙ step-count (setting_of o) (fronted hart (at o k)) (ap is_running (status-fronted hart (at o k)) ∙ runs)
    ∙ ap (λ i. i + 1) (count-fronted hart (at o k) ∙ is)

-- the processor's part of the state where the hart is
pub count-current : (h : HartState) (memory : List Block) → (current h memory).count ≡ h.cpu.count
unfolding current state_from
count-current h memory = refl

pub status-current : (h : HartState) (memory : List Block) → (current h memory).status ≡ h.cpu.status
unfolding current state_from
status-current h memory = refl

-- the processor's part of the state, once hart 0 is in front again
pub processor-fronted : (hart : ℕ) (h : HartState) (memory : List Block) (s : State) → current h memory ≡ fronted hart s
    → state_with (cpu_fronted hart h.cpu) [] [] ≡ without_memory s
unfolding current state_from
processor-fronted zero h memory s is = ap without_memory is
processor-fronted (suc hart) h memory s is =
    ap (λ (c : CpuState). state_with c [] []) (cpu-fronted-suc hart h.cpu)
    ∙ ap (λ (x : State). without_memory (crossed x)) is
    ∙ ap without_memory (fronted-twice (suc hart) s)

pub processor-from : (p : Parameters) (cpu : CpuState) (blocks : List Block) (s : State) → state_from p cpu blocks ≡ s
    → state_with cpu [] [] ≡ without_memory s
unfolding state_from
processor-from p cpu blocks s is = ap without_memory is
