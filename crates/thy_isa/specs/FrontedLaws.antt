-- What a processor as a list of harts is.
use Rattle.std.specs.Prelude.{◌≡◌, ℕ, ◌<◌, ◌≤◌, length}
use Rattle.thy_isa.specs.declared.state.CallState.{CallState}
use Rattle.thy_isa.specs.declared.state.CpuState.{CpuState}
use Rattle.thy_isa.specs.declared.state.Effect.{Effect}
use Rattle.thy_isa.specs.Processor.{ProcessorState, hart_at, processor_finished, len_after, processor_of, cpu_at}
use Rattle.thy_isa.specs.Step.{cpu_crossed, finished}

-- ---- the processor as a list of harts

-- an effect of a hart of a list is that effect of the hart in front
abbrev pub FinishedAsCpu : Type 0
FinishedAsCpu =
    (h : ℕ) (p : ProcessorState) (e : Effect) (number : ℕ) (calls : CallState) → length p.harts ≤ 2 → h < length p.harts
    → cpu_at h (len_after (hart_at p.harts h).regs e calls) (processor_finished h p e number calls)
    ≡ finished (cpu_at h calls.console_len p) e number calls

-- the other hart in front is the one of the other number
abbrev pub CrossedAsCpu : Type 0
CrossedAsCpu =
    (len : ℕ) (p : ProcessorState) → length p.harts ≡ 2
    → (cpu_crossed (cpu_at 0 len p) ≡ cpu_at 1 len p) × (cpu_crossed (cpu_at 1 len p) ≡ cpu_at 0 len p)

-- a list of one hart has no other one
abbrev pub AloneAsCpu : Type 0
AloneAsCpu = (len : ℕ) (p : ProcessorState) → length p.harts ≡ 1 → cpu_crossed (cpu_at 0 len p) ≡ cpu_at 0 len p

-- nothing of a processor is lost in the list
abbrev pub KeepsCpu : Type 0
KeepsCpu = (c : CpuState) → cpu_at 0 c.console_len (processor_of c) ≡ c
