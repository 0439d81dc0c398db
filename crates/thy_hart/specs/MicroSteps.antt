-- What a micro-step makes of a hart and its cache, over every store of blocks.
use Rattle.std.specs.Prelude.{◌≡◌, ℕ, ◌+◌, ◌-◌, ◌<◌, ◌≤◌, true, false, List, [], ◌∷◌, length, Option, Some, None, Result, Ok, Err}
use Rattle.thy_block.specs.declared.block.Block.{Block}
use Rattle.thy_block.specs.declared.cause.EndCause.{EndCause}
use Rattle.thy_block.specs.declared.parameters.Parameters.{Parameters}
use Rattle.thy_block.specs.Geometry.{memory_blocks, program_size}
use Rattle.thy_block.specs.LittleEndian.{number_at}
use Rattle.thy_cache.specs.Contents.{Contents, hits, dirty_count, KeepsSize}
use Rattle.thy_cache.specs.Flat.{flat, AgreesStill}
use Rattle.thy_block.specs.declared.span.Span.{Span}
use Rattle.thy_block.specs.Spans.{span, first_block, gathered, head_put}
use Rattle.thy_isa.specs.declared.state.Cause.{Cause}
use Rattle.thy_isa.specs.declared.state.CpuState.{CpuState}
use Rattle.thy_isa.specs.declared.state.Effect.{Effect}
use Rattle.thy_isa.specs.OnBlocks.{effect_in}
use Rattle.thy_isa.specs.Step.{fetch_fault}
use Rattle.thy_hart.specs.declared.hand.HartStep.{HartStep}
use Rattle.thy_hart.specs.declared.hand.HartStep.TheVariants.{Moved, Retired, Waiting, Over}
use Rattle.thy_hart.specs.declared.hand.MicroStep.{MicroStep}
use Rattle.thy_hart.specs.declared.hand.MicroStep.TheVariants.{Missing, Taken}
use Rattle.thy_hart.specs.declared.hand.ShortStep.{ShortStep}
use Rattle.thy_hart.specs.declared.hand.ShortStep.TheVariants.{Missing as ShortMissing, Moved as ShortMoved, Waiting as ShortWaiting, Ended}
use Rattle.thy_hart.specs.HartState.{HartState, IsSoundHart, next_block, secured}
use Rattle.thy_hart.specs.Outcomes.{Given, fetched, block_read, acted_by, answer_by, memory_by, cache_by, over_or_retired}

-- a block that is touched, if one is, hits
abbrev pub HitsNext : Contents → Option ℕ → Type 0
HitsNext c None = Unit {0}
HitsNext c (Some b) = hits c b ≡ true

-- for any store with its block below the cache: the number of a span of four bytes
abbrev pub ReadsWord : Contents → Span → ℕ → Type 0
ReadsWord c at word =
    (blocks : List Block) → first_block at < length blocks → word ≡ number_at 4 (gathered (flat c blocks) at) 0

-- the effect of the instruction at the program counter
abbrev pub FetchesEffect : Parameters → CpuState → Contents → Effect → Type 0
FetchesEffect p cpu c e = (blocks : List Block) → length blocks ≡ memory_blocks p → e ≡ effect_in p cpu (flat c blocks)

-- the four bytes at the program counter, or why no word can be fetched there
abbrev pub IsFetchedSpan : Parameters → CpuState → Result Span Cause → Type 0
IsFetchedSpan p cpu (Ok at) = (fetch_fault p.base (program_size p) cpu.pc ≡ None) × (at ≡ span (cpu.pc - p.base) 4)
IsFetchedSpan p cpu (Err cause) = fetch_fault p.base (program_size p) cpu.pc ≡ Some cause

-- the hart after a fetch
abbrev pub FetchesIn : List ℕ → Contents → HartState → HartState → Type 0
FetchesIn input c old new =
    (blocks : List Block) → length blocks ≡ memory_blocks old.geometry → new ≡ fetched input (flat c blocks) old

-- the hart after a block was read
abbrev pub ReadsIn : Contents → Effect → Span → Span → HartState → HartState → Type 0
ReadsIn c e from to old new =
    (blocks : List Block) → length blocks ≡ memory_blocks old.geometry → new ≡ block_read (flat c blocks) e from to old

-- memory after a block was written
abbrev pub WritesIn : ℕ → Contents → Contents → Span → List ℕ → Type 0
WritesIn n c d to bytes = (blocks : List Block) → length blocks ≡ n → flat d blocks ≡ head_put (flat c blocks) to bytes

-- what a micro-step makes of cache and hart
pub record IsMicroStep (g : Given) (c d : Contents) (old new : HartState) (step : HartStep) : Type 0 where
  pub hart : (blocks : List Block) → length blocks ≡ memory_blocks old.geometry
      → new ≡ acted_by g (dirty_count c) (flat c blocks) old old.hand
  pub says : step ≡ answer_by g (dirty_count c) old old.hand
  pub memory : (blocks : List Block) → length blocks ≡ memory_blocks old.geometry
      → flat d blocks ≡ memory_by old.bytes (flat c blocks) old.hand
  pub agree : AgreesStill c d
  pub room : dirty_count c + secured old.hand ≤ g.free → dirty_count d + secured new.hand ≤ g.free
  pub tidy : dirty_count d ≤ dirty_count c + (secured old.hand - secured new.hand)
  pub cache : d ≡ cache_by c old old.hand
  pub untouched : next_block old ≡ None → d ≡ c
  pub sized : KeepsSize c d

-- a micro-step that ends the instruction or the epoch ends so, by what the epoch is over for
abbrev pub EndsBy : MicroStep → Option EndCause → Type 0
EndsBy (Missing b) over = Unit {0}
EndsBy (Taken Moved) over = Unit {0}
EndsBy (Taken Waiting) over = Unit {0}
EndsBy (Taken Retired) over = over ≡ None
EndsBy (Taken (Over cause)) over = over ≡ Some cause

-- the outcome of a micro-step that a function of its own took, with what the epoch is over for after it
abbrev pub micro_step : ShortStep → Option EndCause → MicroStep
micro_step (ShortMissing b) over = Missing b
micro_step ShortMoved over = Taken Moved
micro_step ShortWaiting over = Taken Waiting
micro_step Ended over = Taken (over_or_retired over)

-- the outcome of a micro-step: the line of its block is missing and nothing was done, or it was taken
abbrev pub IsActed : Given → Contents → Contents → HartState → HartState → MicroStep → Type 0
IsActed g c d old new (Missing b) = (next_block old ≡ Some b) × (hits c b ≡ false) × (new ≡ old) × (d ≡ c)
IsActed g c d old new (Taken step) = HitsNext c (next_block old) × IsMicroStep g c d old new step

-- these micro-steps were taken, one after another, and each left a sound hart
abbrev pub ActsAll : Given → Contents → HartState → List HartStep → Contents → HartState → Type 0
ActsAll g c h [] d k = (d ≡ c) × (k ≡ h)
ActsAll g c h (s ∷ rest) d k =
    (e : Contents) × (l : HartState) × IsActed g c e h l (Taken s) × IsSoundHart l × ActsAll g e l rest d k
