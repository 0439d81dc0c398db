-- Part of the claim.
-- What each micro-step makes of hart, memory and cache, and what it returns. Its block is in the cache, or it touches none.
use Rattle.std.specs.Prelude.{ℕ, ◌+◌, ◌==◌, Bool, true, false, if◌then◌else◌, nat_lt, List, [], ◌++◌, length, take, drop, Option, Some, None}
use Rattle.thy_block.specs.declared.block.Block.{Block}
use Rattle.thy_block.specs.declared.cause.EndCause.{EndCause}
use Rattle.thy_block.specs.declared.cause.EndCause.TheVariants.{Exhausted}
use Rattle.thy_cache.specs.Contents.{Contents, read_from, written_at}
use Rattle.thy_block.specs.declared.span.Span.{Span}
use Rattle.thy_block.specs.Spans.{first_block, first_byte, head_len, head_read, head_put, rest_of}
use Rattle.thy_isa.specs.declared.state.CpuState.{CpuState}
use Rattle.thy_isa.specs.declared.state.Effect.{Effect}
use Rattle.thy_isa.specs.Moves.{moves_of, brings, outgoing}
use Rattle.thy_isa.specs.OnBlocks.{calls_in, effect_in, cpu_after}
use Rattle.thy_isa.specs.Step.{is_running}
use Rattle.thy_hart.specs.Epoch.{Epoch, retired_once, exhausted}
use Rattle.thy_hart.specs.declared.hand.Hand.{Hand}
use Rattle.thy_hart.specs.declared.hand.Hand.TheVariants.{Nothing, Reading, Securing, Writing, Retiring}
use Rattle.thy_hart.specs.declared.hand.HartStep.{HartStep}
use Rattle.thy_hart.specs.declared.hand.HartStep.TheVariants.{Moved, Retired, Waiting, Over}
use Rattle.thy_hart.specs.HartState.{HartState, blocks_of, fetched_block}

-- what a step is handed in addition to cache and store: the input, how many table entries are free, and whether a
-- checkpoint is under way
pub record Given : Type 0 where
  pub input : List ℕ
  pub free : ℕ
  pub under_way : Bool

abbrev pub given : List ℕ → ℕ → Bool → Given
given input free under_way = record { input = input; free = free; under_way = under_way }

-- An effect begins, or continues after a read: if bytes are still to be read it reads, else it secures room for what it
-- writes, else it retires.
unfoldable pub begun : Effect → Span → Span → Hand
begun e from to =
    if from.len == 0 then (if to.len == 0 then Retiring e false else Securing e to) else Reading e from to

-- an effect continues after a block that it wrote: there is another, or it retires
unfoldable pub written_on : Effect → Span → ℕ → Hand
written_on e to done = if to.len == 0 then Retiring e true else Writing e to done

-- ---- each micro-step, over the memory that the cache and its store make

-- an instruction of this effect is in hand
abbrev pub begun_with : List ℕ → Effect → HartState → HartState
begun_with input e h =
    let calls = calls_in h.geometry h.cpu (length input) in
    let moves = moves_of h.cpu.regs calls e in
    record h { hand = begun e moves.from moves.to; bytes = brings input h.cpu.regs calls e }

-- the instruction at the program counter is in hand
unfoldable pub fetched : List ℕ → List Block → HartState → HartState
fetched input memory h = begun_with input (effect_in h.geometry h.cpu memory) h

-- the bytes of one block are read
abbrev pub block_read : List Block → Effect → Span → Span → HartState → HartState
block_read memory e from to h =
    record h { hand = begun e (rest_of from) to; bytes = h.bytes ++ head_read memory from }

-- fewer entries are free than the dirty lines and these blocks need
abbrev pub is_short : ℕ → ℕ → Span → Bool
is_short free dirty to = nat_lt free (dirty + blocks_of to)

-- the instruction is dropped, to be fetched again
abbrev pub dropped : Epoch → HartState → HartState
dropped epoch h = record h { epoch = epoch; hand = Nothing; bytes = [] }

-- room is secured, or waited for if a checkpoint is under way, or else the epoch is over
unfoldable pub room_secured : ℕ → Bool → ℕ → Effect → Span → HartState → HartState
room_secured free under_way dirty e to h =
    if is_short free dirty to
    then (if under_way then h else dropped (exhausted free dirty (blocks_of to) h.epoch) h)
    else record h { hand = Writing e to 0 }

-- what the step returns that secures room, or waits for it, or ends the epoch
unfoldable pub room_answer : ℕ → Bool → ℕ → Span → HartStep
room_answer free under_way dirty to =
    if is_short free dirty to then (if under_way then Waiting else Over (Exhausted free dirty (blocks_of to))) else Moved

-- the bytes of one block are written
abbrev pub block_written : Effect → Span → ℕ → HartState → HartState
block_written e to done h = record h { hand = written_on e (rest_of to) (done + head_len to) }

-- the processor after the instruction
abbrev pub cpu_retired : List ℕ → Effect → HartState → CpuState
cpu_retired input e h = cpu_after h.geometry input h.cpu e h.bytes

-- the hart after the instruction
abbrev pub finished : List ℕ → Effect → HartState → HartState
finished input e h = record h { cpu = cpu_retired input e h }

-- the epoch after the instruction
abbrev pub epoch_retired : List ℕ → Effect → HartState → Epoch
epoch_retired input e h = retired_once (is_running (cpu_retired input e h).status) h.epoch

abbrev pub retired : List ℕ → Effect → HartState → HartState
retired input e h = record (dropped (epoch_retired input e h) h) { cpu = cpu_retired input e h }

-- an instruction retired, and maybe the epoch is over
abbrev pub over_or_retired : Option EndCause → HartStep
over_or_retired None = Retired
over_or_retired (Some cause) = Over cause

-- ---- the next one, by what is in hand

-- the hart after the next micro-step: steps 1 to 5 of an instruction in docs/CONTROLLER.md, in this order
abbrev pub acted_by : Given → ℕ → List Block → HartState → Hand → HartState
acted_by g dirty memory h Nothing = fetched g.input memory h
acted_by g dirty memory h (Reading e from to) = block_read memory e from to h
acted_by g dirty memory h (Securing e to) = room_secured g.free g.under_way dirty e to h
acted_by g dirty memory h (Writing e to done) = block_written e to done h
acted_by g dirty memory h (Retiring e wrote) = retired g.input e h

-- what the next micro-step returns
abbrev pub answer_by : Given → ℕ → HartState → Hand → HartStep
answer_by g dirty h Nothing = Moved
answer_by g dirty h (Reading e from to) = Moved
answer_by g dirty h (Securing e to) = room_answer g.free g.under_way dirty to
answer_by g dirty h (Writing e to done) = Moved
answer_by g dirty h (Retiring e wrote) = over_or_retired (epoch_retired g.input e h).over

-- memory after the next micro-step
abbrev pub memory_by : List ℕ → List Block → Hand → List Block
memory_by bytes memory Nothing = memory
memory_by bytes memory (Reading e from to) = memory
memory_by bytes memory (Securing e to) = memory
memory_by bytes memory (Writing e to done) = head_put memory to (drop done (outgoing e bytes))
memory_by bytes memory (Retiring e wrote) = memory

-- the cache if a block is read: its line was used last
abbrev pub touched : Contents → Option ℕ → Contents
touched c None = c
touched c (Some b) = read_from b c

-- the cache after the bytes that fall into the first block of a span were written
abbrev pub written_by : Contents → Span → List ℕ → Contents
written_by c to bytes = written_at (first_block to) (first_byte to) (take (head_len to) bytes) c

-- the cache, if no line is brought
abbrev pub cache_by : Contents → HartState → Hand → Contents
cache_by c h Nothing = touched c (fetched_block h.geometry h.cpu)
cache_by c h (Reading e from to) = read_from (first_block from) c
cache_by c h (Securing e to) = c
cache_by c h (Writing e to done) = written_by c to (drop done (outgoing e h.bytes))
cache_by c h (Retiring e wrote) = c
