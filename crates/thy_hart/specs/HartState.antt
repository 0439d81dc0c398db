-- Part of the claim.
-- The hart: processor, epoch, and the instruction in hand.
use Rattle.std.specs.Prelude.{◌≡◌, ℕ, ◌+◌, ◌-◌, ◌<◌, ◌≤◌, ◌==◌, Bool, true, false, if◌then◌else◌, List, [], length, Option, Some, None}
use Rattle.thy_block.specs.declared.parameters.Parameters.{Parameters}
use Rattle.thy_block.specs.Geometry.{IsInRange, memory_blocks, program_size}
use Rattle.thy_block.specs.declared.span.Span.{Span}
use Rattle.thy_block.specs.Spans.{IsSpanOf, span, first_block, rest_of}
use Rattle.thy_isa.specs.declared.state.Cause.{Cause}
use Rattle.thy_isa.specs.declared.state.CpuState.{CpuState}
use Rattle.thy_isa.specs.declared.state.Effect.{Effect}
use Rattle.thy_isa.specs.declared.state.Effect.TheVariants.{Next, Set, Read, Write, Reserve, Conditional, Fail, Modify, Environment, Trap}
use Rattle.thy_isa.specs.Effects.{size_of}
use Rattle.thy_isa.specs.Moves.{outgoing_len}
use Rattle.thy_isa.specs.Step.{fetch_fault}
use Rattle.thy_hart.specs.Epoch.{Epoch}
use Rattle.thy_hart.specs.Epoch as epochs
use Rattle.thy_hart.specs.declared.hand.Hand.{Hand}
use Rattle.thy_hart.specs.declared.hand.Hand.TheVariants.{Nothing, Reading, Securing, Writing, Retiring}

pub record HartState : Type 0 where
  pub geometry : Parameters
  pub cpu : CpuState
  pub epoch : Epoch
  -- what is next of the instruction in hand
  pub hand : Hand
  -- the bytes of the instruction in hand: what it brought along or has read
  pub bytes : List ℕ

-- a hart that begins this epoch with no instruction in hand
abbrev pub new_hart : Parameters → CpuState → ℕ → HartState
new_hart p cpu number = record { geometry = p; cpu = cpu; epoch = epochs.begun p.epoch number; hand = Nothing; bytes = [] }

-- how many blocks a span lies in that has bytes, at most 64
abbrev pub blocks_of : Span → ℕ
blocks_of s = if (rest_of s).len == 0 then 1 else 2

-- ---- the block that is touched next

-- the block that a fetch touches; none if the fetch faults
abbrev pub unless_fault : Option Cause → ℕ → Option ℕ
unless_fault None b = Some b
unless_fault (Some cause) b = None

-- the block of the word at the program counter
unfoldable pub fetched_block : Parameters → CpuState → Option ℕ
fetched_block p cpu =
    unless_fault (fetch_fault p.base (program_size p) cpu.pc) (first_block (span (cpu.pc - p.base) 4))

abbrev pub block_for : Parameters → CpuState → Hand → Option ℕ
block_for p cpu Nothing = fetched_block p cpu
block_for p cpu (Reading e from to) = Some (first_block from)
block_for p cpu (Securing e to) = None
block_for p cpu (Writing e to done) = Some (first_block to)
block_for p cpu (Retiring e wrote) = None

-- the block that the next step reads or writes, if it does
abbrev pub next_block : HartState → Option ℕ
next_block h = block_for h.geometry h.cpu h.hand

-- ---- what is kept for the instruction in hand

-- how many blocks it has secured room for and not written yet
abbrev pub secured : Hand → ℕ
secured Nothing = 0
secured (Reading e from to) = 0
secured (Securing e to) = 0
secured (Writing e to done) = blocks_of to
secured (Retiring e wrote) = 0

-- how many blocks it is to secure room for next, if it is at that
abbrev pub to_secure : Hand → Option ℕ
to_secure Nothing = None
to_secure (Reading e from to) = None
to_secure (Securing e to) = Some (blocks_of to)
to_secure (Writing e to done) = None
to_secure (Retiring e wrote) = None

-- an instruction has secured room for the blocks that it writes
abbrev pub has_secured : Hand → Bool
has_secured Nothing = false
has_secured (Reading e from to) = false
has_secured (Securing e to) = false
has_secured (Writing e to done) = true
has_secured (Retiring e wrote) = wrote

-- an instruction has written a block
abbrev pub has_written : Hand → Bool
has_written Nothing = false
has_written (Reading e from to) = false
has_written (Securing e to) = false
has_written (Writing e to done) = if done == 0 then false else true
has_written (Retiring e wrote) = wrote

-- how many bytes an effect has to read for the number that it makes of them
abbrev pub read_len : Effect → ℕ
read_len (Next pc) = 0
read_len (Set rd pc v) = 0
read_len (Read rd width extend pc at) = size_of width
read_len (Write width pc at v) = 0
read_len (Reserve rd width pc at) = size_of width
read_len (Conditional rd width pc at v) = 0
read_len (Fail rd pc) = 0
read_len (Modify op rd width pc at v) = size_of width
read_len Environment = 0
read_len (Trap cause) = 0

-- bytes are still to be read: they fit after those already read, and all are enough to write and to make a number
pub record IsReading (p : Parameters) (e : Effect) (from to : Span) (have : ℕ) : Type 0 where
  pub span_from : IsSpanOf (memory_blocks p) from
  pub span_to : IsSpanOf (memory_blocks p) to
  pub some : 0 < from.len
  pub most : have + from.len ≤ 64
  pub least : to.len ≤ outgoing_len e (have + from.len)
  pub number : read_len e ≤ have + from.len

-- bytes are still to be written: they are there
pub record IsWriting (p : Parameters) (e : Effect) (to : Span) (done have : ℕ) : Type 0 where
  pub span_to : IsSpanOf (memory_blocks p) to
  pub some : 0 < to.len
  pub least : done + to.len ≤ outgoing_len e have
  pub number : read_len e ≤ have

abbrev pub IsInHand : Parameters → Hand → ℕ → Type 0
IsInHand p Nothing have = have ≡ 0
IsInHand p (Reading e from to) have = IsReading p e from to have
IsInHand p (Securing e to) have = IsWriting p e to 0 have
IsInHand p (Writing e to done) have = IsWriting p e to done have
IsInHand p (Retiring e wrote) have = read_len e ≤ have

-- what holds of every hart
pub record IsSoundHart (h : HartState) : Type 0 where
  pub range : IsInRange h.geometry
  pub in_hand : IsInHand h.geometry h.hand (length h.bytes)
