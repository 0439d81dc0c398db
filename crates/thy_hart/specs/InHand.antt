-- What the parts of a hart mean: the instruction in hand as the effect, the spans and the bytes that it stands for.
use Rattle.std.specs.Prelude.{◌≡◌, ℕ, true, false, List, []}
use Rattle.thy_block.specs.LittleEndian.{number_bytes}
use Rattle.thy_block.specs.declared.span.Span.{Span}
use Rattle.thy_block.specs.Spans.{span}
use Rattle.thy_isa.specs.declared.instr.Width.{Width}
use Rattle.thy_isa.specs.declared.state.Effect.{Effect}
use Rattle.thy_isa.specs.declared.state.Effect.TheVariants.{Next, Set, Read, Write}
use Rattle.thy_isa.specs.Effects.{size_of}
use Rattle.thy_hart.specs.declared.hand.Hand.{Hand}
use Rattle.thy_hart.specs.declared.hand.Hand.TheVariants.{Nothing, Reading, Securing, Writing, Retiring}
use Rattle.thy_hart.specs.declared.in_hand.Stage.{Stage}
use Rattle.thy_hart.specs.declared.in_hand.Stage.TheVariants.{Idle, Jumps, Sets, Loads, Loaded, Secures, Stores, Stored, InPieces}
use Rattle.thy_hart.specs.declared.in_hand.InHand.{InHand}
use Rattle.thy_hart.specs.declared.micro_steps.HartParts.{HartParts}
use Rattle.thy_hart.specs.HartState.{HartState, IsSoundHart}

-- the bytes of an access: a place in memory, and how many
abbrev pub span_of : ℕ × Width → Span
span_of a = span a.0 (size_of a.1)

-- the effect of a load, and of a store
abbrev pub load_of : InHand → Effect
load_of i = Read i.rd i.access.1 i.extend i.pc i.address

abbrev pub store_of : InHand → Effect
store_of i = Write i.access.1 i.pc i.address i.value

-- the low bytes of the number that is moved
abbrev pub value_bytes : InHand → List ℕ
value_bytes i = number_bytes (size_of i.access.1) i.value

-- what is next of the instruction in hand
abbrev pub hand_by : Stage → InHand → Hand
hand_by Idle i = Nothing
hand_by Jumps i = Retiring (Next i.pc) false
hand_by Sets i = Retiring (Set i.rd i.pc i.value) false
hand_by Loads i = Reading (load_of i) (span_of i.access) (span 0 0)
hand_by Loaded i = Retiring (load_of i) false
hand_by Secures i = Securing (store_of i) (span_of i.access)
hand_by Stores i = Writing (store_of i) (span_of i.access) 0
hand_by Stored i = Retiring (store_of i) true
hand_by InPieces i = i.pieces

-- the bytes that an instruction in hand brought along or has read
abbrev pub bytes_by : Stage → InHand → List ℕ
bytes_by Idle i = []
bytes_by Jumps i = []
bytes_by Sets i = []
bytes_by Loads i = []
bytes_by Loaded i = value_bytes i
bytes_by Secures i = value_bytes i
bytes_by Stores i = value_bytes i
bytes_by Stored i = value_bytes i
bytes_by InPieces i = i.bytes.items

-- a hart of these parts at a stage
abbrev pub at_stage : Stage → HartParts → HartState
at_stage s h = record { geometry = h.geometry; cpu = h.cpu; epoch = h.epoch; hand = hand_by s h.hand; bytes = bytes_by s h.hand }

abbrev pub hart_state_of : HartParts → HartState
hart_state_of h = at_stage h.hand.stage h

-- a hart of these parts, as its pieces say
abbrev pub pieces_of : HartParts → HartState
pieces_of h = at_stage InPieces h

-- an instruction that is in pieces is one
abbrev pub ArePieces : InHand → Type 0
ArePieces i = i.stage ≡ InPieces → i.pieces ≡ Nothing → ⊥

-- what holds of the parts of every hart
pub record IsSoundParts (h : HartParts) : Type 0 where
  pub hart : IsSoundHart (hart_state_of h)
  pub pieces : ArePieces h.hand
