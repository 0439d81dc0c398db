-- Part of the claim.
-- What an instruction or an environment call moves, as spans of the blocks of memory: the bytes that it reads, and those
-- that it writes. The blocks of the console follow the blocks of program memory.
use Rattle.std.specs.Prelude.{ℕ, ◌+◌, ◌-◌, List, [], take, drop}
use Rattle.thy_block.specs.LittleEndian.{number_at, number_bytes}
use Rattle.thy_block.specs.Spans.{span}
use Rattle.thy_isa.specs.declared.state.Call.{Call}
use Rattle.thy_isa.specs.declared.state.Call.TheVariants.{Answer, Exit, Break, Take, Give}
use Rattle.thy_isa.specs.declared.state.CallState.{CallState}
use Rattle.thy_isa.specs.declared.state.Effect.{Effect}
use Rattle.thy_isa.specs.declared.state.Effect.TheVariants.{Next, Set, Read, Write, Reserve, Conditional, Fail, Modify, Environment, Trap}
use Rattle.thy_isa.specs.declared.state.Moves.{Moves}
use Rattle.thy_isa.specs.Atomics.{modified}
use Rattle.thy_isa.specs.Calls.{call_of}
use Rattle.thy_isa.specs.Effects.{size_of}

-- the moves of an instruction that reads nothing and writes nothing
abbrev pub no_moves : Moves
no_moves = record { from = span 0 0; to = span 0 0 }

-- the move that reads these bytes
abbrev pub reads : ℕ → ℕ → Moves
reads at len = record no_moves { from = span at len }

-- the move that writes these bytes
abbrev pub writes : ℕ → ℕ → Moves
writes at len = record no_moves { to = span at len }

-- what a call moves: what is taken is written to memory, what is given is read there and written after the console's end
unfoldable pub call_moves : CallState → Call → Moves
call_moves c (Answer v) = no_moves
call_moves c (Exit v) = no_moves
call_moves c (Break at) = no_moves
call_moves c (Take at len) = writes (at - c.base) len
call_moves c (Give at len) = record { from = span (at - c.base) len; to = span (c.size + c.console_len) len }

-- what an effect moves, with these registers
unfoldable pub moves_of : List ℕ → CallState → Effect → Moves
moves_of x c (Next pc) = no_moves
moves_of x c (Set rd pc v) = no_moves
moves_of x c (Read rd width extend pc at) = reads (at - c.base) (size_of width)
moves_of x c (Write width pc at v) = writes (at - c.base) (size_of width)
moves_of x c (Reserve rd width pc at) = reads (at - c.base) (size_of width)
moves_of x c (Conditional rd width pc at v) = writes (at - c.base) (size_of width)
moves_of x c (Fail rd pc) = no_moves
moves_of x c (Modify op rd width pc at v) =
    record { from = span (at - c.base) (size_of width); to = span (at - c.base) (size_of width) }
moves_of x c Environment = call_moves c (call_of x c)
moves_of x c (Trap cause) = no_moves

-- the bytes that a call brings along: those that are taken of the input
unfoldable pub call_brings : List ℕ → CallState → Call → List ℕ
call_brings input c (Answer v) = []
call_brings input c (Exit v) = []
call_brings input c (Break at) = []
call_brings input c (Take at len) = take len (drop c.cursor input)
call_brings input c (Give at len) = []

-- the bytes that an effect brings along: the low bytes of a number that is stored, or a call's
unfoldable pub brings : List ℕ → List ℕ → CallState → Effect → List ℕ
brings input x c (Next pc) = []
brings input x c (Set rd pc v) = []
brings input x c (Read rd width extend pc at) = []
brings input x c (Write width pc at v) = number_bytes (size_of width) v
brings input x c (Reserve rd width pc at) = []
brings input x c (Conditional rd width pc at v) = number_bytes (size_of width) v
brings input x c (Fail rd pc) = []
brings input x c (Modify op rd width pc at v) = []
brings input x c Environment = call_brings input c (call_of x c)
brings input x c (Trap cause) = []

-- the number that an effect reads, from the bytes that it has read
unfoldable pub number_in : Effect → List ℕ → ℕ
number_in (Next pc) bytes = 0
number_in (Set rd pc v) bytes = 0
number_in (Read rd width extend pc at) bytes = number_at (size_of width) bytes 0
number_in (Write width pc at v) bytes = 0
number_in (Reserve rd width pc at) bytes = number_at (size_of width) bytes 0
number_in (Conditional rd width pc at v) bytes = 0
number_in (Fail rd pc) bytes = 0
number_in (Modify op rd width pc at v) bytes = number_at (size_of width) bytes 0
number_in Environment bytes = 0
number_in (Trap cause) bytes = 0

-- the bytes that an effect writes, from those that it brought along or has read: an AMO makes new ones
abbrev pub outgoing : Effect → List ℕ → List ℕ
outgoing (Modify op rd width pc at v) bytes =
    number_bytes (size_of width) (modified op width (number_at (size_of width) bytes 0) v)
outgoing e bytes = bytes

-- how many bytes an effect writes, if it brought along or has read this many
abbrev pub outgoing_len : Effect → ℕ → ℕ
outgoing_len (Modify op rd width pc at v) have = size_of width
outgoing_len e have = have
