-- Part of the claim.
-- The environment calls: a7 names the call, a0 to a2 are its arguments, and its result goes into a0. All numbers are
-- whole: no address or length wraps.
use Rattle.std.specs.Prelude.{ℕ, ◌+◌, ◌-◌, ◌%◌, ◌^◌, ◌<◌, ◌≤◌, ◌==◌, ◌&&◌, ◌||◌, not, nat_le, min, if◌then◌else◌, List}
use Rattle.thy_block.specs.Inside.{is_inside}
use Rattle.thy_isa.specs.declared.state.Call.{Call}
use Rattle.thy_isa.specs.declared.state.Call.TheVariants.{Answer, Exit, Break, Take, Give}
use Rattle.thy_isa.specs.declared.state.CallState.{CallState}
use Rattle.thy_isa.specs.Regs.{reg_at}

-- a0 to a2, x10 to x12
abbrev pub a0 : List ℕ → ℕ
a0 x = reg_at x 10

abbrev pub a1 : List ℕ → ℕ
a1 x = reg_at x 11

abbrev pub a2 : List ℕ → ℕ
a2 x = reg_at x 12

-- a7, x17
abbrev pub a7 : List ℕ → ℕ
a7 x = reg_at x 17

-- the result -n, in two's complement
abbrev pub refusal : ℕ → ℕ
refusal n = 2 ^ 64 - n

-- how many bytes a call moves of those it asks for and those that there are: at most 64
abbrev pub few : ℕ → ℕ → ℕ
few asked left = min (min asked 64) left

-- read(descriptor, at, count): the next bytes of the input, from descriptor 0, go to an address
unfoldable pub read_of : ℕ → ℕ → ℕ → CallState → Call
read_of descriptor at count c =
    let len = few count (c.input_len - c.cursor) in
    if not (descriptor == 0) then Answer (refusal 9)
    else if count == 0 then Answer 0
    else if nat_le c.input_len c.cursor then Answer 0
    else if is_inside c.base c.size at len then Take at len
    else Answer (refusal 14)

-- write(descriptor, at, count): the bytes at an address go to the end of the console, by descriptor 1 or 2
unfoldable pub write_of : ℕ → ℕ → ℕ → CallState → Call
write_of descriptor at count c =
    let len = few count c.room in
    if not (descriptor == 1 || descriptor == 2) then Answer (refusal 9)
    else if count == 0 then Answer 0
    else if c.room == 0 then Answer (refusal 28)
    else if is_inside c.base c.size at len then Give at len
    else Answer (refusal 14)

-- the stack pointer at the start, 256 bytes below the end of program memory; the break keeps 65536 bytes below that
abbrev pub first_sp : CallState → ℕ
first_sp c = c.base + c.size - 256

-- brk(at): the break moves there, or stays; the result is the break
unfoldable pub break_of : ℕ → CallState → Call
break_of at c = if nat_le c.floor at && nat_le (at + 65536) (first_sp c) then Break at else Answer c.brk

-- the call of each number: 63 read, 64 write, 93 exit and 94 exit_group, 214 brk; any other names none
unfoldable pub call_of : List ℕ → CallState → Call
call_of x c =
    if a7 x == 63 then read_of (a0 x) (a1 x) (a2 x) c
    else if a7 x == 64 then write_of (a0 x) (a1 x) (a2 x) c
    else if a7 x == 93 || a7 x == 94 then Exit (a0 x % 256)
    else if a7 x == 214 then break_of (a0 x) c
    else Answer (refusal 38)

-- ---- what every call keeps to

-- 1 to 64 bytes inside program memory
pub record IsMoved (c : CallState) (at len : ℕ) : Type 0 where
  pub some : 1 ≤ len
  pub most : len ≤ 64
  pub low : c.base ≤ at
  pub high : at + len ≤ c.base + c.size

-- what is taken is left of the input, what is given has room, and a break lies in its bounds
abbrev pub IsFit : CallState → Call → Type 0
IsFit c (Take at len) = IsMoved c at len × (c.cursor + len ≤ c.input_len)
IsFit c (Give at len) = IsMoved c at len × (len ≤ c.room)
IsFit c (Break at) = (c.floor ≤ at) × (at + 65536 ≤ first_sp c)
IsFit c (Exit v) = v < 256
IsFit c (Answer v) = Unit {0}
