-- Part of the claim.
-- What every state keeps that a machine can store: the number of registers, the ranges of numbers and bytes.
use Rattle.std.specs.Prelude.{ℕ, ◌≡◌, ◌<◌, ◌^◌, length, slice_index, Option, Some, None}
use Rattle.std.specs.List.{All}
use Rattle.thy_isa.specs.declared.state.Status.{Status}
use Rattle.thy_isa.specs.declared.state.Status.TheVariants.{Running, Exited, Trapped}
use Rattle.thy_isa.specs.declared.state.OtherHart.{OtherHart}
use Rattle.thy_isa.specs.declared.state.Reservation.{Reservation}
use Rattle.thy_isa.specs.declared.state.Reservation.TheVariants.{Nothing, Word, Double}
use Rattle.thy_isa.specs.Step.{State, Setting}

-- a number of 64 bits, and a byte
abbrev pub IsNumber : ℕ → Type 0
IsNumber n = n < 2 ^ 64

abbrev pub IsByte : ℕ → Type 0
IsByte n = n < 256

-- an exit's value is a byte, and a trap's number below 8
abbrev pub IsStatus : Status → Type 0
IsStatus Running = Unit {0}
IsStatus (Exited v) = v < 256
IsStatus (Trapped v) = v < 8

-- an address is a number of 64 bits, also one with which nothing is reserved
abbrev pub IsReservation : Reservation → Type 0
IsReservation (Nothing at) = IsNumber at
IsReservation (Word at) = IsNumber at
IsReservation (Double at) = IsNumber at

-- what the hart that is not in front keeps
pub record IsOther (o : OtherHart) : Type 0 where
  pub pc : IsNumber o.pc
  pub registers : length o.regs ≡ 32
  pub numbers : All IsNumber o.regs
  pub zero_register : slice_index o.regs 0 ≡ 0
  pub front : IsReservation o.front
  pub back : IsReservation o.back

-- what the hart that is not in front keeps, if it is there
abbrev pub IsOtherOf : Option OtherHart → Type 0
IsOtherOf None = Unit {0}
IsOtherOf (Some o) = IsOther o

-- a state whose program memory has that size. Its count is left out: that is what a step makes larger.
pub record IsStorable (size : ℕ) (s : State) : Type 0 where
  pub pc : IsNumber s.pc
  pub registers : length s.regs ≡ 32
  pub numbers : All IsNumber s.regs
  pub zero_register : slice_index s.regs 0 ≡ 0
  pub memory_size : length s.memory ≡ size
  pub memory : All IsByte s.memory
  pub console : All IsByte s.console
  pub cursor : IsNumber s.cursor
  pub brk : IsNumber s.brk
  pub floor : IsNumber s.floor
  pub status : IsStatus s.status
  pub other : IsOtherOf s.other

-- an input consists of bytes, and its length is a number of 64 bits
pub record IsReadable (g : Setting) : Type 0 where
  pub bytes : All IsByte g.input
  pub size : IsNumber (length g.input)
