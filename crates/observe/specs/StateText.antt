-- A state as text.
use Rattle.std.specs.Prelude.{ℕ, zero, suc, ◌+◌, ◌*◌, ◌/◌, ◌==◌, if◌then◌else◌, false, List, [], ◌++◌, length, codes, Option, Some, None}
use Rattle.std.specs.Fmt.{decimal, digits}
use Rattle.thy_block.specs.LittleEndian.{number_at}
use Rattle.thy_isa.specs.declared.state.OtherHart.{OtherHart}
use Rattle.thy_isa.specs.declared.state.Reservation.{Reservation}
use Rattle.thy_isa.specs.declared.state.Reservation.TheVariants.{Nothing, Word, Double}
use Rattle.thy_isa.specs.declared.state.Status.{Status}
use Rattle.thy_isa.specs.declared.state.Status.TheVariants.{Running, Exited, Trapped}
use Rattle.thy_isa.specs.Regs.{reg_at}
use Rattle.thy_isa.specs.Step.{State}

-- the lines of n numbers, from this one on
abbrev pub rows_from : (ℕ → List ℕ) → (i n : ℕ) → List ℕ
rows_from row i zero = []
rows_from row i (suc n) = row i ++ rows_from row (i + 1) n

-- ---- harts

-- the line of a register
abbrev pub reg_row : List ℕ → ℕ → List ℕ
reg_row regs r = codes "x" ++ (decimal r ++ (codes " " ++ (digits 16 false (reg_at regs r) ++ codes "\n")))

-- the lines of a hart: its program counter, and its registers but x0
abbrev pub hart_text : (hart pc : ℕ) → List ℕ → List ℕ
hart_text hart pc regs =
    (codes "hart " ++ (decimal hart ++ (codes " " ++ (digits 16 false pc ++ codes "\n")))) ++ rows_from (reg_row regs) 1 31

-- what a hart has reserved: how many bytes at which address
abbrev pub reserved_text : Reservation → List ℕ
reserved_text (Nothing at) = codes "reserved none\n"
reserved_text (Word at) = codes "reserved 4 " ++ (digits 16 false at ++ codes "\n")
reserved_text (Double at) = codes "reserved 8 " ++ (digits 16 false at ++ codes "\n")

-- the lines of what hart 0 has reserved, and of hart 1; none with one hart
abbrev pub other_text : Option OtherHart → List ℕ
other_text None = []
other_text (Some o) = reserved_text o.front ++ (hart_text 1 o.pc o.regs ++ reserved_text o.back)

-- ---- memory

-- the line of eight bytes as a number, with their address; none if it is 0
abbrev pub double_row : (base : ℕ) → List ℕ → ℕ → List ℕ
double_row base memory i =
    let value = number_at 8 memory (8 * i) in
    if value == 0 then [] else digits 16 false (base + 8 * i) ++ (codes " " ++ (digits 16 false value ++ codes "\n"))

-- the lines of memory: the address of its first byte, its length in bytes, and the numbers that are not 0
abbrev pub memory_text : (base : ℕ) → List ℕ → List ℕ
memory_text base memory =
    (codes "memory " ++ (digits 16 false base ++ (codes " " ++ (decimal (length memory) ++ codes "\n"))))
    ++ rows_from (double_row base memory) 0 (length memory / 8)

-- ---- a state

abbrev pub status_text : Status → List ℕ
status_text Running = codes "running\n"
status_text (Exited value) = codes "exit " ++ (decimal value ++ codes "\n")
status_text (Trapped cause) = codes "trap " ++ (decimal cause ++ codes "\n")

-- the count, the length of the console, what was read of the input, and the break
abbrev pub numbers_text : State → List ℕ
numbers_text s =
    codes "count " ++ (decimal s.count ++ (codes "\nconsole " ++ (decimal (length s.console)
    ++ (codes "\ncursor " ++ (decimal s.cursor ++ (codes "\nbreak " ++ (digits 16 false s.brk ++ codes "\n")))))))

abbrev pub state_text : (base : ℕ) → State → List ℕ
state_text base s =
    status_text s.status ++ (numbers_text s ++ (hart_text 0 s.pc s.regs ++ (other_text s.other ++ memory_text base s.memory)))

abbrev pub state_or_none : (base : ℕ) → Option State → List ℕ
state_or_none base None = codes "none\n"
state_or_none base (Some s) = state_text base s

-- a section: a head line with the number that was asked for, and the state if there is one
abbrev pub state_section : (head : List ℕ) (number base : ℕ) → Option State → List ℕ
state_section head number base s = (head ++ (codes " " ++ (decimal number ++ codes "\n"))) ++ state_or_none base s
