-- Where a program trapped, and at what.
use Rattle.std.specs.Prelude.{◌≡◌, ℕ, ◌-◌, if◌then◌else◌, nat_le, List, length, Option, Some, None}
use Rattle.thy_isa.specs.declared.state.Cause.{Cause}
use Rattle.thy_isa.specs.declared.state.Effect.{Effect}
use Rattle.thy_isa.specs.declared.state.Effect.TheVariants.{Read, Write, Reserve, Conditional, Modify}
use Rattle.thy_isa.specs.declared.state.Status.{Status}
use Rattle.thy_isa.specs.declared.state.Status.TheVariants.{Trapped}
use Rattle.thy_block.specs.LittleEndian.{number_at}
use Rattle.thy_isa.specs.Effects.{word_effect}
use Rattle.thy_isa.specs.Step.{State, fetch_fault, fronted}
use Rattle.thy_observe.specs.declared.tally.Tally.{Tally}
use Rattle.thy_observe.specs.declared.trap.Trap.{Trap}

-- the address that an effect reads or writes
abbrev pub reached : Effect → Option ℕ
reached (Read rd width extend pc at) = Some at
reached (Write width pc at v) = Some at
reached (Reserve rd width pc at) = Some at
reached (Conditional rd width pc at v) = Some at
reached (Modify op rd width pc at v) = Some at
reached e = None

-- the word at pc, if one can be fetched there
abbrev pub word_if : Option Cause → ℕ → Option ℕ
word_if None word = Some word
word_if (Some fault) word = None

abbrev pub fetched_word : (base pc : ℕ) (memory : List ℕ) → Option ℕ
fetched_word base pc memory = word_if (fetch_fault base (length memory) pc) (number_at 4 memory (pc - base))

-- the address that the instruction of a word would reach, with this program counter and these registers
abbrev pub reached_by : Option ℕ → (pc : ℕ) (regs : List ℕ) → Option ℕ
reached_by None pc regs = None
reached_by (Some word) pc regs = reached (word_effect word pc regs)

-- A trap of this number, of this hart, in a state that has the hart in front. Its pc is where the instruction that
-- trapped is; the trap also has the word there and, if a load, a store or an atomic instruction trapped, its address.
abbrev pub trap_by : (cause base hart : ℕ) → State → Trap
trap_by cause base hart s =
    let word = fetched_word base s.pc s.memory in
    record {
      hart = hart;
      pc = s.pc;
      word = word;
      address = if nat_le 4 cause then reached_by word s.pc s.regs else None;
    }

-- the trap of a state with this status
abbrev pub trap_with : Status → (base hart : ℕ) → State → Option Trap
trap_with (Trapped cause) base hart s = Some (trap_by cause base hart s)
trap_with status base hart s = None

-- the trap of a state that has hart 0 in front, if it has one, and if this hart trapped; its memory begins at this address
abbrev pub trap_of : (base hart : ℕ) → State → Option Trap
trap_of base hart s = trap_with s.status base hart (fronted hart s)

-- a tally has the trap of the plain machine's last state, which has one hart
abbrev pub HasTrap : Tally → ℕ → State → Type 0
HasTrap t base s = t.trap ≡ trap_of base 0 s
