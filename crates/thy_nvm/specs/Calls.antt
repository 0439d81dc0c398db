-- Which calls of a device in memory fail, and how.
use Rattle.std.specs.Prelude.{ℕ, ◌==◌, if◌then◌else◌, Bool, List, Option, Some, None}
use Rattle.std.specs.List.{list_any}
use Rattle.thy_block.specs.Counts.{next}
use Rattle.thy_nvm.specs.declared.call_faults.Fault.{Fault}
use Rattle.thy_nvm.specs.declared.call_faults.Fault.TheVariants.{Undone, Late}

-- the reads, writes, drains and barriers of a device, which have numbers from 1 on
pub record Calls : Type 0 where
  -- how many were made, which is the number of the latest; it saturates
  pub made : ℕ
  -- the numbers of the calls that fail and do nothing
  pub failing : List ℕ
  -- the numbers of the calls that fail late
  pub late : List ℕ

abbrev pub calls_in : ℕ → List ℕ → List ℕ → Calls
calls_in made failing late = record { made = made; failing = failing; late = late }

-- the calls of a device of which none was made
abbrev pub no_calls : List ℕ → List ℕ → Calls
no_calls failing late = calls_in 0 failing late

-- the calls of a device after one more
abbrev pub counted : Calls → Calls
counted calls = record calls { made = next calls.made }

abbrev pub is_listed : ℕ → List ℕ → Bool
is_listed number numbers = list_any (λ n. n == number) numbers

-- the fault of the next call, None if that call succeeds
abbrev pub next_fault : Calls → Option Fault
next_fault calls =
    if is_listed (next calls.made) calls.failing then Some Undone
    else if is_listed (next calls.made) calls.late then Some Late
    else None
