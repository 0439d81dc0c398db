-- Part of the claim.
-- An epoch: how far it is, and why it is over.
use Rattle.std.specs.Prelude.{◌≡◌, ◌==◌, ◌<◌, ◌≤◌, ℕ, ◌+◌, Bool, Option, Some, None, if◌then◌else◌}
use Rattle.thy_block.specs.declared.cause.EndCause.{EndCause}
use Rattle.thy_block.specs.declared.cause.EndCause.TheVariants.{Length, Exhausted, Ended}

pub record Epoch : Type 0 where
  -- how many instructions an epoch has at most
  pub span : ℕ
  pub number : ℕ
  -- how many instructions the epoch has retired
  pub retired : ℕ
  pub over : Option EndCause

-- an epoch of that number begins
abbrev pub begun : ℕ → ℕ → Epoch
begun span number = record { span = span; number = number; retired = 0; over = None }

-- why an epoch of length `span` is over after this many retired instructions, if it is; the flag says whether the
-- program continues
abbrev pub over_after : Bool → ℕ → ℕ → Option EndCause
over_after running span retired = if running then (if retired == span then Some Length else None) else Some Ended

-- an epoch after an instruction retired; the flag says whether the program continues after it
abbrev pub retired_once : Bool → Epoch → Epoch
retired_once running e = record e { retired = e.retired + 1; over = over_after running e.span (e.retired + 1) }

-- before an instruction that needs more table entries than are free
abbrev pub exhausted : ℕ → ℕ → ℕ → Epoch → Epoch
exhausted free dirty need e = record e { over = Some (Exhausted free dirty need) }

-- the next epoch begins
abbrev pub next_epoch : Epoch → Epoch
next_epoch e = begun e.span (e.number + 1)

-- fewer entries are free than are needed for the dirty lines and for the one or two blocks of an instruction
pub record IsShort (free dirty need : ℕ) : Type 0 where
  pub short : free < dirty + need
  pub some : 1 ≤ need
  pub few : need ≤ 2

-- how many instructions an epoch has retired, by why it is over
abbrev pub HasRetired : ℕ → ℕ → Option EndCause → Type 0
HasRetired span retired None = retired < span
HasRetired span retired (Some Length) = retired ≡ span
HasRetired span retired (Some (Exhausted free dirty need)) = (retired < span) × IsShort free dirty need
HasRetired span retired (Some Ended) = (0 < retired) × (retired ≤ span)

-- what holds of every epoch
pub record IsSoundEpoch (e : Epoch) : Type 0 where
  pub some : 0 < e.span
  pub cause : HasRetired e.span e.retired e.over
