-- Part of the claim.
-- How much a machine has left to do, in numbers that it shows, and how each cycle changes them.
use Rattle.std.specs.Prelude.{◌≡◌, ℕ, ◌+◌, ◌<◌, ◌≤◌, ◌==◌, Bool, true, false, MatchBool}
use Rattle.thy_computer.specs.declared.did.Did.{Did}
use Rattle.thy_computer.specs.declared.did.Did.TheVariants.{Retired, Sealed, NvmDrained, DramDrained}
use Rattle.thy_computer.specs.declared.view.Phase.TheVariants.{Boot as BootPhase}
use Rattle.thy_computer.specs.declared.view.View.{View}

pub record Gauge : Type 0 where
  -- actions that the boot has left
  pub boot_left : ℕ
  -- the epoch that was sealed last retired nothing
  pub idle : Bool
  -- writes queued in the two devices
  pub queued : ℕ
  -- table entries that are free
  pub free : ℕ
  -- lines of the cache that are dirty, and entries that the instruction in hand has secured and not used yet
  pub dirty : ℕ
  -- the instruction that is begun has secured an entry for each block that it stores to
  pub has_secured : Bool
  -- moves that the instruction in hand, or else the next one, has left in the epoch that executes
  pub moves : ℕ
  -- copies that may have to come before stores, those that the next commit may add, and blocks that are to be promoted
  pub owed : ℕ
  pub owed_later : ℕ
  pub promotions : ℕ

-- a cycle drained a queue
abbrev pub is_drained : Did → Bool
is_drained NvmDrained = true
is_drained DramDrained = true
is_drained did = false

-- instructions that a cycle retired
abbrev pub retires : Did → ℕ
retires (Retired hart) = 1
retires did = 0

-- a drain lets one write land, and every other cycle queues at most one, over the two devices together
abbrev pub Queues : Did → ℕ → ℕ → Type 0
Queues did old new = MatchBool (is_drained did) (new + 1 ≡ old) (new ≤ old + 1)

-- a cycle of the boot that is not a drain is one of its actions
abbrev pub Boots : Did → ℕ → ℕ → Type 0
Boots did old new = MatchBool (is_drained did) (new ≤ old) (new + 1 ≤ old)

-- whether the last epoch retired no instruction stays known: after such an epoch the next one retires one
abbrev pub Strides : Did → ℕ → Bool → Bool → Type 0
Strides (Sealed epoch count cause) retired old new = (old ≡ true → 1 ≤ retired) × (new ≡ (retired == 0))
Strides did retired old new = new ≡ old

-- a cycle keeps within the bounds of its machine
pub record KeepsPace (most_spent : ℕ) (v next : View) (did : Did) (old new : Gauge) : Type 0 where
  pub spent : next.spent < most_spent
  pub queues : Queues did old.queued new.queued
  pub boots : v.phase ≡ BootPhase → Boots did old.boot_left new.boot_left
  pub strides : Strides did v.retired old.idle new.idle
  pub entries : new.dirty ≤ new.free
