-- What each call of a device leaves of what counts the calls that have succeeded.
use Rattle.std.specs.Prelude.{◌≡◌, ℕ, Bool, if◌then◌else◌}
use Rattle.thy_block.specs.Counts.{next}
use Rattle.thy_observe.specs.declared.counting.Calls.{Calls}
use Rattle.thy_observe.specs.declared.counting.Counting.{Counting}
use Rattle.thy_observe.specs.Wear.{unworn, worn_at}

-- a count after one more call, which has succeeded or not
abbrev pub counted : ℕ → Bool → ℕ
counted count done = if done then next count else count

-- how many calls are counted
abbrev pub calls_of : {N : Type 0} → Counting N → Calls
calls_of it = record { reads = it.reads; writes = it.writes; barriers = it.barriers }

abbrev pub no_calls : Calls
no_calls = record { reads = 0; writes = 0; barriers = 0 }

-- nothing is counted: only the device below may have changed
abbrev pub IsOver : {N : Type 0} → Counting N → Counting N → Type 0
IsOver old new = new ≡ record old { inner = new.inner }

-- a read was made, and is counted if it has succeeded
abbrev pub HasRead : {N : Type 0} → Bool → Counting N → Counting N → Type 0
HasRead done old new = new ≡ record old { inner = new.inner; reads = counted old.reads done }

-- a barrier was made, and is counted if it has succeeded
abbrev pub HasSettled : {N : Type 0} → Bool → Counting N → Counting N → Type 0
HasSettled done old new = new ≡ record old { inner = new.inner; barriers = counted old.barriers done }

-- a write at a place has succeeded, and is counted there too
pub record HasWritten {N : Type 0} (at : ℕ) (old new : Counting N) : Type 0 where
  pub counts : new ≡ record old { inner = new.inner; writes = next old.writes; wear = new.wear }
  pub worn : new.wear.items ≡ worn_at old.wear.items at

-- a device with this number of places was fitted: the calls of earlier ones count on
pub record HasFitted {N : Type 0} (blocks : ℕ) (old new : Counting N) : Type 0 where
  pub counts : new ≡ record old { inner = new.inner; wear = new.wear }
  pub worn : new.wear.items ≡ unworn old.wears blocks
