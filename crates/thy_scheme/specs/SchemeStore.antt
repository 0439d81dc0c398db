-- Part of the claim.
-- A scheme as a store of blocks.
use Rattle.std.specs.Prelude.{◌≡◌, true, false}
use Rattle.thy_block.specs.Counts.{Rose}
use Rattle.thy_block.specs.Device.{Device, failed_calls}
use Rattle.thy_block.specs.Store.{Holding, StoresOver}
use Rattle.thy_scheme.specs.Exact.{Makes}
use Rattle.thy_scheme.specs.Scheme.{SchemeOf}
use Rattle.thy_scheme.specs.Calls.{IsOneAccess}
use Rattle.thy_scheme.specs.declared.scheme_store.SchemeStore.{SchemeStore}

-- one load or store through a store, whose failure the NVM has counted; after it the store is not marked as calm
pub record IsOneCall {S : Type 0} (K : SchemeOf S) (a : SchemeStore S) (n : Device) (b : SchemeStore S) (new : Device) : Type 0 where
  pub access : IsOneAccess K a.scheme n b.scheme new
  pub counted : new.down ≡ true → Rose n.faults new.faults
  pub unmarked : b.calm ≡ false

-- a load leaves the scheme, and the NVM unless it fails
pub record LeavesAll {S : Type 0} (a : SchemeStore S) (n : Device) (b : SchemeStore S) (new : Device) : Type 0 where
  pub scheme : b.scheme ≡ a.scheme
  pub nvm : new.down ≡ false → new ≡ n

abbrev pub loads_by : {S N : Type 0} → (N → Device) → SchemeStore S → N → SchemeStore S → N → Type 0
loads_by device s m t n = LeavesAll s (device m) t (device n)

-- a store is the scheme's own, exactly
abbrev pub stores_by : {S N : Type 0} → SchemeOf S → (N → Device) → StoresOver (SchemeStore S) N
stores_by K device b block stored s m t n =
    Makes (K.calls.store b block s.scheme (device m)) stored (device m) t.scheme (device n)

-- what a scheme holds, and the calls that have failed
abbrev pub held_by_scheme : {S : Type 0} → SchemeOf S → S → Device → Holding
held_by_scheme K s n = record (K.holding s n) { faults = failed_calls n }
