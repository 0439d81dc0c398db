-- Where frames go, and that the pool never lacks a page.
use Rattle.std.specs.Prelude.{◌≡◌, ℕ, ◌<◌, Some}
use Rattle.thy_layout.specs.Entries.{Lists}
use Rattle.thy_table.specs.Listing.{free_count}
use Rattle.thy_shadow_parts.specs.State.{State, IsSoundState, target, committed_table}

-- the pool has a free page for each frame that is not filled
abbrev pub PoolHasRoom : Type 0
PoolHasRoom = (s : State) → IsSoundState s → free_count s.pool ≡ free_count s.frames

-- page r of the pool is one that the committed map lists, or to which a frame lower than j goes
pub data IsUsedBelow (s : State) (j r : ℕ) : Type 0 where
  ByMap : (x : ℕ) → Lists (committed_table s) x r → IsUsedBelow s j r
  ByFrame : (i : ℕ) → i < j → target s i ≡ Some r → IsUsedBelow s j r

-- a frame goes to the lowest page of which this does not hold
abbrev pub TargetsAreLowest : Type 0
TargetsAreLowest =
    (s : State) (j q r : ℕ) → IsSoundState s → target s j ≡ Some q → r < q → IsUsedBelow s j r

-- the committed map lists no page of the pool that a frame goes to
abbrev pub TargetsAreFree : Type 0
TargetsAreFree =
    (s : State) (j q x : ℕ) → IsSoundState s → target s j ≡ Some q → Lists (committed_table s) x q → ⊥
