-- What bringing a missing line a step nearer does.
use Rattle.std.specs.Prelude.{◌≡◌, ◌⊎◌, ℕ, ◌+◌, ◌≤◌, Bool, true, length, Option, Some}
use Rattle.thy_block.specs.declared.store.Stored.{Stored}
use Rattle.thy_block.specs.Device.{block_at}
use Rattle.thy_block.specs.Store.{Holding, StoresOver}
use Rattle.thy_cache.specs.declared.line.Victim.{Victim}
use Rattle.thy_cache.specs.declared.line.Victim.TheVariants.{Room, Dirty}
use Rattle.thy_cache.specs.Contents.{Contents, victim_of, victim_line_of, dirty_count, filled_with, evicted_for, KeepsSize, StoresBy}
use Rattle.thy_cache.specs.Flat.{flat, Agrees}
use Rattle.thy_hart.specs.Moments.{IsOpenFor, touch_steps}

-- fewer steps are left, or the same number with one copy less owed
abbrev pub IsNearer : ℕ → Contents → Holding → Contents → Holding → Type 0
IsNearer b old before new now =
    (touch_steps new b + 1 ≤ touch_steps old b) ⊎ ((touch_steps new b ≡ touch_steps old b) × (now.owed + 1 ≤ before.owed))

-- if there is room for the block it is filled in, else the dirty line in its way is stored, or a copy comes first
abbrev pub BringsLine : Victim → ℕ → Contents → Holding → Contents → Type 0
BringsLine Room b old before new = new ≡ filled_with b (block_at before.blocks b) old
BringsLine (Dirty at) b old before new = (stored : Stored) × (new ≡ evicted_for stored b old)

-- ---- which call of the store that makes

-- the line in the way was stored, or a copy came first
pub record EvictsBy {S N : Type 0} (stores : StoresOver S N) (b : ℕ) (old new : Contents) (s : S) (m : N) (t : S) (n : N) : Type 0 where
  pub stored : Stored
  pub cache : new ≡ evicted_for stored b old
  pub made : StoresBy stores stored (victim_line_of old b) s m t n

-- a load if there is room, else the store of the line in the way
abbrev pub BringsBy : {S N : Type 0} → (S → N → S → N → Type 0) → StoresOver S N → Victim → ℕ → Contents → Contents → S → N → S → N → Type 0
BringsBy loads stores Room b old new s m t n = loads s m t n
BringsBy loads stores (Dirty at) b old new s m t n = EvictsBy stores b old new s m t n

-- which call of the store a hart makes: the one that brings the line of the block that is touched next, if one is brought
abbrev pub CallsStore : {S N : Type 0} → (S → N → S → N → Type 0) → StoresOver S N → Bool → Option ℕ → Contents → Contents → S → N → S → N → Type 0
CallsStore loads stores true (Some b) old new s m t n = BringsBy loads stores (victim_of old b) b old new s m t n
CallsStore loads stores brings block old new s m t n = Unit {0}

-- memory is as before, and its block is a step nearer
pub record IsBrought (b : ℕ) (old : Contents) (before : Holding) (new : Contents) (now : Holding) : Type 0 where
  pub memory : flat new now.blocks ≡ flat old before.blocks
  pub blocks : length now.blocks ≡ length before.blocks
  pub agree : Agrees new now.blocks
  pub ready : now.ready ≡ before.ready
  -- no more room is taken than dirty lines have gone
  pub room : dirty_count new + before.free ≤ dirty_count old + now.free
  pub tidy : dirty_count new ≤ dirty_count old
  pub opened : IsOpenFor new (Some b) now.open_page
  pub owed : now.owed ≤ before.owed
  pub nearer : IsNearer b old before new now
  pub line : BringsLine (victim_of old b) b old before new
  pub sized : KeepsSize old new
