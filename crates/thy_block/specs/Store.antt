-- Part of the claim.
-- What a store of blocks and the device below it are together, and what a store of a block makes of them.
use Rattle.std.specs.Prelude.{◌≡◌, ◌⊎◌, ℕ, ◌+◌, ◌-◌, ◌/◌, ◌^◌, ◌≤◌, Bool, true, List, slice_set, Option, Some, None}
use Rattle.thy_block.specs.declared.block.Block.{Block}
use Rattle.thy_block.specs.declared.store.Stored.{Stored}
use Rattle.thy_block.specs.declared.store.Stored.TheVariants.{Done, CopyFirst}

-- what a store and the device below it hold together
pub record Holding : Type 0 where
  -- what a load of each block gives
  pub blocks : List Block
  -- how many calls have failed since power came on
  pub faults : ℕ
  -- how many stores there is room for
  pub free : ℕ
  -- blocks can be stored
  pub ready : Bool
  -- the page that is being copied, if one is
  pub open_page : Option ℕ
  -- how many copies may still have to come before blocks are stored
  pub owed : ℕ

-- the page of a block
abbrev pub page_of : ℕ → ℕ
page_of b = b / 64

-- no page is being copied, or only this block's
abbrev pub IsOpenFor : ℕ → Option ℕ → Type 0
IsOpenFor b page = (page ≡ None) ⊎ (page ≡ Some (page_of b))

-- a load changes none of these, whether or not it fails
pub record IsKeptByLoad (old new : Holding) : Type 0 where
  pub free : new.free ≡ old.free
  pub open_page : new.open_page ≡ old.open_page
  pub owed : new.owed ≡ old.owed

-- the block was stored: it alone has changed, and at most one store less has room
pub record IsStored (b : ℕ) (block : Block) (old new : Holding) : Type 0 where
  pub blocks : new.blocks ≡ slice_set old.blocks b block
  pub free : old.free ≤ new.free + 1
  pub ready : new.ready ≡ old.ready
  -- if no other page was open none is any more, and no more is owed
  pub closed : IsOpenFor b old.open_page → new.open_page ≡ None
  pub owed : IsOpenFor b old.open_page → new.owed ≤ old.owed

-- a copy came first: no block has changed, no room is taken, and the block's page may be open
pub record IsCopiedFirst (b : ℕ) (old new : Holding) : Type 0 where
  pub blocks : new.blocks ≡ old.blocks
  pub free : old.free ≤ new.free
  pub ready : new.ready ≡ old.ready
  pub open_page : IsOpenFor b old.open_page → IsOpenFor b new.open_page
  -- one copy less is owed
  pub owed : IsOpenFor b old.open_page → new.owed + 1 ≤ old.owed

-- what a store of a block that succeeds leaves, by its result
abbrev pub HasStored : Stored → ℕ → Block → Holding → Holding → Type 0
HasStored Done b block old new = IsStored b block old new
HasStored CopyFirst b block old new = IsCopiedFirst b old new

-- stores of blocks by number, block and answer: from a store and a device before one to those after it
abbrev pub StoresOver : Type 0 → Type 0 → Type 1
StoresOver S N = ℕ → Block → Stored → S → N → S → N → Type 0

-- a plain list of blocks: always ready, with room for `2 ^ 64 - 1` stores
abbrev pub flat_list : List Block → Holding
flat_list blocks = record { blocks = blocks; faults = 0; free = 2 ^ 64 - 1; ready = true; open_page = None; owed = 0 }

-- at most one block of a list is another than before
abbrev pub ChangesOne : List Block → List Block → Type 0
ChangesOne old new = (new ≡ old) ⊎ ((b : ℕ) × (block : Block) × (new ≡ slice_set old b block))
