-- Part of the claim.
-- Laws of a store and of a copy, for one block and for the other blocks of its page.
use Rattle.std.specs.Prelude.{◌≡◌, ◌≢◌, Bool}
use Rattle.thy_block.specs.declared.block.Block.{Block}
use Rattle.thy_block.specs.declared.parameters.Parameters.{Parameters}
use Rattle.thy_table.specs.declared.place.Place.{Place}
use Rattle.thy_table.specs.declared.block_entry.Pending.TheVariants.{FromBuffer}
use Rattle.thy_table.specs.declared.cell.Cell.{Cell}
use Rattle.thy_table.specs.declared.cell.StoreRule.{StoreRule}
use Rattle.thy_table.specs.declared.cell.StoreRule.TheVariants.{ToFrame, ToBuffer, ToNvm, PendingFirst}
use Rattle.thy_table.specs.Cells.{seat_of, buffer_at, penult, target, last, work}
use Rattle.thy_table.specs.Sound.{IsWithin, IsSoundCell, IsWhole, Holds, Puts}
use Rattle.thy_table.specs.Rules.{store_rule, store_place, after_store}

-- both checkpoints have the block at the places that they had
pub record KeepsPlaces (c d : Cell) : Type 0 where
  pub penult_same : penult d ≡ penult c
  pub target_same : target d ≡ target c

-- the committed version and the version of the checkpoint under way read as before, and a load gives this block
pub record LoadGives (old new : Place → Block) (c d : Cell) (given : Block) : Type 0 where
  pub penult_same : new (penult d) ≡ old (penult c)
  pub last_same : new (last d) ≡ old (last c)
  pub work_gives : new (work d) ≡ given

-- the block that a rule writes: the one that is stored, or the buffer that has to be copied
abbrev pub put_by : StoreRule → Block → (Place → Block) → Cell → Block
put_by ToFrame block reads c = block
put_by ToBuffer block reads c = block
put_by ToNvm block reads c = block
put_by PendingFirst block reads c = reads (buffer_at (seat_of c))

-- what a load gives after a rule's write
abbrev pub given_by : StoreRule → Block → (Place → Block) → Cell → Block
given_by ToFrame block reads c = block
given_by ToBuffer block reads c = block
given_by ToNvm block reads c = block
given_by PendingFirst block reads c = reads (work c)

-- a store leaves the entries sound
abbrev pub StoreKeepsSound : Type 0
StoreKeepsSound =
    (under_way : Bool) (c : Cell) → IsSoundCell under_way c → IsWhole c.page → IsSoundCell under_way (after_store (store_rule c) c)

-- a store writes none of the places of the two checkpoints
pub record IsElsewhere (place : Place) (c : Cell) : Type 0 where
  pub not_penult : penult c ≢ place
  pub not_last : last c ≢ place

abbrev pub StoreGoesElsewhere : Type 0
StoreGoesElsewhere =
    (under_way : Bool) (c : Cell) → IsSoundCell under_way c → IsWhole c.page → IsElsewhere (store_place (store_rule c) c) c

-- a store does not write the place at which the checkpoint under way is to have the block, unless the copy comes first
abbrev pub StoreLeavesTarget : Type 0
StoreLeavesTarget =
    (under_way : Bool) (c : Cell) → IsSoundCell under_way c → IsWhole c.page → c.entry.pend ≢ FromBuffer
    → target c ≢ store_place (store_rule c) c

-- a store moves no place of a checkpoint
abbrev pub StoreKeepsPlaces : Type 0
StoreKeepsPlaces = (c : Cell) → KeepsPlaces c (after_store (store_rule c) c)

-- after a store both versions read as before, and a load gives what was stored, or, if the copy came first, what it
-- gave before
abbrev pub StoreReads : Type 0
StoreReads =
    (p : Parameters) (under_way : Bool) (c : Cell) (block : Block) (old new : Place → Block)
    → IsWithin p (seat_of c) → IsSoundCell under_way c → IsWhole c.page
    → Puts p (store_place (store_rule c) c) (put_by (store_rule c) block old c) old new
    → LoadGives old new c (after_store (store_rule c) c) (given_by (store_rule c) block old c)

-- after a store the places of a block hold what they have to, if they did before
abbrev pub StoreHolds : Type 0
StoreHolds =
    (p : Parameters) (under_way : Bool) (c : Cell) (block : Block) (old new : Place → Block)
    → IsWithin p (seat_of c) → IsSoundCell under_way c → IsWhole c.page
    → Puts p (store_place (store_rule c) c) (put_by (store_rule c) block old c) old new
    → Holds old c → Holds new (after_store (store_rule c) c)
