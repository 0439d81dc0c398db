-- What holds of the loads and stores of every scheme.
use Rattle.std.specs.Prelude.{◌≡◌, ◌⊎◌, ℕ, ◌+◌, ◌<◌, ◌≤◌, Bool, true, false, List, ◌∷◌, length}
use Rattle.thy_block.specs.declared.block.Block.{Block}
use Rattle.thy_block.specs.Device.{Device, newest, IsFramed, HasFailed}
use Rattle.thy_block.specs.Places.{header_place, commit_place}
use Rattle.thy_block.specs.Store.{HasStored}
use Rattle.thy_layout.specs.Spares.{Spares}
use Rattle.thy_layout.specs.Commit.{commit_of}
use Rattle.thy_layout.specs.Layout.{looked_by}
use Rattle.thy_computer.specs.Action.{IsAccess, after, FailsTo}
use Rattle.thy_computer.specs.Dram.{ActsOnDram, WritesBlock}
use Rattle.thy_checkpoint.specs.Filling.{layout_at}
use Rattle.thy_checkpoint.specs.Items.{Phase, Resting, Making, Made}
use Rattle.thy_scheme_parts.specs.Design.{DesignOf}
use Rattle.thy_scheme_parts.specs.Holding.{holding_of}
use Rattle.thy_scheme_parts.specs.Moments.{IsMoment, MakesAt}

-- a block may be stored
pub record CanStore {C : Type 0} (D : DesignOf C) (b : ℕ) (c : C) (n : Device) : Type 0 where
  pub sound : D.parts.sound c
  pub inside : b < length (holding_of D c n).blocks
  pub ready : (holding_of D c n).ready ≡ true
  pub room : 0 < D.parts.free c

-- what a store makes of controller and NVM
pub record MakesStore {C : Type 0} (D : DesignOf C) (b : ℕ) (block : Block) (c : C) (n : Device) (d : C) (m : Device) : Type 0 where
  pub stored : HasStored (D.parts.store_answer b c) b block (holding_of D c n) (holding_of D d m)
  pub dram : ActsOnDram n m (D.filling.dram c) (D.filling.dram d)
  -- if fewer copies are owed, a block was written
  pub copies : D.parts.owed d + 1 ≤ D.parts.owed c → WritesBlock n m (D.filling.dram c) (D.filling.dram d)
  pub stays : D.parts.stays c n d m
  pub still : D.parts.storeless_after (D.parts.store_answer b c) true ≡ true → D.parts.still c d

-- while a checkpoint is made, memory as it was sealed stays
abbrev pub SealedStays : {C : Type 0} → DesignOf C → Phase → C → Device → C → Device → Type 0
SealedStays D (Making from) c n d m = D.parts.sealed d m ≡ D.parts.sealed c n
SealedStays D Made c n d m = D.parts.sealed d m ≡ D.parts.sealed c n
SealedStays D phase c n d m = Unit {0}

-- once the body is whole the slot says the same, and it reads as before
pub record SlotStays {C : Type 0} (D : DesignOf C) (epoch : ℕ) (c : C) (n : Device) (d : C) (m : Device) : Type 0 where
  pub rest : (k : ℕ) → D.items.rest d k ≡ D.items.rest c k
  pub reads : (k : ℕ) → k < (layout_at D.filling (D.filling.p c)).slot_blocks (commit_of epoch)
      → newest m ((layout_at D.filling (D.filling.p c)).slot_place (commit_of epoch) + k)
      ≡ newest n ((layout_at D.filling (D.filling.p c)).slot_place (commit_of epoch) + k)

abbrev pub SlotStaysAt : {C : Type 0} → DesignOf C → Phase → ℕ → C → Device → C → Device → Type 0
SlotStaysAt D Made epoch c n d m = SlotStays D epoch c n d m
SlotStaysAt D phase epoch c n d m = Unit {0}

-- what stays while the NVM is up, at a moment
pub record StaysAt {C : Type 0} (D : DesignOf C) (phase : Phase) (epoch : ℕ) (c : C) (n : Device) (d : C) (m : Device) : Type 0 where
  pub moment : IsMoment D phase epoch d m
  pub sealed : SealedStays D phase c n d m
  pub committed : D.parts.committed phase d m ≡ D.parts.committed phase c n
  pub keeps : (g : List Block) → D.parts.keeps phase epoch c g → D.parts.keeps phase epoch d g
  pub makes : (g : List Block) → MakesAt D phase epoch c g → MakesAt D phase epoch d g
  pub rests : (b : Bool) → D.parts.rests false b phase c → D.parts.rests false b phase d
  pub slot : SlotStaysAt D phase epoch c n d m
  -- header and commit block read as before
  pub header : newest m header_place ≡ newest n header_place
  pub commit : newest m commit_place ≡ newest n commit_place

-- what loads and stores keep of a moment, whether or not they failed
pub record StaysOver {C : Type 0} (D : DesignOf C) (phase : Phase) (epoch : ℕ) (c : C) (n : Device) (d : C) (m : Device) : Type 0 where
  -- images keep the places that they are found by
  pub kept : (g : List Block) → D.parts.keeps phase epoch c g → Spares (commit_place ∷ looked_by (layout_at D.filling (D.filling.p c)) g) n m
  pub made : (g : List Block) → MakesAt D phase epoch c g → Spares (commit_place ∷ looked_by (layout_at D.filling (D.filling.p c)) g) n m
  -- no more is left to do than before
  pub left : (from : ℕ) → D.items.body_left d from ≤ D.items.body_left c from
  pub owed_later : D.parts.owed_later phase d ≤ D.parts.owed_later phase c
  pub up : m.down ≡ false → StaysAt D phase epoch c n d m

pub record IsStoring {C : Type 0} (D : DesignOf C) : Type 0 where
  -- a store acts on the NVM once, and one that failed leaves the controller
  pub access : (b : ℕ) (block : Block) (c : C) → IsAccess (D.parts.store_action b block c)
  pub store : (b : ℕ) (block : Block) (c : C) (n : Device) → CanStore D b c n
      → MakesStore D b block c n (D.parts.stored b block c n) (after n.writes (D.parts.store_action b block c) n)
  pub store_fails : (b : ℕ) (block : Block) (c : C) (n m : Device)
      → CanStore D b c n → FailsTo (D.parts.store_action b block c) n m → IsFramed n m → D.parts.stays c n c m
  pub load_fails : (c : C) (n m : Device) → HasFailed n m → IsFramed n m → D.parts.stays c n c m
  -- once a block was stored there is no way back but a seal
  pub stored_once : (c : C) (b : ℕ) → D.parts.storeless_after (D.parts.store_answer b c) false ≡ false
  -- what is left of the controller if no block was stored, over any number of calls
  pub still_same : (c : C) → D.parts.still c c
  pub still_on : (a b c : C) → D.parts.still a b → D.parts.still b c → D.parts.still a c
  pub still_rests : (sealed : Bool) (phase : Phase) (c d : C) → D.parts.still c d → D.parts.rests true sealed phase c → D.parts.rests true sealed phase d
  pub rests_less : (sealed : Bool) (phase : Phase) (c : C) → D.parts.rests true sealed phase c → D.parts.rests false sealed phase c
  -- what stays over any number of calls
  pub stays_same : (c : C) (n : Device) → D.parts.stays c n c n
  pub stays_on : (a : C) (l : Device) (b : C) (m : Device) (c : C) (n : Device)
      → D.parts.stays a l b m → D.parts.stays b m c n → D.parts.stays a l c n
  pub stays_p : (c : C) (n : Device) (d : C) (m : Device) → D.parts.stays c n d m → D.filling.p d ≡ D.filling.p c
  pub stays_room : (c : C) (n : Device) (d : C) (m : Device) → D.parts.stays c n d m → (D.filling.dram d).room ≡ (D.filling.dram c).room
  pub stays_sound : (c : C) (n : Device) (d : C) (m : Device) → D.parts.stays c n d m → D.parts.sound c → D.parts.sound d
  -- over a moment, if the hart may run then
  pub stays : (phase : Phase) (epoch : ℕ) (c : C) (n : Device) (d : C) (m : Device)
      → IsMoment D phase epoch c n → (D.parts.overlaps ≡ true) ⊎ (phase ≡ Resting) → D.parts.stays c n d m
      → StaysOver D phase epoch c n d m
