-- What holds of every scheme.
use Rattle.std.specs.Prelude.{◌≡◌, ℕ, ◌+◌, ◌<◌, ◌≤◌, true, false, List, ◌∷◌, length, map, Contains, Some, None}
use Rattle.thy_block.specs.declared.block.Block.{Block}
use Rattle.thy_block.specs.Device.{Device, block_at, newest, written_to}
use Rattle.thy_block.specs.Geometry.{IsInRange, memory_blocks}
use Rattle.thy_block.specs.Places.{header_place, commit_place, dram_blocks}
use Rattle.thy_dram.specs.Contents.{drained}
use Rattle.thy_isa.specs.Step.{State}
use Rattle.thy_layout.specs.Commit.{commit_of}
use Rattle.thy_layout.specs.Cpu.{IsRecordable}
use Rattle.thy_layout.specs.Decoded.{At}
use Rattle.thy_layout.specs.Layout.{slot_in, looked_by, decode_by}
use Rattle.thy_computer.specs.Safe.{ceiling}
use Rattle.thy_checkpoint.specs.Filling.{IsFilling, layout_at}
use Rattle.thy_checkpoint.specs.Items.{AreItems, Phase, Resting, Making, Made, Applying, phase_committed}
use Rattle.thy_checkpoint.specs.Progress.{Progress, layout_of, slot_blocks}
use Rattle.thy_scheme_parts.specs.Design.{DesignOf}
use Rattle.thy_scheme_parts.specs.Moments.{IsMoment, Carries, Commits, SealsTo, ReadsSame, IsOwn, slot_list, parts_at}

-- the engine's processor can be recorded, for an epoch below the ceiling, and the engine is of the controller's geometry
pub record CanRecord {C : Type 0} (D : DesignOf C) (e : Progress) (c : C) : Type 0 where
  pub range : IsInRange e.p
  pub same_p : D.filling.p c ≡ e.p
  pub recordable : IsRecordable e.p ceiling e.cpu
  pub small : e.epoch < ceiling

-- a write goes to none of the places that an image is found by, nor to header or commit block
abbrev pub IsSpared : {C : Type 0} → DesignOf C → C → List Block → ℕ → Type 0
IsSpared D c g x = ¬ Contains (header_place ∷ commit_place ∷ looked_by (layout_at D.filling (D.filling.p c)) g) x

-- no number of a controller is above its maximum
pub record IsFew {C : Type 0} (D : DesignOf C) (phase : Phase) (c : C) : Type 0 where
  pub merges : D.parts.pages.merges_left c ≤ D.parts.pages.most_merges (D.filling.p c)
  pub promotions : D.parts.pages.promotions_left c ≤ D.parts.pages.most_promotions (D.filling.p c)
  pub owed : D.parts.owed c + D.parts.owed_later phase c ≤ D.parts.most_owed (D.filling.p c)
  pub free : D.parts.free c ≤ D.parts.most_free (D.filling.p c)

pub record IsDesign {C : Type 0} (D : DesignOf C) : Type 0 where
  pub fills : IsFilling D.filling
  pub items : AreItems D.filling D.items
  pub in_range : (c : C) → D.parts.sound c → IsInRange (D.filling.p c)
  -- memory and the DRAM have the geometry's sizes
  pub loads_length : (c : C) (n : Device) → length (D.filling.loads c n) ≡ memory_blocks (D.filling.p c)
  pub committed_length : (phase : Phase) (c : C) (n : Device) → length (D.parts.committed phase c n) ≡ memory_blocks (D.filling.p c)
  pub dram_length : (c : C) → D.parts.sound c → length (D.filling.dram c).blocks ≡ dram_blocks (D.filling.p c)
  -- what a controller keeps of the NVM agrees, and no number of it is above its maximum
  pub agreeing : (phase : Phase) (epoch : ℕ) (c : C) (n : Device) → IsMoment D phase epoch c n → D.parts.agrees c n ≡ true
  pub few : (phase : Phase) (epoch : ℕ) (c : C) (n : Device) → IsMoment D phase epoch c n → IsFew D phase c
  -- with nothing to promote or to merge none is left of it
  pub merged_all : (c : C) → D.parts.pages.overlaid c ≡ false → D.parts.pages.merges_left c ≡ 0
  pub promoted_all : (c : C) → D.parts.pages.promoting c ≡ false → D.parts.pages.promotions_left c ≡ 0
  -- once an epoch without a store is committed, the next one has room for an instruction
  pub rests_room : (c : C) → D.parts.sound c → D.parts.rests true true Resting c → 2 ≤ D.parts.free c
  -- ---- the slot

  -- the slot has no fault, and an image that has it, with its commit block, has what the next checkpoint's has
  pub slot_fits : (e : Progress) (c : C) (n : Device) → IsMoment D Made e.epoch c n → CanRecord D e c
      → (layout_of D.filling e).slot_bad ceiling (commit_of e.epoch) (slot_list D e c) ≡ None
  pub slot_makes : (e : Progress) (c : C) (n : Device) (g : List Block) (s : State) → IsMoment D Made e.epoch c n → CanRecord D e c
      → decode_by (layout_of D.filling e) ceiling g ≡ At e.epoch s → block_at g commit_place ≡ commit_of e.epoch
      → slot_in (layout_of D.filling e) g ≡ slot_list D e c → D.parts.makes e.epoch c g
  -- the image that is kept is not found by it
  pub slot_spared : (e : Progress) (c : C) (n : Device) (g : List Block) (k : ℕ) → IsMoment D Made e.epoch c n → CanRecord D e c
      → D.parts.keeps Made e.epoch c g → k < slot_blocks D.filling e
      → IsSpared D c g ((layout_of D.filling e).slot_place (commit_of e.epoch) + k)
  -- a write into the slot, or of the commit block, leaves all else
  pub own_carries : (e : Progress) (c : C) (n : Device) (x : ℕ) (block : Block) → IsMoment D Made e.epoch c n → D.filling.p c ≡ e.p
      → IsOwn D e x → Carries D e.epoch Made c n Made c (written_to n x block)
  -- ---- the body

  -- a position that is written, to a place by which the image that is kept is not found
  pub body_carries : (epoch : ℕ) (c : C) (n : Device) (k : ℕ) → IsMoment D (Making k) epoch c n → D.items.body_next c k ≡ Some k
      → Carries D epoch (Making k) c n (Making (k + 1)) (D.items.body_after c k)
      (written_to n (D.items.body_place epoch c k) (D.items.body_block c n k))
  pub body_spared : (epoch : ℕ) (c : C) (n : Device) (k : ℕ) (g : List Block) → IsMoment D (Making k) epoch c n
      → D.items.body_next c k ≡ Some k → D.parts.keeps (Making k) epoch c g → IsSpared D c g (D.items.body_place epoch c k)
  -- positions that were passed over need no write
  pub body_passes : (epoch : ℕ) (c : C) (n : Device) (from k : ℕ) → IsMoment D (Making from) epoch c n → D.items.body_next c from ≡ Some k
      → Carries D epoch (Making from) c n (Making k) c n
  pub body_ends : (epoch : ℕ) (c : C) (n : Device) (from : ℕ) → IsMoment D (Making from) epoch c n → D.items.body_next c from ≡ None
      → Carries D epoch (Making from) c n Made c n
  -- with the whole body written, reads at memory's places by the slot give memory as it was sealed
  pub made_reads : (e : Progress) (c : C) (n : Device) → IsMoment D Made e.epoch c n → CanRecord D e c
      → map (newest n) (parts_at D e c).memory ≡ D.parts.sealed c n
  -- ---- the commit, and the tail

  pub commits : (epoch : ℕ) (c : C) (n : Device) → IsMoment D Made epoch c n → Commits D epoch c n (phase_committed D.items) (D.items.committed c) n
  pub tail_carries : (epoch : ℕ) (c : C) (n : Device) (k : ℕ) → IsMoment D (Applying k) epoch c n → D.items.tail_next c k ≡ Some k
      → Carries D epoch (Applying k) c n (Applying (k + 1)) (D.items.tail_after c k) (written_to n (D.items.tail_place c k) (D.items.tail_block c n k))
  pub tail_spared : (epoch : ℕ) (c : C) (n : Device) (k : ℕ) (g : List Block) → IsMoment D (Applying k) epoch c n
      → D.items.tail_next c k ≡ Some k → D.parts.keeps (Applying k) epoch c g → IsSpared D c g (D.items.tail_place c k)
  pub tail_passes : (epoch : ℕ) (c : C) (n : Device) (from k : ℕ) → IsMoment D (Applying from) epoch c n → D.items.tail_next c from ≡ Some k
      → Carries D epoch (Applying from) c n (Applying k) c n
  pub releases : (epoch : ℕ) (c : C) (n : Device) (from : ℕ) → IsMoment D (Applying from) epoch c n → D.items.tail_next c from ≡ None
      → Carries D epoch (Applying from) c n Resting (D.items.released c) n
  -- ---- the seal, and devices

  -- a seal with nothing to promote or to merge
  pub seals : (before epoch : ℕ) (c : C) (n : Device) → IsMoment D Resting before c n
      → D.parts.pages.promoting c ≡ false → D.parts.pages.overlaid c ≡ false → SealsTo D before epoch c (D.parts.seal c) n
  -- over a device that gives the same to every read, and once a write of the DRAM landed, everything is the same
  pub same_reads : (phase : Phase) (epoch : ℕ) (c : C) (n m : Device) → IsMoment D phase epoch c n → ReadsSame n m
      → Carries D epoch phase c n phase c m
  pub dram_drained : (phase : Phase) (epoch : ℕ) (c : C) (n : Device) → IsMoment D phase epoch c n
      → Carries D epoch phase c n phase (D.filling.drained c) n
  pub drained_rest : (c : C) (k : ℕ) → D.items.rest (D.filling.drained c) k ≡ D.items.rest c k
  pub drained_dram : (c : C) → D.filling.dram (D.filling.drained c) ≡ drained (D.filling.dram c)
  pub drained_left : (c : C) (from : ℕ) → D.items.body_left (D.filling.drained c) from ≤ D.items.body_left c from
  -- an idle controller is as idle for every epoch
  pub rests_of_any : (before epoch : ℕ) (c : C) (n : Device) → IsMoment D Resting before c n → IsMoment D Resting epoch c n
