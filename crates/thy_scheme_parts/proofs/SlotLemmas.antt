-- The slot of the checkpoint under way: where it is, what it says, and how it is written.
use Rattle.std.proofs.Common.{◌≡◌, ◌==◌, ◌||◌, ℕ, ◌+◌, ◌<◌, ◌≤◌, true, List, map, Option, Some, None, refl, ap, subst, ◌-◌, ◌^◌, nat_lt, Bool, if◌then◌else◌, length, sym, ◌∙◌, arith}
use Rattle.std.proofs.lemmas.Bool.{eq-eqb, lt-ltb}
use Rattle.std.specs.List.{range_with_len}
use Rattle.std.proofs.lemmas.List.FromFn.{get_or-map-range_with_len}
use Rattle.thy_block.specs.declared.block.Block.{Block}
use Rattle.thy_block.specs.Device.{Device, block_at, newest, zero_block}
use Rattle.thy_block.specs.Geometry.{IsInRange, console_room}
use Rattle.thy_block.specs.Places.{record_blocks}
use Rattle.thy_block.proofs.BasicLemmas.{all_none}
use Rattle.thy_layout.specs.Saved.{IsIssued, next_image}
use Rattle.thy_isa.specs.OnBlocks.{state_from}
use Rattle.thy_layout.specs.AreLayouts.{HasSlot, HasPlaces, Fits as SlotFits}
use Rattle.thy_layout.specs.Layout.{Layout, is_length, is_long, memory_places, header_bad, commit_bad, state_by, looked_by, slot_in, decode_by}
use Rattle.thy_layout.proofs.PlacesLemmas.{memory_place_of}
use Rattle.thy_layout.specs.Commit.{commit_of}
use Rattle.thy_layout.specs.Cpu.{cpu_block_of, cpu_of_record}
use Rattle.thy_layout.specs.Decoded.{At}
use Rattle.thy_layout.proofs.AskingLemmas.{map-alike}
use Rattle.thy_layout.proofs.ReadBackLemmas.{epoch_of-commit_of, commit_fault-commit_of, is_zero-commit_of, FitsRecord-recordable, cpu_back}
use Rattle.thy_computer.specs.Safe.{ceiling}
use Rattle.thy_computer.specs.Issuing.{CheckpointParts, ArePartsOf, AreIssued, IsCheckpoint}
use Rattle.thy_computer.proofs.IssuingLemmas.{issuing_begins, issued_is_checkpoint}
use Rattle.thy_checkpoint.specs.Filling.{layout_at}
use Rattle.thy_checkpoint.specs.Items.{Made}
use Rattle.thy_checkpoint.specs.Progress.{Progress, layout_of, slot_blocks, slot_block, slot_place}
use Rattle.thy_scheme_parts.specs.Checkpoints.{HasWrittenSlot}
use Rattle.thy_scheme_parts.specs.Design.{DesignOf}
use Rattle.thy_scheme_parts.specs.IsDesign.{IsDesign, CanRecord}
use Rattle.thy_scheme_parts.specs.Moments.{IsMoment, slot_list, parts_at}

-- an image of the layout's own length is long enough, whatever its commit block
long_by : (blocks : ℕ) (older : Option ℕ) → is_length blocks older blocks ≡ true
long_by blocks None = eq-eqb blocks blocks refl
long_by blocks (Some n) = ap (λ t. t || blocks == n) (eq-eqb blocks blocks refl)

pub is_long-own : (l : Layout) (commit : Block) → is_long l commit l.image_blocks ≡ true
is_long-own l commit = long_by l.image_blocks (l.older_blocks commit)

-- the parts of a checkpoint whose slot has these blocks
abbrev pub parts_in : Layout → Block → (ℕ → Block) → CheckpointParts
parts_in l commit slot = record {
  slot_place = l.slot_place commit;
  slot_blocks = l.slot_blocks commit;
  slot = slot;
  memory = memory_places l commit (map slot (range_with_len 0 (l.slot_blocks commit)));
}

pub parts_placed : (l : Layout) (commit : Block) (slot : ℕ → Block)
    → HasSlot l commit → HasPlaces l commit (map slot (range_with_len 0 (l.slot_blocks commit)))
    → ArePartsOf l commit (parts_in l commit slot)
parts_placed l commit slot has places =
    let blocks : List Block = map slot (range_with_len 0 (l.slot_blocks commit)) in
    record {
      placed = record {
        slot_behind = has.behind;
        slot_inside = has.inside l.image_blocks (is_long-own l commit);
        memory_behind = λ x inside.
            let at = memory_place_of l commit blocks x inside in
            subst (λ y. 2 ≤ y) at.2 (places.behind at.0 at.1);
        memory_inside = λ x inside.
            let at = memory_place_of l commit blocks x inside in
            subst (λ y. y < l.image_blocks) at.2 (places.inside at.0 l.image_blocks at.1 (is_long-own l commit));
        apart = λ k below inside.
            let at = memory_place_of l commit blocks (l.slot_place commit + k) inside in
            places.apart at.0 k at.1 below at.2;
      };
      slot_place = refl;
      slot_blocks = refl;
      memory = refl;
    }

-- with another controller whose slot has the same blocks, as much of it is written
pub slot_as : {C : Type 0} (D : DesignOf C) (e : Progress) (c d : C) (n : Device) (j : ℕ) → ((i : ℕ) → D.items.rest d i ≡ D.items.rest c i)
    → D.parts.sealed d n ≡ D.parts.sealed c n → HasWrittenSlot D e c n j → HasWrittenSlot D e d n j
slot_as D e c d n j rest sealed h =
    let block : (i : ℕ) → slot_block D.items e d i ≡ slot_block D.items e c i =
    λ i. ap (λ (b : Block). if nat_lt i (record_blocks e.p) then cpu_block_of e.cpu e.epoch i else b) (rest (i - record_blocks e.p)) in
    let list : slot_list D e d ≡ slot_list D e c =
    map-alike (slot_block D.items e d) (slot_block D.items e c) (range_with_len 0 (slot_blocks D.filling e)) (λ i inside. block i) in
    record {
      sized = h.sized;
      memory_is =
          ap (λ (slot : List Block). map (newest n) (memory_places (layout_of D.filling e) (commit_of e.epoch) slot)) list
          ∙ h.memory_is ∙ sym sealed;
      slot = record {
        each = λ i l. let read = h.slot.each i l in record { inside = read.inside; newest_is = read.newest_is ∙ sym (block i) };
      };
    }

-- with another controller, and over another device in which the whole body stands, as much of the slot is written if that says
-- the same and reads as before
pub slot_reads : {C : Type 0} (D : DesignOf C) (w : IsDesign D) (e : Progress) (c d : C) (n m : Device) (j : ℕ)
    → IsMoment D Made e.epoch d m → CanRecord D e d → length m.image ≡ length n.image → ((i : ℕ) → D.items.rest d i ≡ D.items.rest c i)
    → ((i : ℕ) → i < slot_blocks D.filling e → newest m (slot_place D.filling e i) ≡ newest n (slot_place D.filling e i))
    → j ≤ slot_blocks D.filling e → HasWrittenSlot D e c n j → HasWrittenSlot D e d m j
slot_reads D w e c d n m j moment can as_long rest reads few h =
    let block : (i : ℕ) → slot_block D.items e d i ≡ slot_block D.items e c i =
    λ i. ap (λ (b : Block). if nat_lt i (record_blocks e.p) then cpu_block_of e.cpu e.epoch i else b) (rest (i - record_blocks e.p)) in
    record {
      sized = as_long ∙ h.sized;
      memory_is = w.made_reads e d m moment can;
      slot = record {
        each = λ i l.
            let read = h.slot.each i l in
            let low = read.inside in
            record {
              inside = omega (arith, low, as_long);
              newest_is = reads i (omega (arith, l, few)) ∙ read.newest_is ∙ sym (block i);
            };
      };
    }

module _ {C : Type 0} (D : DesignOf C) (w : IsDesign D) (e : Progress) (c : C) (n : Device) (moment : IsMoment D Made e.epoch c n)
    (can : CanRecord D e c) where
  abbrev le : Layout
  le = layout_of D.filling e

  abbrev commit : Block
  commit = commit_of e.epoch

  -- the layout is of the engine's geometry
  layout_p : (layout_of D.filling e).p ≡ e.p
  layout_p = w.fills.laid.of e.p

  fits : SlotFits (layout_of D.filling e) (commit_of e.epoch) (slot_list D e c)
  fits = record { ceiling = ceiling; faultless = w.slot_fits e c n moment can }

  pub placed : ArePartsOf (layout_of D.filling e) (commit_of e.epoch) (parts_at D e c)
  placed =
      parts_placed (layout_of D.filling e) (commit_of e.epoch) (slot_block D.items e c) (w.fills.laid.slot e.p (commit_of e.epoch))
      (w.fills.laid.memory e.p (commit_of e.epoch) (slot_list D e c) fits)

  -- ---- how it is written

  sized : length n.image ≡ (layout_of D.filling e).image_blocks
  sized = moment.sized ∙ ap (λ p. (layout_at D.filling p).image_blocks) can.same_p

  pub slot_begins : HasWrittenSlot D e c n 0
  slot_begins =
      subst (λ memory. AreIssued (layout_of D.filling e).image_blocks (parts_at D e c) n memory 0) (w.made_reads e c n moment can)
      (issuing_begins (layout_of D.filling e).image_blocks (parts_at D e c) n sized)

  -- ---- what it says

  below : e.epoch < 2 ^ 64
  below = let small = can.small in omega (arith, small)

  -- the first blocks of a slot are the processor's record
  record_block : (k : ℕ) → k < record_blocks e.p → block_at (slot_list D e c) k ≡ cpu_block_of e.cpu e.epoch k
  record_block k l =
      let inside : k < slot_blocks D.filling e =
      let whole = (w.fills.laid.slot e.p (commit_of e.epoch)).record_inside in
      let same : record_blocks (layout_of D.filling e).p ≡ record_blocks e.p = ap record_blocks layout_p in
      omega (arith, l, whole, same) in
      get_or-map-range_with_len (slot_block D.items e c) 0 (slot_blocks D.filling e) k k zero_block inside (omega arith)
      ∙ ap (λ (b : Bool). if b then cpu_block_of e.cpu e.epoch k else D.items.rest c (k - record_blocks e.p)) (lt-ltb k (record_blocks e.p) l)

  pub cpu_is : cpu_of_record e.p (slot_list D e c) ≡ e.cpu
  cpu_is =
      let range : IsInRange e.p = can.range in
      let room : console_room e.p < 2 ^ 64 = omega arith in
      cpu_back e.p e.cpu e.epoch (slot_list D e c) (FitsRecord-recordable e.p ceiling e.cpu e.epoch range can.recordable room (omega arith) below)
      (record { each = record_block })

  state_is : (memory : List Block) → state_by (layout_of D.filling e) (slot_list D e c) memory ≡ state_from e.p e.cpu memory
  state_is memory =
      ap (λ p. state_from p (cpu_of_record p (slot_list D e c)) memory) layout_p ∙ ap (λ cpu. state_from e.p cpu memory) cpu_is

  -- ---- with the whole slot written, the next image is the checkpoint

  module _ (written : HasWrittenSlot D e c n (slot_blocks D.filling e))
      (header : header_bad (layout_of D.filling e) (newest n 0) true ≡ None) where
    abbrev image : List Block
    image = next_image n (commit_of e.epoch)

    whole : IsCheckpoint (layout_of D.filling e) ceiling n (commit_of e.epoch) (parts_at D e c) (D.parts.sealed c n)
    whole =
        issued_is_checkpoint (layout_of D.filling e) ceiling n (commit_of e.epoch) (parts_at D e c) (D.parts.sealed c n) placed written
        (is_zero-commit_of e.epoch)
        (all_none (header_bad (layout_of D.filling e) (newest n 0) true) (commit_bad ceiling (newest n 0) (commit_of e.epoch))
        ((layout_of D.filling e).slot_bad ceiling (commit_of e.epoch) (slot_list D e c)) header
        (commit_fault-commit_of (newest n 0) e.epoch ceiling can.small (omega arith)) (w.slot_fits e c n moment can))

    pub next_decodes : decode_by (layout_of D.filling e) ceiling (next_image n (commit_of e.epoch))
        ≡ At e.epoch (state_from e.p e.cpu (D.parts.sealed c n))
    next_decodes =
        whole.decodes
        ∙ ap (λ (k : ℕ). At k (state_by (layout_of D.filling e) (slot_list D e c) (D.parts.sealed c n))) (epoch_of-commit_of e.epoch below)
        ∙ ap (At e.epoch) (state_is (D.parts.sealed c n))

    pub next_issued : IsIssued (looked_by (layout_of D.filling e)) n (next_image n (commit_of e.epoch))
    next_issued = whole.issued

    pub next_slot : slot_in (layout_of D.filling e) (next_image n (commit_of e.epoch)) ≡ slot_list D e c
    next_slot = whole.slot
