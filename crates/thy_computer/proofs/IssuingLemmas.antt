-- What of a checkpoint was issued, over writes and drains; and that the whole of it is the next image.
use Rattle.std.proofs.Common.{◌≡◌, ◌≢◌, ℕ, ◌+◌, ◌<◌, ◌≤◌, Bool, true, false, List, ◌∷◌, ◌++◌, length, map, Contains, None, refl, ◌∙◌, ap, subst, inl, inr, arith}
use Rattle.std.specs.List.{range_with_len}
use Rattle.std.proofs.lemmas.Bool.{cases_lt}
use Rattle.std.proofs.lemmas.List.{length-map, length-set}
use Rattle.std.proofs.lemmas.List.Elements.{Contains-append_cases}
use Rattle.std.proofs.lemmas.List.FromFn.{length-range_with_len, fill_by_all}
use Rattle.thy_block.specs.declared.block.Block.{Block}
use Rattle.thy_block.specs.Device.{Device, zero_block, block_at, applied, newest, drained, written_to}
use Rattle.thy_block.proofs.DeviceLemmas.{length-applied, length-drained, length-written_to, newest-drained, newest-written_to_other}
use Rattle.thy_block.proofs.BasicLemmas.{not_first, Contains-range}
use Rattle.thy_layout.specs.Saved.{next_image}
use Rattle.thy_layout.proofs.FixedLemmas.{ReadsFirst-elsewhere, ReadsFirst-drained, ReadsFirst-more}
use Rattle.thy_layout.proofs.SavedLemmas.{next_image-reads, next_image-commit, IsIssued-next_image}
use Rattle.thy_layout.specs.Commit.{is_zero, epoch_of}
use Rattle.thy_layout.proofs.AskingLemmas.{map-alike, block_at-numbers}
use Rattle.thy_layout.specs.Layout.{Layout, state_by, slot_places, memory_places, slot_in, memory_in, fault_of, fault_in, parts_of, looked_by}
use Rattle.thy_computer.specs.Issuing.{CheckpointParts, slot_of, ArePlaced, AreIssued, IsElsewhere, ArePartsOf, IsCheckpoint}
use Rattle.thy_layout.proofs.LayoutLemmas.{sized_if_long, decode_by-whole, looked_parts}

-- ---- writes and drains

pub issuing_begins : (image_blocks : ℕ) (parts : CheckpointParts) (n : Device)
    → length n.image ≡ image_blocks → AreIssued image_blocks parts n (map (newest n) parts.memory) 0
issuing_begins image_blocks parts n sized = record {
  sized = sized;
  memory_is = refl;
  slot = record { each = λ i l. absurd (omega arith) };
}

module _ (image_blocks : ℕ) (parts : CheckpointParts) (old new : Device) (memory : List Block) (k : ℕ)
    (placed : ArePlaced image_blocks parts)
    (h : AreIssued image_blocks parts old memory k) where
  memory_over : (x : ℕ) (block : Block) → ¬ Contains parts.memory x → new ≡ written_to old x block → map (newest new) parts.memory ≡ memory
  memory_over x block other is =
      ap (λ (n : Device). map (newest n) parts.memory) is
      ∙ map-alike (newest (written_to old x block)) (newest old) parts.memory
      (λ y inside.
      let l = placed.memory_inside y inside in
      newest-written_to_other old x block y (λ e. other (subst (Contains parts.memory) e inside)) (omega (arith, l, h.sized)))
      ∙ h.memory_is

  length_over : (x : ℕ) (block : Block) → new ≡ written_to old x block → length new.image ≡ image_blocks
  length_over x block is = ap (λ (n : Device). length n.image) is ∙ length-written_to old x block ∙ h.sized

  pub slot_goes_on : k < parts.slot_blocks → new ≡ written_to old (parts.slot_place + k) (parts.slot k)
      → AreIssued image_blocks parts new memory (k + 1)
  slot_goes_on l is =
      let within : parts.slot_place + k < length old.image = omega (arith, l, placed.slot_inside, h.sized) in
      record {
        sized = length_over (parts.slot_place + k) (parts.slot k) is;
        memory_is = memory_over (parts.slot_place + k) (parts.slot k) (placed.apart k l) is;
        slot = ReadsFirst-more parts.slot_place parts.slot k old new h.slot within is;
      }

  pub elsewhere_keeps : (x : ℕ) (block : Block) → k ≤ parts.slot_blocks → IsElsewhere parts x → new ≡ written_to old x block
      → AreIssued image_blocks parts new memory k
  elsewhere_keeps x block most elsewhere is = record {
    sized = length_over x block is;
    memory_is = memory_over x block elsewhere.no_memory is;
    slot = ReadsFirst-elsewhere parts.slot_place parts.slot k x block old new h.slot (λ i l. elsewhere.no_slot i (omega (arith, l, most))) is;
  }

  pub drain_keeps : new ≡ drained old → AreIssued image_blocks parts new memory k
  drain_keeps is = record {
    sized = ap (λ (n : Device). length n.image) is ∙ length-drained old ∙ h.sized;
    memory_is = ap (λ (n : Device). map (newest n) parts.memory) is
        ∙ map-alike (newest (drained old)) (newest old) parts.memory
        (λ y inside. let l = placed.memory_inside y inside in newest-drained old y (omega (arith, l, h.sized)))
        ∙ h.memory_is;
    slot = ReadsFirst-drained parts.slot_place parts.slot k old new h.slot is;
  }

-- ---- the whole checkpoint

module _ (l : Layout) (ceiling : ℕ) (n : Device) (commit : Block) (parts : CheckpointParts) (memory : List Block)
    (of : ArePartsOf l commit parts)
    (h : AreIssued l.image_blocks parts n memory parts.slot_blocks) (some : is_zero commit ≡ false) where
  abbrev image : List Block
  image = next_image n commit

  room : 2 ≤ l.image_blocks
  room = omega (arith, of.placed.slot_behind, of.placed.slot_inside)

  commit_is : block_at image 1 ≡ commit
  commit_is = next_image-commit commit n (omega (arith, room, h.sized))

  length_is : length image ≡ l.image_blocks
  length_is = length-set (applied n.image n.queue) 1 commit ∙ length-applied n.image n.queue ∙ h.sized

  header_is : block_at image 0 ≡ newest n 0
  header_is = next_image-reads commit n 0 (omega (arith, room, h.sized)) (λ e. omega arith)

  places_are : slot_places l (block_at image 1) ≡ range_with_len parts.slot_place parts.slot_blocks
  places_are =
      ap (slot_places l) commit_is ∙ ap (λ x. range_with_len x (l.slot_blocks commit)) of.slot_place
      ∙ ap (range_with_len parts.slot_place) of.slot_blocks

  slot_block : (k : ℕ) → k < parts.slot_blocks → block_at image (parts.slot_place + k) ≡ parts.slot k
  slot_block k below =
      let read = h.slot.each k below in
      next_image-reads commit n (parts.slot_place + k) read.inside (λ e. omega (arith, e, of.placed.slot_behind)) ∙ read.newest_is

  slot_is : slot_in l image ≡ slot_of parts
  slot_is =
      ap (map (block_at image)) places_are
      ∙ fill_by_all parts.slot (map (block_at image) (range_with_len parts.slot_place parts.slot_blocks)) parts.slot_blocks zero_block
      (length-map (range_with_len parts.slot_place parts.slot_blocks) (block_at image) ∙ length-range_with_len parts.slot_place parts.slot_blocks)
      (λ k below. block_at-numbers (block_at image) parts.slot_place parts.slot_blocks k below ∙ slot_block k below)

  memory_places_are : memory_places l (block_at image 1) (slot_in l image) ≡ parts.memory
  memory_places_are =
      ap (λ b. memory_places l b (slot_in l image)) commit_is ∙ ap (memory_places l commit) slot_is ∙ of.memory

  memory_in_is : memory_in l image ≡ memory
  memory_in_is =
      ap (map (block_at image)) memory_places_are
      ∙ map-alike (block_at image) (newest n) parts.memory
      (λ x inside.
      let low = of.placed.memory_behind x inside in
      let high = of.placed.memory_inside x inside in
      next_image-reads commit n x (omega (arith, high, h.sized)) (λ e. omega (arith, low, e)))
      ∙ h.memory_is

  faultless : fault_of l ceiling true (newest n 0) commit (slot_of parts) ≡ None → fault_in l ceiling image ≡ None
  faultless none =
      ap (λ (s : Bool). fault_of l ceiling s (block_at image 0) (block_at image 1) (slot_in l image)) (sized_if_long l image length_is)
      ∙ ap (λ (b : Block). fault_of l ceiling true b (block_at image 1) (slot_in l image)) header_is
      ∙ ap (λ (b : Block). fault_of l ceiling true (newest n 0) b (slot_in l image)) commit_is
      ∙ ap (fault_of l ceiling true (newest n 0) commit) slot_is
      ∙ none

  looked_inside : (x : ℕ) → Contains (parts_of l image) x → x < l.image_blocks
  looked_inside x inside = elim (cases_lt x 2) as (λ _. x < l.image_blocks) [
    | inl low ↦ omega (arith, low, room)
    | inr high ↦
        let rest : List ℕ = slot_places l (block_at image 1) ++ memory_places l (block_at image 1) (slot_in l image) in
        let none : 0 ≢ x = λ e. omega arith in
        let one : 1 ≢ x = λ e. omega arith in
        elim (Contains-append_cases (slot_places l (block_at image 1)) (memory_places l (block_at image 1) (slot_in l image)) x
        (not_first x 1 rest one (not_first x 0 (1 ∷ rest) none inside))) as (λ _. x < l.image_blocks) [
          | inl a ↦
              let at = Contains-range parts.slot_place parts.slot_blocks x (subst (λ (xs : List ℕ). Contains xs x) places_are a) in
              let below = at.1 in
              let e = at.2 in
              omega (arith, below, e, of.placed.slot_inside)
          | inr b ↦ of.placed.memory_inside x (subst (λ (xs : List ℕ). Contains xs x) memory_places_are b)
        ]
  ]

  pub issued_is_checkpoint : fault_of l ceiling true (newest n 0) commit (slot_of parts) ≡ None
      → IsCheckpoint l ceiling n commit parts memory
  issued_is_checkpoint none =
      let committed : is_zero (block_at image 1) ≡ false = ap is_zero commit_is ∙ some in
      record {
        slot = slot_is;
        memory_is = memory_in_is;
        decodes = decode_by-whole l ceiling image (epoch_of commit) (state_by l (slot_of parts) memory) (record {
          committed = committed;
          faultless = faultless none;
          of_epoch = ap epoch_of commit_is;
          state_is = ap (λ (s : List Block). state_by l s (memory_in l image)) slot_is ∙ ap (state_by l (slot_of parts)) memory_in_is;
        });
        issued = IsIssued-next_image (looked_by l) commit n
            (λ x inside.
            let within = looked_inside x (subst (λ (xs : List ℕ). Contains xs x) (looked_parts l image committed) inside) in
            omega (arith, within, h.sized));
      }
