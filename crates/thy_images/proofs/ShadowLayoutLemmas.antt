-- Where the parts of a checkpoint go, and which writes leave it alone; what holds of every layout holds of this one.
use Rattle.std.proofs.Common.{◌≡◌, ℕ, suc, ◌+◌, ◌%◌, ◌^◌, ◌<◌, ◌≤◌, true, List, length, get_or, Contains, Option, None, refl, sym, ◌∙◌, ap, subst, arith, ◌≢◌, zero, ◌∷◌}
use Rattle.std.proofs.lemmas.List.FromFn.{length-map-range_with_len, get_or-map-range_with_len}
use Rattle.std.proofs.lemmas.Bool.{eqb-true}
use Rattle.thy_block.specs.declared.block.Block.{Block}
use Rattle.thy_block.specs.declared.parameters.Parameters.{Parameters}
use Rattle.thy_block.specs.Device.{Device, newest, block_at}
use Rattle.thy_block.specs.Geometry.{IsInRange, memory_blocks}
use Rattle.thy_block.specs.Store.{page_of}
use Rattle.thy_block.proofs.BasicLemmas.{all_none, Contains-range}
use Rattle.thy_layout.proofs.SavedLemmas.{next_image-commit}
use Rattle.thy_isa.specs.declared.state.CpuState.{CpuState}
use Rattle.thy_isa.specs.OnBlocks.{state_from}
use Rattle.thy_layout.specs.Commit.{commit_of, epoch_of, commit_fault}
use Rattle.thy_layout.proofs.ReadBackLemmas.{epoch_of-commit_of, commit_fault-commit_of, is_zero-commit_of}
use Rattle.thy_layout.specs.Cpu.{IsRecordable, cpu_of_record}
use Rattle.thy_layout.specs.Decoded.{At}
use Rattle.thy_layout.specs.Header.{header_fault}
use Rattle.thy_layout.specs.Entries.{Lists}
use Rattle.thy_layout.proofs.AskingLemmas.{half}
use Rattle.thy_layout.specs.Layout.{fault_of, Layout, slot_places, memory_places as places_by, slot_in, looked_by}
use Rattle.thy_layout.proofs.LookedLemmas.{not_looked}
use Rattle.thy_layout.specs.AreLayouts.{Fits, HasPlaces, HasSlot, AreLayouts}
use Rattle.thy_layout.specs.Slots.{cpu_fault}
use Rattle.thy_layout.proofs.TableSlotLemmas.{slot_parts, slot_higher}
use Rattle.thy_computer.specs.Issuing.{CheckpointParts, slot_of, ArePlaced, ArePartsOf, IsCheckpoint}
use Rattle.thy_computer.proofs.IssuingLemmas.{issued_is_checkpoint}
use Rattle.thy_images.specs.ShadowPlaces.{scheme_number, slot_blocks, slot_place, first_pool, pool_pages, image_blocks, pool_place, pool_page, place_of}
use Rattle.thy_images.specs.ShadowSlots.{IsMap, table_in, slot_fault, table_fault}
use Rattle.thy_images.specs.ShadowLayout.{shadow_layouts}
use Rattle.thy_images.specs.ShadowCheckpointParts.{ReadsBack, memory_places, parts_by, IsIssuing, IsIssuedCheckpoint, HoldsCheckpoint}
use Rattle.thy_images.proofs.ShadowSlotLemmas.{slot_reads_back, faultless_map}
use Rattle.thy_images.specs.ShadowFree.{Target, SlotBlock, PoolBlock, target_place, IsTarget, IsFree}

-- ---- the places of memory

module _ (p : Parameters) (table : List (Option ℕ)) where
  pub length-memory_places : (let xs : List ℕ = memory_places p table in length xs) ≡ memory_blocks p
  length-memory_places = length-map-range_with_len (place_of p table) 0 (memory_blocks p)

  pub memory_place : (k otherwise : ℕ) → k < memory_blocks p
      → (let xs : List ℕ = memory_places p table in get_or xs k otherwise) ≡ place_of p table k
  memory_place k otherwise l =
      get_or-map-range_with_len (place_of p table) 0 (memory_blocks p) k k otherwise l (omega arith)

  -- each place of memory is the place of a block
  pub memory_place_of : (x : ℕ) → Contains (memory_places p table) x → (b : ℕ) × (b < memory_blocks p) × (place_of p table b ≡ x)
  memory_place_of x (k, l, is) =
      let inside : k < memory_blocks p = omega (arith, length-memory_places) in
      (k, inside, sym (memory_place k x inside) ∙ is)

  -- a block of memory stands in the page of the pool that the map lists for its page
  pub page_listed : (b : ℕ) → IsMap p table → b < memory_blocks p
      → (q : ℕ) × Lists table (page_of b) q × (place_of p table b ≡ pool_place p q (b % 64))
  page_listed b h l =
      let low : page_of b < p.pages = omega arith in
      let of = h.mapped (page_of b) low in
      (of.0, of.1, ap (λ e. pool_place p (pool_page e) (b % 64)) of.1.is)

  -- the place of a block lies after the slots, within the image
  pub place_behind : (b : ℕ) → IsMap p table → b < memory_blocks p
      → (first_pool p ≤ place_of p table b) × (place_of p table b < image_blocks p)
  place_behind b h l =
      let of = page_listed b h l in
      let small : of.0 < pool_pages p = h.in_pool (page_of b) of.0 of.1 in
      subst (λ y. (first_pool p ≤ y) × (y < image_blocks p)) (sym of.2) (omega arith, omega (arith, small))

  pub memory_behind : (x : ℕ) → IsMap p table → Contains (memory_places p table) x → (first_pool p ≤ x) × (x < image_blocks p)
  memory_behind x h inside =
      let of = memory_place_of x inside in
      subst (λ y. (first_pool p ≤ y) × (y < image_blocks p)) of.2 (place_behind of.0 h of.1)

-- ---- the slots

pub slot_behind : (p : Parameters) (s k : ℕ) → s < 2 → k < slot_blocks p → (2 ≤ slot_place p s + k) × (slot_place p s + k < first_pool p)
slot_behind p (suc (suc s)) k l m = absurd (omega arith)
slot_behind p s k l m = (omega arith, omega arith)

pub slot_fits : (p : Parameters) (s : ℕ) → s < 2 → slot_place p s + slot_blocks p ≤ image_blocks p
slot_fits p (suc (suc s)) l = absurd (omega arith)
slot_fits p s l = omega arith

pub ArePlaced-parts : (p : Parameters) (cpu : CpuState) (table : List (Option ℕ)) (epoch : ℕ) → IsMap p table
    → ArePlaced (image_blocks p) (parts_by p cpu table epoch)
ArePlaced-parts p cpu table epoch h = record {
  slot_behind = omega arith;
  slot_inside = slot_fits p (epoch % 2) (half epoch);
  memory_behind = λ x inside. omega (arith, (memory_behind p table x h inside).0);
  memory_inside = λ x inside. (memory_behind p table x h inside).1;
  apart = λ k l inside.
      let behind = (memory_behind p table (slot_place p (epoch % 2) + k) h inside).0 in
      omega (arith, (slot_behind p (epoch % 2) k (half epoch) l).1, behind);
}

-- ---- the whole checkpoint

module _ (p : Parameters) (ceiling : ℕ) (cpu : CpuState) (table : List (Option ℕ)) (epoch : ℕ) (range : IsInRange p)
    (recordable : IsRecordable p ceiling cpu) (most : ceiling ≤ 2 ^ 64) (below : epoch < ceiling) (whole : IsMap p table) where
  abbrev parts : CheckpointParts
  parts = parts_by p cpu table epoch

  epoch_is : epoch_of (commit_of epoch) ≡ epoch
  epoch_is = epoch_of-commit_of epoch (omega arith)

  back : ReadsBack p ceiling cpu table epoch (slot_of parts)
  back = slot_reads_back p ceiling cpu table epoch range recordable whole most (omega arith)

  parts_of : ArePartsOf (shadow_layouts p) (commit_of epoch) parts
  parts_of = record {
    placed = ArePlaced-parts p cpu table epoch whole;
    slot_place = ap (λ (e : ℕ). slot_place p (e % 2)) epoch_is;
    slot_blocks = refl;
    memory = ap (memory_places p) back.table_back;
  }

  no_fault : (header : Block) → header_fault scheme_number header p true ≡ None
      → fault_of (shadow_layouts p) ceiling true header (commit_of epoch) (slot_of parts) ≡ None
  no_fault header fits =
      all_none (header_fault scheme_number header p true)
      (commit_fault header (commit_of epoch) ceiling)
      (slot_fault p ceiling (epoch_of (commit_of epoch)) (slot_of parts)) fits
      (commit_fault-commit_of header epoch ceiling below most)
      (ap (λ (e : ℕ). slot_fault p ceiling e (slot_of parts)) epoch_is ∙ back.faultless)

  pub issued_decodes : (n : Device) (memory : List Block)
      → IsIssuing p n cpu table epoch memory (slot_blocks p)
      → header_fault scheme_number (newest n 0) p true ≡ None
      → IsIssuedCheckpoint p ceiling n cpu table epoch memory
  issued_decodes n memory h header =
      let all : IsCheckpoint (shadow_layouts p) ceiling n (commit_of epoch) parts memory =
      issued_is_checkpoint (shadow_layouts p) ceiling n (commit_of epoch) parts memory parts_of
      h.parts (is_zero-commit_of epoch)
      (no_fault (newest n 0) header) in
      record {
        meant = record {
          of_epoch =
              ap epoch_of (next_image-commit (commit_of epoch) n (omega (arith, h.parts.sized)))
              ∙ epoch_is;
          table_is = ap (table_in p) all.slot ∙ back.table_back;
          whole = whole;
        };
        decodes =
            all.decodes
            ∙ ap (λ (e : ℕ). At e (state_from p (cpu_of_record p (slot_of parts)) memory)) epoch_is
            ∙ ap (λ (x : CpuState). At epoch (state_from p x memory)) back.cpu_back;
        issued = all.issued;
      }

-- ---- places are apart

target_behind : (p : Parameters) (x : Target) → IsTarget p x → 2 ≤ target_place p x
target_behind p (SlotBlock s k) there = (slot_behind p s k there.0 there.1).0
target_behind p (PoolBlock q c) there = omega arith

slots_apart : (p : Parameters) (s r k i : ℕ) → s < 2 → r < 2 → k < slot_blocks p → i < slot_blocks p → s ≢ r
    → slot_place p s + k ≢ slot_place p r + i
slots_apart p zero zero k i l m n o other = λ e. other refl
slots_apart p zero (suc zero) k i l m n o other = λ e. omega arith
slots_apart p (suc zero) zero k i l m n o other = λ e. omega arith
slots_apart p (suc zero) (suc zero) k i l m n o other = λ e. other refl
slots_apart p s r k i l m n o other = absurd (omega arith)

-- blocks of the pool that have one number are of one page
pub same_page : (p : Parameters) (q r c d : ℕ) → c < 64 → d < 64 → pool_place p q c ≡ pool_place p r d → q ≡ r
same_page p q r c d l m e = omega (arith, e)

-- ---- what is free is not looked at

free_of_slot : (p : Parameters) (epoch : ℕ) (table : List (Option ℕ)) (x : Target) → IsTarget p x → IsFree epoch table x
    → (k : ℕ) → k < slot_blocks p → slot_place p (epoch % 2) + k ≢ target_place p x
free_of_slot p epoch table (SlotBlock s i) there free k l = slots_apart p (epoch % 2) s k i (half epoch) there.0 l there.1 (λ e. free (sym e))
free_of_slot p epoch table (PoolBlock q c) there free k l = λ e. omega (arith, (slot_behind p (epoch % 2) k (half epoch) l).1, e)

free_of_memory : (p : Parameters) (epoch : ℕ) (table : List (Option ℕ)) (x : Target) → IsMap p table → IsTarget p x → IsFree epoch table x
    → Contains (memory_places p table) (target_place p x) → ⊥
free_of_memory p epoch table (SlotBlock s k) h there free inside =
    omega (arith, (slot_behind p s k there.0 there.1).1, (memory_behind p table (slot_place p s + k) h inside).0)
free_of_memory p epoch table (PoolBlock q c) h there free inside =
    let of = memory_place_of p table (pool_place p q c) inside in
    let page = page_listed p table of.0 h of.1 in
    let small : of.0 % 64 < 64 = omega arith in
    let same : page.0 ≡ q = same_page p page.0 q (of.0 % 64) c small there.1 (sym page.2 ∙ of.2) in
    free (page_of of.0) (subst (Lists table (page_of of.0)) same page.1)

module _ (p : Parameters) (image : List Block) (epoch : ℕ) (table : List (Option ℕ)) (x : Target)
    (meant : HoldsCheckpoint p image epoch table) (there : IsTarget p x) (free : IsFree epoch table x) where
  abbrev l : Layout
  l = shadow_layouts p

  not_in_slot : Contains (slot_places l (block_at image 1)) (target_place p x) → ⊥
  not_in_slot inside =
      let of = Contains-range (slot_place p (epoch_of (block_at image 1) % 2)) (slot_blocks p) (target_place p x) inside in
      free_of_slot p epoch table x there free of.0 of.1 (sym (ap (λ (e : ℕ). slot_place p (e % 2) + of.0) meant.of_epoch) ∙ of.2)

  not_in_memory : Contains (places_by l (block_at image 1) (slot_in l image)) (target_place p x) → ⊥
  not_in_memory inside =
      free_of_memory p epoch table x meant.whole there free
      (subst (λ (t : List (Option ℕ)). Contains (memory_places p t) (target_place p x)) meant.table_is inside)

  pub free_not_looked : Contains (1 ∷ looked_by l image) (target_place p x) → ⊥
  free_not_looked inside = not_looked l image (target_place p x) (target_behind p x there) not_in_slot not_in_memory inside

-- ---- the slot

has_slot : (p : Parameters) (commit : Block) → HasSlot (shadow_layouts p) commit
has_slot p commit = record {
  record_inside = omega arith;
  most = omega arith;
  behind = omega arith;
  inside = λ n long.
      let fits = slot_fits p (epoch_of commit % 2) (half (epoch_of commit)) in
      omega (arith, eqb-true n (image_blocks p) long, fits);
}

-- ---- memory

place_once : (p : Parameters) (table : List (Option ℕ)) (a b : ℕ) → IsMap p table → a < memory_blocks p → b < memory_blocks p
    → place_of p table a ≡ place_of p table b → a ≡ b
place_once p table a b h l m same =
    let x = page_listed p table a h l in
    let y = page_listed p table b h m in
    let at : pool_place p x.0 (a % 64) ≡ pool_place p y.0 (b % 64) = sym x.2 ∙ same ∙ y.2 in
    let page : x.0 ≡ y.0 = same_page p x.0 y.0 (a % 64) (b % 64) (omega arith) (omega arith) at in
    let of : page_of a ≡ page_of b = h.once (page_of a) (page_of b) y.0 (subst (Lists table (page_of a)) page x.1) y.1 in
    omega (arith, at, page, of)

has_places : (p : Parameters) (commit : Block) (slot : List Block) → Fits (shadow_layouts p) commit slot
    → HasPlaces (shadow_layouts p) commit slot
has_places p commit slot fits =
    let table : List (Option ℕ) = table_in p slot in
    let whole : IsMap p (table_in p slot) = faultless_map p fits.ceiling (epoch_of commit) slot fits.faultless in
    let there = λ (b : ℕ) (l : b < memory_blocks p). place_behind p (table_in p slot) b whole l in
    record {
      behind = λ b l. omega (arith, (there b l).0);
      inside = λ b n l long. omega (arith, (there b l).1, eqb-true n (image_blocks p) long);
      apart = λ b k l m e.
          let before = (slot_behind p (epoch_of commit % 2) k (half (epoch_of commit)) m).1 in
          omega (arith, (there b l).0, before, e);
      once = λ a b l m same. place_once p table a b whole l m same;
    }

-- ---- all of it

cpu_fits : (p : Parameters) (ceiling epoch : ℕ) (slot : List Block) → slot_fault p ceiling epoch slot ≡ None
    → cpu_fault p ceiling slot ≡ None
unfolding slot_fault
cpu_fits p ceiling epoch slot none = (slot_parts (table_fault p (table_in p slot)) p ceiling epoch slot none).2

fits_higher : (p : Parameters) (low high epoch : ℕ) (slot : List Block) → low ≤ high → slot_fault p low epoch slot ≡ None
    → slot_fault p high epoch slot ≡ None
unfolding slot_fault
fits_higher p low high epoch slot most none = slot_higher (table_fault p (table_in p slot)) p low high epoch slot most none

pub shadow_are_layouts : AreLayouts shadow_layouts
shadow_are_layouts = record {
  of = λ p. refl;
  number = λ p. omega arith;
  slot = has_slot;
  memory = has_places;
  longest = λ p commit n long. omega (arith, eqb-true n (image_blocks p) long);
  cpu = λ p ceiling commit slot none. cpu_fits p ceiling (epoch_of commit) slot none;
  higher = λ p low high commit slot most none. fits_higher p low high (epoch_of commit) slot most none;
}
