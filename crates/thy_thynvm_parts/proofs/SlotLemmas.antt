-- The slot of the checkpoint under way: it reads back, its places are the places of its epoch, and what leaves an image of it.
use Rattle.std.proofs.Common.{◌≡◌, ◌%◌, ◌<◌, ◌≤◌, Bool, true, false, if◌then◌else◌, refl, sym, ◌∙◌, ap, arith, ℕ, ◌+◌, ◌-◌, ◌*◌, ◌/◌, List, ◌++◌, length, map, take, drop, replicate, slice_index_or, subst, inl, inr, ◌⊎◌, [], ◌∷◌, Contains, zero, suc, ◌≢◌, ◌^◌, nat_lt, None}
use Rattle.std.proofs.lemmas.List.{ext_get_or, length-replicate, length-take, length-drop, get_or-take, get_or-drop, get_or-replicate, get_or_past, get_or_append_left, get_or-append-add}
use Rattle.std.proofs.lemmas.List.FromFn.{length-map-range_with_len, get_or-map-range_with_len, length-range_with_len, get_or-range_with_len}
use Rattle.std.specs.List.{range_with_len}
use Rattle.std.proofs.lemmas.Bool.{cases_lt, lt-ltb, le-ltb}
use Rattle.std.proofs.lemmas.List.Elements.{All-get_or, Contains-append_cases}
use Rattle.thy_block.specs.declared.block.Block.{Block}
use Rattle.thy_block.specs.Device.{Device, zero_block, block_at, newest}
use Rattle.thy_block.specs.Geometry.{memory_blocks}
use Rattle.thy_block.specs.declared.parameters.Parameters.{Parameters}
use Rattle.thy_block.specs.Blocks.{block_bytes}
use Rattle.thy_block.proofs.BlockLemmas.{block_bytes-long}
use Rattle.thy_block.proofs.WrittenLemmas.{written-start}
use Rattle.thy_block.proofs.BasicLemmas.{not_in_none, not_first}
use Rattle.thy_block.specs.Places.{record_blocks}
use Rattle.thy_layout.specs.Spares.{Spares}
use Rattle.thy_table.specs.declared.block_entry.Pending.{Pending}
use Rattle.thy_table.specs.Counts.{Tally, most}
use Rattle.thy_table.specs.LastBlocks.{last_block_of}
use Rattle.thy_table.specs.declared.place.Place.{Place}
use Rattle.thy_table.specs.Places.{in_dram, number_of, slot_blocks, slot_place, IsApart, table_blocks}
use Rattle.thy_table.specs.Devices.{NoMoreAt}
use Rattle.thy_table.specs.declared.cell.Cell.{Cell}
use Rattle.thy_table.specs.Cells.{seat_of, frame_at, pending_at, target, last, penult}
use Rattle.thy_table.specs.Checkpoint.{IsCopied}
use Rattle.thy_table.specs.Sound.{Holds}
use Rattle.thy_layout.specs.declared.layout_version.LayoutVersion.{LayoutVersion}
use Rattle.thy_layout.specs.declared.layout_version.LayoutVersion.TheVariants.{VersionOne, VersionTwo}
use Rattle.thy_layout.specs.Commit.{is_zero, epoch_of, version_of, commit_of}
use Rattle.thy_layout.specs.Layout.{slot_places, looked_by}
use Rattle.thy_layout.specs.Cpu.{cpu_block_of}
use Rattle.thy_layout.proofs.AskingLemmas.{half}
use Rattle.thy_layout.proofs.ReadBackLemmas.{epoch_of-commit_of, version_of-commit_of}
use Rattle.thy_computer.specs.Safe.{ceiling}
use Rattle.thy_record.specs.Issuing.{memory_read, HoldsCheckpoint, Target, SlotBlock, target_number, IsTarget, IsFree}
use Rattle.thy_record.specs.Tables.{Tables, place_of, IsTables}
use Rattle.thy_record.proofs.EntryLemmas.{in_dram-place_of}
use Rattle.thy_record.proofs.IssuingLemmas.{length-memory_read, memory_read-at, old_slot_before, slot_behind, free_not_looked}
use Rattle.thy_record.specs.Slots.{byte_in, AreCounts, tables_in, slot_block_of, IsSlotOf, counts_in, slot_fault}
use Rattle.thy_record.specs.VersionSlots.{blocks_of_slot, place_of_slot}
use Rattle.thy_record.specs.ThynvmLayouts.{thynvm_layouts}
use Rattle.thy_record.specs.Images.{slot_in, memory_numbers}
use Rattle.thy_record.specs.Number.{scheme_number}
use Rattle.thy_record.specs.ImageLaws.{ReadsBack}
use Rattle.thy_record.specs.TableBlocks.{table_block_of}
use Rattle.thy_record.proofs.SlotLemmas.{slot_back}
use Rattle.thy_control.specs.State.{State, AreSoundTables, cell_of, reads, last_of, AreCountsOf}
use Rattle.thy_control.specs.CheckpointTables.{tables1, tables0}
use Rattle.thy_control.proofs.TablesLemmas.{AreTablesOf-under_way, AreTablesOf-committed}
use Rattle.thy_control.specs.Stays.{HoldAll, AreCopied, Stays}
use Rattle.thy_control.proofs.PlacedLemmas.{IsPlaced-copied}
use Rattle.thy_checkpoint.specs.Items.{Made}
use Rattle.thy_checkpoint.specs.Progress.{Progress, slot_block}
use Rattle.thy_scheme_parts.specs.IsDesign.{CanRecord, IsSpared}
use Rattle.thy_scheme_parts.specs.Moments.{IsMoment, IsOwn, slot_list, parts_at}
use Rattle.thy_thynvm_parts.specs.Design.{lasts, slot_rest, items_thynvm, IsKeptBy, IsMadeBy, thynvm_design}

-- a block that is copied and written is read at its target
pub target-copied : (old : Place → Block) (c : Cell) → IsCopied c → Holds old c → c.entry.block % 64 < 64 → old (target c) ≡ old (last c)
target-copied old c done hold small = by_busy c.page.busy refl where
  by_busy : (busy : Bool) → c.page.busy ≡ busy
      → old (target c) ≡ old (if busy then frame_at (seat_of c) else pending_at c.entry.pend c.entry.v1 c.page.target (seat_of c))
  by_busy true e = hold.issued e (let all : 64 ≤ c.page.issued = done.written e in omega (arith, all, small))
  by_busy false e = sym (ap (λ (q : Pending). old (pending_at q c.entry.v1 c.page.target (seat_of c))) done.copied)

-- what is read at a place of the NVM
reads-nvm : (s : State) (n : Device) (x : Place) → in_dram x ≡ false → reads s n x ≡ newest n (number_of s.p x)
reads-nvm s n x side =
    ap (λ (d : Bool). if d then block_at s.dram.blocks (number_of s.p x) else newest n (number_of s.p x)) side

pub memory_is_last : (s : State) (n : Device) → AreSoundTables s → HoldAll s n → AreCopied s → memory_read s.p (tables1 s) n ≡ lasts s n
memory_is_last s n t hold done =
    let tables : Tables = tables1 s in
    let long = length-memory_read s.p tables n in
    ext_get_or zero_block (memory_read s.p tables n) (lasts s n)
    (long ∙ sym (length-map-range_with_len (last_of s n) 0 (memory_blocks s.p))) (λ b inside.
    let l : b < memory_blocks s.p = omega (arith, inside, long) in
    let c : Cell = cell_of s b in
    let place : place_of tables b ≡ target c = (AreTablesOf-under_way s t).same_place b l in
    let side : in_dram (target c) ≡ false = ap in_dram (sym place) ∙ in_dram-place_of tables b in
    memory_read-at s.p tables n b l
    ∙ ap (λ (x : Place). newest n (number_of s.p x)) place
    ∙ sym (reads-nvm s n (target c) side)
    ∙ target-copied (reads s n) c (done b l) (hold b l) (omega arith)
    ∙ sym (get_or-map-range_with_len (last_of s n) 0 (memory_blocks s.p) b b zero_block l (omega arith)))

-- 64 bytes of zero
abbrev zeros : List ℕ
zeros = replicate 64 0

zeros_at : (i : ℕ) → slice_index_or zeros i 0 ≡ 0
zeros_at i = elim (cases_lt i 64) as (λ _. slice_index_or zeros i 0 ≡ 0) [
  | inl l ↦ get_or-replicate {A = ℕ} 64 i 0 0 l
  | inr m ↦ get_or_past zeros i 0 (omega (arith, length-replicate {A = ℕ} 64 0))
]

zero_bytes : block_bytes zero_block ≡ zeros
unfolding zero_block
zero_bytes = block_bytes-long zero_block (length-replicate {A = ℕ} 64 0)

-- byte j of block k is the count of page 64 * k + j
byte_of-block : (lasts : List ℕ) (k j : ℕ) → j < 64 → slice_index_or (last_block_of lasts k).0 j 0 ≡ slice_index_or lasts (64 * k + j) 0
unfolding last_block_of
byte_of-block lasts k j small =
    let piece : List ℕ = take 64 (drop (64 * k) lasts) in
    let rest : List ℕ = drop (length (take 64 (drop (64 * k) lasts))) (block_bytes zero_block) in
    let long = length-take 64 (drop (64 * k) lasts) in
    let behind = length-drop (64 * k) lasts in
    ap (λ (xs : List ℕ). slice_index_or xs j 0) (written-start (block_bytes zero_block) piece)
    ∙ (elim (cases_lt j (length piece)) as (λ _. slice_index_or (piece ++ rest) j 0 ≡ slice_index_or lasts (64 * k + j) 0) [
      | inl l ↦
          get_or_append_left piece rest 0 j l ∙ get_or-take 64 (drop (64 * k) lasts) j 0 small ∙ get_or-drop (64 * k) lasts j 0
      | inr m ↦
          let e : length piece + (j - length piece) ≡ j = omega arith in
          sym (ap (λ (x : ℕ). slice_index_or (piece ++ rest) x 0) e)
          ∙ get_or-append-add piece rest (j - length piece) 0
          ∙ get_or-drop (length piece) (block_bytes zero_block) (j - length piece) 0
          ∙ ap (λ (xs : List ℕ). slice_index_or xs (length piece + (j - length piece)) 0) zero_bytes
          ∙ zeros_at (length piece + (j - length piece))
          ∙ sym (get_or_past lasts (64 * k + j) 0 (omega (arith, long, behind, m, small)))
    ])

-- byte i of the blocks of counts is the count of page i
pub byte_in-lasts : (lasts : List ℕ) (i : ℕ) → byte_in (last_block_of lasts) i ≡ slice_index_or lasts i 0
byte_in-lasts lasts i =
    let whole : 64 * (i / 64) + i % 64 ≡ i = omega arith in
    byte_of-block lasts (i / 64) (i % 64) (omega arith) ∙ ap (λ (x : ℕ). slice_index_or lasts x 0) whole

-- the blocks of counts, read back page by page, are the counts
pub lasts_read_back : (lasts : List ℕ) (pages : ℕ) → length lasts ≡ pages
    → map (byte_in (last_block_of lasts)) (range_with_len 0 pages) ≡ lasts
lasts_read_back lasts pages long =
    let left = length-map-range_with_len (byte_in (last_block_of lasts)) 0 pages in
    ext_get_or 0 (map (byte_in (last_block_of lasts)) (range_with_len 0 pages)) lasts (left ∙ sym long)
    (λ i below.
    let l : i < pages = omega (arith, left) in
    get_or-map-range_with_len (byte_in (last_block_of lasts)) 0 pages i i 0 l (omega arith) ∙ byte_in-lasts lasts i)

pub length-lasts : (p : Parameters) (c : Tally) → AreCountsOf p c → length c.lasts ≡ p.pages
length-lasts p c h = h.tallied.as_many ∙ h.size

-- the controller's are counts that a slot may have
pub AreCounts-lasts : (p : Parameters) (c : Tally) → AreCountsOf p c → AreCounts p (last_block_of c.lasts)
AreCounts-lasts p c h =
    let long = length-lasts p c h in
    record {
      within = λ i l.
          let few : slice_index_or c.lasts i 0 ≤ most = All-get_or (λ n. n ≤ most) c.lasts i 0 (omega (arith, long, l)) h.tallied.lasts_within in
          subst (λ x. x ≤ 63) (sym (byte_in-lasts c.lasts i)) few;
      rest = λ i m inside. byte_in-lasts c.lasts i ∙ get_or_past c.lasts i 0 (omega (arith, long, m));
    }

first_or_rest : (y x : ℕ) (xs : List ℕ) → Contains (x ∷ xs) y → (x ≡ y) ⊎ Contains xs y
first_or_rest y x xs (zero, l, is) = inl is
first_or_rest y x xs (suc k, l, is) = inr (k, omega arith, is)

-- a place that determines what an image means lies apart from memory's places, or memory has it
abbrev pub ApartOrMemory : Parameters → Tables → ℕ → Type 0
ApartOrMemory p t x = IsApart p x ⊎ ((b : ℕ) × (b < memory_blocks p) × (number_of p (place_of t b) ≡ x))

module _ (p : Parameters) (t : Tables) (x : ℕ) where
  in_slot : (version : LayoutVersion) (r : ℕ) → r < 2 → Contains (range_with_len (place_of_slot version p r) (blocks_of_slot version p)) x
      → IsApart p x
  in_slot VersionOne r two (k, l, is) =
      let inside : k < blocks_of_slot VersionOne p =
      omega (arith, l, length-range_with_len (place_of_slot VersionOne p r) (blocks_of_slot VersionOne p)) in
      let at : place_of_slot VersionOne p r + k ≡ x =
      sym (get_or-range_with_len (place_of_slot VersionOne p r) (blocks_of_slot VersionOne p) k x inside) ∙ is in
      let before = (old_slot_before p r k two inside).1 in
      inl (omega (arith, before, at))
  in_slot VersionTwo r two (k, l, is) =
      let inside : k < slot_blocks p = omega (arith, l, length-range_with_len (slot_place p r) (slot_blocks p)) in
      let at : slot_place p r + k ≡ x = sym (get_or-range_with_len (slot_place p r) (slot_blocks p) k x inside) ∙ is in
      let behind = slot_behind p r k in
      inr (omega (arith, behind, at))

  in_memory : Contains (memory_numbers p t) x → (b : ℕ) × (b < memory_blocks p) × (number_of p (place_of t b) ≡ x)
  in_memory (k, l, is) =
      let inside : k < memory_blocks p = omega (arith, l, length-map-range_with_len (λ (b : ℕ). number_of p (place_of t b)) 0 (memory_blocks p)) in
      (k, inside, sym (get_or-map-range_with_len (λ (b : ℕ). number_of p (place_of t b)) 0 (memory_blocks p) k k x inside (omega arith)) ∙ is)

  looked_by-zeros : (image : List Block) (zeros : Bool) → tables_in p (slot_in p image) ≡ t
      → Contains (1 ∷ (if zeros then 1 ∷ [] else 0 ∷ 1 ∷ (slot_places (thynvm_layouts p) (block_at image 1) ++ memory_numbers p (tables_in p (slot_in p image))))) x
      → ApartOrMemory p t x
  looked_by-zeros image true is inside = elim (first_or_rest x 1 (1 ∷ []) inside) as (λ _. ApartOrMemory p t x) [
    | inl e ↦ inl (inl (omega (arith, e)))
    | inr rest ↦ elim (first_or_rest x 1 [] rest) as (λ _. ApartOrMemory p t x) [
      | inl e ↦ inl (inl (omega (arith, e)))
      | inr none ↦ absurd (not_in_none x none)
    ]
  ]
  looked_by-zeros image false is inside =
      let slots : List ℕ = slot_places (thynvm_layouts p) (block_at image 1) in
      let memory : List ℕ = memory_numbers p (tables_in p (slot_in p image)) in
      elim (first_or_rest x 1 (0 ∷ 1 ∷ (slots ++ memory)) inside) as (λ _. ApartOrMemory p t x) [
        | inl e ↦ inl (inl (omega (arith, e)))
        | inr second ↦ elim (first_or_rest x 0 (1 ∷ (slots ++ memory)) second) as (λ _. ApartOrMemory p t x) [
          | inl e ↦ inl (inl (omega (arith, e)))
          | inr third ↦ elim (first_or_rest x 1 (slots ++ memory) third) as (λ _. ApartOrMemory p t x) [
            | inl e ↦ inl (inl (omega (arith, e)))
            | inr behind ↦ elim (Contains-append_cases slots memory x behind) as (λ _. ApartOrMemory p t x) [
              | inl a ↦ inl (in_slot (version_of scheme_number p (block_at image 1)) (epoch_of (block_at image 1) % 2) (omega arith) a)
              | inr b ↦ inr (in_memory (subst (λ (u : Tables). Contains (memory_numbers p u) x) is b))
            ]
          ]
        ]
      ]

pub looked_cases : (p : Parameters) (image : List Block) (version : LayoutVersion) (epoch : ℕ) (t : Tables) (x : ℕ)
    → HoldsCheckpoint p image version epoch t
    → Contains (1 ∷ looked_by (thynvm_layouts p) image) x → ApartOrMemory p t x
unfolding looked_by
looked_cases p image version epoch t x meant inside = looked_by-zeros p t x image (is_zero (block_at image 1)) meant.tables inside

-- what keeps both checkpoints of the controller spares the committed one's image
pub Spares-stays : (s : State) (m : Device) (t : State) (n : Device) (image : List Block) (version : LayoutVersion) (epoch : ℕ)
    → AreSoundTables s → Stays s m t n → HoldsCheckpoint s.p image version epoch (tables0 s)
    → Spares (1 ∷ looked_by (thynvm_layouts s.p) image) m n
Spares-stays s m t n image version epoch tables stays meant = record {
  as_long = stays.as_long;
  no_more = λ x inside. (elim (looked_cases s.p image version epoch (tables0 s) x meant inside) as (λ _. NoMoreAt x m n) [
    | inl apart ↦ stays.guarded.apart x apart
    | inr of ↦
        let same : number_of s.p (penult (cell_of s of.0)) ≡ x =
        ap (number_of s.p) (sym ((AreTablesOf-committed s tables).same_place of.0 of.1)) ∙ of.2 in
        subst (λ (y : ℕ). NoMoreAt y m n) same (stays.guarded.old of.0 of.1)
  ]).no_more;
}

-- what keeps both checkpoints of the controller, with every block copied and written, spares the image of the one under
-- way
pub Spares-stays_next : (s : State) (m : Device) (t : State) (n : Device) (image : List Block) (version : LayoutVersion) (epoch : ℕ)
    → AreSoundTables s → Stays s m t n → AreCopied s → HoldsCheckpoint s.p image version epoch (tables1 s)
    → Spares (1 ∷ looked_by (thynvm_layouts s.p) image) m n
Spares-stays_next s m t n image version epoch tables stays copied meant = record {
  as_long = stays.as_long;
  no_more = λ x inside. (elim (looked_cases s.p image version epoch (tables1 s) x meant inside) as (λ _. NoMoreAt x m n) [
    | inl apart ↦ stays.guarded.apart x apart
    | inr of ↦
        let same : number_of s.p (target (cell_of s of.0)) ≡ x =
        ap (number_of s.p) (sym ((AreTablesOf-under_way s tables).same_place of.0 of.1)) ∙ of.2 in
        subst (λ (y : ℕ). NoMoreAt y m n) same (stays.guarded.next of.0 of.1 (IsPlaced-copied of.0 (cell_of s of.0) (copied of.0 of.1)))
  ]).no_more;
}

-- ---- which block is which

-- what follows the record is the same, counted from the record or from the slot's first block
rest_same : (r t k : ℕ) (a b : ℕ → Block) → r ≤ k
    → (if nat_lt (k - r) t then a (k - r) else b (k - r - t)) ≡ (if nat_lt k (r + t) then a (k - r) else b (k - (r + t)))
rest_same r t k a b l = elim (cases_lt (k - r) t)
    as (λ _. (if nat_lt (k - r) t then a (k - r) else b (k - r - t)) ≡ (if nat_lt k (r + t) then a (k - r) else b (k - (r + t)))) [
      | inl less ↦
          ap (λ (x : Bool). if x then a (k - r) else b (k - r - t)) (lt-ltb (k - r) t less)
          ∙ sym (ap (λ (x : Bool). if x then a (k - r) else b (k - (r + t))) (lt-ltb k (r + t) (omega (arith, less, l))))
      | inr more ↦
          let at : k - r - t ≡ k - (r + t) = omega arith in
          ap (λ (x : Bool). if x then a (k - r) else b (k - r - t)) (le-ltb (k - r) t more)
          ∙ ap b at
          ∙ sym (ap (λ (x : Bool). if x then a (k - r) else b (k - (r + t))) (le-ltb k (r + t) (omega (arith, more, l))))
    ]

block_same : (e : Progress) (s : State) (k : ℕ) → s.p ≡ e.p
    → slot_block items_thynvm e s k ≡ slot_block_of e.p e.cpu (tables1 s) (last_block_of s.counts.lasts) e.epoch k
block_same e s k same =
    let r : ℕ = record_blocks e.p in
    elim (cases_lt k r) as (λ _. slot_block items_thynvm e s k ≡ slot_block_of e.p e.cpu (tables1 s) (last_block_of s.counts.lasts) e.epoch k) [
      | inl less ↦
          ap (λ (x : Bool). if x then cpu_block_of e.cpu e.epoch k else slot_rest s (k - r)) (lt-ltb k r less)
          ∙ sym (ap (λ (x : Bool). if x then cpu_block_of e.cpu e.epoch k else
          (if nat_lt k (r + table_blocks e.p) then table_block_of (tables1 s) (k - r) else last_block_of s.counts.lasts (k - (r + table_blocks e.p)))) (lt-ltb k r less))
      | inr more ↦
          ap (λ (x : Bool). if x then cpu_block_of e.cpu e.epoch k else slot_rest s (k - r)) (le-ltb k r more)
          ∙ ap (λ (p : Parameters). if nat_lt (k - r) (table_blocks p) then table_block_of (tables1 s)
          (k - r) else last_block_of s.counts.lasts (k - r - table_blocks p)) same
          ∙ rest_same r (table_blocks e.p) k (table_block_of (tables1 s)) (last_block_of s.counts.lasts) more
          ∙ sym (ap (λ (x : Bool). if x then cpu_block_of e.cpu e.epoch k else
          (if nat_lt k (r + table_blocks e.p) then table_block_of (tables1 s) (k - r) else last_block_of s.counts.lasts (k - (r + table_blocks e.p)))) (le-ltb k r more))
    ]

-- ---- what is free

-- what is free for the kept image is spared by a write
pub spared : (s : State) (g : List Block) (v : LayoutVersion) (kept : ℕ) (x : Target) → HoldsCheckpoint s.p g v kept (tables0 s)
    → IsTarget s.p x
    → IsFree s.p v kept (tables0 s) x → target_number s.p x ≢ 0 → IsSpared thynvm_design s g (target_number s.p x)
spared s g v kept x meant there free low inside =
    free_not_looked s.p g v kept (tables0 s) x meant there free
    (not_first (target_number s.p x) 0 (1 ∷ looked_by (thynvm_layouts s.p) g) (λ e. low (sym e)) inside)

-- ---- the slot

-- a checkpoint's slot is of version 2
version_is : (e : Progress) → version_of scheme_number e.p (commit_of e.epoch) ≡ VersionTwo
version_is e = version_of-commit_of scheme_number e.p e.epoch

blocks_is : (e : Progress) → (thynvm_layouts e.p).slot_blocks (commit_of e.epoch) ≡ slot_blocks e.p
blocks_is e = ap (λ (v : LayoutVersion). blocks_of_slot v e.p) (version_is e)

-- a place of the slot or of the commit block is apart from memory's
pub own_apart : (e : Progress) (s : State) (x : ℕ) → s.p ≡ e.p → IsOwn thynvm_design e x → IsApart s.p x
own_apart e s x same (inl commit) = inl (omega (arith, commit))
own_apart e s x same (inr (k, l, is)) =
    let r : ℕ = epoch_of (commit_of e.epoch) % 2 in
    let at : slot_place e.p r + k ≡ x = ap (λ (v : LayoutVersion). place_of_slot v e.p r + k) (sym (version_is e)) ∙ sym is in
    subst (λ (p : Parameters). IsApart p x) (sym same) (inr (let behind = slot_behind e.p r k in omega (arith, behind, at)))

module _ (e : Progress) (s : State) (n : Device) (moment : IsMoment thynvm_design Made e.epoch s n) (can : CanRecord thynvm_design e s) where
  abbrev slot : List Block
  slot = slot_list thynvm_design e s

  below : e.epoch < 2 ^ 64
  below = let small = can.small in omega (arith, small)

  tables : IsTables e.p (tables1 s)
  tables = subst (λ (p : Parameters). IsTables p (tables1 s)) can.same_p (AreTablesOf-under_way s moment.sound).valid

  is_slot : IsSlotOf e.p e.cpu (tables1 s) (last_block_of s.counts.lasts) e.epoch slot
  is_slot = record {
    each = λ k l.
        let size : ℕ = (thynvm_layouts e.p).slot_blocks (commit_of e.epoch) in
        get_or-map-range_with_len (slot_block items_thynvm e s) 0 size k k zero_block (omega (arith, l, blocks_is e)) (omega arith)
        ∙ block_same e s k can.same_p;
  }

  back : ReadsBack e.p ceiling e.cpu (tables1 s) (last_block_of s.counts.lasts) e.epoch slot
  back = slot_back e.p ceiling e.cpu (tables1 s) (last_block_of s.counts.lasts) e.epoch slot can.range can.recordable tables
      (subst (λ (p : Parameters). AreCounts p (last_block_of s.counts.lasts)) can.same_p (AreCounts-lasts s.p s.counts moment.sound.counts))
      (omega arith) below is_slot

  epoch_is : epoch_of (commit_of e.epoch) ≡ e.epoch
  epoch_is = epoch_of-commit_of e.epoch below

  pub slot_fits : (thynvm_layouts e.p).slot_bad ceiling (commit_of e.epoch) slot ≡ None
  slot_fits =
      ap (λ (v : LayoutVersion). slot_fault v e.p ceiling (epoch_of (commit_of e.epoch)) slot) (version_is e)
      ∙ ap (λ (k : ℕ). slot_fault VersionTwo e.p ceiling k slot) epoch_is ∙ back.faultless

  pub slot_makes : (g : List Block) → block_at g 1 ≡ commit_of e.epoch → slot_in e.p g ≡ slot → IsMadeBy e.epoch s g
  slot_makes g commit is = record {
    meant = subst (λ (p : Parameters). HoldsCheckpoint p g VersionTwo e.epoch (tables1 s)) (sym can.same_p) (record {
      of_version = ap (version_of scheme_number e.p) commit ∙ version_is e;
      of_epoch = ap epoch_of commit ∙ epoch_is;
      tables = ap (tables_in e.p) is ∙ back.tables_back;
      whole = tables;
    });
    counted = subst (λ (p : Parameters). counts_in VersionTwo p (slot_in p g) ≡ s.counts.lasts) (sym can.same_p)
        (ap (counts_in VersionTwo e.p) is ∙ back.counts_back
        ∙ lasts_read_back s.counts.lasts e.p.pages (length-lasts s.p s.counts moment.sound.counts ∙ ap (λ (p : Parameters). p.pages) can.same_p));
  }

  -- the slot of a checkpoint is at the place of its epoch's slot
  place_is : (k : ℕ) → (thynvm_layouts e.p).slot_place (commit_of e.epoch) + k ≡ slot_place s.p (e.epoch % 2) + k
  place_is k =
      ap (λ (v : LayoutVersion). place_of_slot v e.p (epoch_of (commit_of e.epoch) % 2) + k) (version_is e)
      ∙ ap (λ (x : ℕ). slot_place e.p (x % 2) + k) epoch_is ∙ ap (λ (p : Parameters). slot_place p (e.epoch % 2) + k) (sym can.same_p)

  pub slot_spared : (g : List Block) (k : ℕ) → IsKeptBy Made e.epoch s g → k < (thynvm_layouts e.p).slot_blocks (commit_of e.epoch)
      → IsSpared thynvm_design s g ((thynvm_layouts e.p).slot_place (commit_of e.epoch) + k)
  slot_spared g k keeps l =
      subst (IsSpared thynvm_design s g) (sym (place_is k))
      (spared s g keeps.version keeps.kept (SlotBlock (e.epoch % 2) k) keeps.meant
      (half e.epoch, subst (λ (p : Parameters). k < slot_blocks p) (sym can.same_p) (omega (arith, l, blocks_is e)))
      (free_slot keeps.version keeps.kept keeps.other) (λ q. omega (arith, q)))
    where
      free_slot : (v : LayoutVersion) (kept : ℕ) → e.epoch % 2 ≢ kept % 2 → IsFree s.p v kept (tables0 s) (SlotBlock (e.epoch % 2) k)
      free_slot VersionOne kept other = tt
      free_slot VersionTwo kept other = other

  -- memory reads at its places by the slot as it was sealed
  pub made_reads : map (newest n) (parts_at thynvm_design e s).memory ≡ lasts s n
  made_reads =
      ap (λ (t : Tables). map (newest n) (memory_numbers e.p t)) back.tables_back
      ∙ ap (λ (p : Parameters). map (newest n) (memory_numbers p (tables1 s))) (sym can.same_p)
      ∙ memory_is_last s n moment.sound moment.holds moment.stands.copied
