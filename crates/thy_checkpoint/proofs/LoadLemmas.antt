-- What a start makes is its checkpoint, whatever the layout; and what is written again of one of an older form.
use Rattle.std.proofs.Common.{◌≡◌, ◌≢◌, ℕ, ◌+◌, ◌<◌, ◌≤◌, true, List, length, slice_index_or, Contains, None, refl, sym, ◌∙◌, ap, subst, arith, ◌&&◌, nat_lt, Bool, if◌then◌else◌, [], ◌∷◌, ◌++◌, map, Some, inl, inr}
use Rattle.std.proofs.lemmas.Bool.{ltb-true}
use Rattle.std.proofs.lemmas.List.{length-map}
use Rattle.std.proofs.lemmas.List.Elements.{Contains-append_cases}
use Rattle.std.proofs.lemmas.List.FromFn.{length-range_with_len}
use Rattle.thy_block.specs.declared.block.Block.{Block}
use Rattle.thy_block.specs.declared.parameters.Parameters.{Parameters}
use Rattle.thy_block.specs.Device.{Device, block_at, newest}
use Rattle.thy_block.specs.Geometry.{IsInRange, memory_blocks}
use Rattle.thy_block.proofs.BasicLemmas.{all_none, not_first, Contains-range}
use Rattle.thy_block.proofs.DeviceLemmas.{newest-empty}
use Rattle.thy_layout.specs.Fixed.{Reads}
use Rattle.thy_layout.specs.Saved.{IsIssued, next_image, Kept, guarded}
use Rattle.thy_layout.proofs.SavedLemmas.{next_image-commit, next_image-reads}
use Rattle.thy_isa.specs.declared.state.CpuState.{CpuState}
use Rattle.thy_isa.specs.OnBlocks.{state_from}
use Rattle.thy_isa.specs.Step.{State}
use Rattle.thy_layout.specs.AreLayouts.{HasPlaces}
use Rattle.thy_layout.specs.Commit.{commit_of, epoch_of, is_zero, is_named, has_zero_rest, commit_fault}
use Rattle.thy_layout.specs.Cpu.{cpu_of_record}
use Rattle.thy_layout.specs.Decoded.{At}
use Rattle.thy_layout.specs.Header.{header_of, header_fault}
use Rattle.thy_layout.specs.Layout.{Layout, header_bad, commit_bad, state_by, slot_in, is_long, fault_of, looked_by, slot_places, memory_places, memory_in, decode_by}
use Rattle.thy_layout.proofs.HeaderLemmas.{header_fault-header_of}
use Rattle.thy_layout.proofs.ReadBackLemmas.{epoch_of-commit_of, commit_fault-commit_of, is_zero-commit_of}
use Rattle.thy_layout.proofs.LayoutLemmas.{length_is, looked_parts}
use Rattle.thy_layout.proofs.PlacesLemmas.{length-memory_places, memory_place, memory_place_of}
use Rattle.thy_layout.specs.declared.bad_image.BadImage.TheVariants.{Commit as BadCommit}
use Rattle.thy_layout.specs.declared.layout_version.LayoutVersion.TheVariants.{VersionOne}
use Rattle.thy_layout.proofs.AskingLemmas.{map-alike}
use Rattle.thy_computer.specs.Origin.{Origin}
use Rattle.thy_computer.specs.Safe.{ceiling}
use Rattle.thy_computer.specs.Issuing.{ArePlaced, AreIssued, IsCheckpoint, slot_of, CheckpointParts, ArePartsOf}
use Rattle.thy_computer.specs.Keeps.{IsOf}
use Rattle.thy_computer.proofs.IssuingLemmas.{issued_is_checkpoint}
use Rattle.thy_computer.proofs.KeepsLemmas.{at-start}
use Rattle.thy_checkpoint.specs.Filling.{FillingOf, First, IsFilling, layout_at, first_slot_of, first_by, IsOlder, IsTheSame, anew, slot_anew}
use Rattle.thy_checkpoint.specs.Sound.{layout_for, first_of, start_mark}
use Rattle.thy_checkpoint.specs.Start.{CanStart}
use Rattle.thy_checkpoint.proofs.StartLemmas.{length-start_blocks, state_from-start}
use Rattle.thy_checkpoint.specs.Boot.{Booting, layout_in, slot_read, version_in}
use Rattle.thy_checkpoint.specs.Migrating.{renewed_parts}
use Rattle.thy_checkpoint.specs.Recovers.{HasListed}

-- what holds of the place of each block holds of each place
of_each : (l : Layout) (k : Block) (s : List Block) (P : ℕ → Type 0) → ((i : ℕ) → i < memory_blocks l.p → P (l.place k s i))
    → (x : ℕ) → Contains (memory_places l k s) x → P x
of_each l k s P each x inside = let of = memory_place_of l k s x inside in subst P of.2 (each of.0 of.1)

module _ {C : Type 0} (F : FillingOf C) (laws : IsFilling F) (p : Parameters) where
  abbrev ly : Layout
  ly = layout_at F p

  long : (commit : Block) → is_long ly commit ly.image_blocks ≡ true
  long commit = length_is ly.image_blocks ly.image_blocks (ly.older_blocks commit) refl

  -- a slot has a block, and lies within the image, as header and commit block do
  pub slot_some : (commit : Block) → 0 < ly.slot_blocks commit
  slot_some commit = let least = (laws.laid.slot p commit).record_inside in omega (arith, least)

  pub slot_inside : (commit : Block) → ly.slot_place commit + ly.slot_blocks commit ≤ ly.image_blocks
  slot_inside commit = (laws.laid.slot p commit).inside ly.image_blocks (long commit)

  pub block_inside : (commit : Block) (k : ℕ) → commit ≡ commit_of 0 → k < ly.slot_blocks (commit_of 0)
      → ly.slot_place commit + k < ly.image_blocks
  block_inside commit k is here = omega (arith, slot_inside commit, subst (λ (x : Block). k < ly.slot_blocks x) (sym is) here)

  pub head_inside : 1 < ly.image_blocks
  head_inside = omega (arith, slot_inside (commit_of 0), (laws.laid.slot p (commit_of 0)).behind)

  -- the header that is written has no fault
  pub first-header : IsInRange p → header_bad ly (header_of ly.scheme p) true ≡ None
  first-header range =
      ap (λ (q : Parameters). header_fault ly.scheme (header_of ly.scheme p) q true) (laws.laid.of p)
      ∙ header_fault-header_of ly.scheme p (laws.laid.number p) range

  module _ (s : State) where
    abbrev f : First
    f = first_by F p s

    abbrev first_slot : List Block
    first_slot = first_slot_of F p s

    -- memory has one place for each of its blocks
    pub length-first : length f.parts.memory ≡ memory_blocks p
    length-first = length-memory_places ly f.commit first_slot ∙ ap (λ (q : Parameters). memory_blocks q) (laws.laid.of p)

    pub first-whole : length f.memory ≡ length f.parts.memory
    first-whole = length-start_blocks p s ∙ sym length-first

    -- memory's places and the slot's are few
    pub first-few : IsInRange p → length f.parts.memory + f.parts.slot_blocks ≤ 4194304 + ly.image_blocks
    first-few range = let pages : p.pages ≤ 65536 = range.1.0.1 in omega (arith, pages, length-first, slot_inside f.commit)

    module _ (can : CanStart p s) where
      places : HasPlaces ly f.commit first_slot
      places = laws.laid.memory p f.commit first_slot (record { ceiling = ceiling; faultless = laws.first_fits p s can })

      low : (b : ℕ) → b < length f.parts.memory → b < memory_blocks ly.p
      low b inside = omega (arith, inside, length-memory_places ly f.commit first_slot)

      place_at : (b : ℕ) → b < length f.parts.memory → slice_index_or f.parts.memory b 0 ≡ ly.place f.commit first_slot b
      place_at b inside = memory_place ly f.commit first_slot b 0 (low b inside)

      -- the parts of a start are placed, each at a place of its own
      pub first-placed : ArePlaced ly.image_blocks f.parts
      first-placed = record {
        slot_behind = (laws.laid.slot p f.commit).behind;
        slot_inside = slot_inside f.commit;
        memory_behind = of_each ly f.commit first_slot (λ x. 2 ≤ x) places.behind;
        memory_inside = of_each ly f.commit first_slot (λ x. x < ly.image_blocks)
            (λ b inside. places.inside b ly.image_blocks inside (long f.commit));
        apart = λ k here there.
            of_each ly f.commit first_slot (λ x. x ≢ ly.slot_place f.commit + k) (λ b inside. places.apart b k inside here)
            (ly.slot_place f.commit + k) there refl;
      }

      pub first-once : (i j : ℕ) → i < length f.parts.memory → j < length f.parts.memory
          → slice_index_or f.parts.memory i 0 ≡ slice_index_or f.parts.memory j 0 → i ≡ j
      first-once i j a b e = places.once i j (low i a) (low j b) (sym (place_at i a) ∙ e ∙ place_at j b)

      -- it has no fault, and means the start
      faultless : fault_of ly ceiling true f.header f.commit (slot_of f.parts) ≡ None
      faultless =
          all_none (header_bad ly f.header true) (commit_bad ceiling f.header f.commit) (ly.slot_bad ceiling f.commit first_slot)
          (first-header can.geometry) (commit_fault-commit_of f.header 0 ceiling (omega arith) (omega arith)) (laws.first_fits p s can)

      state_is : state_by ly (slot_of f.parts) f.memory ≡ s
      state_is =
          ap (λ (q : Parameters). state_from q (cpu_of_record q first_slot) f.memory) (laws.laid.of p)
          ∙ ap (λ (cpu : CpuState). state_from p cpu f.memory) (laws.first_cpu p s can)
          ∙ state_from-start p s can.geometry can.start

      -- with all parts and the header issued, the next image is that checkpoint, and lacks nothing
      checkpoint_is : (n : Device) → AreIssued ly.image_blocks f.parts n f.memory f.parts.slot_blocks → Reads n 0 f.header
          → IsCheckpoint ly ceiling n f.commit f.parts f.memory
      checkpoint_is n issued header =
          issued_is_checkpoint ly ceiling n f.commit f.parts f.memory
          (record { placed = first-placed; slot_place = refl; slot_blocks = refl; memory = refl }) issued (is_zero-commit_of 0)
          (ap (λ (b : Block). fault_of ly ceiling true b f.commit (slot_of f.parts)) header.newest_is ∙ faultless)

module _ {C : Type 0} (F : FillingOf C) (laws : IsFilling F) (o : Origin) (can : CanStart o.geometry o.start) (n : Device) where
  abbrev start : First
  start = first_of F o

  pub first-checkpoint : AreIssued (layout_for F o).image_blocks start.parts n start.memory start.parts.slot_blocks → Reads n 0 start.header
      → IsOf o (layout_for F o) (next_image n start.commit) (start_mark o)
      × IsIssued (looked_by (layout_for F o)) n (next_image n start.commit)
      × (slot_in (layout_for F o) (next_image n start.commit) ≡ slot_of start.parts)
  first-checkpoint issued header =
      let next = checkpoint_is F laws o.geometry o.start can n issued header in (
        record {
          decodes = next.decodes
              ∙ ap (λ (e : ℕ). At e (state_by (layout_for F o) (slot_of start.parts) start.memory)) (epoch_of-commit_of 0 (omega arith))
              ∙ ap (At 0) (state_is F laws o.geometry o.start can ∙ sym (at-start o));
          counted = ap (λ s. s.count) (at-start o);
        },
        next.issued,
        next.slot,
      )

-- a commit block without a fault has an epoch below the ceiling
asks-epoch : (named below rest : Bool) → (if (named && below) && rest then None else Some BadCommit) ≡ None → below ≡ true
asks-epoch true true rest h = refl
asks-epoch named below rest h = cc

pub epoch-below : (header commit : Block) → commit_fault header commit ceiling ≡ None → epoch_of commit < ceiling
unfolding commit_fault
epoch-below header commit h =
    ltb-true (epoch_of commit) ceiling (asks-epoch (is_named header commit) (nat_lt (epoch_of commit) ceiling) (has_zero_rest commit) h)

module _ {C : Type 0} (F : FillingOf C) (laws : IsFilling F) (b : Booting) (c : C) (same : F.p c ≡ b.p)
    (g : List Block) (listed : HasListed F g b c) (version : version_in F b ≡ VersionOne) where
  abbrev l : Layout
  l = layout_in F b

  abbrev commit : Block
  commit = b.commit

  abbrev slot : List Block
  slot = slot_read F b

  abbrev parts : CheckpointParts
  parts = renewed_parts F b

  below : epoch_of commit < ceiling
  below = epoch-below (block_at g 0) commit listed.head.commit_fits

  older : IsOlder l b.p commit slot
  older = record {
    version = version;
    below = below;
    long = ap length listed.slot_is
        ∙ length-map (slot_places l (block_at g 1)) (block_at g)
        ∙ length-range_with_len (l.slot_place (block_at g 1)) (l.slot_blocks (block_at g 1))
        ∙ ap l.slot_blocks listed.head.commit_is.is;
    faultless = listed.slot_fits;
  }

  pub is_the_same : IsTheSame F b.p commit slot
  is_the_same = laws.renews b.p commit slot older

  pub epoch_anew : epoch_of (anew commit) ≡ epoch_of commit
  epoch_anew = epoch_of-commit_of (epoch_of commit) (omega (arith, below))

  -- ---- where it goes

  places_old : HasPlaces l commit slot
  places_old = laws.laid.memory b.p commit slot (record { ceiling = ceiling; faultless = listed.slot_fits })

  places_new : HasPlaces l (anew commit) (slot_anew l commit slot)
  places_new = laws.laid.memory b.p (anew commit) (slot_anew l commit slot) (record { ceiling = ceiling; faultless = is_the_same.faultless })

  memory_apart : (k : ℕ) → k < parts.slot_blocks → ¬ Contains parts.memory (parts.slot_place + k)
  memory_apart k inside here =
      of_each l (anew commit) (slot_anew l commit slot) (λ x. x ≢ parts.slot_place + k) (λ i low. places_new.apart i k low inside)
      (parts.slot_place + k)
      (subst (λ (xs : List ℕ). Contains xs (parts.slot_place + k)) (sym is_the_same.places) here) refl

  pub placed_anew : ArePlaced l.image_blocks parts
  placed_anew = record {
    slot_behind = (laws.laid.slot b.p (anew commit)).behind;
    slot_inside = slot_inside F laws b.p (anew commit);
    memory_behind = of_each l commit slot (λ x. 2 ≤ x) places_old.behind;
    memory_inside = of_each l commit slot (λ x. x < l.image_blocks)
        (λ i low. places_old.inside i l.image_blocks low (length_is l.image_blocks l.image_blocks (l.older_blocks commit) refl));
    apart = memory_apart;
  }

  parts_anew : ArePartsOf l (anew commit) parts
  parts_anew = record { placed = placed_anew; slot_place = refl; slot_blocks = refl; memory = is_the_same.places }

  -- no block of the image that is kept is written over
  looked_is : looked_by l g ≡ 0 ∷ 1 ∷ (slot_places l commit ++ memory_places l commit slot)
  looked_is =
      looked_parts l g (ap is_zero listed.head.commit_is.is ∙ listed.head.commit_is.committed)
      ∙ ap (λ (k : Block). 0 ∷ 1 ∷ (slot_places l k ++ memory_places l k (slot_in l g))) listed.head.commit_is.is
      ∙ ap (λ (s : List Block). 0 ∷ 1 ∷ (slot_places l commit ++ memory_places l commit s)) (sym listed.slot_is)

  pub slot_spared : (k : ℕ) → k < parts.slot_blocks → ¬ Contains (guarded (looked_by l) (Kept g)) (parts.slot_place + k)
  slot_spared k inside here =
      let x : ℕ = parts.slot_place + k in
      let places : List ℕ = slot_places l commit ++ memory_places l commit slot in
      let behind : 2 ≤ parts.slot_place = placed_anew.slot_behind in
      let none : 0 ≢ x = λ e. omega (arith, e, behind) in
      let one : 1 ≢ x = λ e. omega (arith, e, behind) in
      let all : Contains (1 ∷ 0 ∷ 1 ∷ places) x = subst (λ (xs : List ℕ). Contains (1 ∷ xs) x) looked_is here in
      elim (Contains-append_cases (slot_places l commit) (memory_places l commit slot) x
      (not_first x 1 places one (not_first x 0 (1 ∷ places) none (not_first x 1 (0 ∷ 1 ∷ places) one all)))) as (λ _. ⊥) [
        | inl old ↦
            let at = Contains-range (l.slot_place commit) (l.slot_blocks commit) x old in
            is_the_same.apart at.0 k at.1 inside at.2
        | inr memory ↦ memory_apart k inside memory
      ]

  -- ---- at its beginning

  pub header-first : (n : Device) → n.queue ≡ [] → n.image ≡ g → header_bad l (newest n 0) true ≡ None
  header-first n settled is =
      ap (λ (x : Block). header_bad l x true) (newest-empty n 0 settled ∙ ap (λ (h : List Block). block_at h 0) is) ∙ listed.head.header_fits

  -- memory is where the new checkpoint has it, too
  pub issued-first : (n : Device) → n.queue ≡ [] → n.image ≡ g → length n.image ≡ l.image_blocks → F.loads c n ≡ memory_in l g
      → AreIssued l.image_blocks parts n (F.loads c n) 0
  issued-first n settled is sized memory = record {
    sized = sized;
    memory_is = map-alike (newest n) (block_at n.image) parts.memory (λ x inside. newest-empty n x settled)
        ∙ ap (λ (h : List Block). map (block_at h) parts.memory) is
        ∙ ap (λ (s : List Block). map (block_at g) (memory_places l commit s)) listed.slot_is
        ∙ ap (λ (k : Block). map (block_at g) (memory_places l k (slot_in l g))) (sym listed.head.commit_is.is)
        ∙ sym memory;
    slot = record { each = λ i low. absurd (omega (arith, low)) };
  }

  -- ---- all of it

  pub state_anew : (memory : List Block) → state_by l (slot_of parts) memory ≡ state_by l slot memory
  state_anew memory =
      subst (λ (p : Parameters). state_from p (cpu_of_record p (slot_of parts)) memory ≡ state_from p (cpu_of_record p slot) memory)
      (sym (laws.laid.of b.p))
      (ap (λ (cpu : CpuState). state_from b.p cpu memory) is_the_same.cpu)

  module _ (n : Device) (header : header_bad l (newest n 0) true ≡ None)
      (all : AreIssued l.image_blocks parts n (F.loads c n) parts.slot_blocks) where
    no_fault : fault_of l ceiling true (newest n 0) (anew commit) (slot_of parts) ≡ None
    no_fault =
        all_none (header_bad l (newest n 0) true) (commit_bad ceiling (newest n 0) (anew commit)) (l.slot_bad ceiling (anew commit) (slot_of parts))
        header (commit_fault-commit_of (newest n 0) (epoch_of commit) ceiling below (omega arith)) is_the_same.faultless

    is_checkpoint : IsCheckpoint l ceiling n (anew commit) parts (F.loads c n)
    is_checkpoint =
        issued_is_checkpoint l ceiling n (anew commit) parts (F.loads c n) parts_anew all (is_zero-commit_of (epoch_of commit)) no_fault

    abbrev next : List Block
    next = next_image n (anew commit)

    room : 1 < length n.image
    room = omega (arith, all.sized, placed_anew.slot_behind, placed_anew.slot_inside)

    pub next-commit : block_at next 1 ≡ anew commit
    next-commit = next_image-commit (anew commit) n room

    pub next-header : header_bad l (block_at next 0) true ≡ None
    next-header =
        ap (λ (x : Block). header_bad l x true) (next_image-reads (anew commit) n 0 (omega (arith, room)) (λ e. omega (arith, e))) ∙ header

    pub next-slot : slot_in l next ≡ slot_of parts
    next-slot = is_checkpoint.slot

    pub next-issued : IsIssued (looked_by l) n next
    next-issued = is_checkpoint.issued

    pub next-decodes : decode_by l ceiling next ≡ At (epoch_of commit) (state_by l slot (F.loads c n))
    next-decodes =
        is_checkpoint.decodes
        ∙ ap (λ (e : ℕ). At e (state_by l (slot_of parts) (F.loads c n))) epoch_anew
        ∙ ap (At (epoch_of commit)) (state_anew (F.loads c n))
