-- What an image means, by its parts; and that copies mean the same.
use Rattle.std.proofs.Common.{◌≡◌, ◌==◌, ◌||◌, ℕ, Bool, true, false, if◌then◌else◌, List, [], ◌∷◌, ◌++◌, length, Contains, Option, Some, None, refl, sym, ◌∙◌, ap, subst}
use Rattle.std.specs.Option.{option_or}
use Rattle.std.proofs.lemmas.Bool.{eq-eqb}
use Rattle.std.proofs.lemmas.List.Elements.{Contains-push, Contains-append_left, Contains-append_right}
use Rattle.thy_block.specs.declared.block.Block.{Block}
use Rattle.thy_block.specs.Device.{block_at}
use Rattle.thy_isa.specs.Step.{State}
use Rattle.thy_layout.specs.declared.bad_image.BadImage.{BadImage}
use Rattle.thy_layout.specs.declared.bad_image.BadImage.TheVariants.{Empty}
use Rattle.thy_layout.specs.Commit.{is_zero, epoch_of}
use Rattle.thy_layout.specs.Decoded.{Decoded, Nothing, Refused, At}
use Rattle.thy_layout.specs.Saved.{IsCopy}
use Rattle.thy_layout.proofs.AskingLemmas.{map-alike}
use Rattle.thy_layout.proofs.EntryFaultLemmas.{neither}
use Rattle.thy_layout.specs.Layout.{Layout, header_bad, commit_bad, state_by, blocks_at, slot_places, memory_places, slot_in, memory_in, is_length, is_long, is_sized, fault_of, fault_in, refused_or_at, meaning_of, decode_sized, decode_by, parts_of, looked_by, IsWhole}

-- ---- how many blocks an image has

pub length_is : (blocks n : ℕ) (older : Option ℕ) → n ≡ blocks → is_length blocks older n ≡ true
length_is blocks n None e = eq-eqb n blocks e
length_is blocks n (Some k) e = ap (λ t. t || n == k) (eq-eqb n blocks e)

-- an image with exactly the layout's number of blocks is long enough, whatever the commit block names
pub sized_if_long : (l : Layout) (g : List Block) → length g ≡ l.image_blocks → is_sized l g ≡ true
sized_if_long l g e = length_is l.image_blocks (length g) (l.older_blocks (block_at g 1)) e

-- whether an image has the layout's number of blocks depends on its length and its commit block
sized_same : (l : Layout) (h g : List Block) → length g ≡ length h → block_at g 1 ≡ block_at h 1 → is_sized l g ≡ is_sized l h
sized_same l h g as_long commit = ap (λ b. is_long l b (length g)) commit ∙ ap (is_long l (block_at h 1)) as_long

-- ---- copies

module _ (l : Layout) (h g : List Block) where
  abbrev Agree : List ℕ → Type 0
  Agree places = (x : ℕ) → Contains places x → block_at g x ≡ block_at h x

  abbrev behind : List ℕ
  behind = slot_places l (block_at h 1) ++ memory_places l (block_at h 1) (slot_in l h)

  agree_behind : Agree (parts_of l h) → Agree behind
  agree_behind same x inside = same x (Contains-append_right (0 ∷ 1 ∷ []) behind x inside)

  header_same : Agree (parts_of l h) → block_at g 0 ≡ block_at h 0
  header_same same = same 0 (Contains-append_left (0 ∷ []) (1 ∷ behind) 0 (Contains-push [] 0))

  slot_same : block_at g 1 ≡ block_at h 1 → Agree (parts_of l h) → slot_in l g ≡ slot_in l h
  slot_same commit same =
      ap (λ b. blocks_at g (slot_places l b)) commit
      ∙ map-alike (block_at g) (block_at h) (slot_places l (block_at h 1))
      (λ x inside. agree_behind same x (Contains-append_left (slot_places l (block_at h 1)) (memory_places l (block_at h 1) (slot_in l h)) x inside))

  places_same : block_at g 1 ≡ block_at h 1 → slot_in l g ≡ slot_in l h
      → memory_places l (block_at g 1) (slot_in l g) ≡ memory_places l (block_at h 1) (slot_in l h)
  places_same commit slot = λ i. memory_places l (commit i) (slot i)

  memory_same : block_at g 1 ≡ block_at h 1 → Agree (parts_of l h) → memory_in l g ≡ memory_in l h
  memory_same commit same =
      ap (blocks_at g) (places_same commit (slot_same commit same))
      ∙ map-alike (block_at g) (block_at h) (memory_places l (block_at h 1) (slot_in l h))
      (λ x inside. agree_behind same x (Contains-append_right (slot_places l (block_at h 1)) (memory_places l (block_at h 1) (slot_in l h)) x inside))

  parts_same : block_at g 1 ≡ block_at h 1 → slot_in l g ≡ slot_in l h → parts_of l g ≡ parts_of l h
  parts_same commit slot = λ i. 0 ∷ 1 ∷ (slot_places l (commit i) ++ memory_places l (commit i) (slot i))

-- what the parts mean, part by part
meaning_same : (l : Layout) (ceiling : ℕ) (sized : Bool) (a header b commit : Block) (s slot m memory : List Block)
    → a ≡ header → b ≡ commit → s ≡ slot → m ≡ memory
    → meaning_of l ceiling sized a b s m ≡ meaning_of l ceiling sized header commit slot memory
meaning_same l ceiling sized a header b commit s slot m memory e f g h = λ i. meaning_of l ceiling sized (e i) (f i) (g i) (h i)

-- without a checkpoint the other parts do not matter
meaning_nothing : (l : Layout) (ceiling : ℕ) (sized : Bool) (header commit : Block) (slot memory : List Block) → is_zero commit ≡ true
    → meaning_of l ceiling sized header commit slot memory ≡ Nothing
meaning_nothing l ceiling sized header commit slot memory z =
    ap (λ t. if t then Nothing else refused_or_at (fault_of l ceiling sized header commit slot) (epoch_of commit) (state_by l slot memory)) z

-- the places looked at, in an image without a checkpoint
pub looked_nothing : (l : Layout) (h : List Block) → is_zero (block_at h 1) ≡ true → looked_by l h ≡ 1 ∷ []
unfolding looked_by
looked_nothing l h z = ap (λ t. if t then 1 ∷ [] else parts_of l h) z

pub looked_parts : (l : Layout) (h : List Block) → is_zero (block_at h 1) ≡ false → looked_by l h ≡ parts_of l h
unfolding looked_by
looked_parts l h z = ap (λ t. if t then 1 ∷ [] else parts_of l h) z

agree_parts : (l : Layout) (h g : List Block) → is_zero (block_at h 1) ≡ false → Agree l h g (looked_by l h) → Agree l h g (parts_of l h)
agree_parts l h g z each = subst (Agree l h g) (looked_parts l h z) each

module _ (l : Layout) (ceiling : ℕ) where
  alike_means : (sized : Bool) (h g : List Block) (zero : Bool) → is_zero (block_at h 1) ≡ zero → block_at g 1 ≡ block_at h 1
      → Agree l h g (looked_by l h) → decode_sized l ceiling sized g ≡ decode_sized l ceiling sized h
  alike_means sized h g true z commit each =
      meaning_nothing l ceiling sized (block_at g 0) (block_at g 1) (slot_in l g) (memory_in l g) (ap is_zero commit ∙ z)
      ∙ sym (meaning_nothing l ceiling sized (block_at h 0) (block_at h 1) (slot_in l h) (memory_in l h) z)
  alike_means sized h g false z commit each =
      let same = agree_parts l h g z each in
      meaning_same l ceiling sized (block_at g 0) (block_at h 0) (block_at g 1) (block_at h 1) (slot_in l g) (slot_in l h)
      (memory_in l g) (memory_in l h)
      (header_same l h g same) commit (slot_same l h g commit same) (memory_same l h g commit same)

  -- blocks that agree at the places looked at mean the same, if both or neither have the layout's number of blocks
  pub decode_sized-alike : (sized : Bool) (h g : List Block) → block_at g 1 ≡ block_at h 1
      → ((x : ℕ) → Contains (looked_by l h) x → block_at g x ≡ block_at h x)
      → decode_sized l ceiling sized g ≡ decode_sized l ceiling sized h
  decode_sized-alike sized h g commit each = alike_means sized h g (is_zero (block_at h 1)) refl commit each

  pub decode_by-copy : (h g : List Block) → IsCopy (looked_by l) h g → decode_by l ceiling g ≡ decode_by l ceiling h
  unfolding decode_by
  decode_by-copy h g c =
      ap (λ b. decode_sized l ceiling b g) (sized_same l h g c.as_long c.commit) ∙ decode_sized-alike (is_sized l h) h g c.commit c.each

copies_look : (l : Layout) (h g : List Block) (zero : Bool) → is_zero (block_at h 1) ≡ zero → IsCopy (looked_by l) h g
    → looked_by l g ≡ looked_by l h
copies_look l h g true z c = looked_nothing l g (ap is_zero c.commit ∙ z) ∙ sym (looked_nothing l h z)
copies_look l h g false z c =
    looked_parts l g (ap is_zero c.commit ∙ z)
    ∙ parts_same l h g c.commit (slot_same l h g c.commit (agree_parts l h g z c.each))
    ∙ sym (looked_parts l h z)

pub looked_by-copy : (l : Layout) (h g : List Block) → IsCopy (looked_by l) h g → looked_by l g ≡ looked_by l h
looked_by-copy l h g c = copies_look l h g (is_zero (block_at h 1)) refl c

-- ---- from whole parts to the meaning, and back

-- without a fault no part has one
pub parts_faultless : (l : Layout) (ceiling : ℕ) (sized : Bool) (header commit : Block) (slot : List Block)
    → fault_of l ceiling sized header commit slot ≡ None
    → (header_bad l header sized ≡ None) × (commit_bad ceiling header commit ≡ None) × (l.slot_bad ceiling commit slot ≡ None)
parts_faultless l ceiling sized header commit slot h =
    let first = neither (header_bad l header sized) (option_or (commit_bad ceiling header commit) (l.slot_bad ceiling commit slot)) h in
    let rest = neither (commit_bad ceiling header commit) (l.slot_bad ceiling commit slot) first.1 in
    (first.0, rest.0, rest.1)

pub decode_by-zero : (l : Layout) (ceiling : ℕ) (g : List Block) → is_zero (block_at g 1) ≡ true → decode_by l ceiling g ≡ Nothing
unfolding decode_by
decode_by-zero l ceiling g z = meaning_nothing l ceiling (is_sized l g) (block_at g 0) (block_at g 1) (slot_in l g) (memory_in l g) z

whole_means : (zero : Bool) (fault : Option BadImage) (e epoch : ℕ) (s state : State)
    → zero ≡ false → fault ≡ None → e ≡ epoch → s ≡ state → (if zero then Nothing else refused_or_at fault e s) ≡ At epoch state
whole_means zero fault e epoch s state a b c d = λ i. if a i then Nothing else refused_or_at (b i) (c i) (d i)

pub decode_by-whole : (l : Layout) (ceiling : ℕ) (g : List Block) (epoch : ℕ) (state : State) → IsWhole l ceiling g epoch state
    → decode_by l ceiling g ≡ At epoch state
unfolding decode_by
decode_by-whole l ceiling g epoch state w =
    whole_means (is_zero (block_at g 1)) (fault_in l ceiling g) (epoch_of (block_at g 1)) epoch
    (state_by l (slot_in l g) (memory_in l g)) state w.committed w.faultless w.of_epoch w.state_is

nothing_back : (zero : Bool) (fault : Option BadImage) (epoch : ℕ) (state : State)
    → (if zero then Nothing else refused_or_at fault epoch state) ≡ Nothing → zero ≡ true
nothing_back true fault epoch state h = refl
nothing_back false None epoch state h = cc
nothing_back false (Some bad) epoch state h = cc

-- a file that decodes is not too short
pub not_short : (short : Bool) (d : Decoded) (epoch : ℕ) (state : State) → (if short then Refused Empty else d) ≡ At epoch state
    → d ≡ At epoch state
not_short true d epoch state h = cc
not_short false d epoch state h = h

-- an image that decodes to a state has a commit block without a fault, of that epoch
pub at_back : (zero : Bool) (fault : Option BadImage) (epoch found : ℕ) (state other : State)
    → (if zero then Nothing else refused_or_at fault epoch state) ≡ At found other
    → (zero ≡ false) × (fault ≡ None) × (epoch ≡ found) × (state ≡ other)
at_back false None epoch found state other h = (refl, refl, cc, cc)
at_back zero fault epoch found state other h = cc

module _ (l : Layout) (ceiling : ℕ) (g : List Block) where
  pub decode_by-nothing_back : decode_by l ceiling g ≡ Nothing → is_zero (block_at g 1) ≡ true
  unfolding decode_by
  decode_by-nothing_back h =
      nothing_back (is_zero (block_at g 1)) (fault_in l ceiling g) (epoch_of (block_at g 1))
      (state_by l (slot_in l g) (memory_in l g)) h

  pub decode_by-whole_back : (epoch : ℕ) (state : State) → decode_by l ceiling g ≡ At epoch state → IsWhole l ceiling g epoch state
  unfolding decode_by
  decode_by-whole_back epoch state h =
      let found = at_back (is_zero (block_at g 1)) (fault_in l ceiling g) (epoch_of (block_at g 1)) epoch
      (state_by l (slot_in l g) (memory_in l g)) state h in
      record { committed = found.0; faultless = found.1; of_epoch = found.2; state_is = found.3 }

  -- header, commit block and slot of an image have no fault
  abbrev pub HasNoFault : Type 0
  HasNoFault =
      (header_bad l (block_at g 0) (is_sized l g) ≡ None) × (commit_bad ceiling (block_at g 0) (block_at g 1) ≡ None)
      × (l.slot_bad ceiling (block_at g 1) (slot_in l g) ≡ None)

  pub whole_parts : (epoch : ℕ) (state : State) → IsWhole l ceiling g epoch state → HasNoFault
  whole_parts epoch state w = parts_faultless l ceiling (is_sized l g) (block_at g 0) (block_at g 1) (slot_in l g) w.faultless

  pub decoded_parts : (epoch : ℕ) (state : State) → decode_by l ceiling g ≡ At epoch state → HasNoFault
  decoded_parts epoch state h = whole_parts epoch state (decode_by-whole_back epoch state h)
