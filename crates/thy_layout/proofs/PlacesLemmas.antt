-- The places of memory by a layout; and what its laws say of whole images.
use Rattle.std.proofs.Common.{◌≡◌, ℕ, ◌+◌, ◌-◌, ◌<◌, ◌≤◌, true, List, ◌++◌, length, replicate, get_or, Contains, refl, sym, ◌∙◌, ap, inl, inr, arith}
use Rattle.std.specs.List.{range_with_len}
use Rattle.std.proofs.lemmas.Bool.{cases_lt}
use Rattle.std.proofs.lemmas.List.{length-map, length-append, length-replicate, get_or-map, get_or_past, get_or_append_left, get_or-append-add}
use Rattle.std.proofs.lemmas.List.FromFn.{length-range_with_len, get_or-range_with_len}
use Rattle.thy_block.specs.declared.block.Block.{Block}
use Rattle.thy_block.specs.declared.parameters.Parameters.{Parameters}
use Rattle.thy_block.specs.Device.{zero_block, block_at}
use Rattle.thy_block.specs.Geometry.{memory_blocks}
use Rattle.thy_block.proofs.BasicLemmas.{all_none, get_or-replicate_any}
use Rattle.thy_isa.specs.Step.{State}
use Rattle.thy_layout.specs.AreLayouts.{AreLayouts}
use Rattle.thy_layout.specs.Decoded.{At}
use Rattle.thy_layout.specs.Layout.{Layout, Layouts, memory_places, slot_in, is_sized, decode_sized, decode_by}
use Rattle.thy_layout.proofs.AskingLemmas.{commit_fault-higher}
use Rattle.thy_layout.proofs.HeaderLemmas.{header_fault-long}
use Rattle.thy_layout.proofs.LayoutLemmas.{length_is, sized_if_long, decode_sized-alike, decode_by-whole, decode_by-whole_back, decoded_parts}

-- ---- the places of memory

pub length-memory_places : (l : Layout) (commit : Block) (slot : List Block)
    → (let xs : List ℕ = memory_places l commit slot in length xs) ≡ memory_blocks l.p
length-memory_places l commit slot =
    length-map (range_with_len 0 (memory_blocks l.p)) (l.place commit slot) ∙ length-range_with_len 0 (memory_blocks l.p)

pub memory_place : (l : Layout) (commit : Block) (slot : List Block) (k otherwise : ℕ) → k < memory_blocks l.p
    → (let xs : List ℕ = memory_places l commit slot in get_or xs k otherwise) ≡ l.place commit slot k
memory_place l commit slot k otherwise below =
    let plain : 0 + k ≡ k = omega arith in
    get_or-map (l.place commit slot) (range_with_len 0 (memory_blocks l.p)) k 0 otherwise
    (omega (arith, length-range_with_len 0 (memory_blocks l.p)))
    ∙ ap (l.place commit slot) (get_or-range_with_len 0 (memory_blocks l.p) k 0 below ∙ plain)

-- each place of memory is the place of a block
pub memory_place_of : (l : Layout) (commit : Block) (slot : List Block) (x : ℕ) → Contains (memory_places l commit slot) x
    → (b : ℕ) × (b < memory_blocks l.p) × (l.place commit slot b ≡ x)
memory_place_of l commit slot x (k, below, is) =
    let inside : k < memory_blocks l.p = omega (arith, length-memory_places l commit slot) in
    (k, inside, sym (memory_place l commit slot k x inside) ∙ is)

-- ---- zeros after an image

block_at-filled_up : (image : List Block) (k x : ℕ) → block_at (image ++ replicate k zero_block) x ≡ block_at image x
block_at-filled_up image k x = elim (cases_lt x (length image)) as (λ _. block_at (image ++ replicate k zero_block) x ≡ block_at image x) [
  | inl below ↦ get_or_append_left image (replicate k zero_block) zero_block x below
  | inr past ↦
      let e : length image + (x - length image) ≡ x = omega arith in
      sym (ap (block_at (image ++ replicate k zero_block)) e)
      ∙ get_or-append-add image (replicate k zero_block) (x - length image) zero_block
      ∙ get_or-replicate_any k (x - length image) zero_block
      ∙ sym (get_or_past image x zero_block past)
]

-- filled up with zeros to the length of the layout it means the same
pub decode-filled_up : (l : Layout) (ceiling k epoch : ℕ) (state : State) (image : List Block)
    → decode_by l ceiling image ≡ At epoch state → length image + k ≡ l.image_blocks
    → decode_by l ceiling (image ++ replicate k zero_block) ≡ At epoch state
unfolding decode_by
decode-filled_up l ceiling k epoch state image h all =
    let fits = decoded_parts l ceiling image epoch state h in
    let old : is_sized l image ≡ true = header_fault-long l.scheme (block_at image 0) l.p (is_sized l image) fits.0 in
    let size : length (image ++ replicate k zero_block) ≡ l.image_blocks
    = length-append image (replicate k zero_block) ∙ ap (λ n. length image + n) (length-replicate k zero_block) ∙ all in
    let new : is_sized l (image ++ replicate k zero_block) ≡ true = sized_if_long l (image ++ replicate k zero_block) size in
    ap (λ b. decode_sized l ceiling b (image ++ replicate k zero_block)) new
    ∙ decode_sized-alike l ceiling true image (image ++ replicate k zero_block) (block_at-filled_up image k 1)
    (λ x inside. block_at-filled_up image k x)
    ∙ sym (ap (λ b. decode_sized l ceiling b image) old)
    ∙ h

-- ---- what the laws of layouts say of images

module _ (L : Layouts) (are : AreLayouts L) (p : Parameters) where
  abbrev l : Layout
  l = L p

  -- an image has a header and a commit block
  pub two_blocks : 2 ≤ l.image_blocks
  two_blocks =
      let slot = are.slot p zero_block in
      let inside = slot.inside l.image_blocks (length_is l.image_blocks l.image_blocks (l.older_blocks zero_block) refl) in
      omega (arith, slot.behind, inside)

  -- what decodes below a ceiling decodes to the same below a higher one
  pub decode-higher : (low high : ℕ) (image : List Block) (epoch : ℕ) (state : State) → low ≤ high
      → decode_by l low image ≡ At epoch state → decode_by l high image ≡ At epoch state
  decode-higher low high image epoch state most h =
      let whole = decode_by-whole_back l low image epoch state h in
      let fits = decoded_parts l low image epoch state h in
      decode_by-whole l high image epoch state (record {
        committed = whole.committed;
        faultless = all_none _ _ _ fits.0
            (commit_fault-higher (block_at image 0) (block_at image 1) low high most fits.1)
            (are.higher p low high (block_at image 1) (slot_in l image) most fits.2);
        of_epoch = whole.of_epoch;
        state_is = whole.state_is;
      })
