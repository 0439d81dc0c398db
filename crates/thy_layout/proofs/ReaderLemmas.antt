-- What the one reader of files finds, test by test; and memory of what decodes to a checkpoint, block by block.
use Rattle.std.proofs.Common.{◌≡◌, ℕ, ◌+◌, ◌-◌, ◌*◌, ◌/◌, ◌<◌, ◌≤◌, List, ◌++◌, length, map, take, drop, slice_index_or, Ok, IfOk, sym, ◌∙◌, ap, arith, ◌%◌, ◌==◌, ◌&&◌, Bool, true, false, nat_lt, if◌then◌else◌, Option, Some, None, inl, inr}
use Rattle.std.specs.Prelude.{Result, Err}
use Rattle.std.proofs.lemmas.List.{length-map, length-drop, length-take-le, get_or-map, get_or-drop, take_all}
use Rattle.std.specs.Option.{option_or}
use Rattle.std.proofs.lemmas.Bool.{cases_lt, lt-ltb, le-ltb, eq-eqb, eqb-true, and_parts}
use Rattle.thy_block.specs.declared.block.Block.{Block}
use Rattle.thy_block.specs.declared.parameters.Parameters.{Parameters}
use Rattle.thy_block.specs.Blocks.{block_bytes}
use Rattle.thy_block.specs.Device.{zero_block, block_at}
use Rattle.thy_block.specs.Geometry.{IsInRange, memory_blocks, program_size}
use Rattle.thy_block.proofs.BlockLemmas.{block_bytes-long}
use Rattle.thy_block.proofs.RangeLemmas.{console_below}
use Rattle.thy_block.specs.Flat.{flat, memory_bytes, console_bytes, AllLong}
use Rattle.thy_block.proofs.FlatLemmas.{flat_more, flat-take, flat-drop, length-flat}
use Rattle.thy_isa.specs.declared.state.CpuState.{CpuState}
use Rattle.thy_isa.specs.OnBlocks.{state_from}
use Rattle.thy_isa.specs.Step.{State, state_with}
use Rattle.thy_layout.specs.declared.found.Found.TheVariants.{At as FoundAt, Nothing as FoundNothing}
use Rattle.thy_layout.specs.Decoded.{Decoded, At, Nothing, Refused}
use Rattle.thy_layout.specs.Files.{block_in, blocks_of, found_in, is_long_file, file_fault, decode_file, HasCheckpointOf, HasState}
use Rattle.thy_layout.specs.Gathered.{AreInside}
use Rattle.thy_layout.proofs.FileLemmas.{length-blocks_of, block_at-blocks_of, blocks_of-part, blocks_of-flat}
use Rattle.thy_layout.specs.declared.bad_image.BadImage.{BadImage}
use Rattle.thy_layout.specs.declared.bad_image.BadImage.TheVariants.{Empty}
use Rattle.thy_layout.specs.AreLayouts.{Fits, HasPlaces, HasSlot}
use Rattle.thy_layout.specs.Commit.{is_zero, epoch_of}
use Rattle.thy_layout.specs.Cpu.{cpu_of_record}
use Rattle.thy_layout.specs.Layout.{Layout, header_bad, commit_bad, state_by, blocks_at, slot_places, memory_places, slot_in, memory_in, is_long, is_sized, fault_sized, refused_or_at, decode_sized, decode_by, IsWhole}
use Rattle.thy_layout.proofs.HeaderLemmas.{header_fault-long}
use Rattle.thy_layout.proofs.LayoutLemmas.{parts_faultless, not_short, at_back, decode_by-whole_back, whole_parts}
use Rattle.thy_layout.proofs.PlacesLemmas.{length-memory_places, memory_place}

-- what was found is a checkpoint of that epoch
pub found_at : (d : Decoded) (epoch : ℕ) → found_in d ≡ Ok (FoundAt epoch) → (s : State) × (d ≡ At epoch s)
found_at (At e s) epoch h = (s, let same : e ≡ epoch = cc in ap (λ x. At x s) same)
found_at d epoch h = cc

-- the bytes of a whole block
pub block_bytes-block_in : (bytes : List ℕ) (k : ℕ) → k < length bytes / 64 → block_bytes (block_in bytes k) ≡ take 64 (drop (64 * k) bytes)
block_bytes-block_in bytes k l =
    block_bytes-long (block_in bytes k) (length-take-le 64 (drop (64 * k) bytes) (omega (arith, length-drop (64 * k) bytes)))

-- one block more was gathered
pub gathered_more : (bytes places : List ℕ) (first k count : ℕ) (old new : List ℕ) (number : ℕ) → AreInside (blocks_of bytes) places
    → first + count ≤ length places → k < count → number ≡ slice_index_or places (first + k) 0
    → old ≡ flat (take k (drop first (map (block_at (blocks_of bytes)) places)))
    → new ≡ old ++ take 64 (drop (64 * number) bytes)
    → new ≡ flat (take (k + 1) (drop first (map (block_at (blocks_of bytes)) places)))
gathered_more bytes places first k count old new number are inside l is before after =
    let memory = map (block_at (blocks_of bytes)) places in
    let all = length-map places (block_at (blocks_of bytes)) in
    let there : slice_index_or places (first + k) 0 < length bytes / 64
    = omega (arith, are.each (first + k) (omega arith), length-blocks_of bytes) in
    after
    ∙ ap (λ xs. xs ++ take 64 (drop (64 * number) bytes)) before
    ∙ ap (λ x. flat (take k (drop first (map (block_at (blocks_of bytes)) places))) ++ x)
    (ap (λ x. take 64 (drop (64 * x) bytes)) is
    ∙ sym (block_bytes-block_in bytes (slice_index_or places (first + k) 0) there)
    ∙ ap block_bytes (sym (get_or-drop first (map (block_at (blocks_of bytes)) places) k zero_block
    ∙ get_or-map (block_at (blocks_of bytes)) places (first + k) 0 zero_block (omega arith)
    ∙ block_at-blocks_of bytes (slice_index_or places (first + k) 0) there)))
    ∙ sym (flat_more (drop first (map (block_at (blocks_of bytes)) places)) k zero_block
    (omega (arith, length-drop first (map (block_at (blocks_of bytes)) places), all)))

-- program memory, and the console, as they were gathered
pub memory_gathered : (p : Parameters) (blocks : List Block) (n : ℕ) → length blocks ≡ memory_blocks p → IsInRange p
    → n ≡ 64 * (p.pages - p.console)
    → flat (take n (drop 0 blocks)) ≡ memory_bytes p blocks
memory_gathered p blocks n all r is =
    let size : 64 * n ≡ program_size p = omega arith in
    flat-take n blocks (omega (arith, all)) ∙ ap (λ m. take m (flat blocks)) size

pub console_gathered : (p : Parameters) (blocks : List Block) (first n len : ℕ) → length blocks ≡ memory_blocks p → IsInRange p
    → first ≡ 64 * (p.pages - p.console) → n ≡ 64 * p.console
    → take len (flat (take n (drop first blocks))) ≡ console_bytes p blocks len
console_gathered p blocks first n len all r is size =
    let below : p.console < p.pages = console_below p r in
    let at : 64 * first ≡ program_size p = omega arith in
    ap (λ xs. take len (flat xs)) (take_all n (drop first blocks) (omega (arith, length-drop first blocks, all)))
    ∙ ap (take len) (flat-drop first blocks (omega (arith, all)) ∙ ap (λ m. drop m (flat blocks)) at)

-- with a processor, program memory and the console, as they were gathered, make the state
pub state_gathered : (p : Parameters) (cpu : CpuState) (blocks : List Block) (memory console : List ℕ) (program size : ℕ) → IsInRange p
    → length blocks ≡ memory_blocks p → program ≡ 64 * (p.pages - p.console) → size ≡ 64 * p.console
    → memory ≡ flat (take program (drop 0 blocks)) → console ≡ take cpu.console_len (flat (take size (drop program blocks)))
    → state_with cpu memory console ≡ state_from p cpu blocks
unfolding state_from
state_gathered p cpu blocks memory console program size r all program_is size_is memory_is console_is =
    ap (λ m. state_with cpu m console) (memory_is ∙ memory_gathered p blocks program all r program_is)
    ∙ ap (state_with cpu (memory_bytes p blocks)) (console_is ∙ console_gathered p blocks program size cpu.console_len all r program_is size_is)

-- what follows from a result follows if there is one
pub if_ok : {A E : Type 0} {P Q : A → Type 0} (r : Result A E) → ((x : A) → P x → Q x) → IfOk r P → IfOk r Q
if_ok (Ok x) to h = to x h
if_ok (Err e) to h = tt

-- ---- a file of an image's length

-- the bytes are whole blocks, and an image has that number of blocks
pub record HasLength (l : Layout) (bytes : List ℕ) : Type 0 where
  pub whole : length bytes % 64 ≡ 0
  pub long : is_long l (block_at (blocks_of bytes) 1) (length bytes / 64) ≡ true

pub HasLength-file : (l : Layout) (bytes : List ℕ) → is_long_file l bytes ≡ true → HasLength l bytes
HasLength-file l bytes h =
    let parts = and_parts (length bytes % 64 == 0) (is_long l (block_at (blocks_of bytes) 1) (length bytes / 64)) h in
    record { whole = eqb-true _ _ parts.0; long = parts.1 }

module _ (l : Layout) (bytes : List ℕ) (commit : Block) (has : HasSlot l commit) (long : is_long_file l bytes ≡ true)
    (is : commit ≡ block_at (blocks_of bytes) 1) where
  -- an image with this commit block has this number of blocks
  pub as_long : is_long l commit (length bytes / 64) ≡ true
  as_long = ap (λ b. is_long l b (length bytes / 64)) is ∙ (HasLength-file l bytes long).long

  -- the slot stands in the file's blocks
  pub slot_in_file : l.slot_place commit + l.slot_blocks commit ≤ length bytes / 64
  slot_in_file = has.inside (length bytes / 64) as_long

  -- the slot is in the bytes that the code cuts out
  pub slot-slice : (m x : ℕ) → m ≡ 64 * l.slot_blocks commit → x ≡ 64 * l.slot_place commit
      → blocks_of (take m (drop x bytes)) ≡ slot_in l (blocks_of bytes)
  slot-slice m x e f =
      ap (λ k. blocks_of (take k (drop x bytes))) e
      ∙ ap (λ k. blocks_of (take (64 * l.slot_blocks commit) (drop k bytes))) f
      ∙ blocks_of-part bytes (l.slot_place commit) (l.slot_blocks commit) slot_in_file
      ∙ ap (λ b. blocks_at (blocks_of bytes) (slot_places l b)) is

  pub slot-long : (m x : ℕ) → m ≡ 64 * l.slot_blocks commit → x ≡ 64 * l.slot_place commit
      → length (take m (drop x bytes)) ≡ 64 * l.slot_blocks commit
  slot-long m x e f =
      let inside = slot_in_file in
      length-take-le m (drop x bytes) (omega (arith, length-drop x bytes, inside, e, f)) ∙ e

-- ---- the first fault of a file, and what a check of it says

module _ (l : Layout) (ceiling : ℕ) (bytes : List ℕ) where
  abbrev g : List Block
  g = blocks_of bytes

  abbrev commit : Block
  commit = block_at g 1

  abbrev slot_fault : Option BadImage
  slot_fault = l.slot_bad ceiling commit (slot_in l g)

  pub file_header : (bad : BadImage) → Some bad ≡ header_bad l (block_at g 0) (is_long_file l bytes) → Some bad ≡ file_fault l ceiling bytes
  file_header bad h = ap (λ x. option_or x (option_or (commit_bad ceiling (block_at g 0) commit) slot_fault)) h

  pub file_commit : (bad : BadImage) → None ≡ header_bad l (block_at g 0) (is_long_file l bytes)
      → Some bad ≡ commit_bad ceiling (block_at g 0) commit
      → Some bad ≡ file_fault l ceiling bytes
  file_commit bad h k = λ i. option_or (h i) (option_or (k i) slot_fault)

  pub file_slot : (found : Option BadImage) → None ≡ header_bad l (block_at g 0) (is_long_file l bytes)
      → None ≡ commit_bad ceiling (block_at g 0) commit
      → found ≡ slot_fault → found ≡ file_fault l ceiling bytes
  file_slot found h k m = λ i. option_or (h i) (option_or (k i) (m i))

  abbrev state_there : State
  state_there = state_by l (slot_in l g) (memory_in l g)

  checked : 128 ≤ length bytes → decode_file l ceiling bytes ≡ decode_sized l ceiling (is_long_file l bytes) g
  checked some = ap (λ b. if b then Refused Empty else decode_sized l ceiling (is_long_file l bytes) g) (le-ltb (length bytes) 128 some)

  pub checked_nothing : 128 ≤ length bytes → is_zero commit ≡ true → Ok FoundNothing ≡ found_in (decode_file l ceiling bytes)
  checked_nothing some z =
      sym (ap found_in (checked some)
      ∙ ap (λ b. found_in (if b then Nothing else refused_or_at (file_fault l ceiling bytes) (epoch_of commit) state_there)) z)

  committed : 128 ≤ length bytes → is_zero commit ≡ false
      → found_in (decode_file l ceiling bytes) ≡ found_in (refused_or_at (file_fault l ceiling bytes) (epoch_of commit) state_there)
  committed some z =
      ap found_in (checked some)
      ∙ ap (λ b. found_in (if b then Nothing else refused_or_at (file_fault l ceiling bytes) (epoch_of commit) state_there)) z

  pub checked_bad : (bad : BadImage) → 128 ≤ length bytes → is_zero commit ≡ false → Some bad ≡ file_fault l ceiling bytes
      → Err bad ≡ found_in (decode_file l ceiling bytes)
  checked_bad bad some z h =
      ap (λ f. found_in (refused_or_at f (epoch_of commit) state_there)) h ∙ sym (committed some z)

  pub checked_at : (epoch : ℕ) → 128 ≤ length bytes → is_zero commit ≡ false → None ≡ file_fault l ceiling bytes → epoch ≡ epoch_of commit
      → Ok (FoundAt epoch) ≡ found_in (decode_file l ceiling bytes)
  checked_at epoch some z h e =
      ap (λ x. Ok (FoundAt x)) e ∙ ap (λ f. found_in (refused_or_at f (epoch_of commit) state_there)) h ∙ sym (committed some z)

-- ---- a file with a checkpoint

-- blocks that mean a checkpoint have the layout's number of blocks
pub sized_means : (l : Layout) (ceiling : ℕ) (sized : Bool) (g : List Block) (epoch : ℕ) (state : State)
    → decode_sized l ceiling sized g ≡ At epoch state → sized ≡ true
sized_means l ceiling sized g epoch state h =
    let found = at_back (is_zero (block_at g 1)) (fault_sized l ceiling sized g) (epoch_of (block_at g 1)) epoch
    (state_by l (slot_in l g) (memory_in l g)) state h in
    let parts = parts_faultless l ceiling sized (block_at g 0) (block_at g 1) (slot_in l g) found.1 in
    header_fault-long l.scheme (block_at g 0) l.p sized parts.0

enough_bytes : (bytes : List ℕ) (d : Decoded) (epoch : ℕ) (state : State)
    → (if nat_lt (length bytes) 128 then Refused Empty else d) ≡ At epoch state → 128 ≤ length bytes
enough_bytes bytes d epoch state h = elim (cases_lt (length bytes) 128) as (λ _. 128 ≤ length bytes) [
  | inl short ↦
      let refused : (if nat_lt (length bytes) 128 then Refused Empty else d) ≡ Refused Empty
      = ap (λ b. if b then Refused Empty else d) (lt-ltb (length bytes) 128 short) in
      absurd (cc)
  | inr enough ↦ enough
]

-- a file that means a checkpoint has header and commit block and the length of an image, and its blocks are an image
-- that means the same
pub record IsWholeFile (l : Layout) (ceiling : ℕ) (bytes : List ℕ) (epoch : ℕ) (state : State) : Type 0 where
  pub some : 128 ≤ length bytes
  pub sized : is_long_file l bytes ≡ true
  pub whole : IsWhole l ceiling (blocks_of bytes) epoch state

pub IsWholeFile-decoded : (l : Layout) (ceiling : ℕ) (bytes : List ℕ) (epoch : ℕ) (state : State)
    → decode_file l ceiling bytes ≡ At epoch state
    → IsWholeFile l ceiling bytes epoch state
unfolding decode_by
IsWholeFile-decoded l ceiling bytes epoch state h =
    let decodes = not_short (nat_lt (length bytes) 128) (decode_sized l ceiling (is_long_file l bytes) (blocks_of bytes)) epoch state h in
    let sized : is_long_file l bytes ≡ true = sized_means l ceiling (is_long_file l bytes) (blocks_of bytes) epoch state decodes in
    let same : is_sized l (blocks_of bytes) ≡ is_long_file l bytes
    = ap (is_long l (block_at (blocks_of bytes) 1)) (length-blocks_of bytes) ∙ (HasLength-file l bytes sized).long ∙ sym sized in
    record {
      some = enough_bytes bytes (decode_sized l ceiling (is_long_file l bytes) (blocks_of bytes)) epoch state h;
      sized = sized;
      whole = decode_by-whole_back l ceiling (blocks_of bytes) epoch state
          (ap (λ b. decode_sized l ceiling b (blocks_of bytes)) same ∙ decodes);
    }

-- ---- a file of an image's bytes

long_flat : (l : Layout) (image : List Block) → AllLong image → is_long_file l (flat image) ≡ is_sized l image
long_flat l image long =
    let all = length-flat image in
    let whole : length (flat image) % 64 ≡ 0 = omega (arith, all) in
    let count : length (flat image) / 64 ≡ length image = omega (arith, all) in
    ap (λ t. t && is_long l (block_at (blocks_of (flat image)) 1) (length (flat image) / 64)) (eq-eqb _ _ whole)
    ∙ ap (is_long l (block_at (blocks_of (flat image)) 1)) count
    ∙ ap (λ g. is_long l (block_at g 1) (length image)) (blocks_of-flat image long)

pub decode_file-flat : (l : Layout) (ceiling : ℕ) (image : List Block) → AllLong image → 2 ≤ length image
    → decode_file l ceiling (flat image) ≡ decode_by l ceiling image
unfolding decode_by
decode_file-flat l ceiling image long some =
    let all = length-flat image in
    ap (λ b. if b then Refused Empty else decode_sized l ceiling (is_long_file l (flat image)) (blocks_of (flat image)))
    (le-ltb (length (flat image)) 128 (omega (arith, all)))
    ∙ ap (λ b. decode_sized l ceiling b (blocks_of (flat image))) (long_flat l image long)
    ∙ ap (decode_sized l ceiling (is_sized l image)) (blocks_of-flat image long)

-- ---- what a check has found

-- a file in which it found a checkpoint has the length of an image, and a slot without a fault
pub record IsFound (l : Layout) (bytes : List ℕ) : Type 0 where
  pub some : 128 ≤ length bytes
  pub long : is_long_file l bytes ≡ true
  pub fits : Fits l (block_at (blocks_of bytes) 1) (slot_in l (blocks_of bytes))

pub IsFound-checked : (l : Layout) (bytes : List ℕ) → HasCheckpointOf l bytes → IsFound l bytes
IsFound-checked l bytes h =
    let at = found_at (decode_file l h.ceiling bytes) h.epoch h.found in
    let file = IsWholeFile-decoded l h.ceiling bytes h.epoch at.0 at.1 in
    record {
      some = file.some;
      long = file.sized;
      fits = record { ceiling = h.ceiling; faultless = (whole_parts l h.ceiling (blocks_of bytes) h.epoch at.0 file.whole).2 };
    }

-- the state that slot and memory make is the checkpoint's, whatever the ceiling
pub HasState-made : (l : Layout) (bytes : List ℕ) (state : State)
    → state_by l (slot_in l (blocks_of bytes)) (memory_in l (blocks_of bytes)) ≡ state → HasState l bytes state
HasState-made l bytes state made ceiling epoch found =
    let at = found_at (decode_file l ceiling bytes) epoch found in
    let file = IsWholeFile-decoded l ceiling bytes epoch at.0 at.1 in
    at.1 ∙ ap (At epoch) (sym file.whole.state_is ∙ made)

-- ---- its memory

-- the places of memory are blocks of the file
pub AreInside-memory : (l : Layout) (commit : Block) (slot : List Block) (bytes : List ℕ) → HasPlaces l commit slot
    → is_long l commit (length bytes / 64) ≡ true → AreInside (blocks_of bytes) (memory_places l commit slot)
AreInside-memory l commit slot bytes has long = record {
  each = λ k below.
      let small : k < memory_blocks l.p = omega (arith, below, length-memory_places l commit slot) in
      let inside = has.inside k (length bytes / 64) small long in
      omega (arith, memory_place l commit slot k 0 small, inside, length-blocks_of bytes);
}

-- with the processor of the slot they make the state
pub state_read : (l : Layout) (p : Parameters) (g : List Block) (commit : Block) (slot : List Block) (cpu : CpuState)
    (places : List ℕ) (s : State)
    → l.p ≡ p → commit ≡ block_at g 1 → slot ≡ slot_in l g → cpu ≡ cpu_of_record p slot → places ≡ memory_places l commit slot
    → s ≡ state_from p cpu (map (block_at g) places) → state_by l (slot_in l g) (memory_in l g) ≡ s
state_read l p g commit slot cpu places s of named at cpu_is is made =
    sym (made
    ∙ (λ i. state_from p (cpu_is i) (map (block_at g) (is i)))
    ∙ (λ i. state_from (sym of i) (cpu_of_record (sym of i) (at i)) (map (block_at g) (memory_places l (named i) (at i)))))
