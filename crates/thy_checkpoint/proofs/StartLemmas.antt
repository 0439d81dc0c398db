-- The blocks of a start: whole ones of its memory, its console filled up with zeros; and that they make its state.
use Rattle.std.proofs.Common.{◌≡◌, ℕ, ◌+◌, ◌-◌, ◌<◌, ◌≤◌, inl, inr, List, ◌++◌, length, take, drop, replicate, get_or, sym, ◌∙◌, ap, arith, min, suc, ◌*◌, [], ◌∷◌, refl}
use Rattle.std.proofs.lemmas.Bool.{cases_lt}
use Rattle.std.proofs.lemmas.List.{ext_get_or, length-append, length-take, length-drop, length-replicate, get_or-take, get_or-drop, get_or_append_left, get_or-append-add, get_or_past, take-append-le, drop-append-le, drop-replicate, drop-drop, take-append-drop, length-take-le}
use Rattle.std.proofs.Math.Seq.{drop-append-add, take-append_seam, drop-append_seam}
use Rattle.std.proofs.lemmas.List.FromFn.{length-map-range_with_len, get_or-map-range_with_len}
use Rattle.thy_block.proofs.BasicLemmas.{get_or-replicate_any}
use Rattle.thy_block.specs.declared.block.Block.{Block}
use Rattle.thy_block.specs.declared.parameters.Parameters.{Parameters}
use Rattle.thy_block.specs.Blocks.{block_bytes}
use Rattle.thy_block.specs.Device.{zero_block, block_at}
use Rattle.thy_block.specs.Geometry.{IsInRange, memory_blocks, program_size, console_room}
use Rattle.thy_block.proofs.BlockLemmas.{block_bytes-long}
use Rattle.thy_block.proofs.RangeLemmas.{console_below}
use Rattle.thy_block.specs.Flat.{flat}
use Rattle.thy_isa.specs.OnBlocks.{state_from}
use Rattle.thy_isa.specs.Step.{State, cpu_of, state_with}
use Rattle.thy_computer.specs.Origin.{Origin, IsOrigin}
use Rattle.thy_checkpoint.specs.Start.{IsStartFor, CanStart, start_bytes, start_block, start_blocks}

-- zeros past the end of a list
pub zeros_at : (xs : List ℕ) (k i : ℕ) → get_or (xs ++ replicate k 0) i 0 ≡ get_or xs i 0
zeros_at xs k i = elim (cases_lt i (length xs)) [
  | inl l ↦ get_or_append_left xs (replicate k 0) 0 i l
  | inr l ↦
      let e : length xs + (i - length xs) ≡ i = omega arith in
      let right : get_or (xs ++ replicate k 0) i 0 ≡ get_or (replicate k 0) (i - length xs) 0
      = ap (λ j. get_or (xs ++ replicate k 0) j 0) (sym e) ∙ get_or-append-add xs (replicate k 0) (i - length xs) 0 in
      right ∙ get_or-replicate_any {A = ℕ} k (i - length xs) 0 ∙ sym (get_or_past xs i 0 l)
]

front_or_zero : (rest : List ℕ) (count i : ℕ) → count ≡ min (length rest) 64 → i < 64 → get_or (take count rest) i 0 ≡ get_or rest i 0
front_or_zero rest count i is below = elim (cases_lt i count) [
  | inl l ↦ get_or-take count rest i 0 l
  | inr l ↦
      let past : length rest ≤ i = omega arith in
      let past_front : length (take count rest) ≤ i = omega (arith, length-take count rest) in
      get_or_past (take count rest) i 0 past_front ∙ sym (get_or_past rest i 0 past)
]

-- a piece of at most 64 bytes over zeros
pub piece_over_zeros : (rest : List ℕ) (count : ℕ) → count ≡ min (length rest) 64
    → take count rest ++ drop count (replicate 64 0) ≡ take 64 (rest ++ replicate 64 0)
piece_over_zeros rest count is =
    let few : count ≤ 64 = omega arith in
    let zeros : drop count (replicate {A = ℕ} 64 0) ≡ replicate {A = ℕ} (64 - count) 0 = drop-replicate count 64 0 in
    let long : length (take count rest ++ replicate (64 - count) 0) ≡ length (take 64 (rest ++ replicate 64 0))
    = omega (
      arith,
      length-append (take count rest) (replicate (64 - count) 0),
      length-take count rest,
      length-replicate {A = ℕ} (64 - count) 0,
      length-take 64 (rest ++ replicate 64 0),
      length-append rest (replicate 64 0),
      length-replicate {A = ℕ} 64 0,
    ) in
    let size : length (take count rest ++ replicate (64 - count) 0) ≡ 64
    = omega (arith, length-append (take count rest) (replicate (64 - count) 0), length-take count rest, length-replicate {A = ℕ} (64 - count) 0) in
    ap (λ z. take count rest ++ z) zeros
    ∙ ext_get_or 0 (take count rest ++ replicate (64 - count) 0) (take 64 (rest ++ replicate 64 0)) long
    (λ i l.
    let below : i < 64 = omega arith in
    zeros_at (take count rest) (64 - count) i
    ∙ front_or_zero rest count i is below
    ∙ sym (get_or-take 64 (rest ++ replicate 64 0) i 0 below ∙ zeros_at rest 64 i))

-- zeros beyond the 64th do not show
pub zeros_beyond : (rest : List ℕ) (from k : ℕ) → from + 64 ≤ length rest + k
    → take 64 (drop from (rest ++ replicate k 0)) ≡ take 64 (drop from rest ++ replicate 64 0)
zeros_beyond rest from k enough =
    let left : length (take 64 (drop from (rest ++ replicate k 0))) ≡ 64
    = omega (arith, length-take 64 (drop from (rest ++ replicate k 0)), length-drop from (rest ++ replicate k 0), length-append rest (replicate k 0), length-replicate {A = ℕ} k 0) in
    let right : length (take 64 (drop from rest ++ replicate 64 0)) ≡ 64
    = omega (arith, length-take 64 (drop from rest ++ replicate 64 0), length-append (drop from rest) (replicate 64 0), length-replicate {A = ℕ} 64 0) in
    ext_get_or 0 _ _ (left ∙ sym right)
    (λ i l.
    let below : i < 64 = omega arith in
    get_or-take 64 (drop from (rest ++ replicate k 0)) i 0 below
    ∙ get_or-drop from (rest ++ replicate k 0) i 0
    ∙ zeros_at rest k (from + i)
    ∙ sym (get_or-take 64 (drop from rest ++ replicate 64 0) i 0 below ∙ zeros_at (drop from rest) 64 i ∙ get_or-drop from rest i 0))

-- a block within the memory of a start
pub block_of_memory : (memory rest : List ℕ) (from : ℕ) → from + 64 ≤ length memory
    → take 64 (drop from memory) ≡ take 64 (drop from (memory ++ rest))
block_of_memory memory rest from inside =
    let start : from ≤ length memory = omega arith in
    let most : 64 ≤ length (drop from memory) = omega (arith, length-drop from memory) in
    sym (ap (take 64) (drop-append-le from memory rest start) ∙ take-append-le 64 (drop from memory) rest most)

-- a block after the memory of a start
pub block_behind_memory : (memory console : List ℕ) (from k : ℕ) → length memory ≤ from → (from - length memory) + 64 ≤ length console + k
    → take 64 (drop (from - length memory) console ++ replicate 64 0) ≡ take 64 (drop from (memory ++ (console ++ replicate k 0)))
block_behind_memory memory console from k behind enough =
    let e : length memory + (from - length memory) ≡ from = omega arith in
    sym (zeros_beyond console (from - length memory) k enough)
    ∙ ap (take 64) (sym (drop-append-add memory (console ++ replicate k 0) (from - length memory))
    ∙ ap (λ n. drop n (memory ++ (console ++ replicate k 0))) e)

-- a block is its bytes
pub block_of_bytes : (b : Block) (bytes : List ℕ) → b.0 ≡ bytes → b ≡ record { 0 = bytes }
block_of_bytes b bytes e = let at : List ℕ → Block = λ bytes. record { 0 = bytes } in ap at e

-- a whole block of memory
pub memory_block : (b : Block) (memory rest seen : List ℕ) (from : ℕ) → seen ≡ memory → b.0 ≡ take 64 (drop from seen)
    → from + 64 ≤ length memory
    → b ≡ record { 0 = take 64 (drop from (memory ++ rest)) }
memory_block b memory rest seen from same is inside =
    block_of_bytes b _ (is ∙ ap (λ xs. take 64 (drop from xs)) same ∙ block_of_memory memory rest from inside)

-- a block of the console
pub console_block : (b : Block) (memory console seen : List ℕ) (from behind k : ℕ) → seen ≡ console → behind ≡ from - length memory
    → b.0 ≡ take 64 (drop behind seen ++ replicate 64 0) → length memory ≤ from → behind + 64 ≤ length console + k
    → b ≡ record { 0 = take 64 (drop from (memory ++ (console ++ replicate k 0))) }
console_block b memory console seen from behind k same at is past enough =
    block_of_bytes b _ (is ∙ ap (λ xs. take 64 (drop behind xs ++ replicate 64 0)) same
    ∙ ap (λ n. take 64 (drop n console ++ replicate 64 0)) at
    ∙ block_behind_memory memory console from k past (omega arith))

-- a block whose own bytes are 64 of these has these
pub same_block : (a : Block) (bytes : List ℕ) → 64 ≤ length bytes → a.0 ≡ take 64 bytes → block_bytes a ≡ take 64 bytes
same_block a bytes l own = block_bytes-long a (ap length own ∙ length-take-le 64 bytes l) ∙ own

-- block i of bytes
abbrev pub block_from : List ℕ → ℕ → Block
block_from bytes i = record { 0 = take 64 (drop (64 * i) bytes) }

-- the block after the next is the next of the rest
pub next_block : (bytes : List ℕ) (i : ℕ) → block_from bytes (suc i) ≡ block_from (drop 64 bytes) i
next_block bytes i =
    let e : 64 + 64 * i ≡ 64 * suc i = omega arith in
    ap (λ (bs : List ℕ). block_from bs 0) (ap (λ k. drop k bytes) (sym e) ∙ sym (drop-drop (64 * i) 64 bytes))

-- blocks that are pieces of bytes make these bytes
pub flat-blocks : (blocks : List Block) (bytes : List ℕ) → length bytes ≡ 64 * length blocks
    → ((i : ℕ) → i < length blocks → block_at blocks i ≡ block_from bytes i) → flat blocks ≡ bytes
unfolding flat
flat-blocks [] [] l each = refl
flat-blocks [] (byte ∷ bytes) l each = absurd (omega arith)
flat-blocks (b ∷ blocks) bytes l each =
    let rest : flat blocks ≡ drop 64 bytes
    = flat-blocks blocks (drop 64 bytes) (omega (arith, length-drop 64 bytes)) (λ i less. each (suc i) (omega arith) ∙ next_block bytes i) in
    ap (λ xs. xs ++ flat blocks) (same_block b bytes (omega arith) (ap (λ (x : Block). x.0) (each 0 (omega arith))))
    ∙ ap (λ xs. take 64 bytes ++ xs) rest
    ∙ take-append-drop 64 bytes

length-start_bytes : (p : Parameters) (s : State) → IsInRange p → IsStartFor p s → length (start_bytes p s) ≡ 64 * memory_blocks p
length-start_bytes p s range h =
    let room = h.console in
    let least = console_below p range in
    let size = h.memory in
    let zeros : List ℕ = replicate (console_room p - length s.console) 0 in
    omega (
      arith,
      length-append s.memory (s.console ++ zeros),
      length-append s.console zeros,
      length-replicate {A = ℕ} (console_room p - length s.console) 0,
    )

-- memory and console of a state are found in the bytes of its start
pub start_parts : (s : State) (size : ℕ) (zeros : List ℕ) → length s.memory ≡ size
    → state_with (cpu_of s) (take size (s.memory ++ (s.console ++ zeros)))
    (take (length s.console) (drop size (s.memory ++ (s.console ++ zeros)))) ≡ s
start_parts s size zeros e =
    let first = λ (n : ℕ). state_with (cpu_of s) (take n (s.memory ++ (s.console ++ zeros)))
    (take (length s.console) (drop n (s.memory ++ (s.console ++ zeros)))) in
    ap first (sym e)
    ∙ ap (λ m. state_with (cpu_of s) m (take (length s.console) (drop (length s.memory) (s.memory ++ (s.console ++ zeros)))))
    (take-append_seam s.memory (s.console ++ zeros))
    ∙ ap (λ bs. state_with (cpu_of s) s.memory (take (length s.console) bs)) (drop-append_seam s.memory (s.console ++ zeros))
    ∙ ap (state_with (cpu_of s) s.memory) (take-append_seam s.console zeros)

pub length-start_blocks : (p : Parameters) (s : State) → length (start_blocks p s) ≡ memory_blocks p
length-start_blocks p s = length-map-range_with_len (start_block p s) 0 (memory_blocks p)

pub block_at-start_blocks : (p : Parameters) (s : State) (b : ℕ) → b < memory_blocks p → block_at (start_blocks p s) b ≡ start_block p s b
block_at-start_blocks p s b inside = get_or-map-range_with_len (start_block p s) 0 (memory_blocks p) b b zero_block inside (omega arith)

-- the start's blocks and its processor make the start
pub state_from-start : (p : Parameters) (s : State) → IsInRange p → IsStartFor p s → state_from p (cpu_of s) (start_blocks p s) ≡ s
unfolding state_from
state_from-start p s range h =
    let bytes : List ℕ = start_bytes p s in
    let long : length (start_blocks p s) ≡ memory_blocks p = length-start_blocks p s in
    let all : flat (start_blocks p s) ≡ bytes
    = flat-blocks (start_blocks p s) bytes (length-start_bytes p s range h ∙ ap (λ n. 64 * n) (sym long))
    (λ i l. block_at-start_blocks p s i (omega (arith, l, long))) in
    ap (λ bs. state_with (cpu_of s) (take (program_size p) bs) (take (length s.console) (drop (program_size p) bs))) all
    ∙ start_parts s (program_size p) (replicate (console_room p - length s.console) 0) h.memory

-- the start of a run can be recorded
pub CanStart-origin : (o : Origin) → IsOrigin o → CanStart o.geometry o.start
CanStart-origin o h =
    let r = h.recordable in
    record {
      geometry = h.geometry;
      start = record { regs = r.regs_length; memory = h.memory; console = r.console };
      recordable = record {
        pc = r.pc;
        regs_length = r.regs_length;
        regs_zero = r.regs_zero;
        regs = r.regs;
        console = r.console;
        cursor = r.cursor;
        brk = r.brk;
        floor = r.floor;
        count = (let l = r.count in omega (arith, l));
        status = r.status;
        other = r.other;
      };
    }
