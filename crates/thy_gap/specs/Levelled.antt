-- A levelled device, and what holds of it.
use Rattle.std.specs.Prelude.{◌≡◌, ◌≢◌, ℕ, ◌+◌, ◌-◌, ◌<◌, ◌≤◌, ◌^◌, ◌==◌, ◌&&◌, not, nat_lt, if◌then◌else◌, Bool, true, false, List, [], ◌∷◌, ◌++◌, length, replicate, All, is_some}
use Rattle.thy_block.specs.declared.block.Block.{Block}
use Rattle.thy_block.specs.declared.nvm.Shape.{Shape}
use Rattle.thy_block.specs.declared.nvm.Write.{Write}
use Rattle.thy_block.specs.Counts.{next}
use Rattle.thy_block.specs.Device.{Device, Wear, Plain, Levels, Unsaid, CrashAt, zero_block, at_rest, fitted}
use Rattle.thy_block.specs.Words.{word_of}
use Rattle.thy_gap.specs.declared.registers.Registers.{Registers}
use Rattle.thy_gap.specs.Lines.{IsWhole, line_at, source, moved, moved_times, no_lines, unmoved, registers_block, registers_in}
use Rattle.thy_gap.specs.Seen.{seen}
use Rattle.thy_gap.specs.Moving.{line_moved}

-- a device over an inner one
pub record Levelled (N : Type 0) : Type 0 where
  pub inner : N
  -- after how many writes a barrier moves a line
  pub every : ℕ
  -- the registers in hand
  pub registers : Registers
  -- how many writes succeeded since the last move of a line, or the fit; it saturates
  pub since : ℕ
  -- how often a line has moved since the fit, also by a move that failed and that a cut completed; it saturates
  pub moves : ℕ
  -- how many cuts a device has had since the last fit
  pub cuts : ℕ

-- a device before it is fitted
abbrev pub over : {N : Type 0} → N → ℕ → Levelled N
over inner every = record { inner = inner; every = every; registers = no_lines; since = 0; moves = 0; cuts = 0 }

-- the lines over a copy of the inner device, with no cut yet
abbrev pub over_copy : {N C : Type 0} → C → Levelled N → Levelled C
over_copy copy g = record { inner = copy; every = g.every; registers = g.registers; since = g.since; moves = g.moves; cuts = 0 }

-- a device says that its barriers make no write of their own
abbrev pub is_plain : Wear → Bool
is_plain Plain = true
is_plain (Levels every since moves) = false
is_plain Unsaid = false

-- what a levelled device says of its wear: over a device whose barriers may write, nothing
abbrev pub wear_over : Wear → ℕ → ℕ → ℕ → Wear
wear_over wear every since moves = if is_plain wear then Levels every since moves else Unsaid

-- how an inner device looks through registers, with these counts
abbrev pub looks : ℕ → ℕ → ℕ → Registers → Device → Device
looks every since moves r n = record (seen r n) { wear = wear_over n.wear every since moves }

-- the device of lines that the inner device means, by the registers in hand
abbrev pub shown : {N : Type 0} → (N → Device) → Levelled N → Device
shown device g = looks g.every g.since g.moves g.registers (device g.inner)

-- ---- what calls make of it

-- the inner shape: two blocks more
abbrev pub inner_shape : Shape → Shape
inner_shape shape = record shape { blocks = shape.blocks + 2 }

-- the inner image of a fit: the start and zeros, one of them at the gap, and the registers
abbrev pub first_image : ℕ → List Block → List Block
first_image n start = start ++ (replicate (n + 1 - length start) zero_block ++ registers_block (unmoved n) ∷ [])

-- the inner device after a fit
abbrev pub inner_fitted : Shape → List Block → Device → Device
inner_fitted shape start n = fitted (inner_shape shape) (first_image shape.blocks start) n

-- a levelled device after a call that leaves registers and counts alone
abbrev pub IsOver : {N : Type 0} → Levelled N → Levelled N → Type 0
IsOver old new = new ≡ record old { inner = new.inner }

-- after a fit: every line is at its own place
abbrev pub HasFitted : {N : Type 0} → ℕ → Levelled N → Levelled N → Type 0
HasFitted n old new = new ≡ record old { inner = new.inner; registers = unmoved n; since = 0; moves = 0; cuts = 0 }

-- a levelled device after a write
abbrev pub HasWritten : {N : Type 0} → ℕ → Levelled N → Levelled N → Type 0
HasWritten since old new = new ≡ record old { inner = new.inner; since = since }

-- When a barrier moves a line over this inner device: enough writes were made, and its blocks land whole. A move can
-- change two words of the registers' block, so over a device that may tear a block none is ever made.
abbrev pub is_due : Device → ℕ → ℕ → Bool
is_due n since every = n.whole && not (nat_lt since every)

-- after a barrier: one line has moved, exactly if the barrier had to move one
abbrev pub HasMovedIfDue : {N : Type 0} → Bool → Levelled N → Levelled N → Type 0
HasMovedIfDue due old new = new ≡ record old {
  inner = new.inner;
  registers = if due then moved old.registers else old.registers;
  since = if due then 0 else old.since;
  moves = if due then next old.moves else old.moves;
}

-- the inner device after a barrier, but for its counts: all writes have landed, and one line has moved if a move was called for
abbrev pub settled_and_moved : {N : Type 0} → Levelled N → Device → Device
settled_and_moved g n = if is_due n g.since g.every then line_moved g.registers (at_rest n) else at_rest n

-- how many writes count towards the next move after a cut, by the registers before it and in the image that it left:
-- none if the cut completed a move that had failed, which takes the gap to another place
abbrev pub counted_on : Registers → Registers → ℕ → ℕ
counted_on before left since = if left.gap == before.gap then since else 0

-- how often a line has moved after a cut, once more if the cut completed a move that had failed
abbrev pub moves_on : Registers → Registers → ℕ → ℕ
moves_on before left moves = if left.gap == before.gap then moves else next moves

-- after a cut that left this inner image, the registers are the ones in the image
abbrev pub HasCut : {N : Type 0} → List Block → Levelled N → Levelled N → Type 0
HasCut image old new = new ≡ record old {
  inner = new.inner;
  registers = registers_in image;
  since = counted_on old.registers (registers_in image) old.since;
  moves = moves_on old.registers (registers_in image) old.moves;
  cuts = old.cuts + 1;
}

-- ---- the invariant

-- gap and source can hold one block only, the same
pub record IsCopied (r : Registers) (n : Device) : Type 0 where
  pub same : (b c : Block) → CrashAt n r.gap b → CrashAt n (source r) c → b ≡ c

-- a block of the registers is of those in hand, or of those after the next move, and then its line was copied
pub record IsOfRegisters (r : Registers) (n : Device) (b : Block) : Type 0 where
  pub in_hand : word_of b 2 ≡ r.gap → b ≡ registers_block r
  pub moved_on : word_of b 2 ≢ r.gap → b ≡ registers_block (moved r)
  pub copied : word_of b 2 ≢ r.gap → IsCopied r n

-- the writes queued are of lines, and a cut leaves the registers in hand
pub record IsQuiet (r : Registers) (n : Device) : Type 0 where
  pub lines : All (λ (w : Write). is_some (line_at r w.at) ≡ true) n.queue
  pub in_hand : (b : Block) → CrashAt n (r.lines + 1) b → b ≡ registers_block r

-- an image that a cut left, with registers in range
pub record HasRegisters (lines : ℕ) (g : List Block) : Type 0 where
  pub blocks : length g ≡ lines + 2
  pub whole : IsWhole (registers_in g)

-- an inner device with its registers, after a fit
pub record IsLevelled (r : Registers) (cuts : ℕ) (n : Device) : Type 0 where
  pub whole : IsWhole r
  pub blocks : length n.image ≡ r.lines + 2
  pub registers : (b : Block) → CrashAt n (r.lines + 1) b → IsOfRegisters r n b
  pub quiet : n.down ≡ false → IsQuiet r n
  pub left : All (HasRegisters r.lines) n.left
  pub cuts_are : length n.left ≡ cuts
  pub room : n.left_room ≤ 2 ^ 64 - 1

-- what holds of every levelled device
pub record IsSoundGap (every : ℕ) (r : Registers) (since moves cuts : ℕ) (n : Device) : Type 0 where
  pub some : 0 < every
  pub fitted : 0 < r.lines → IsLevelled r cuts n
  pub no_registers : r.lines ≡ 0 → r ≡ no_lines
  pub no_writes : r.lines ≡ 0 → since ≡ 0
  -- the registers are what that count of moves makes of the first ones, while the count has not saturated
  pub turned : moves < 2 ^ 64 - 1 → r ≡ moved_times moves (unmoved r.lines)
