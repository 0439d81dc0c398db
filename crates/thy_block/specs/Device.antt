-- Part of the claim.
-- What a block device holds, what each call makes of it, and what a power cut may leave.
use Rattle.std.specs.Prelude.{◌≡◌, ◌≢◌, ◌⊎◌, ℕ, ◌+◌, ◌-◌, ◌*◌, ◌≤◌, ◌==◌, ◌&&◌, not, nat_lt, if◌then◌else◌, Bool, true, false, List, [], ◌∷◌, ◌++◌, length, take, drop, replicate, slice_index_or, slice_set, Contains, Result, MatchResult}
use Rattle.std.specs.Borrow.{GName}
use Rattle.thy_block.specs.declared.block.Block.{Block}
use Rattle.thy_block.specs.declared.nvm.Shape.{Shape}
use Rattle.thy_block.specs.declared.nvm.Write.{Write}
use Rattle.thy_block.specs.declared.nvm.FitError.{FitError}
use Rattle.thy_block.specs.declared.nvm.FitError.TheVariants.{Failed, Memory}
use Rattle.thy_block.specs.Counts.{Rose, RoseByOne, next}

-- a block of zeros
unfoldable pub zero_block : Block
zero_block = record { 0 = replicate 64 0 }

-- What a device says of the writes that its barriers make of its own accord. One that levels moves a block, by two writes, once
-- `every` writes were made; it says how many were made since its last move, and how often it has moved.
pub data Wear : Type 0 where
  -- the device's barriers make no write of their own
  Plain : Wear
  Levels : (every since moves : ℕ) → Wear
  -- the device says nothing of what its barriers write
  Unsaid : Wear

-- what a device holds
pub record Device : Type 0 where
  -- the blocks that have landed
  pub image : List Block
  -- the writes that have not landed yet, oldest first
  pub queue : List Write
  -- the images that the cuts since the last fit left, in order
  pub left : List (List Block)
  -- the picks that the cuts since the last fit were given, in order
  pub picks : List ℕ
  -- how many writes the queue holds
  pub queue_room : ℕ
  -- how many images can be kept
  pub left_room : ℕ
  -- a call has failed since the last fit or cut
  pub down : Bool
  -- a count of faults, which each fault raises, up to its last value
  pub faults : ℕ
  -- how many times it was fitted, successfully or not; a fit that was out of memory may not count; the count saturates
  pub fits : ℕ
  -- the names of the loans through which it is reached, the outermost first
  pub lent : List GName
  -- a cut leaves each of its blocks whole; of any other device it leaves each aligned word whole, and may tear a block
  pub whole : Bool
  -- how many writes it has taken since the last fit, with those that its barriers made; the count saturates
  pub writes : ℕ
  pub wear : Wear

-- a queued write
abbrev pub write_of : ℕ → Block → Write
write_of at block = record { at = at; block = block }

-- the block at a place of an image, which holds zeros past its end
abbrev pub block_at : List Block → ℕ → Block
block_at image x = slice_index_or image x zero_block

-- the blocks queued for a place, oldest first
abbrev pub queued_for : List Write → ℕ → List Block
queued_for [] x = []
queued_for (w ∷ ws) x = if w.at == x then w.block ∷ queued_for ws x else queued_for ws x

-- the newest block queued for a place, or this one if there is none
abbrev pub newest_over : Block → List Write → ℕ → Block
newest_over block [] x = block
newest_over block (w ∷ ws) x = newest_over (if w.at == x then w.block else block) ws x

-- an image to which writes were applied in order
abbrev pub applied : List Block → List Write → List Block
applied image [] = image
applied image (w ∷ ws) = applied (slice_set image w.at w.block) ws

-- the possible blocks of a place: the image's, and each that is queued for it
abbrev pub possible : Device → ℕ → List Block
possible n x = block_at n.image x ∷ queued_for n.queue x

-- what a read of a place gives
abbrev pub newest : Device → ℕ → Block
newest n x = newest_over (block_at n.image x) n.queue x

-- ---- what a cut may leave

-- aligned word i of a block: its eight bytes from byte 8 * i on
abbrev pub word_bytes : Block → ℕ → List ℕ
word_bytes b i = take 8 (drop (8 * i) b.0)

-- a block put together of words of these blocks: each aligned word is that word of one of them, each its own choice
abbrev pub IsMadeOf : List Block → Block → Type 0
IsMadeOf blocks b = (i : ℕ) → (c : Block) × Contains blocks c × (word_bytes b i ≡ word_bytes c i)

-- a block that may be left of these: it is made of their words; if blocks land whole, it is one of them
pub record IsCrashOf (lands_whole : Bool) (blocks : List Block) (b : Block) : Type 0 where
  pub words : IsMadeOf blocks b
  pub whole : lands_whole ≡ true → Contains blocks b

-- a block that a cut may leave at a place
abbrev pub CrashAt : Device → ℕ → Block → Type 0
CrashAt n x b = IsCrashOf n.whole (possible n x) b

-- an image that a cut may leave: at each place its own choice
pub record Crash (n : Device) (g : List Block) : Type 0 where
  pub same_length : length g ≡ length n.image
  pub each : (x : ℕ) → CrashAt n x (block_at g x)

-- two blocks differ in one aligned word at most
pub record IsOneWordApart (a b : Block) : Type 0 where
  pub word : ℕ
  pub others : (i : ℕ) → i ≢ word → word_bytes a i ≡ word_bytes b i

-- ---- what is counted

-- what a device says of its wear after a write
abbrev pub worn : Wear → Wear
worn Plain = Plain
worn (Levels every since moves) = Levels every (next since) moves
worn Unsaid = Unsaid

-- what a device says of its barriers' writes after a fit
abbrev pub unworn : Wear → Wear
unworn Plain = Plain
unworn (Levels every since moves) = Levels every 0 0
unworn Unsaid = Unsaid

-- what a device says of its barriers' writes after one of them moved a block
abbrev pub moved_on : Wear → Wear
moved_on Plain = Plain
moved_on (Levels every since moves) = Levels every 0 (next moves)
moved_on Unsaid = Unsaid

-- enough writes were made for a move
abbrev pub is_worn : Wear → Bool
is_worn Plain = false
is_worn (Levels every since moves) = not (nat_lt since every)
is_worn Unsaid = false

-- a device says what its barriers write
abbrev pub says : Wear → Bool
says Plain = true
says (Levels every since moves) = true
says Unsaid = false

-- the next barrier moves a block; a move can change two words of a block, so a device that may tear one moves none
abbrev pub moves_next : Device → Bool
moves_next n = is_worn n.wear && n.whole

-- the count after a barrier, of a device that says what its barriers write
abbrev pub own_count : Device → ℕ
own_count n = if moves_next n then next (next n.writes) else n.writes

-- a count after a barrier, by what is said of it: the device's own, or no less than before
abbrev pub CountsBy : Wear → ℕ → ℕ → ℕ → Type 0
CountsBy Plain before own count = count ≡ own
CountsBy (Levels every since moves) before own count = count ≡ own
CountsBy Unsaid before own count = before ≤ count

-- a count of writes may be a device's after a barrier
abbrev pub CountsOwn : Device → ℕ → Type 0
CountsOwn n count = CountsBy n.wear n.writes (own_count n) count

-- ---- what calls make of it

-- the oldest k writes have landed
abbrev pub landed : ℕ → Device → Device
landed k n = record n { image = applied n.image (take k n.queue); queue = drop k n.queue }

-- a device after a drain: the oldest write has landed
abbrev pub drained : Device → Device
drained n = landed 1 n

-- a device after a barrier: every write has landed, and this is the count
abbrev pub settled : ℕ → Device → Device
settled count n = record n {
  image = applied n.image n.queue;
  queue = [];
  writes = count;
  wear = if moves_next n then moved_on n.wear else n.wear;
}

-- a device after a barrier that made no write of its own
abbrev pub at_rest : Device → Device
at_rest n = settled n.writes n

-- how many writes have to land before one more is queued
abbrev pub surplus : Device → ℕ
surplus n = if nat_lt (length n.queue) n.queue_room then 0 else 1

-- the device with one more write in its queue, also if the queue was full
abbrev pub with_queued : ℕ → Block → Device → Device
with_queued at block n = record n { queue = n.queue ++ write_of at block ∷ [] }

-- a device after a write: of a full queue the oldest write has landed, and this one is queued
abbrev pub written_to : Device → ℕ → Block → Device
written_to n at block = record n {
  image = applied n.image (take (surplus n) n.queue);
  queue = drop (surplus n) n.queue ++ write_of at block ∷ [];
  writes = next n.writes;
  wear = worn n.wear;
}

-- a device with these counts
abbrev pub counting : ℕ → Wear → Device → Device
counting writes wear n = record n { writes = writes; wear = wear }

-- a device after a cut that was given this pick and left this image and this wear
abbrev pub cut_to : Device → ℕ → List Block → Wear → Device
cut_to n pick g wear = record n {
  image = g;
  queue = [];
  left = n.left ++ g ∷ [];
  picks = n.picks ++ pick ∷ [];
  down = false;
  wear = wear;
}

-- a device after a fit: the start and then zeros, and no cut yet
abbrev pub fitted : Shape → List Block → Device → Device
fitted shape start n = record {
  image = start ++ replicate (shape.blocks - length start) zero_block;
  queue = [];
  left = [];
  picks = [];
  queue_room = shape.queue;
  left_room = shape.cuts + 1;
  down = false;
  faults = n.faults;
  fits = next n.fits;
  lent = n.lent;
  whole = n.whole;
  writes = 0;
  wear = unworn n.wear;
}

-- a device that is reached through one loan more
abbrev pub lent_by : GName → Device → Device
lent_by name n = record n { lent = name ∷ n.lent }

-- a cut leaves the wear of a device that is up; of one that is down it may complete a move that failed
abbrev pub CutsWear : Bool → Wear → Wear → Type 0
CutsWear false old new = new ≡ old
CutsWear true old new = (new ≡ old) ⊎ (new ≡ moved_on old)

-- a cut leaves an image that it may leave, and keeps it and the pick
pub record IsCut (pick : ℕ) (old new : Device) : Type 0 where
  pub crash : Crash old new.image
  pub wear : CutsWear old.down old.wear new.wear
  pub device : new ≡ cut_to old pick new.image new.wear

-- a device after a barrier, whatever the barrier counted
abbrev pub Settles : Device → Device → Type 0
Settles old new = new ≡ settled new.writes old

-- a device after a barrier that succeeded
pub record IsSettled (old new : Device) : Type 0 where
  pub count : CountsOwn old new.writes
  pub device : Settles old new

-- what a device may be after the same call is counted alike: it says what its barriers write, or both counts are the same
abbrev pub CountAlike : Device → Device → Device → Type 0
CountAlike n u v = (says n.wear ≡ true) ⊎ (u.writes ≡ v.writes)

-- what only a fit and a cut change, or nothing does, such as whether blocks land whole
pub record IsFramed (old new : Device) : Type 0 where
  pub blocks : length new.image ≡ length old.image
  pub left : new.left ≡ old.left
  pub picks : new.picks ≡ old.picks
  pub queue_room : new.queue_room ≡ old.queue_room
  pub left_room : new.left_room ≡ old.left_room
  pub fits : new.fits ≡ old.fits
  pub lent : new.lent ≡ old.lent
  pub whole : new.whole ≡ old.whole

-- no place may hold after a cut what it could not hold before
abbrev pub HoldsNoMore : Device → Device → Type 0
HoldsNoMore old new = (x : ℕ) (b : Block) → CrashAt new x b → CrashAt old x b

-- a call counted nothing
pub record CountsNothing (old new : Device) : Type 0 where
  pub writes : new.writes ≡ old.writes
  pub wear : new.wear ≡ old.wear

-- a device after a call that failed
pub record HasFailed (old new : Device) : Type 0 where
  pub down : new.down ≡ true
  pub no_more : HoldsNoMore old new
  pub counts : CountsNothing old new

-- a device after a barrier that failed: the barrier may have made writes of its own
pub record HasFailedToSettle (old new : Device) : Type 0 where
  pub down : new.down ≡ true
  pub no_more : HoldsNoMore old new
  pub writes : old.writes ≤ new.writes
  pub wear : new.wear ≡ old.wear

-- a device after a write that failed: no place may hold more than if the block had been queued
pub record HasFailedToWrite (at : ℕ) (block : Block) (old new : Device) : Type 0 where
  pub down : new.down ≡ true
  pub no_more : HoldsNoMore (with_queued at block old) new
  pub counts : CountsNothing old new

-- how many calls have failed since the last fit or cut: none, or one, because a device that is down is neither read nor
-- written
abbrev pub failed_calls : Device → ℕ
failed_calls n = if n.down then 1 else 0

-- the count stays if a call succeeds, and rose if it fails
abbrev pub CountsFault : {T E : Type 0} → Result T E → ℕ → ℕ → Type 0
CountsFault result old new = MatchResult result (λ _. new ≡ old) (λ _. Rose old new)

-- the count stays if a call succeeds, and rose by one if it fails
abbrev pub CountsOneFault : {T E : Type 0} → Result T E → ℕ → ℕ → Type 0
CountsOneFault result old new = MatchResult result (λ _. new ≡ old) (λ _. RoseByOne old new)

-- a device after a fit that failed: the fit was counted; if it was out of memory nothing has changed, except that it may have been counted
abbrev pub HasFailedToFit : FitError → Device → Device → Type 0
HasFailedToFit Failed old new =
    HasFailed old new × IsFramed (record old { fits = next old.fits }) new × Rose old.faults new.faults
HasFailedToFit (Memory e) old new = (new ≡ old) ⊎ (new ≡ record old { fits = next old.fits })
