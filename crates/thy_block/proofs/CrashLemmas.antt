-- What a power cut may leave after each call.
use Rattle.std.proofs.Common.{◌≡◌, ℕ, Bool, true, false, List, [], ◌∷◌, length, Contains, refl, sym, ◌∙◌, ap, inl}
use Rattle.std.proofs.lemmas.List.{ext_get_or}
use Rattle.std.proofs.lemmas.List.Elements.{Contains-push, Contains-append_left}
use Rattle.thy_block.specs.declared.block.Block.{Block}
use Rattle.thy_block.specs.Device.{Device, Crash, HoldsNoMore, HasFailed, HasFailedToSettle, IsFramed, Wear, CutsWear, zero_block, block_at, queued_for, applied, possible, cut_to}
use Rattle.thy_block.proofs.DeviceLemmas.{CrashAt-possible, CrashAt-landed, length-applied, Contains-applied}

-- the block that has landed is possible
pub Contains-stands : (n : Device) (x : ℕ) → Contains (possible n x) (block_at n.image x)
Contains-stands n x = Contains-append_left (block_at n.image x ∷ []) (queued_for n.queue x) _ (Contains-push [] (block_at n.image x))

-- each choice of whole blocks is a choice of words
pub Crash-of_blocks : (n : Device) (g : List Block) → length g ≡ length n.image → ((x : ℕ) → Contains (possible n x) (block_at g x))
    → Crash n g
Crash-of_blocks n g same each = record { same_length = same; each = λ x. CrashAt-possible n x (block_at g x) (each x) }

-- a device whose blocks land whole leaves no other
pub Crash-whole : (n : Device) (g : List Block) → n.whole ≡ true → Crash n g → (x : ℕ) → Contains (possible n x) (block_at g x)
Crash-whole n g whole c = λ x. (c.each x).whole whole

-- a cut may leave the image as it is
pub Crash-image : (n : Device) → Crash n n.image
Crash-image n = Crash-of_blocks n n.image refl (Contains-stands n)

-- a cut may let every write land
pub Crash-applied : (n : Device) → Crash n (applied n.image n.queue)
Crash-applied n = Crash-of_blocks n (applied n.image n.queue) (length-applied n.image n.queue) (Contains-applied n.image n.queue)

-- what a cut may leave if no place holds more, it might have left before
pub Crash-no_more : {old new : Device} {g : List Block} → HoldsNoMore old new → length new.image ≡ length old.image → Crash new g
    → Crash old g
Crash-no_more {old} {new} {g} no_more same c = record {
  same_length = c.same_length ∙ same;
  each = λ x. no_more x (block_at g x) (c.each x);
}

-- what a cut may leave after a failed call, it might have left before
pub Crash-failed : {old new : Device} {g : List Block} → HasFailed old new → IsFramed old new → Crash new g → Crash old g
Crash-failed failed framed c = Crash-no_more failed.no_more framed.blocks c

pub Crash-unsettled : {old new : Device} {g : List Block} → HasFailedToSettle old new → IsFramed old new → Crash new g → Crash old g
Crash-unsettled failed framed c = Crash-no_more failed.no_more framed.blocks c

-- nothing queued for a place: a cut leaves there what a read gives
pub block_at-settled : (n : Device) (g : List Block) (x : ℕ) → queued_for n.queue x ≡ [] → Crash n g → block_at g x ≡ block_at n.image x
block_at-settled n g x none c = CrashAt-landed n x (block_at g x) none (c.each x)

-- an image that differs from another at no place
pub same_images : (g h : List Block) → length g ≡ length h → ((x : ℕ) → block_at g x ≡ block_at h x) → g ≡ h
same_images g h l each = ext_get_or zero_block g h l (λ x _. each x)

-- with an empty queue a cut leaves the image as it is
pub Crash-of_empty : (n : Device) (g : List Block) → n.queue ≡ [] → Crash n g → g ≡ n.image
Crash-of_empty n g e c = same_images g n.image c.same_length
    (λ x. block_at-settled n g x (ap (λ q. queued_for q x) e) c)

-- a cut may leave the wear, whether or not the device is up
pub CutsWear-same : (down : Bool) (wear : Wear) → CutsWear down wear wear
CutsWear-same true wear = inl refl
CutsWear-same false wear = refl

-- nothing else can be left of a device whose power was cut already
pub Crash-cut_to : (n : Device) (pick : ℕ) (g h : List Block) (wear : Wear) → Crash (cut_to n pick g wear) h → h ≡ g
Crash-cut_to n pick g h wear c = Crash-of_empty (cut_to n pick g wear) h refl c
