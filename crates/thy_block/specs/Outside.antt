-- Part of the claim.
-- What shelves hold, under which names they failed, what sinks take, and their counts of faults.
use Rattle.std.specs.Prelude.{◌≡◌, ◌≢◌, ◌⊎◌, ℕ, ◌<◌, ◌≤◌, List, [], ◌∷◌, ◌++◌, length, Option, Some, None, Result, Ok, Err, Vec, MatchOption}
use Rattle.std.specs.declared.alloc.Global.{Global}
use Rattle.thy_block.specs.declared.outside.FetchError.{FetchError}
use Rattle.thy_block.specs.declared.outside.FetchError.TheVariants.{Failed, NotThere, TooLong, Memory}
use Rattle.thy_block.specs.declared.outside.PutError.{PutError}
use Rattle.thy_block.specs.declared.outside.PutError.TheVariants.{Failed as PutFailed, Memory as PutMemory}
use Rattle.thy_block.specs.Counts.{Rose}

-- A sink: the bytes that it took so far, if they are known, and its count of faults.
pub record Stream : Type 0 where
  pub taken : Option (List ℕ)
  pub faults : ℕ

-- if it is known what a sink took, these bytes were added after those that it took before
abbrev pub Grew : Option (List ℕ) → Option (List ℕ) → List ℕ → Type 0
Grew old new bytes = (had : List ℕ) → old ≡ Some had → new ≡ Some (had ++ bytes)

-- the sink took all of these bytes, with no fault
pub record Took (old new : Stream) (bytes : List ℕ) : Type 0 where
  pub taken : Grew old.taken new.taken bytes
  pub faults : new.faults ≡ old.faults

-- the sink took the first of these bytes, then failed
pub record TookPart (old new : Stream) (bytes : List ℕ) : Type 0 where
  pub part : List ℕ
  pub rest : List ℕ
  pub split : bytes ≡ part ++ rest
  pub taken : Grew old.taken new.taken part
  pub rose : Rose old.faults new.faults

-- the bytes under each name, if there are any
abbrev pub Files : Type 0
Files = List ℕ → Option (List ℕ)

-- A shelf: what it holds, and the names under which calls failed, in order, if these are known; and its count of
-- faults.
pub record Stock : Type 0 where
  pub held : Option Files
  pub failed : Option (List (List ℕ))
  pub faults : ℕ

-- no call of a shelf failed: its count of faults and its names are as before
pub record HasNotFailed (old new : Stock) : Type 0 where
  pub faults : new.faults ≡ old.faults
  pub failed : new.failed ≡ old.failed

-- if it is known under which names calls failed, this name was added after those before
abbrev pub Noted : List ℕ → Option (List (List ℕ)) → Option (List (List ℕ)) → Type 0
Noted name old new = (names : List (List ℕ)) → old ≡ Some names → new ≡ Some (names ++ name ∷ [])

-- a call of a shelf failed, under this name
pub record HasFailedUnder (name : List ℕ) (old new : Stock) : Type 0 where
  pub rose : Rose old.faults new.faults
  pub noted : Noted name old.failed new.failed

-- a call under this name may have failed, or not
abbrev pub MayHaveFailed : List ℕ → Stock → Stock → Type 0
MayHaveFailed name old new = HasNotFailed old new ⊎ HasFailedUnder name old new

-- A fetch by what is held under the name: these bytes within the limit, or nothing, or bytes past the limit.
abbrev pub Fetched : Option (List ℕ) → ℕ → Result (Vec ℕ Global) FetchError → Type 0
Fetched there limit (Ok bytes) = (there ≡ Some bytes.items) × (length bytes.items ≤ limit)
Fetched there limit (Err NotThere) = there ≡ None
Fetched there limit (Err TooLong) = (bytes : List ℕ) × (there ≡ Some bytes) × (limit < length bytes)
Fetched there limit (Err Failed) = Unit {0}
Fetched there limit (Err (Memory e)) = Unit {0}

-- Whether a fetch under this name failed: if the result is Failed, and not if it gave bytes. If nothing is there or too
-- much, it failed if it is not known what the shelf holds, and else not. If it was out of memory, it may have
-- failed.
abbrev pub FetchCounts : List ℕ → Stock → Stock → Result (Vec ℕ Global) FetchError → Type 0
FetchCounts name old new (Ok bytes) = HasNotFailed old new
FetchCounts name old new (Err Failed) = HasFailedUnder name old new
FetchCounts name old new (Err NotThere) = MatchOption old.held (HasFailedUnder name old new) (λ _. HasNotFailed old new)
FetchCounts name old new (Err TooLong) = MatchOption old.held (HasFailedUnder name old new) (λ _. HasNotFailed old new)
FetchCounts name old new (Err (Memory e)) = MayHaveFailed name old new

-- if it is known what a shelf holds, it is so afterwards, and every other name has what it had before
abbrev pub KeepsOthers : Stock → Stock → List ℕ → Type 0
KeepsOthers old new name = (files : Files) → old.held ≡ Some files
    → (after : Files) × (new.held ≡ Some after) × ((other : List ℕ) → other ≢ name → after other ≡ files other)

-- if it is known what a shelf holds, this name has these bytes
abbrev pub Holds : Stock → List ℕ → List ℕ → Type 0
Holds stock name bytes = (files : Files) → stock.held ≡ Some files → files name ≡ Some bytes

-- whether a put under this name failed
abbrev pub PutCounts : List ℕ → Stock → Stock → Result Unit PutError → Type 0
PutCounts name old new (Ok done) = HasNotFailed old new
PutCounts name old new (Err PutFailed) = HasFailedUnder name old new
PutCounts name old new (Err (PutMemory e)) = MayHaveFailed name old new
