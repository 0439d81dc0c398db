-- A reader whose failures are counted, and what a read of all that it has left means.
use Rattle.std.specs.Prelude.{◌≡◌, ℕ, ◌≤◌, List, length, Option, Result, Err, Vec}
use Rattle.std.specs.declared.alloc.Global.{Global}
use Rattle.std.specs.Io.KnownBytes.{Consumes}
use Rattle.thy_block.specs.Counts.{Rose}
use Rattle.thy_block.specs.declared.outside.FetchError.{FetchError}
use Rattle.thy_block.specs.declared.outside.FetchError.TheVariants.{Failed}

-- the bytes that a reader has left, if they are known, and how many of its reads failed
pub record Spring : Type 0 where
  pub left : Option (List ℕ)
  pub failures : ℕ

-- if they are known, it has lost its first bytes, at most n of them
pub record LosesAtMost (n : ℕ) (old new : Option (List ℕ)) : Type 0 where
  pub bytes : List ℕ
  pub read : Consumes old new bytes
  pub few : length bytes ≤ n

-- the answer is `Failed` exactly if a read failed: then the count rose, and otherwise it stayed
abbrev pub HasCause : Result (Vec ℕ Global) FetchError → ℕ → ℕ → Type 0
HasCause (Err Failed) old new = Rose old new
HasCause _ old new = new ≡ old
