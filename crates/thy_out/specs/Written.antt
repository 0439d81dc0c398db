-- What is written to.
use Rattle.std.specs.Prelude.{ℕ, ◌+◌, ◌-◌, ◌^◌, min, Bool, false, List, Option, Result, Ok, Err}
use Rattle.thy_block.specs.Counts.{next}
use Rattle.thy_block.specs.Outside.{Stream}

-- A target: the bytes that it took, if they are known; whether all of them were flushed, and whether they were synced; and
-- how many of its calls failed. The count is how many bytes the pieces have that it took whole; it saturates.
pub record Written : Type 0 where
  pub taken : Option (List ℕ)
  pub flushed : Bool
  pub synced : Bool
  pub failures : ℕ
  pub count : ℕ

-- a target before any call
abbrev pub untouched : Option (List ℕ) → Written
untouched there = record { taken = there; flushed = false; synced = false; failures = 0; count = 0 }

-- a target takes bytes as a sink does
abbrev pub stream_of : Written → Stream
stream_of target = record { taken = target.taken; faults = target.failures }

-- the count of bytes after a piece that was taken whole
abbrev pub count_with : ℕ → ℕ → ℕ
count_with count more = min (count + more) (2 ^ 64 - 1)

-- the count of failures after a call
abbrev pub failures_after : {T E : Type 0} → ℕ → Result T E → ℕ
failures_after failures (Ok done) = failures
failures_after failures (Err e) = next failures
