-- Part of the claim.
-- Bytes as a list.
use Rattle.std.specs.Prelude.{ℕ, ◌+◌, List, ◌++◌, length, take, drop, vec_capacity}
use Rattle.thy_block.specs.declared.bytes.Bytes.{Bytes}

-- the bytes as a list
abbrev pub bytes_of : Bytes → List ℕ
bytes_of b = b.items.items

-- how many bytes fit before more has to be allocated
abbrev pub room_of : Bytes → ℕ
room_of b = vec_capacity b.items

-- a list with a piece written over its elements from `at` on
abbrev pub written : List ℕ → ℕ → List ℕ → List ℕ
written bytes at piece = take at bytes ++ (piece ++ drop (at + length piece) bytes)
