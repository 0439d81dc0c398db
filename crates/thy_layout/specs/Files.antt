-- Part of the claim.
-- The blocks of bytes, the entries in them, and what a check of a file says.
use Rattle.std.specs.Prelude.{◌≡◌, ℕ, ◌*◌, ◌/◌, ◌%◌, ◌==◌, nat_lt, Bool, ◌&&◌, if◌then◌else◌, List, length, map, take, drop, Option, Result, Ok, Err}
use Rattle.std.specs.List.{range_with_len}
use Rattle.thy_block.specs.declared.block.Block.{Block}
use Rattle.thy_block.specs.Device.{block_at}
use Rattle.thy_block.specs.LittleEndian.{number_at}
use Rattle.thy_block.specs.Places.{commit_place}
use Rattle.thy_isa.specs.Step.{State}
use Rattle.thy_layout.specs.declared.found.Found.{Found}
use Rattle.thy_layout.specs.declared.found.Found.TheVariants.{Nothing as FoundNothing, At as FoundAt}
use Rattle.thy_layout.specs.declared.bad_image.BadImage.{BadImage}
use Rattle.thy_layout.specs.declared.bad_image.BadImage.TheVariants.{Empty}
use Rattle.thy_layout.specs.Decoded.{Decoded, Nothing, Refused, At}
use Rattle.thy_layout.specs.Entries.{entry_from}
use Rattle.thy_layout.specs.Layout.{Layout, is_long, fault_sized, decode_sized}

-- block k of bytes
abbrev pub block_in : List ℕ → ℕ → Block
block_in bytes k = record { 0 = take 64 (drop (64 * k) bytes) }

-- the whole blocks of bytes
abbrev pub blocks_of : List ℕ → List Block
blocks_of bytes = map (block_in bytes) (range_with_len 0 (length bytes / 64))

-- the entries of a table's bytes
abbrev pub table_in : List ℕ → List (Option ℕ)
table_in bytes = map (λ i. entry_from (number_at 8 bytes (8 * i))) (range_with_len 0 (length bytes / 8))

-- what `check` finds in an image or a file that decodes to this
abbrev pub found_in : Decoded → Result Found BadImage
found_in Nothing = Ok FoundNothing
found_in (Refused bad) = Err bad
found_in (At epoch state) = Ok (FoundAt epoch)

-- the bytes are whole blocks, and an image has that number of blocks
abbrev pub is_long_file : Layout → List ℕ → Bool
is_long_file l bytes = length bytes % 64 == 0 && is_long l (block_at (blocks_of bytes) commit_place) (length bytes / 64)

-- the first fault of a file that has a commit block, with epochs and counts below a ceiling
abbrev pub file_fault : Layout → ℕ → List ℕ → Option BadImage
file_fault l ceiling bytes = fault_sized l ceiling (is_long_file l bytes) (blocks_of bytes)

-- what the bytes of a file decode to
abbrev pub decode_file : Layout → ℕ → List ℕ → Decoded
decode_file l ceiling bytes =
    if nat_lt (length bytes) 128 then Refused Empty
    else decode_sized l ceiling (is_long_file l bytes) (blocks_of bytes)

-- a check of these bytes finds a checkpoint, below some ceiling
pub record HasCheckpointOf (l : Layout) (bytes : List ℕ) : Type 0 where
  pub ceiling : ℕ
  pub epoch : ℕ
  pub found : found_in (decode_file l ceiling bytes) ≡ Ok (FoundAt epoch)

-- whatever the ceiling, the checkpoint that is found has this state
abbrev pub HasState : Layout → List ℕ → State → Type 0
HasState l bytes s =
    (ceiling epoch : ℕ) → found_in (decode_file l ceiling bytes) ≡ Ok (FoundAt epoch) → decode_file l ceiling bytes ≡ At epoch s
