-- Part of the claim.
-- Layouts of the NVM: the places at which an image has its checkpoint, and what that means.
use Rattle.std.specs.Prelude.{◌≡◌, ◌==◌, ◌||◌, ℕ, Bool, false, if◌then◌else◌, List, [], ◌∷◌, ◌++◌, length, map, Option, Some, None}
use Rattle.std.specs.List.{range_with_len}
use Rattle.std.specs.Option.{option_or}
use Rattle.thy_block.specs.declared.block.Block.{Block}
use Rattle.thy_block.specs.declared.parameters.Parameters.{Parameters}
use Rattle.thy_block.specs.Device.{block_at}
use Rattle.thy_block.specs.Geometry.{memory_blocks}
use Rattle.thy_block.specs.Places.{commit_place, header_place}
use Rattle.thy_isa.specs.OnBlocks.{state_from}
use Rattle.thy_isa.specs.Step.{State}
use Rattle.thy_layout.specs.declared.bad_image.BadImage.{BadImage}
use Rattle.thy_layout.specs.Commit.{is_zero, epoch_of, commit_fault}
use Rattle.thy_layout.specs.Cpu.{cpu_of_record}
use Rattle.thy_layout.specs.Decoded.{Decoded, Nothing, Refused, At, Reading}
use Rattle.thy_layout.specs.Header.{header_fault}
use Rattle.thy_layout.specs.Saved.{Looking}

-- An image has a header, block 0, and a commit block, block 1. That names a slot, whose blocks give memory's places. A slot
-- begins with the record of the processor.
pub record Layout : Type 0 where
  -- the geometry that the layout is of, and the number of the scheme
  pub p : Parameters
  pub scheme : ℕ
  -- how many blocks an image has
  pub image_blocks : ℕ
  -- how many blocks an image of an older form has, if the commit block names one
  pub older_blocks : Block → Option ℕ
  -- the first place of the slot of a commit block, how many blocks it has, and the most that one has
  pub slot_place : Block → ℕ
  pub slot_blocks : Block → ℕ
  pub most_slot : ℕ
  -- the place of block i of memory, by the commit block and the blocks of its slot
  pub place : Block → List Block → ℕ → ℕ
  -- the first fault of the slot of a commit block, with epochs and counts below a ceiling
  pub slot_bad : ℕ → Block → List Block → Option BadImage

-- a layout for each geometry
abbrev pub Layouts : Type 0
Layouts = Parameters → Layout

-- the first fault of a header, whose image has the layout's number of blocks or not; and of a commit block under a
-- header, with epochs below a ceiling
abbrev pub header_bad : Layout → Block → Bool → Option BadImage
header_bad l header sized = header_fault l.scheme header l.p sized

abbrev pub commit_bad : ℕ → Block → Block → Option BadImage
commit_bad ceiling header commit = commit_fault header commit ceiling

-- the state that the blocks of slot and memory make
abbrev pub state_by : Layout → List Block → List Block → State
state_by l slot memory = state_from l.p (cpu_of_record l.p slot) memory

-- ---- the parts of an image

-- the blocks of an image at these places
abbrev pub blocks_at : List Block → List ℕ → List Block
blocks_at g places = map (block_at g) places

-- the places of a commit block's slot, and memory's places, by the blocks of the slot
abbrev pub slot_places : Layout → Block → List ℕ
slot_places l commit = range_with_len (l.slot_place commit) (l.slot_blocks commit)

abbrev pub memory_places : Layout → Block → List Block → List ℕ
memory_places l commit slot = map (l.place commit slot) (range_with_len 0 (memory_blocks l.p))

-- the slot that the commit block of an image names, and memory
abbrev pub slot_in : Layout → List Block → List Block
slot_in l g = blocks_at g (slot_places l (block_at g commit_place))

abbrev pub memory_in : Layout → List Block → List Block
memory_in l g = blocks_at g (memory_places l (block_at g commit_place) (slot_in l g))

-- ---- what an image means

-- an image has this number of blocks; an older form's number is enough, if there is one
abbrev pub is_length : ℕ → Option ℕ → ℕ → Bool
is_length blocks None n = n == blocks
is_length blocks (Some older) n = n == blocks || n == older

-- an image with this commit block has this number of blocks
abbrev pub is_long : Layout → Block → ℕ → Bool
is_long l commit n = is_length l.image_blocks (l.older_blocks commit) n

-- an image has the layout's number of blocks
abbrev pub is_sized : Layout → List Block → Bool
is_sized l g = is_long l (block_at g commit_place) (length g)

-- the first fault of header, commit block and slot, with epochs and counts below a ceiling
abbrev pub fault_of : Layout → ℕ → Bool → Block → Block → List Block → Option BadImage
fault_of l ceiling sized header commit slot =
    option_or (header_bad l header sized) (option_or (commit_bad ceiling header commit) (l.slot_bad ceiling commit slot))

-- the first fault of blocks, which have the layout's number of blocks or not; and of an image
abbrev pub fault_sized : Layout → ℕ → Bool → List Block → Option BadImage
fault_sized l ceiling sized g = fault_of l ceiling sized (block_at g header_place) (block_at g commit_place) (slot_in l g)

abbrev pub fault_in : Layout → ℕ → List Block → Option BadImage
fault_in l ceiling g = fault_sized l ceiling (is_sized l g) g

-- a refusal if there is a fault, else the state
abbrev pub refused_or_at : Option BadImage → ℕ → State → Decoded
refused_or_at None epoch state = At epoch state
refused_or_at (Some bad) epoch state = Refused bad

-- what the parts of an image mean; with a commit block of zeros there is no checkpoint
abbrev pub meaning_of : Layout → ℕ → Bool → Block → Block → List Block → List Block → Decoded
meaning_of l ceiling sized header commit slot memory =
    if is_zero commit then Nothing
    else refused_or_at (fault_of l ceiling sized header commit slot) (epoch_of commit) (state_by l slot memory)

-- what blocks mean, which have the layout's number of blocks or not; and what an image means
abbrev pub decode_sized : Layout → ℕ → Bool → List Block → Decoded
decode_sized l ceiling sized g =
    meaning_of l ceiling sized (block_at g header_place) (block_at g commit_place) (slot_in l g) (memory_in l g)

unfoldable pub decode_by : Layout → ℕ → List Block → Decoded
decode_by l ceiling g = decode_sized l ceiling (is_sized l g) g

-- how images are read
abbrev pub reading : Layouts → Reading
reading layouts p ceiling g = decode_by (layouts p) ceiling g

-- the places that determine what an image with a checkpoint means
abbrev pub parts_of : Layout → Looking
parts_of l h =
    header_place ∷ commit_place
    ∷ (slot_places l (block_at h commit_place) ++ memory_places l (block_at h commit_place) (slot_in l h))

-- the places that determine what an image means: if there is no checkpoint, the commit block alone
unfoldable pub looked_by : Layout → Looking
looked_by l h = if is_zero (block_at h commit_place) then commit_place ∷ [] else parts_of l h

-- an image is the checkpoint of an epoch, with this state
pub record IsWhole (l : Layout) (ceiling : ℕ) (h : List Block) (epoch : ℕ) (state : State) : Type 0 where
  pub committed : is_zero (block_at h commit_place) ≡ false
  pub faultless : fault_in l ceiling h ≡ None
  pub of_epoch : epoch_of (block_at h commit_place) ≡ epoch
  pub state_is : state_by l (slot_in l h) (memory_in l h) ≡ state
