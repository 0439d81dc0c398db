-- Part of the claim.
-- The commit block, block 1 of an image: the epoch of the committed checkpoint, and the layout version of its slot.
use Rattle.std.specs.Prelude.{ℕ, Bool, ◌&&◌, ◌||◌, ◌==◌, nat_lt, if◌then◌else◌, List, [], ◌∷◌, Option, bytes_eq, codes, ◌%◌}
use Rattle.byteorder.specs.Endian.{little_number}
use Rattle.thy_block.specs.declared.block.Block.{Block}
use Rattle.thy_block.specs.declared.parameters.Parameters.{Parameters}
use Rattle.thy_layout.specs.declared.layout_version.LayoutVersion.{LayoutVersion}
use Rattle.thy_layout.specs.declared.layout_version.LayoutVersion.TheVariants.{VersionOne, VersionTwo}
use Rattle.thy_block.specs.Demands.{asked, first_fault}
use Rattle.thy_layout.specs.declared.bad_image.BadImage.{BadImage}
use Rattle.thy_layout.specs.declared.bad_image.BadImage.TheVariants.{Commit}
use Rattle.thy_layout.specs.Header.{knows_version_one}
use Rattle.thy_block.specs.Device.{zero_block}
use Rattle.thy_block.specs.Words.{word_of, block_of}

-- the bytes THYNCMT1 or THYNCMT2 as a number
abbrev pub commit_magic : LayoutVersion → ℕ
commit_magic VersionOne = little_number 8 (codes "THYNCMT1")
commit_magic VersionTwo = little_number 8 (codes "THYNCMT2")

-- a name, an epoch, and six zeros
abbrev pub named_words : ℕ → ℕ → List ℕ
named_words name epoch = name ∷ epoch ∷ 0 ∷ 0 ∷ 0 ∷ 0 ∷ 0 ∷ 0 ∷ []

-- the commit block of a name and an epoch
abbrev pub named_block : ℕ → ℕ → Block
named_block name epoch = block_of (named_words name epoch)

-- the words of a commit block that is written today, of version 2, and the block
abbrev pub commit_words : ℕ → List ℕ
commit_words epoch = named_words (commit_magic VersionTwo) epoch

abbrev pub commit_of : ℕ → Block
commit_of epoch = block_of (commit_words epoch)

-- whether a commit block is the block of zeros: if so there is no checkpoint
unfoldable pub is_zero : Block → Bool
is_zero b = bytes_eq b.0 zero_block.0

-- the epoch that a commit block names
abbrev pub epoch_of : Block → ℕ
epoch_of b = word_of b 1

-- the slot of an epoch's checkpoint, 0 or 1: two epochs in a row have different ones
abbrev pub slot_of_epoch : ℕ → ℕ
slot_of_epoch epoch = epoch % 2

-- the version of the slot that a commit block names; there is a slot of version 1 only if that version is known
abbrev pub version_of : ℕ → Parameters → Block → LayoutVersion
version_of scheme p b = if word_of b 0 == commit_magic VersionOne && knows_version_one scheme p then VersionOne else VersionTwo

-- a commit block names a version; version 1 only after a header of version 1
abbrev pub is_named : Block → Block → Bool
is_named header b = word_of b 0 == commit_magic VersionTwo || (word_of b 0 == commit_magic VersionOne && word_of header 1 == 1)

-- a commit block has nothing but a name and an epoch: the words after them are zero
unfoldable pub has_zero_rest : Block → Bool
has_zero_rest b = bytes_eq b.0 (named_block (word_of b 0) (epoch_of b)).0

-- the fault of a commit block after a header; epochs are below the ceiling
unfoldable pub commit_fault : Block → Block → ℕ → Option BadImage
commit_fault header b ceiling =
    first_fault (asked ((is_named header b && nat_lt (epoch_of b) ceiling) && has_zero_rest b) Commit ∷ [])
