-- Part of the claim.
-- The header, block 0 of an image: what the image is, the geometry that it was made for, and the number of the scheme that
-- made it, which is below 256.
use Rattle.std.specs.Prelude.{ℕ, ◌+◌, ◌-◌, ◌*◌, Bool, ◌&&◌, ◌||◌, ◌==◌, List, [], ◌∷◌, Option, codes}
use Rattle.byteorder.specs.Endian.{little_number}
use Rattle.thy_block.specs.declared.block.Block.{Block}
use Rattle.thy_block.specs.declared.parameters.Parameters.{Parameters}
use Rattle.thy_block.specs.Demands.{asked, first_fault}
use Rattle.thy_layout.specs.declared.bad_image.BadImage.{BadImage}
use Rattle.thy_layout.specs.declared.bad_image.BadImage.TheVariants.{Header, Version, Geometry}
use Rattle.thy_block.specs.Words.{word_of, block_of}

-- the bytes THYNHDR1 as a number
abbrev pub header_magic : ℕ
header_magic = little_number 8 (codes "THYNHDR1")

-- what a header's last word says of the harts: 0 with one, 256 with two
abbrev pub harts_word : Parameters → ℕ
harts_word p = 256 * (p.harts - 1)

-- a header's last word: the number of the scheme, and the harts
abbrev pub last_word : ℕ → Parameters → ℕ
last_word scheme p = scheme + harts_word p

-- version 1 has no scheme and one hart, so its last word is 0
abbrev pub knows_version_one : ℕ → Parameters → Bool
knows_version_one scheme p = last_word scheme p == 0

-- the words of the header that is written: its name, version 2, the geometry, and the last word
abbrev pub header_words : ℕ → Parameters → List ℕ
header_words scheme p = header_magic ∷ 2 ∷ p.base ∷ p.pages ∷ p.console ∷ p.btt ∷ p.ptt ∷ last_word scheme p ∷ []

abbrev pub header_of : ℕ → Parameters → Block
header_of scheme p = block_of (header_words scheme p)

-- the header is of this geometry and of this scheme
abbrev pub is_of_geometry : ℕ → Block → Parameters → Bool
is_of_geometry scheme b p =
    (word_of b 2 == p.base && word_of b 3 == p.pages && word_of b 4 == p.console)
    && (word_of b 5 == p.btt && word_of b 6 == p.ptt && word_of b 7 == last_word scheme p)

-- the version of a header is 2, or 1 if that is known
abbrev pub is_of_version : ℕ → Parameters → Block → Bool
is_of_version scheme p b = word_of b 1 == 2 || (word_of b 1 == 1 && knows_version_one scheme p)

-- the first fault of a header; `long` says that the image has the length of this geometry
unfoldable pub header_fault : ℕ → Block → Parameters → Bool → Option BadImage
header_fault scheme b p long =
    first_fault (asked (word_of b 0 == header_magic) Header
    ∷ asked (is_of_version scheme p b) Version
    ∷ asked (is_of_geometry scheme b p && long) Geometry
    ∷ [])
