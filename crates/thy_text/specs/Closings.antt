-- Part of the claim.
-- The closing lines of a report, as bytes.
use Rattle.std.specs.Prelude.{ℕ, List, [], ◌∷◌, codes}
use Rattle.std.specs.Fmt.{decimal}
use Rattle.thy_base.specs.Options.{field_name}
use Rattle.thy_layout.specs.Refusals.{number_of, name_of}
use Rattle.thy_layout.specs.declared.bad_image.BadImage.{BadImage}
use Rattle.thy_layout.specs.declared.bad_image.BadImage.TheVariants.{TableIndex, TableTwice, BlockUnderPage, Count}
use Rattle.thy_text.specs.declared.closing.FetchFault.{FetchFault}
use Rattle.thy_text.specs.declared.closing.FetchFault.TheVariants.{Failed, Missing, TooLong}
use Rattle.thy_text.specs.declared.closing.Entries.{Entries}
use Rattle.thy_text.specs.declared.closing.Entries.TheVariants.{None as NoEntry, One, Two}
use Rattle.thy_text.specs.declared.closing.Closing.{Closing}
use Rattle.thy_text.specs.declared.closing.Closing.TheVariants.{Usage, Word, Value, Fetch, Put, File, FileAt, Image, Input, Terminal, Nvm, Limit, Memory}
use Rattle.thy_text.specs.Lines.{joined, line_feed}

-- why bytes could not be read
abbrev pub fault_text : FetchFault → List ℕ
fault_text Failed = codes " failed"
fault_text Missing = codes " missing"
fault_text TooLong = codes " too long"

-- the table entries that a refusal of an image names, or the byte of the counts
abbrev pub entries_of : BadImage → List ℕ
entries_of (TableIndex i) = i ∷ []
entries_of (TableTwice i k) = i ∷ k ∷ []
entries_of (BlockUnderPage i j) = i ∷ j ∷ []
entries_of (Count p) = p ∷ []
entries_of bad = []

-- entries as the program has them in hand
abbrev pub numbers_of : Entries → List ℕ
numbers_of NoEntry = []
numbers_of (One i) = i ∷ []
numbers_of (Two i k) = i ∷ k ∷ []

-- numbers, each after a blank, to the line's end
abbrev pub number_parts : List ℕ → List (List ℕ)
number_parts [] = line_feed ∷ []
number_parts (n ∷ ns) = codes " " ∷ decimal n ∷ number_parts ns

-- a refusal of something, in parts: its number, its name, and the numbers of what is at fault
abbrev pub refusal_parts : List ℕ → (number : ℕ) (name : List ℕ) → List ℕ → List (List ℕ)
refusal_parts what number name reported = what ∷ decimal number ∷ codes " " ∷ name ∷ number_parts reported

-- the refusal of an image
abbrev pub image_parts : BadImage → List (List ℕ)
image_parts bad = refusal_parts (codes "image ") (number_of bad) (name_of bad) (entries_of bad)

-- the closing line, in parts
abbrev pub closing_parts : Closing → List (List ℕ)
closing_parts Usage = codes "usage" ∷ line_feed ∷ []
closing_parts (Word field) = codes "word " ∷ field_name field ∷ line_feed ∷ []
closing_parts (Value field value) = codes "value " ∷ field_name field ∷ codes " " ∷ decimal value ∷ line_feed ∷ []
closing_parts (Fetch name fault) = codes "fetch " ∷ name.now ∷ fault_text fault ∷ line_feed ∷ []
closing_parts (Put name) = codes "put " ∷ name.now ∷ codes " failed" ∷ line_feed ∷ []
closing_parts (File number name) = refusal_parts (codes "file ") number name.now []
closing_parts (FileAt number name k) = refusal_parts (codes "file ") number name.now (k ∷ [])
closing_parts (Image bad) = image_parts bad
closing_parts (Input cursor length) = codes "input " ∷ decimal cursor ∷ codes " " ∷ decimal length ∷ line_feed ∷ []
closing_parts Terminal = codes "terminal failed" ∷ line_feed ∷ []
closing_parts Nvm = codes "nvm failed" ∷ line_feed ∷ []
closing_parts (Limit limit) = codes "limit " ∷ decimal limit ∷ line_feed ∷ []
closing_parts Memory = codes "memory" ∷ line_feed ∷ []

-- the closing line
abbrev pub closing_of : Closing → List ℕ
closing_of closing = joined (closing_parts closing)
