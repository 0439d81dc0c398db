-- Part of the claim.
-- What the refusals of an image are called.
use Rattle.std.specs.Prelude.{ℕ, List, codes}
use Rattle.thy_layout.specs.declared.bad_image.BadImage.{BadImage}
use Rattle.thy_layout.specs.declared.bad_image.BadImage.TheVariants.{Empty, Header, Version, Geometry, Commit, TableIndex, TableTwice, BlockUnderPage, Status, ConsoleLength, Count, Second}

-- the number and the name of each
abbrev pub called : BadImage → ℕ × List ℕ
called Empty = (1, codes "Empty")
called Header = (2, codes "Header")
called Version = (3, codes "Version")
called Geometry = (4, codes "Geometry")
called Commit = (5, codes "Commit")
called (TableIndex i) = (6, codes "TableIndex")
called (TableTwice i k) = (7, codes "TableTwice")
called (BlockUnderPage i j) = (8, codes "BlockUnderPage")
called Status = (9, codes "Status")
called ConsoleLength = (10, codes "ConsoleLength")
called (Count p) = (11, codes "Count")
called Second = (12, codes "Second")

abbrev pub number_of : BadImage → ℕ
number_of bad = (called bad).0

abbrev pub name_of : BadImage → List ℕ
name_of bad = (called bad).1
