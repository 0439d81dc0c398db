-- Part of the claim.
-- A configuration's values with their ranges, in the order in which they are tested, and the first out of its range.
use Rattle.std.specs.Prelude.{ℕ, ◌+◌, ◌*◌, ◌^◌, List, [], ◌∷◌, ◌++◌, length, Option}
use Rattle.std.specs.List.{flat_map}
use Rattle.thy_base.specs.declared.config.Config.{Config}
use Rattle.thy_base.specs.declared.config.ConfigError.{ConfigError}
use Rattle.thy_base.specs.declared.config.Field.{Field}
use Rattle.thy_base.specs.declared.config.Field.TheVariants.{Base, Pages, Console, Epoch, Btt, Ptt, Sets, Ways, Nvmq, Dramq, High, Low, Mix, Cuts, Tears, Limit, Harts, Gap}
use Rattle.thy_base.specs.declared.options.Bounds.{Bounds}
use Rattle.thy_base.specs.declared.options.Bounds.TheVariants.{Any, AtMost, Between, Eights, PowerOfTwo, PageAddress, Below, AtMostOf}
use Rattle.thy_base.specs.declared.options.Value.{Value}
use Rattle.thy_base.specs.declared.options.Value.TheVariants.{Number, Rising, Picks, Name}
use Rattle.thy_base.specs.Options.{fields, option_of}
use Rattle.thy_base.specs.Rows.{Row, row, AreIn, fault_in}
use Rattle.thy_block.specs.declared.parameters.Parameters.{Parameters}
use Rattle.thy_block.specs.Ranges.{Range, any, above, below, at_most, between, multiple_of, divisor_of, both}

-- a configuration without its lists, and without the gap, which is not a number of the machine
abbrev pub parameters_of : Config → Parameters
parameters_of c = record {
  base = c.base;
  pages = c.pages;
  console = c.console;
  epoch = c.epoch;
  btt = c.btt;
  ptt = c.ptt;
  sets = c.sets;
  ways = c.ways;
  nvmq = c.nvmq;
  dramq = c.dramq;
  high = c.high;
  low = c.low;
  mix = c.mix;
  limit = c.limit;
  scheme = c.scheme;
  harts = c.harts;
}

-- the number that a field has; other fields have 0
abbrev pub number_of : Config → Field → ℕ
number_of c Base = c.base
number_of c Pages = c.pages
number_of c Console = c.console
number_of c Epoch = c.epoch
number_of c Btt = c.btt
number_of c Ptt = c.ptt
number_of c Sets = c.sets
number_of c Ways = c.ways
number_of c Nvmq = c.nvmq
number_of c Dramq = c.dramq
number_of c High = c.high
number_of c Low = c.low
number_of c Mix = c.mix
number_of c Limit = c.limit
number_of c Harts = c.harts
number_of c Gap = c.gap
number_of c _ = 0

-- a range of the table, with the numbers of the options that it names; the powers of two up to 64 are the divisors of 64
abbrev pub range_of : Config → Bounds → Range
range_of c Any = any
range_of c (AtMost greatest) = at_most greatest
range_of c (Between least greatest) = between least greatest
range_of c (Eights least greatest) = both (between least greatest) (multiple_of 8)
range_of c PowerOfTwo = both (between 1 64) (divisor_of 64)
range_of c PageAddress = both (multiple_of 4096) (below (2 ^ 62))
range_of c (Below least greatest other) = both (between least greatest) (below (number_of c other))
range_of c (AtMostOf other) = at_most (number_of c other)

-- each of these cuts is above the one before it
abbrev pub rising_rows : ℕ → List ℕ → List Row
rising_rows before [] = []
rising_rows before (n ∷ ns) = row Cuts n (above before) ∷ rising_rows n ns

-- cuts rise, the first from above a number
abbrev pub IsRising : ℕ → List ℕ → Type 0
IsRising before cuts = AreIn (rising_rows before cuts)

-- one kept image for each cut and one more fit the memory of the host
abbrev pub product_row : (pages cuts : ℕ) → Row
product_row pages cuts = row Cuts (pages * (cuts + 1)) (at_most 65536)

-- there are few cuts, they rise from above 0, and their images fit
abbrev pub cut_rows : Config → List Row
cut_rows c =
    row Cuts (length c.cuts) (at_most 64)
    ∷ rising_rows 0 c.cuts
    ++ product_row c.pages (length c.cuts) ∷ []

-- at most one pick more than cuts
abbrev pub pick_rows : Config → List Row
pick_rows c = row Tears (length c.tears) (at_most (length c.cuts + 1)) ∷ []

-- the rows of a field, by what its value is; every name of a scheme that is read is in its range
abbrev pub rows_by : Config → Field → Value → List Row
rows_by c f (Number default bounds) = row f (number_of c f) (range_of c bounds) ∷ []
rows_by c f Rising = cut_rows c
rows_by c f Picks = pick_rows c
rows_by c f Name = []

abbrev pub rows_at : Config → Field → List Row
rows_at c f = rows_by c f (option_of f).value

-- all rows, in the order in which they are tested
abbrev pub rows_of : Config → List Row
rows_of c = flat_map (rows_at c) fields

-- the first field out of its range
abbrev pub fault_of : Config → Option ConfigError
fault_of c = fault_in (rows_of c)
