-- Part of the claim.
-- The options as a table: what each is called, what its value is, and which commands take it.
use Rattle.std.specs.Prelude.{ℕ, Bool, true, false, List, [], ◌∷◌, codes}
use Rattle.thy_base.specs.declared.config.Field.{Field}
use Rattle.thy_base.specs.declared.config.Field.TheVariants.{Base, Pages, Console, Epoch, Btt, Ptt, Sets, Ways, Nvmq, Dramq, High, Low, Mix, Cuts, Tears, Limit, Scheme, Harts, Gap, N}
use Rattle.thy_base.specs.declared.options.Bounds.TheVariants.{Any, AtMost, Between, Eights, PowerOfTwo, PageAddress, Below, AtMostOf}
use Rattle.thy_base.specs.declared.options.Commands.{Commands}
use Rattle.thy_base.specs.declared.options.Commands.TheVariants.{Operand, Runs, AlsoCompare, AlsoPlain}
use Rattle.thy_base.specs.declared.options.Value.{Value}
use Rattle.thy_base.specs.declared.options.Value.TheVariants.{Number, Rising, Picks, Name}

-- an option: its name, what its value is, and which commands take it
pub record OptionRow : Type 0 where
  pub name : List ℕ
  pub value : Value
  pub commands : Commands

abbrev pub option : List ℕ → Value → Commands → OptionRow
option name value commands = record { name = name; value = value; commands = commands }

-- the greatest number of which a program is made
abbrev pub most_number : ℕ
most_number = 4294967295

-- the options, in the order in which their values are read, and then tested
abbrev pub fields : List Field
fields = Base ∷ Pages ∷ Console ∷ Epoch ∷ Btt ∷ Ptt ∷ Sets ∷ Ways ∷ Nvmq ∷ Dramq ∷ High ∷ Low
    ∷ Mix ∷ Cuts ∷ Tears ∷ Limit ∷ Scheme ∷ Harts ∷ Gap ∷ []

-- The table: for each option its name, a number's default and range, and the commands. The number of a made program is an
-- operand.
abbrev pub option_of : Field → OptionRow
option_of Base = option (codes "base") (Number 65536 PageAddress) AlsoPlain
option_of Pages = option (codes "pages") (Number 256 (Between 8 65536)) AlsoPlain
option_of Console = option (codes "console") (Number 1 (Below 1 16 Pages)) AlsoPlain
option_of Epoch = option (codes "epoch") (Number 10000 (Between 1 1000000)) AlsoCompare
option_of Btt = option (codes "btt") (Number 512 (Eights 8 4096)) AlsoCompare
option_of Ptt = option (codes "ptt") (Number 64 (Eights 8 512)) AlsoCompare
option_of Sets = option (codes "sets") (Number 16 PowerOfTwo) AlsoCompare
option_of Ways = option (codes "ways") (Number 4 (Between 1 8)) AlsoCompare
option_of Nvmq = option (codes "nvmq") (Number 16 (Between 1 64)) AlsoCompare
option_of Dramq = option (codes "dramq") (Number 16 (Between 1 64)) AlsoCompare
option_of High = option (codes "high") (Number 22 (AtMost 63)) AlsoCompare
option_of Low = option (codes "low") (Number 16 (AtMostOf High)) AlsoCompare
option_of Mix = option (codes "mix") (Number 0 Any) AlsoCompare
option_of Cuts = option (codes "cuts") Rising Runs
option_of Tears = option (codes "tears") Picks Runs
option_of Limit = option (codes "limit") (Number 1000000000 (Between 1 1000000000000)) AlsoPlain
option_of Scheme = option (codes "scheme") Name Runs
option_of Harts = option (codes "harts") (Number 1 (Between 1 2)) AlsoCompare
option_of Gap = option (codes "gap") (Number 0 (AtMost 1000000)) AlsoCompare
option_of N = option (codes "n") (Number 0 (AtMost most_number)) Operand

-- the name of a field's option, and of the field in a refusal
abbrev pub field_name : Field → List ℕ
field_name f = (option_of f).name

-- the number that a field has if the arguments leave it out
abbrev pub default_of : Value → ℕ
default_of (Number default bounds) = default
default_of _ = 0

-- Commands of a kind take an option: `run`, `resume` and `bench` all options, `compare` those whose row names it or `plain`,
-- `plain` those whose row names it.
abbrev pub is_taken : (commands other : Commands) → Bool
is_taken Operand other = false
is_taken Runs Operand = false
is_taken Runs other = true
is_taken AlsoCompare Operand = false
is_taken AlsoCompare Runs = false
is_taken AlsoCompare other = true
is_taken AlsoPlain AlsoPlain = true
is_taken AlsoPlain other = false
