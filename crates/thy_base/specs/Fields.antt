-- Part of the claim.
-- The fields of a configuration as the arguments give them.
use Rattle.std.specs.Prelude.{ℕ, Bool, true, if◌then◌else◌, List, [], ◌∷◌, Option, Some, None, codes, find}
use Rattle.std.specs.Prelude.{not, is_some, option_and_then, unwrap_or}
use Rattle.std.specs.Option.{option_map_or}
use Rattle.std.specs.Str.{bytes_eq}
use Rattle.clap.specs.Walk.{Row, Text, first_of}
use Rattle.thy_base.specs.declared.config.Config.{Config}
use Rattle.thy_base.specs.declared.config.Field.{Field}
use Rattle.thy_base.specs.declared.config.Field.TheVariants.{Base, Pages, Console, Epoch, Btt, Ptt, Sets, Ways, Nvmq, Dramq, High, Low, Mix, Cuts, Tears, Limit, Scheme, Harts, Gap, N}
use Rattle.thy_block.specs.declared.parameters.SchemeName.{SchemeName}
use Rattle.thy_block.specs.declared.parameters.SchemeName.TheVariants.{Thynvm, Journal, Shadow}
use Rattle.thy_base.specs.declared.options.Value.{Value}
use Rattle.thy_base.specs.declared.options.Value.TheVariants.{Number, Rising, Picks, Name}
use Rattle.thy_base.specs.Options.{default_of, field_name, fields, option_of}
use Rattle.thy_base.specs.Numbers.{is_list, is_number, number_in, numbers_in}

-- the text of a field, if the arguments have its option
abbrev pub text_of : List Row → Field → Option Text
text_of rows f = first_of (field_name f) rows

-- the scheme of a name
abbrev pub scheme_named : Text → Option SchemeName
scheme_named name =
    if bytes_eq name (codes "thynvm") then Some Thynvm
    else if bytes_eq name (codes "journal") then Some Journal
    else if bytes_eq name (codes "shadow") then Some Shadow
    else None

-- the text is a value of this kind: a number, a list, or the name of a scheme
abbrev pub reads_as : Value → Text → Bool
reads_as (Number default bounds) t = is_number t
reads_as Rising t = is_list t
reads_as Picks t = is_list t
reads_as Name t = is_some (scheme_named t)

-- the text is a value of the field
abbrev pub reads : Field → Text → Bool
reads f t = reads_as (option_of f).value t

-- the arguments leave the field out, or give it a value
abbrev pub is_readable : List Row → Field → Bool
is_readable rows f = option_map_or (reads f) (text_of rows f) true

-- the first of these fields whose text is not a value of it
abbrev pub unreadable_among : List Field → List Row → Option Field
unreadable_among fs rows = find (λ f. not (is_readable rows f)) fs

-- the first field whose text is not a value of it; the number of a made program comes before the options
abbrev pub unreadable : List Row → Option Field
unreadable rows = unreadable_among (N ∷ fields) rows

-- the number of a field, or its default if the arguments leave it out
abbrev pub number_at : List Row → Field → ℕ
number_at rows f = unwrap_or (option_and_then number_in (text_of rows f)) (default_of (option_of f).value)

-- the list of a field, empty if the arguments leave it out
abbrev pub list_at : List Row → Field → List ℕ
list_at rows f = option_map_or numbers_in (text_of rows f) []

-- the scheme, `Thynvm` if the arguments leave it out
abbrev pub scheme_at : List Row → SchemeName
scheme_at rows = unwrap_or (option_and_then scheme_named (text_of rows Scheme)) Thynvm

-- the configuration of rows in which each field is readable
abbrev pub config_at : List Row → Config
config_at rows = record {
  base = number_at rows Base;
  pages = number_at rows Pages;
  console = number_at rows Console;
  epoch = number_at rows Epoch;
  btt = number_at rows Btt;
  ptt = number_at rows Ptt;
  sets = number_at rows Sets;
  ways = number_at rows Ways;
  nvmq = number_at rows Nvmq;
  dramq = number_at rows Dramq;
  high = number_at rows High;
  low = number_at rows Low;
  mix = number_at rows Mix;
  cuts = list_at rows Cuts;
  tears = list_at rows Tears;
  limit = number_at rows Limit;
  scheme = scheme_at rows;
  harts = number_at rows Harts;
  gap = number_at rows Gap;
}
