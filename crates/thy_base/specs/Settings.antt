-- Part of the claim.
-- What the arguments ask for.
use Rattle.std.specs.Prelude.{◌≡◌, ℕ, ◌≤◌, nat_le, Bool, false, List, [], Option, Some, None, Result, Ok, Err, codes, if◌then◌else◌}
use Rattle.std.specs.Prelude.{option_map, unwrap_or}
use Rattle.std.specs.Option.{option_map_or, option_or}
use Rattle.std.specs.Str.{bytes_eq}
use Rattle.std.specs.String.{string_bytes}
use Rattle.clap.specs.Walk.{Row, Text, first_of, is_empty}
use Rattle.clap.specs.Simple.{subcommand_of}
use Rattle.clap.specs.Faults.{fault_of as parse_fault}
use Rattle.thy_base.specs.Config.{fault_of as range_fault}
use Rattle.thy_base.specs.declared.config.Config.{Config}
use Rattle.thy_base.specs.declared.config.ConfigError.{ConfigError}
use Rattle.thy_base.specs.declared.config.Field.TheVariants.{N}
use Rattle.thy_base.specs.Options.{most_number}
use Rattle.thy_base.specs.Fields.{config_at, number_at, unreadable}
use Rattle.thy_base.specs.CommandLine.{program}
use Rattle.thy_base.specs.declared.arguments.verb.Verb.{Verb}
use Rattle.thy_base.specs.declared.arguments.verb.Verb.TheVariants.{Run, Resume, Bench, Compare, Plain, Make}
use Rattle.thy_base.specs.declared.arguments.words.Values.{Values}
use Rattle.thy_base.specs.declared.arguments.words.Job.{Job as JobStruct}
use Rattle.thy_base.specs.declared.arguments.words.Command.{Command}
use Rattle.thy_base.specs.declared.arguments.words.Command.TheVariants as command
use Rattle.thy_base.specs.declared.arguments.words.WordsError.{WordsError}
use Rattle.thy_base.specs.declared.arguments.words.WordsError.TheVariants.{Usage, Word, Value, Memory}

-- How a program is to be run: the configuration, the name of what it reads, the name under which what it leaves is
-- saved, and whether digests of memory are reported.
pub record Job : Type 0 where
  pub config : Config
  pub input : Option Text
  pub save : Option Text
  pub digest : Bool

-- What the arguments ask for: to run the program file of this name, to resume the image of this name, or to run the
-- program that is made from this number. Or to compare the runs of a program file by each scheme, to run one on the
-- plain machine, or to store the program that is made from this number under this name.
pub data Order : Type 0 where
  run : (file : Text) (job : Job) → Order
  resume : (image : Text) (job : Job) → Order
  bench : (number : ℕ) (job : Job) → Order
  compare : (file : Text) (job : Job) → Order
  plain : (file : Text) (job : Job) → Order
  make : (number : ℕ) (name : Text) → Order

-- what `clap` makes of the arguments: the command that they name, and what it finds for that command; None if it
-- refuses them
unfoldable pub named : List Text → Option (Text × List Row)
named words = if is_empty (parse_fault program words) then subcommand_of program words else None

-- what rows in which each field is readable give for the fields; what they leave out has its default
abbrev pub values_at : List Row → Values
values_at rows = record { number = number_at rows N; config = config_at rows }

-- the error for the number of a made program, if that is out of range
abbrev pub number_fault : ℕ → Option ConfigError
number_fault n = if nat_le n most_number then None else Some (record { field = N; value = n })

-- the first value that is out of range
abbrev pub value_fault : Values → Option ConfigError
value_fault v = option_or (number_fault v.number) (range_fault v.config)

-- the values, unless one is out of range
abbrev pub ranged : Values → Option ConfigError → Result Values WordsError
ranged v None = Ok v
ranged v (Some e) = Err (Value e.field e.value)

-- the values, or the first field that is unreadable, or else the first out of range
abbrev pub values_in : List Row → Result Values WordsError
values_in rows = option_map_or (λ f. Err (Word f))
    (unreadable rows) (ranged (values_at rows) (value_fault (values_at rows)))

-- the value of a required name, empty if it is missing
abbrev pub operand : Text → List Row → Text
operand name rows = unwrap_or (first_of name rows) []

-- a flag is among the arguments
abbrev pub has_flag : Text → List Row → Bool
has_flag name rows = option_map_or (λ t. bytes_eq t (codes "true")) (first_of name rows) false

-- how a program is to be run; what the command has no option for has its default
abbrev pub job_with : List Row → Config → Job
job_with rows config = record {
  config = config;
  input = first_of (codes "input") rows;
  save = first_of (codes "save") rows;
  digest = has_flag (codes "digest") rows;
}

-- what a command asks for, by its values
abbrev pub order_with : Verb → List Row → Values → Order
order_with Run rows v = run (operand (codes "FILE") rows) (job_with rows v.config)
order_with Resume rows v = resume (operand (codes "IMAGE") rows) (job_with rows v.config)
order_with Bench rows v = bench v.number (job_with rows v.config)
order_with Compare rows v = compare (operand (codes "FILE") rows) (job_with rows v.config)
order_with Plain rows v = plain (operand (codes "FILE") rows) (job_with rows v.config)
order_with Make rows v = make v.number (operand (codes "OUT") rows)

-- what a command asks for, by its values, or the refusal of its values
abbrev pub order_from : Verb → List Row → Result Values WordsError → Result Order WordsError
order_from verb rows (Ok v) = Ok (order_with verb rows v)
order_from verb rows (Err e) = Err e

abbrev pub order_for : Verb → List Row → Result Order WordsError
order_for verb rows = order_from verb rows (values_in rows)

-- the command of a name
abbrev pub verb_of : Text → Option Verb
verb_of name =
    if bytes_eq name (codes "run") then Some Run
    else if bytes_eq name (codes "resume") then Some Resume
    else if bytes_eq name (codes "bench") then Some Bench
    else if bytes_eq name (codes "compare") then Some Compare
    else if bytes_eq name (codes "plain") then Some Plain
    else if bytes_eq name (codes "make") then Some Make
    else None

-- what a command asks for, by its name and what is found for its arguments
abbrev pub order_in : Text × List Row → Result Order WordsError
order_in p = option_map_or (λ verb. order_for verb p.1) (verb_of p.0) (Err Usage)

abbrev pub order_named : Option (Text × List Row) → Result Order WordsError
order_named found = option_map_or order_in found (Err Usage)

-- the settings that the arguments ask for, the program's name first, or why they are refused
unfoldable pub settings_of : List Text → Result Order WordsError
settings_of words = order_named (named words)

-- the result shows exactly what is asked for, or is out of memory
abbrev pub ShowsOrMemory : {A B : Type 0} → (A → B) → Result B WordsError → Result A WordsError
    → Type 0
ShowsOrMemory shown asked (Ok x) = asked ≡ Ok (shown x)
ShowsOrMemory shown asked (Err (Memory e)) = Unit {0}
ShowsOrMemory shown asked (Err e) = asked ≡ Err e

-- the job that a value of the program's type describes
abbrev pub job_of : JobStruct → Job
job_of j = record {
  config = j.config;
  input = option_map string_bytes j.input;
  save = option_map string_bytes j.save;
  digest = j.digest;
}

-- a command as an order
abbrev pub order_of : Command → Order
order_of (command.Run file job) = run (string_bytes file) (job_of job)
order_of (command.Resume image job) = resume (string_bytes image) (job_of job)
order_of (command.Bench number job) = bench number (job_of job)
order_of (command.Compare file job) = compare (string_bytes file) (job_of job)
order_of (command.Plain file job) = plain (string_bytes file) (job_of job)
order_of (command.Make number name) = make number (string_bytes name)

abbrev pub Answers : Result Order WordsError → Result Command WordsError → Type 0
Answers = ShowsOrMemory order_of

-- the order's configuration and number are in range
abbrev pub IsInRange : Order → Type 0
IsInRange (run file job) = range_fault job.config ≡ None
IsInRange (resume image job) = range_fault job.config ≡ None
IsInRange (bench number job) = (range_fault job.config ≡ None) × (number ≤ most_number)
IsInRange (compare file job) = range_fault job.config ≡ None
IsInRange (plain file job) = range_fault job.config ≡ None
IsInRange (make number name) = number ≤ most_number
