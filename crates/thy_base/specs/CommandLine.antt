-- Part of the claim.
-- The program's command line, as data: the description of it that `clap` is given.
use Rattle.std.specs.Prelude.{◌≡◌, ◌++◌, Some, true, false, List, [], ◌∷◌, codes, fold, filter, map, if◌then◌else◌}
use Rattle.clap.specs.Walk.{Rule, Text, rule_of}
use Rattle.clap.specs.Simple.{App, app_of, new_app, new_rule, new_shape, with_rule}
use Rattle.clap.specs.Simple.{with_subcommand}
use Rattle.clap.specs.declared.builder.action.ArgAction.TheVariants.{SetTrue}
use Rattle.clap.specs.declared.builder.arg.Arg.{Arg}
use Rattle.clap.specs.declared.builder.command.Command.{Command}
use Rattle.clap.specs.declared.builder.command.Command.TheViews.{out-Command}
use Rattle.thy_base.specs.declared.arguments.command_line.Argument.{Argument}
use Rattle.thy_base.specs.declared.arguments.command_line.Argument.TheVariants.{Operand, Valued, Flag}
use Rattle.thy_base.specs.declared.config.Field.{Field}
use Rattle.thy_base.specs.declared.options.Commands.{Commands}
use Rattle.thy_base.specs.declared.options.Commands.TheVariants.{Runs, AlsoCompare, AlsoPlain}
use Rattle.thy_base.specs.Options.{field_name, fields, is_taken, option_of}

-- a name that is required at its position
abbrev pub operand_rule : Text → Rule
operand_rule name = record (new_rule name) { required = true }

-- an option `--name value` or `--name=value`, which may be given at most once
abbrev pub option_rule : Text → Rule
option_rule name = record (new_rule name) { long = Some name }

-- a flag `--name`, which may be given at most once and takes no value
abbrev pub flag_rule : Text → Rule
flag_rule name = record (new_rule name) { long = Some name; action = Some SetTrue }

-- the rule of an argument, as `clap` is given it
abbrev pub rule_for : Argument → Rule
rule_for (Operand name) = operand_rule name.now
rule_for (Valued name) = option_rule name.now
rule_for (Flag name) = flag_rule name.now

abbrev pub with_argument : App → Argument → App
with_argument a x = with_rule a (rule_for x)

-- a description of arguments with an option for a field of the table, if commands like this one take it
abbrev pub with_field : Commands → App → Field → App
with_field commands a f =
    if is_taken commands (option_of f).commands then with_rule a (option_rule (field_name f)) else a

-- the options of the table that commands like these take
abbrev pub taken_by : Commands → List Field
taken_by commands = filter (λ f. is_taken commands (option_of f).commands) fields

-- a command that begins with this operand
abbrev pub begun : Text → Text → App
begun name first = with_rule (new_app name) (operand_rule first)

-- a command: it takes these operands, an option for each of these fields and of these names, and these flags
abbrev pub command_of : Text → (operands : List Text) → List Field → (names flags : List Text) → App
command_of name operands fs names flags = fold with_rule (new_app name)
    (map operand_rule operands ++ map option_rule (map field_name fs ++ names) ++ map flag_rule flags)

-- a command that runs the machine: it takes every option of the table, one for what is read, and one for what is saved
abbrev pub run_of : Text → (operand : Text) → App
run_of name operand =
    command_of name (operand ∷ []) (taken_by Runs) (codes "input" ∷ codes "save" ∷ []) (codes "digest" ∷ [])

-- the commands, each with the options that the table says
abbrev pub commands : List App
commands =
    run_of (codes "run") (codes "FILE")
    ∷ run_of (codes "resume") (codes "IMAGE")
    ∷ run_of (codes "bench") (codes "n")
    ∷ command_of (codes "compare") (codes "FILE" ∷ []) (taken_by AlsoCompare) (codes "input" ∷ []) (codes "digest" ∷ [])
    ∷ command_of (codes "plain") (codes "FILE" ∷ []) (taken_by AlsoPlain) (codes "input" ∷ []) (codes "digest" ∷ [])
    ∷ command_of (codes "make") (codes "n" ∷ codes "OUT" ∷ []) [] [] []
    ∷ []

-- the program: one of its commands has to be named, and no argument asks for help
abbrev pub bare : App
bare = record {
  top = record (new_shape (codes "thynvm")) {
    subcommand_required = true;
    disable_help_flag = true;
    disable_help_subcommand = true;
  };
  subs = [];
}

-- the program with its commands
abbrev pub program : App
program = fold (λ p c. with_subcommand p c.top) bare commands

-- the argument has this rule, and is its command's alone
pub record IsArg (a : Arg) (r : Rule) : Type 0 where
  pub rule : rule_of a ≡ r
  pub local : a.global ≡ false

-- the command is this one, with no argument that its subcommands share
pub record IsBuilt (c : Command) (a : App) : Type 0 where
  pub app : app_of c ≡ a
  pub local : (out-Command c).has_globals ≡ false
