-- What the command that is named asks for.
use Rattle.std.proofs.Common.{◌≡◌, refl, sym, subst, ap₂, List, Option, Some, None, Result, Err, option_map}
use Rattle.std.specs.Box.{box_value}
use Rattle.std.specs.Option.{option_map_or}
use Rattle.clap.specs.Matches.{subcommand_name_of}
use Rattle.clap.specs.Simple.{subcommand_rows, subcommand_rows_of}
use Rattle.clap.specs.Walk.{Row, Text}
use Rattle.clap.specs.declared.parser.matches.ArgMatches.{ArgMatches}
use Rattle.clap.specs.declared.parser.matches.ArgMatches.TheViews.{out-ArgMatches, out-SubCommand}
use Rattle.thy_base.specs.Settings.{Answers, order_for, order_in, order_named, verb_of}
use Rattle.thy_base.specs.declared.arguments.verb.Verb.{Verb}
use Rattle.thy_base.specs.declared.arguments.words.Command.{Command}
use Rattle.thy_base.specs.declared.arguments.words.WordsError.{WordsError}
use Rattle.thy_base.specs.declared.arguments.words.WordsError.TheVariants.{Usage}

-- what is found, by its name and its rows
pub found_by : (found : Option (Text × List Row)) (name : Text) (rows : List Row)
    → Some name ≡ option_map (λ p. p.0) found → Some rows ≡ option_map (λ p. p.1) found → found ≡ Some (name, rows)
found_by None name rows n r = cc
found_by (Some p) name rows n r =
    let first : p.0 ≡ name = cc in
    let second : p.1 ≡ rows = cc in
    ap₂ (λ (x : Text) (y : List Row). Some (x, y)) first second

-- the name of what is found
pub name_found : (m : ArgMatches) → subcommand_name_of m ≡ option_map (λ p. p.0) (subcommand_rows_of m)
name_found m =
    elim (out-ArgMatches m).subcommand
    as (λ o. option_map (λ b. (out-SubCommand (box_value b)).name.now) o ≡ option_map (λ p. p.0) (subcommand_rows o)) [
      | None ↦ refl
      | Some b ↦ refl
    ]

-- the answer to what is found is that to its name
pub names_command : (found : Option (Text × List Row)) (name : Text) (rows : List Row) (answer : Result Command WordsError)
    → found ≡ Some (name, rows) → Answers (order_in (name, rows)) answer → Answers (order_named found) answer
names_command found name rows answer is answers =
    subst (λ (f : Option (Text × List Row)). Answers (order_named f) answer) (sym is) answers

-- the answer to a name is that to its command
pub answers_name : (name : Text) (rows : List Row) (verb : Option Verb) (answer : Result Command WordsError)
    → verb ≡ verb_of name → Answers (option_map_or (λ v. order_for v rows) verb (Err Usage)) answer → Answers (order_in (name, rows)) answer
answers_name name rows verb answer is answers =
    subst (λ (o : Option Verb). Answers (option_map_or (λ v. order_for v rows) o (Err Usage)) answer) is answers
