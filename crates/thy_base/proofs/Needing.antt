-- Memory runs out only where it is asked for.
use Rattle.std.proofs.Common.{◌≡◌, sym, subst, List, Option, Some, None, Result, Ok, Err, IfErr}
use Rattle.std.specs.declared.alloc.AllocError.{AllocError}
use Rattle.std.specs.Option.{option_map_or}
use Rattle.clap.specs.Walk.{Row, Text}
use Rattle.thy_base.specs.declared.config.ConfigError.{ConfigError}
use Rattle.thy_base.specs.declared.config.Field.{Field}
use Rattle.thy_base.specs.Fields.{unreadable}
use Rattle.thy_base.specs.Refused.{NeedsMemory}
use Rattle.thy_base.specs.Settings.{order_for, order_from, order_in, order_named, ranged, value_fault, values_at, values_in, verb_of}
use Rattle.thy_base.specs.declared.arguments.verb.Verb.{Verb}
use Rattle.thy_base.specs.declared.arguments.words.Values.{Values}
use Rattle.thy_base.specs.declared.arguments.words.WordsError.{WordsError}
use Rattle.thy_base.specs.declared.arguments.words.WordsError.TheVariants.{Usage, Word, Value, Memory}

-- if all fields are readable, the values need memory
pub readable-memory : (rows : List Row) (e : AllocError) → None ≡ unreadable rows → NeedsMemory (values_in rows) (Memory e)
readable-memory rows e is = go (unreadable rows) (values_at rows) (value_fault (values_at rows)) is
  where
    go : (u : Option Field) (v : Values) (o : Option ConfigError) → None ≡ u
        → NeedsMemory (option_map_or (λ f. Err (Word f)) u (ranged v o)) (Memory e)
    go None v None is = (λ h. absurd (cc), λ f h. absurd (cc))
    go None v (Some fault) is = (λ h. absurd (cc), λ f h. absurd (cc))
    go (Some f) v o is = absurd (cc)

-- an order needs it if its values do
pub order_from-memory : (verb : Verb) (rows : List Row) (values : Result Values WordsError) (e : WordsError)
    → NeedsMemory values e → NeedsMemory (order_from verb rows values) e
order_from-memory verb rows (Ok v) (Memory e) h = (λ q. absurd (cc), λ f q. absurd (cc))
order_from-memory verb rows (Err why) (Memory e) h = (λ q. h.0 (cc), λ f q. h.1 f (cc))
order_from-memory verb rows values Usage h = tt
order_from-memory verb rows values (Word f) h = tt
order_from-memory verb rows values (Value f v) h = tt

-- memory may run out in an order whose values are there
pub order_from-Ok : (verb : Verb) (rows : List Row) (values : Result Values WordsError) (v : Values) (e : AllocError)
    → values ≡ Ok v → NeedsMemory (order_from verb rows values) (Memory e)
order_from-Ok verb rows values v e is =
    subst (λ r. NeedsMemory (order_from verb rows r) (Memory e)) (sym is) (λ q. absurd (cc), λ f q. absurd (cc))

-- what is asked for by a command's name, and by what is found
pub name-memory : {A : Type 0} (name : Text) (rows : List Row) (verb : Verb) (r : Result A WordsError) → Some verb ≡ verb_of name
    → IfErr r (NeedsMemory (order_for verb rows)) → IfErr r (NeedsMemory (order_in (name, rows)))
name-memory name rows verb r is h =
    subst (λ (o : Option Verb). IfErr r (NeedsMemory (option_map_or (λ v. order_for v rows) o (Err Usage)))) is h

pub found-memory : {A : Type 0} (found : Option (Text × List Row)) (name : Text) (rows : List Row) (r : Result A WordsError)
    → found ≡ Some (name, rows) → IfErr r (NeedsMemory (order_in (name, rows))) → IfErr r (NeedsMemory (order_named found))
found-memory found name rows r is h =
    subst (λ (f : Option (Text × List Row)). IfErr r (NeedsMemory (order_named f))) (sym is) h
