-- The values that the words ask for are in range.
use Rattle.std.proofs.Common.{◌≡◌, ◌≤◌, ℕ, Bool, true, false, cond, nat_le, refl, subst, List, Option, Some, None, Result, Ok, Err, IfOk}
use Rattle.std.specs.Option.{option_map_or, option_or}
use Rattle.clap.specs.Walk.{Row, Text}
use Rattle.thy_base.specs.Config.{fault_of}
use Rattle.thy_base.specs.declared.config.ConfigError.{ConfigError}
use Rattle.thy_base.specs.declared.config.Field.{Field}
use Rattle.thy_base.specs.declared.config.Field.TheVariants.{N}
use Rattle.thy_base.specs.Options.{most_number}
use Rattle.thy_base.specs.Fields.{unreadable}
use Rattle.thy_base.specs.Settings.{Answers, IsInRange, Order, named, number_fault, order_for, order_from, order_named, order_of, order_with, ranged, settings_of, value_fault, values_at, values_in, verb_of}
use Rattle.thy_base.specs.declared.arguments.verb.Verb.{Verb}
use Rattle.thy_base.specs.declared.arguments.verb.Verb.TheVariants.{Run, Resume, Bench, Compare, Plain, Make}
use Rattle.thy_base.specs.declared.arguments.words.Values.{Values}
use Rattle.thy_base.specs.declared.arguments.words.Command.{Command}
use Rattle.thy_base.specs.declared.arguments.words.WordsError.{WordsError}
use Rattle.thy_base.specs.declared.arguments.words.WordsError.TheVariants.{Usage, Word}
use borrow.Author.Tests.{leb-true}

-- values are in range
record AreInRange (v : Values) : Type 0 where
  number : v.number ≤ most_number
  config : fault_of v.config ≡ None

-- if the first fault of two is none, neither has one
both-None : (a b : Option ConfigError) → option_or a b ≡ None → (a ≡ None) × (b ≡ None)
both-None None b h = (refl, h)
both-None (Some f) b h = absurd (cc)

number-in_range : (n : ℕ) → number_fault n ≡ None → n ≤ most_number
number-in_range n = go (nat_le n most_number) (record { field = N; value = n }) refl
  where
    go : (b : Bool) (f : ConfigError) → nat_le n most_number ≡ b → cond b None (Some f) ≡ None → n ≤ most_number
    go true f e h = leb-true n most_number e
    go false f e h = absurd (cc)

faultless : (v : Values) → value_fault v ≡ None → AreInRange v
faultless v h =
    let parts = both-None (number_fault v.number) (fault_of v.config) h in
    record { number = number-in_range v.number parts.0; config = parts.1 }

values_in-range : (rows : List Row) (v : Values) → values_in rows ≡ Ok v → AreInRange v
values_in-range rows v = go (unreadable rows) (values_at rows) (value_fault (values_at rows)) refl
  where
    go : (u : Option Field) (w : Values) (o : Option ConfigError) → value_fault w ≡ o
        → option_map_or (λ f. Err (Word f)) u (ranged w o) ≡ Ok v → AreInRange v
    go None w None e h = let same : w ≡ v = cc in subst AreInRange same (faultless w e)
    go None w (Some f) e h = absurd (cc)
    go (Some f) w o e h = absurd (cc)

-- an order with values in range
order_with-range : (verb : Verb) (rows : List Row) (v : Values) → AreInRange v → IsInRange (order_with verb rows v)
order_with-range Run rows v h = h.config
order_with-range Resume rows v h = h.config
order_with-range Bench rows v h = (h.config, h.number)
order_with-range Compare rows v h = h.config
order_with-range Plain rows v h = h.config
order_with-range Make rows v h = h.number

order_for-range : (verb : Verb) (rows : List Row) (o : Order) → order_for verb rows ≡ Ok o → IsInRange o
order_for-range verb rows o = go (values_in rows) refl
  where
    go : (r : Result Values WordsError) → values_in rows ≡ r → order_from verb rows r ≡ Ok o → IsInRange o
    go (Ok v) e h = let same : order_with verb rows v ≡ o = cc in subst IsInRange same (order_with-range verb rows v (values_in-range rows v e))
    go (Err f) e h = absurd (cc)

order_named-range : (found : Option (Text × List Row)) (o : Order) → order_named found ≡ Ok o → IsInRange o
order_named-range None o h = absurd (cc)
order_named-range (Some p) o h = go (verb_of p.0) h
  where
    go : (verb : Option Verb) → option_map_or (λ w. order_for w p.1) verb (Err Usage) ≡ Ok o → IsInRange o
    go None h = absurd (cc)
    go (Some verb) h = order_for-range verb p.1 o h

-- an answer that is exact has its values in range
pub answers-range : (words : List Text) (r : Result Command WordsError) → Answers (settings_of words) r
    → IfOk r (λ c. IsInRange (order_of c))
unfolding settings_of
answers-range words (Ok c) h = order_named-range (named words) (order_of c) h
answers-range words (Err e) h = tt
