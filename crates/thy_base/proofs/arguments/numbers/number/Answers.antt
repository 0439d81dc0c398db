use Rattle.std.proofs.Common.{rules, arith, ◌≡◌, ◌∙◌, ◌<◌, ◌≤◌, ◌^◌, ℕ, true, sym, ap, cond, List, length, nat_le, nat_lt, Some, None, Result}
use Rattle.std.specs.Char.{is_ascii_digit}
use Rattle.std.specs.List.{list_all}
use Rattle.std.specs.Result.{result_ok}
use Rattle.std.specs.Str.Parse.{ParsesUnsigned, digits_value}
use Rattle.std.proofs.lemmas.Str.Parse.{IsDigitsTest, IsNumeralModel, digits_value_short, numerals_by_value, parse_gives}
use Rattle.clap.proofs.WalkLemmas.{both}
use borrow.Author.Tests.{ltb-true, leb-true}
use Rattle.thy_base.specs.Numbers.{is_number, number_in}
use Rattle.thy_base.proofs.arguments.numbers.number.Goals as goal

are_digits : IsDigitsTest (λ ds. list_all is_ascii_digit ds ≡ true)
are_digits = search rules

own : IsNumeralModel (λ ds. list_all is_ascii_digit ds ≡ true) (digits_value 10)
own = numerals_by_value _ are_digits

-- at a text that is a number, `parse` gives it
parses : {E : Type 0} (t : List ℕ) (r : Result ℕ E) → is_number t ≡ true → ParsesUnsigned 64 10 t r → result_ok r ≡ number_in t
unfolding is_number number_in
parses t r e h =
    let parts = both (nat_lt 0 (length t)) _ e in
    let rest = both (nat_le (length t) 19) _ parts.1 in
    let some : 0 < length t = ltb-true _ _ parts.0 in
    let short : length t ≤ 19 = leb-true _ _ rest.0 in
    let bound : digits_value 10 t < 10 ^ 19 = digits_value_short own t 19 rest.1 short in
    let fits : digits_value 10 t < 2 ^ 64 = omega (arith, bound) in
    ap result_ok (parse_gives own 64 t r h rest.1 some fits) ∙ sym (ap (λ b. cond b (Some (digits_value 10 t)) None) e)

pub returns-then-is_number : goal.returns-then-is_number
returns-then-is_number c =
    c.ok.ensures.value ∙ parses c.args.text.now c.parse.result (sym c.is_number.ensures ∙ c.if-is_number.true) c.parse.ensures.value.0
