use Rattle.std.proofs.Common.{◌≡◌, ◌∙◌, ◌⊎◌, ap, sym, subst, refl, arith, Bool, true, false, cond, List, [], ◌∷◌, map, None, Err, alloc_error, inl, inr, ne_eqb}
use Rattle.std.specs.String.{string_bytes}
use Rattle.clap.specs.Walk.{Text, is_empty}
use Rattle.clap.specs.Simple.{app_of, is_simple, subcommand_of, subcommand_rows_of}
use Rattle.clap.specs.Faults.{fault_of, is_simple_and_free}
use Rattle.clap.specs.Kinds.{HasKind, IsAmong, Kinds}
use Rattle.clap.specs.Values.{kind_of}
use Rattle.clap.specs.declared.error.kind.ErrorKind.{ErrorKind}
use Rattle.clap.specs.declared.error.kind.ErrorKind.TheVariants.{OutOfMemory}
use Rattle.clap.proofs.OnLiterals.{clap_on_literals}
use Rattle.thy_base.specs.CommandLine.{program}
use Rattle.thy_base.specs.Refused.{is_out_of_memory, refused}
use Rattle.thy_base.specs.Settings.{Answers, named, order_named, settings_of}
use Rattle.thy_base.specs.declared.arguments.words.WordsError.TheVariants.{Usage, Memory}
use Rattle.thy_base.proofs.InRange.{answers-range}
use Rattle.thy_base.proofs.arguments.words.settings.Goals as goal

is_simple_program : is_simple program ≡ true
unfolding clap_on_literals
is_simple_program = refl

is_free_program : is_simple_and_free program ≡ true
unfolding clap_on_literals
is_free_program = refl

-- if `clap` finds no fault, the words name a subcommand or none
named_without_fault : (ws : List Text) → fault_of program ws ≡ [] → subcommand_of program ws ≡ named ws
unfolding named
named_without_fault ws e = sym (ap (λ k. cond (is_empty k) (subcommand_of program ws) None) e)

not_empty : (k : ErrorKind) (kinds : Kinds) → IsAmong k kinds → is_empty kinds ≡ false
not_empty k [] h = absurd h
not_empty k (x ∷ xs) h = ne_eqb _ _ (λ e. omega arith)

-- if `clap` finds a fault, the words name no command
refused_with_fault : (k : ErrorKind) (ws : List Text) → IsAmong k (fault_of program ws) → Err Usage ≡ settings_of ws
unfolding named settings_of
refused_with_fault k ws h = sym (ap (λ b. order_named (cond b (subcommand_of program ws) None)) (not_empty k (fault_of program ws) h))

usage_or_memory : (b : Bool) → Answers (Err Usage) (Err (cond b (Memory alloc_error) Usage))
usage_or_memory true = tt
usage_or_memory false = refl

refused_answers : (k : ErrorKind) (ws : List Text) → (k ≡ OutOfMemory) ⊎ IsAmong k (fault_of program ws)
    → Answers (settings_of ws) (Err (refused k))
refused_answers k ws (inl e) = subst (λ j. Answers (settings_of ws) (Err (refused j))) (sym e) tt
refused_answers k ws (inr h) = subst (λ a. Answers a (Err (refused k))) (refused_with_fault k ws h) (usage_or_memory (is_out_of_memory k))

pub returns-in-Ok-try_get_matches_from : goal.returns-in-Ok-try_get_matches_from
unfolding settings_of
returns-in-Ok-try_get_matches_from c =
    let parsed = c.in-Ok-try_get_matches_from.ensures in
    let ws = map string_bytes c.args.words.now in
    let app_is : app_of c.in-Ok.program ≡ program = c.in-Ok.ensures in
    let no_fault : fault_of program ws ≡ [] = ap (λ a. fault_of a ws) (sym app_is) ∙ parsed.kinds (ap is_simple_and_free app_is ∙ is_free_program) in
    let rows_are : subcommand_rows_of c.in-Ok-try_get_matches_from.matches ≡ named ws =
    (parsed.matches (ap is_simple app_is ∙ is_simple_program)).1 ∙ ap (λ a. subcommand_of a ws) app_is ∙ named_without_fault ws no_fault in
    let exact : Answers (settings_of ws) c.order.result = subst (λ o. Answers (order_named o) c.order.result) rows_are c.order.ensures.exact in
    record { exact = exact; in_range = answers-range ws c.order.result exact }

pub returns-in-Err-try_get_matches_from-clause-exact : goal.returns-in-Err-try_get_matches_from-clause-exact
returns-in-Err-try_get_matches_from-clause-exact c =
    let error = c.in-Err-try_get_matches_from.error in
    let ws = map string_bytes c.args.words.now in
    let app_is : app_of c.in-Ok.program ≡ program = c.in-Ok.ensures in
    let fails : HasKind (fault_of program ws) error =
    subst (λ a. HasKind (fault_of a ws) error) app_is
    (c.in-Err-try_get_matches_from.ensures.kinds (ap is_simple_and_free app_is ∙ is_free_program)) in
    subst (λ e. Answers (settings_of ws) (Err e)) (sym c.refused.ensures) (refused_answers (kind_of error) ws fails)
