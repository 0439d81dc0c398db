use Rattle.std.proofs.Common.{◌≡◌, true, false, refl, sym, ◌∙◌, inl, inr, map, string_bytes}
use Rattle.thy_base.specs.declared.arguments.words.WordsError.TheVariants.{Usage}
use Rattle.thy_base.specs.Settings.{order_of}
use Rattle.sweep.specs.Naming.{is_refused}
use Rattle.sweep.proofs.SweptLemmas.{uncut_of, words_due}
use Rattle.sweep.proofs.top.sweep_words.Goals as goal

pub returns-in-Err : goal.returns-in-Err
returns-in-Err g c =
    inl (
      c.in-Err.error,
      inl (words_due (map string_bytes c.args.words.now) c.in-Err.error c.in-Err.ensures.exact),
      record { is_status = c.refuse.ensures.status; shelf = refl; device = refl; terminal = refl; closes = c.refuse.ensures.closes },
    )

pub returns-then-refused : goal.returns-then-refused
returns-then-refused g c =
    let why : is_refused c.args.out.now c.args.asked.now.torn (order_of c.in-Ok.command) ≡ true = sym c.is_refused-refused.ensures ∙ c.if-refused.true in
    inl (
      Usage,
      inr (order_of c.in-Ok.command, c.in-Ok.ensures.exact, why, refl),
      record {
        is_status = c.refuse-then-refused.ensures.status;
        shelf = refl;
        device = refl;
        terminal = refl;
        closes = c.refuse-then-refused.ensures.closes;
      },
    )

pub sweep_command-requires-clause-uncut : goal.sweep_command-requires-clause-uncut
sweep_command-requires-clause-uncut g c =
    uncut_of c.args.out.now c.args.asked.now.torn (order_of c.in-Ok.command) (sym c.is_refused-refused.ensures ∙ c.if-refused.false)

pub returns : goal.returns
returns g c =
    let free : is_refused c.args.out.now c.args.asked.now.torn (order_of c.in-Ok.command) ≡ false = sym c.is_refused-refused.ensures ∙ c.if-refused.false in
    inr (order_of c.in-Ok.command, c.in-Ok.ensures.exact, free, c.sweep_command.ensures)
