use Rattle.std.proofs.Common.{◌≡◌, ◌++◌, ◌∷◌, [], subst}
use Rattle.std.specs.Prelude.{OnOk}
use Rattle.thy_text.specs.Event.{Scheme}
use Rattle.thy_commands.proofs.ComparingLaws.{emptied, kept_both, kept_room, made_room}
use Rattle.thy_commands.proofs.comparing.make_room.Goals as goal

pub returns-in_err-append-clause-kept : goal.returns-in_err-append-clause-kept
returns-in_err-append-clause-kept c =
    kept_both c.from_residual.result c.args.earlier.now c.append.new.self c.args.last.now c.append.new.more
    c.in_err-append.ensures.err.0 c.in_err-append.ensures.err.1

pub returns-clause-made : goal.returns-clause-made
returns-clause-made c = made_room c.push.result _ _ _ _ c.in_ok-append.ensures.ok.0
    (subst (λ n. OnOk c.push.result (c.push.new.self ≡ c.append.new.self ++ Scheme n ∷ [])) c.number.ensures c.push.ensures.ok)

pub returns-clause-emptied : goal.returns-clause-emptied
returns-clause-emptied c = emptied c.push.result _ c.in_ok-append.ensures.ok.1

pub returns-clause-kept : goal.returns-clause-kept
returns-clause-kept c = kept_room c.push.result _ _ _ _ c.in_ok-append.ensures.ok.0 c.in_ok-append.ensures.ok.1 c.push.ensures.err
