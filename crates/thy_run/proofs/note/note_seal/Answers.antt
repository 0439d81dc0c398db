use Rattle.std.proofs.Common.{◌≡◌, ◌∙◌, ℕ, List, [], ◌∷◌, ◌++◌, OnOk, sym, subst}
use Rattle.thy_text.specs.Event.{EpochEnd}
use Rattle.thy_run.proofs.note.note_seal.Goals as goal

pub returns-clause-ok : goal.returns-clause-ok
returns-clause-ok c = λ o v ends.
    let P : List ℕ → Type 0 = λ t. OnOk c.push.result
    (c.push.new.self ≡ c.args.events.now ++ EpochEnd c.args.epoch c.args.count c.args.cause t ∷ []) in
    subst P (c.in_ok-turns.ensures ∙ sym ends) c.push.ensures.ok
