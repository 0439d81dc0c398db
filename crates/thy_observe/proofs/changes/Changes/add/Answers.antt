use Rattle.std.proofs.Common.{◌≡◌, ◌+◌, Option, Vec, Global, List, map, subst, sym, ◌∙◌, length, length-append, ◌∷◌, [], arith}
use Rattle.thy_run.specs.Watching.{taken}
use Rattle.thy_observe.specs.declared.changes.Change.{Change}
use Rattle.thy_observe.specs.declared.changes.Dated.{Dated}
use Rattle.thy_observe.specs.Changes.{Adds, as_list, change_of, dated, lost_in}
use Rattle.thy_observe.proofs.ChangeLemmas.{changed-one}
use Rattle.thy_observe.proofs.changes.Changes.add.Goals as goal

pub returns : goal.returns
returns c = λ reported seen h.
    let t = taken c.args.stepped.now reported c.args.fell in
    let cycle = c.args.cycle in
    let now : cycle ≡ length seen + 1 = omega (arith, c.requires.2, c.requires.1.0, h.0) in
    let middle = c.listed_with-listed.result in
    let new = c.listed_with.result in
    let first = subst (λ (old : Option (Vec Dated Global)). Adds old middle (map (dated cycle) (as_list (change_of t.stepped.did)))) c.take.ensures.value
    (subst (λ (change : Option Change). Adds c.take.result middle (map (dated cycle) (as_list change))) c.change_of.ensures c.listed_with-listed.ensures.adds) in
    let last = subst (λ (changes : List Change). Adds middle new (map (dated cycle) changes)) c.lost_in.ensures c.listed_with.ensures.adds in
    (now ∙ sym (length-append seen (t ∷ [])), changed-one c.args.self.now.listed middle new seen t cycle first last now h.1)
