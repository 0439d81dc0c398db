use Rattle.std.proofs.Common.{◌+◌, ◌&&◌, not, ℕ, Option, List, [], ◌∷◌, ◌++◌, replicate, sym, ◌∙◌, ap}
use Rattle.thy_hart.specs.declared.hand.HartStep.{HartStep}
use Rattle.thy_computer.specs.declared.did.Advance.{Advance}
use Rattle.thy_computer.specs.declared.did.Advance.TheVariants.{Moved}
use Rattle.thy_scheme.specs.MachineCalls.{retires_by}
use Rattle.thy_core.specs.MachineParts.{machine_of}
use Rattle.thy_core.specs.Row.{advances_by, after_row, ends_epoch}
use Rattle.thy_core.proofs.RowLaws.{advance_is, moved-more}
use Rattle.thy_core.proofs.hart.count_row.Goals as goal

-- only moves
pub returns-in-None-clause-parts : goal.returns-in-None-clause-parts
returns-in-None-clause-parts g c =
    let m = machine_of c.args.m.now in
    ap (λ (b : Option ℕ). record m { spent = m.spent + c.args.moved; begun = b }) c.requires.begun
    ∙ sym (ap (λ (x : Option HartStep). after_row c.args.hart c.args.moved x m) c.in-None.is)

pub returns-in-None-clause-row : goal.returns-in-None-clause-row
returns-in-None-clause-row g c = sym (ap (advances_by c.args.hart c.args.moved) c.in-None.is)

pub returns-in-None-clause-calm : goal.returns-in-None-clause-calm
returns-in-None-clause-calm g c = sym (ap (λ (x : Option HartStep). not (ends_epoch x) && c.args.m.now.store.calm) c.in-None.is)

-- a step that retired nothing is one more
pub returns-in-Moved-clause-parts : goal.returns-in-Moved-clause-parts
returns-in-Moved-clause-parts g c =
    c.count.ensures.parts ∙ sym (ap (λ (x : Option HartStep). after_row c.args.hart c.args.moved x (machine_of c.args.m.now)) c.in-Some.is)

pub returns-in-Moved-clause-row : goal.returns-in-Moved-clause-row
returns-in-Moved-clause-row g c =
    let moves : List Advance = replicate c.args.moved Moved in
    moved-more c.args.moved
    ∙ ap (λ (a : Advance). moves ++ a ∷ [])
    (sym c.in-Moved.is ∙ sym (advance_is c.args.hart (retires_by c.in-Some.step) c.count.result c.count.ensures.did))
    ∙ sym (ap (advances_by c.args.hart c.args.moved) c.in-Some.is)

pub returns-in-Moved-clause-calm : goal.returns-in-Moved-clause-calm
returns-in-Moved-clause-calm g c =
    c.count.ensures.calm ∙ sym (ap (λ (x : Option HartStep). not (ends_epoch x) && c.args.m.now.store.calm) c.in-Some.is)

-- a step that retired an instruction
pub returns-in-Retired-clause-parts : goal.returns-in-Retired-clause-parts
returns-in-Retired-clause-parts g c =
    c.count.ensures.parts ∙ sym (ap (λ (x : Option HartStep). after_row c.args.hart c.args.moved x (machine_of c.args.m.now)) c.in-Some.is)

pub returns-in-Retired-clause-row : goal.returns-in-Retired-clause-row
returns-in-Retired-clause-row g c =
    let moves : List Advance = replicate c.args.moved Moved in
    ap (λ (a : Advance). moves ++ a ∷ [])
    (sym c.in-Retired.is ∙ sym (advance_is c.args.hart (retires_by c.in-Some.step) c.count.result c.count.ensures.did))
    ∙ sym (ap (advances_by c.args.hart c.args.moved) c.in-Some.is)

pub returns-in-Retired-clause-calm : goal.returns-in-Retired-clause-calm
returns-in-Retired-clause-calm g c =
    c.count.ensures.calm ∙ sym (ap (λ (x : Option HartStep). not (ends_epoch x) && c.args.m.now.store.calm) c.in-Some.is)
