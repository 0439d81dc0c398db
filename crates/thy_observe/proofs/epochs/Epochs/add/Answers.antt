use Rattle.std.proofs.Common.{◌≡◌, ◌++◌, ◌∷◌, [], List, Option, ap, ◌∙◌, refl, sym, subst, arith}
use Rattle.std.specs.Prelude.{IfSome, Vec}
use Rattle.std.specs.declared.alloc.Global.{Global}
use Rattle.thy_run.specs.Watching.{taken}
use Rattle.thy_observe.specs.declared.epochs.Row.{Row}
use Rattle.thy_observe.specs.Kinds.{kind_of}
use Rattle.thy_observe.specs.Causes.{cause_index, cause_of}
use Rattle.thy_observe.proofs.EpochLemmas.{AreEpochs-ends, AreEpochs-goes, next-cycle, open-few, open-waits}
use Rattle.thy_observe.proofs.epochs.Epochs.add.Goals as goal

pub with_cycle-row-requires-clause-few : goal.with_cycle-row-requires-clause-few
with_cycle-row-requires-clause-few c =
    let seen = c.requires.0 in
    let few = open-few c.args.self.now seen c.requires.1 c.index_of-cause.result c.index_of-cause.ensures.within in
    omega (arith, few, c.requires.2, c.ranges.cycle.fits)

pub with_cycle-row-requires-clause-waits : goal.with_cycle-row-requires-clause-waits
with_cycle-row-requires-clause-waits c =
    let seen = c.requires.0 in
    let few = open-waits c.args.self.now seen c.requires.1 in
    grind (arith, few, c.requires.2, c.ranges.cycle.fits, c.waiting_in.ensures)

pub returns-in-None : goal.returns-in-None
returns-in-None c = λ reported seen h.
    let e = c.args.self.now in
    AreEpochs-goes e _ seen (taken c.args.stepped.now reported c.args.fell) c.with_cycle-row.result c.args.cycle c.index_of-cause.result c.waiting_in.result h
    (next-cycle e c.requires.0 seen c.args.cycle c.requires.1 h c.requires.2)
    (c.index_of-cause.ensures.index ∙ ap cause_index (c.cause_of.ensures ∙ ap (cause_of e.under_way) c.kind_of.ensures))
    c.waiting_in.ensures
    c.with_cycle-row.ensures
    refl
    c.under_way_then-self.ensures
    (sym c.end_of.ensures ∙ c.in-None.is)
    refl
    refl

pub returns-in-Some : goal.returns-in-Some
returns-in-Some c = λ reported seen h.
    let e = c.args.self.now in
    AreEpochs-ends e _ seen (taken c.args.stepped.now reported c.args.fell) c.with_cycle-row.result c.args.cycle c.index_of-cause.result c.waiting_in.result h
    (next-cycle e c.requires.0 seen c.args.cycle c.requires.1 h c.requires.2)
    (c.index_of-cause.ensures.index ∙ ap cause_index (c.cause_of.ensures ∙ ap (cause_of e.under_way) c.kind_of.ensures))
    c.waiting_in.ensures
    c.with_cycle-row.ensures
    refl
    c.under_way_then-self.ensures
    c.in-Some.end
    c.epoch_of.result
    (sym c.end_of.ensures ∙ c.in-Some.is)
    c.epoch_of.ensures
    c.begun_after-self.ensures
    (subst (λ (o : Option (Vec Row Global)). (before : List Row) → IfSome o (λ v. v.items ≡ before)
    → IfSome c.rows_with.result (λ v. v.items ≡ before ++ record c.with_cycle-row.result { end = c.in-Some.end } ∷ []))
    c.take.ensures.value c.rows_with.ensures)
