use Rattle.std.proofs.Common.{◌≡◌, slice_index_or, ap, ◌∙◌, refl, arith}
use Rattle.thy_run.specs.Watching.{taken}
use Rattle.thy_observe.specs.Kinds.{kind_of}
use Rattle.thy_observe.specs.Causes.{cause_index, cause_of, how_many_by}
use Rattle.thy_observe.proofs.CauseLemmas.{by-few}
use Rattle.thy_observe.proofs.LedgerLemmas.{IsLedger-one}
use Rattle.thy_observe.proofs.ledger.Ledger.add.Goals as goal

pub overflow_add-self : goal.overflow_add-self
overflow_add-self c =
    let seen = c.requires.0 in
    let at = c.index_of-at.result in
    let is : slice_index_or c.args.self.now.causes at 0 ≡ how_many_by at seen = c.requires.1.counts at c.index_of-at.ensures.within in
    omega (arith, is, by-few at seen, c.requires.2, c.ranges.cycle.fits)

pub returns : goal.returns
returns c = λ reported seen h.
    let l = c.args.self.now in
    IsLedger-one l _ seen (taken c.args.stepped.now reported c.args.fell) c.index_of-at.result h
    (c.index_of-at.ensures.index ∙ ap cause_index (c.cause_of.ensures ∙ ap (cause_of l.under_way) c.kind_of.ensures))
    c.index_of-at.ensures.within
    refl
    c.under_way_then-self.ensures
