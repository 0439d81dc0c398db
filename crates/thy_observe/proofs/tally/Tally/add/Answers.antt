use Rattle.std.proofs.Common.{◌≡◌, ◌==◌, if◌then◌else◌, ◌+◌, ◌++◌, ◌<◌, ◌≤◌, ◌∷◌, [], None, Option, length, sym, ◌∙◌, ap, subst, slice_set, slice_index_or, arith}
use Rattle.thy_run.specs.Watching.{taken}
use Rattle.thy_observe.specs.declared.event_cycle.RetiredCount.{RetiredCount}
use Rattle.thy_observe.specs.declared.shares.Shares.{Shares}
use Rattle.thy_observe.specs.Kinds.{kind_of, index_of}
use Rattle.thy_observe.specs.EventCycles.{IsShort, retired_after_cut, event_cycle_of, retired_after}
use Rattle.thy_observe.specs.Shares.{shares_after_cut, AreOf}
use Rattle.thy_observe.proofs.ShareLemmas.{few-after, widened as shares-widened}
use Rattle.thy_observe.proofs.TallyLemmas.{IsTally-one, short-after, widened}
use Rattle.thy_observe.proofs.tally.Tally.add.Goals as goal

pub retired_after_step-retired-requires : goal.retired_after_step-retired-requires
retired_after_step-retired-requires c =
    let h = c.requires in
    let n : length h.0 < 18446744073709551615 = omega (arith, h.2, c.ranges.cycle.fits) in
    subst (λ (p : Option RetiredCount). IsShort p 18446744073709551615) (sym h.1.retired)
    (widened (retired_after None h.0) (0 + length h.0) 18446744073709551615 (omega (arith, n)) (short-after None h.0 0 tt))

pub shares_after_step-requires : goal.shares_after_step-requires
shares_after_step-requires c =
    let h = c.requires in
    let n : length h.0 ≤ 18446744073709551614 = omega (arith, h.2, c.ranges.cycle.fits) in
    subst (λ (s : Shares). AreOf s 18446744073709551614) (sym h.1.shares)
    (shares-widened _ (length h.0) 18446744073709551614 n (few-after h.0))

pub returns : goal.returns
returns c = λ seen h.
    let x = taken c.args.stepped.now c.args.reported c.args.fell in
    let t = c.args.self.now in
    let at : c.index_of-at.result ≡ index_of (kind_of c.args.stepped.now.did) = c.index_of-at.ensures.index ∙ ap index_of c.kind_of.ensures in
    let now : c.args.cycle ≡ length seen + 1 = omega (arith, c.requires.2, c.requires.1.cycles, h.cycles) in
    IsTally-one t _ seen x h
    (subst (λ p. p < 17) at c.index_of-at.ensures.within)
    now
    (ap (λ a. slice_set t.kinds a (slice_index_or t.kinds a 0 + 1)) at)
    (ap (λ k. t.waiting + k) c.waiting_in.ensures)
    (c.retired_after_cut-self.ensures ∙ ap (λ p. retired_after_cut p c.args.fell) c.retired_after_step-retired.ensures)
    (c.shares_after_cut-self.ensures ∙ ap (λ s. shares_after_cut s c.args.fell) c.shares_after_step.ensures)
    c.add_event_cycle-self.ensures.due
    (λ whole.
    let m = c.add_event_cycle-self.ensures.added whole in (
      m.0,
      m.1
          ∙ ap (λ p. t.event_cycles.items ++ (if c.args.reported == 0 then [] else record { cycle = c.args.cycle; retired = p; reported = c.args.reported; fell = c.args.fell } ∷ [])) c.retired_after_step-retired.ensures
          ∙ ap (λ k. t.event_cycles.items ++ event_cycle_of k t.retired x) now,
    ))
