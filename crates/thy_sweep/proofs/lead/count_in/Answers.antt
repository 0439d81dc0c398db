use Rattle.std.proofs.Common.{◌≡◌, ◌<◌, true, length, get_or, slice_set, sym, ◌∙◌, ap, arith}
use Rattle.std.specs.Prelude.{None}
use Rattle.thy_sweep.specs.declared.lead.Lead.{Lead}
use Rattle.thy_sweep.specs.Leads.{is_same}
use Rattle.thy_sweep.proofs.LeadLemmas.{counted_at}
use Rattle.thy_sweep.proofs.lead.count_in.Goals as goal

pub returns-then-is_same-clause-counted : goal.returns-then-is_same-clause-counted
returns-then-is_same-clause-counted c =
    let l = c.loop-lead in
    let d : Lead = record { mark = None; times = 0; least = 0; most = 0 } in
    let inside : l.lead-index < length l.leads = omega (arith, l.auto.leads, c.loop-lead-test.true) in
    let same : is_same (get_or l.leads l.lead-index d).mark c.args.boot.mark ≡ true = sym c.is_same.ensures ∙ c.if-is_same.true in
    ap (slice_set l.leads l.lead-index) c.with_boot.ensures
    ∙ sym (counted_at c.args.boot l.leads l.lead-index d inside same)
    ∙ l.invariant.counted
