use Rattle.std.proofs.Common.{◌≡◌, drop}
use Rattle.thy_sweep.specs.Sums.{with_leads}
use Rattle.thy_sweep.proofs.sums.Sums.with_leads.Given as goal

-- the leads to come lead to the same sums
abbrev pub invariant-loop-lead : goal.invariant-loop-lead
invariant-loop-lead l = with_leads l.count l.sums (drop l.lead-index l.leads) ≡ with_leads l.count l.fn.self l.leads
