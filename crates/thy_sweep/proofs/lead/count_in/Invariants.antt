use Rattle.std.proofs.Common.{◌≡◌, ◌++◌, take, drop}
use Rattle.thy_sweep.specs.Leads.{lists, counted_in}
use Rattle.thy_sweep.proofs.lead.count_in.Given as goal

-- the boot's checkpoint was not found so far
abbrev pub invariant-loop-lead : goal.invariant-loop-lead
invariant-loop-lead l = record {
  same : l.leads ≡ l.initial.leads;
  counted : take l.lead-index l.leads ++ counted_in l.boot (drop l.lead-index l.leads) ≡ counted_in l.boot l.initial.leads;
  listed : lists l.boot.mark (drop l.lead-index l.leads) ≡ lists l.boot.mark l.initial.leads;
}
