use Rattle.std.proofs.Common.{sym, ◌∙◌}
use Rattle.thy_base.proofs.ConfigLemmas.{first_found_in, none_left, none_more_in}
use Rattle.thy_base.proofs.ranges.first_fault.Goals as goal

pub returns-in-Some : goal.returns-in-Some
returns-in-Some c =
    first_found_in c.args.c.now c.fields-field-items.result.now c.loop-field.field-index _ c.in-Some.fault
    c.fields-field-items.ensures c.loop-field-test.true c.loop-field.invariant c.in-Some.ensures

pub loop-field-preserved : goal.loop-field-preserved
loop-field-preserved c =
    none_more_in c.args.c.now c.fields-field-items.result.now c.loop-field.field-index _
    c.fields-field-items.ensures c.loop-field-test.true c.loop-field.invariant (sym c.fault_at.ensures ∙ c.in_default.is)

pub returns : goal.returns
returns c =
    none_left c.args.c.now c.fields-field-items.result.now c.loop-field.field-index
    c.fields-field-items.ensures c.loop-field-test.false c.loop-field.invariant
