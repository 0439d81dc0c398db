use Rattle.clap.specs.Simple.{app_of}
use Rattle.thy_base.specs.CommandLine.{begun}
use Rattle.thy_base.proofs.FieldLemmas.{all_fields, one_more}
use Rattle.thy_base.proofs.arguments.command_line.with_fields.Goals as goal

pub loop-field-preserved : goal.loop-field-preserved
loop-field-preserved c =
    one_more c.args.commands (begun c.args.name.now c.args.first.now)
    (app_of c.loop-field.wider) _ c.fields-field-items.result.now c.loop-field.field-index _
    c.fields-field-items.ensures c.loop-field-test.true c.loop-field.invariant.app c.in_ok-wider.ensures

pub returns : goal.returns
returns c =
    all_fields c.args.commands (begun c.args.name.now c.args.first.now) c.loop-field.wider c.fields-field-items.result.now c.loop-field.field-index
    c.fields-field-items.ensures c.loop-field-test.false c.loop-field.invariant
