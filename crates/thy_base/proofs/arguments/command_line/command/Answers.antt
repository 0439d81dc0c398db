use Rattle.std.proofs.Common.{◌∙◌, ◌||◌, ap, ap₂, fold, sym}
use Rattle.std.proofs.lemmas.List.{take_all}
use Rattle.clap.specs.Simple.{with_rule}
use Rattle.thy_base.specs.Options.{fields}
use Rattle.thy_base.specs.CommandLine.{begun, with_argument, with_field}
use Rattle.thy_base.proofs.Folding.{fold-more}
use Rattle.thy_base.proofs.arguments.command_line.command.Goals as goal

pub loop-item-preserved : goal.loop-item-preserved
loop-item-preserved c =
    let start = fold (with_field c.args.commands) (begun c.args.name.now c.args.first.now) fields in
    record {
      app = c.in_ok-wider.ensures.shape c.arg.ensures.local ∙ ap₂ with_rule c.loop-item.invariant.app c.arg.ensures.rule
          ∙ sym (fold-more with_argument start c.args.others.now c.loop-item.item-index _ c.loop-item-test.true);
      local = c.in_ok-wider.ensures.globals ∙ ap₂ ◌||◌ c.loop-item.invariant.local c.arg.ensures.local;
    }

pub returns : goal.returns
returns c =
    let start = fold (with_field c.args.commands) (begun c.args.name.now c.args.first.now) fields in
    record {
      app = c.loop-item.invariant.app ∙ ap (fold with_argument start) (take_all c.loop-item.item-index c.args.others.now c.loop-item-test.false);
      local = c.loop-item.invariant.local;
    }
