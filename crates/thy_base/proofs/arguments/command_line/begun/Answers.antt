use Rattle.std.proofs.Common.{◌∙◌, ◌||◌, ap₂}
use Rattle.clap.specs.Simple.{with_rule}
use Rattle.thy_base.proofs.arguments.command_line.begun.Goals as goal

pub returns : goal.returns
returns c =
    record {
      app = c.in_ok-command.ensures.shape c.arg-operand.ensures.local ∙ ap₂ with_rule c.new.ensures.app c.arg-operand.ensures.rule;
      local = c.in_ok-command.ensures.globals ∙ ap₂ ◌||◌ c.new.ensures.local c.arg-operand.ensures.local;
    }
