use Rattle.std.proofs.Common.{◌∙◌, ◌||◌, ap, ap₂, sym}
use Rattle.clap.specs.Simple.{app_of, with_rule}
use Rattle.thy_base.specs.Options.{is_taken}
use Rattle.thy_base.specs.CommandLine.{option_rule}
use Rattle.thy_base.proofs.FieldLemmas.{field_left, field_taken}
use Rattle.thy_base.proofs.arguments.command_line.with_field.Goals as goal

pub returns-in_ok-wider : goal.returns-in_ok-wider
returns-in_ok-wider c =
    record {
      app = c.in_ok-wider.ensures.shape c.arg-option.ensures.local
          ∙ ap (with_rule (app_of c.args.command)) (c.arg-option.ensures.rule ∙ ap option_rule c.option-row.ensures.name)
          ∙ sym (field_taken c.args.commands (app_of c.args.command) c.args.field
          (sym (ap (is_taken c.args.commands) c.option-row.ensures.commands) ∙ sym c.take.ensures ∙ c.if-take.true));
      local = c.in_ok-wider.ensures.globals ∙ ap₂ ◌||◌ c.requires c.arg-option.ensures.local;
    }

pub returns-else-take : goal.returns-else-take
returns-else-take c =
    record {
      app = sym (field_left c.args.commands (app_of c.args.command) c.args.field
          (sym (ap (is_taken c.args.commands) c.option-row.ensures.commands) ∙ sym c.take.ensures ∙ c.if-take.false));
      local = c.requires;
    }
