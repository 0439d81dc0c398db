-- A command with the options of the table that commands like it take.
use Rattle.std.proofs.Common.{◌≡◌, ◌∙◌, ℕ, ◌+◌, ◌<◌, ◌≤◌, Bool, true, false, cond, List, ap, ap₂, fold, get_or, length, subst, sym, take}
use Rattle.std.proofs.lemmas.List.{take_all}
use Rattle.clap.specs.Simple.{App, with_rule}
use Rattle.clap.specs.declared.builder.command.Command.{Command}
use Rattle.thy_base.specs.declared.config.Field.{Field}
use Rattle.thy_base.specs.declared.options.Commands.{Commands}
use Rattle.thy_base.specs.Options.{field_name, fields, is_taken, option_of}
use Rattle.thy_base.specs.CommandLine.{IsBuilt, option_rule, with_field}
use Rattle.thy_base.proofs.Folding.{fold-more}

pub field_taken : (commands : Commands) (a : App) (f : Field) → is_taken commands (option_of f).commands ≡ true
    → with_field commands a f ≡ with_rule a (option_rule (field_name f))
field_taken commands a f e = ap (λ (b : Bool). cond b (with_rule a (option_rule (field_name f))) a) e

pub field_left : (commands : Commands) (a : App) (f : Field) → is_taken commands (option_of f).commands ≡ false → with_field commands a f ≡ a
field_left commands a f e = ap (λ (b : Bool). cond b (with_rule a (option_rule (field_name f))) a) e

-- with one field more of a list that is the table's
pub one_more : (commands : Commands) (start before : App) (w : Command) (fs : List Field) (i : ℕ) (d : Field) → fs ≡ fields → i < length fs
    → before ≡ fold (with_field commands) start (take i fields) → IsBuilt w (with_field commands before (get_or fs i d))
    → IsBuilt w (fold (with_field commands) start (take (i + 1) fields))
one_more commands start before w fs i d is l same built = record {
  app = built.app
      ∙ ap₂ (with_field commands) same (ap (λ (gs : List Field). get_or gs i d) is)
      ∙ sym (fold-more (with_field commands) start fields i d (subst (λ (gs : List Field). i < length gs) is l));
  local = built.local;
}

-- with all of them
pub all_fields : (commands : Commands) (start : App) (w : Command) (fs : List Field) (i : ℕ) → fs ≡ fields → length fs ≤ i
    → IsBuilt w (fold (with_field commands) start (take i fields)) → IsBuilt w (fold (with_field commands) start fields)
all_fields commands start w fs i is l built = record {
  app = built.app ∙ ap (fold (with_field commands) start) (take_all i fields (subst (λ (gs : List Field). length gs ≤ i) is l));
  local = built.local;
}
