use Rattle.std.proofs.Common.{◌≡◌, ◌∙◌, Bool, true, false, alloc_error, ap, cond, sym}
use Rattle.clap.specs.declared.error.kind.ErrorKind.{ErrorKind}
use Rattle.thy_base.specs.Refused.{is_out_of_memory, refused}
use Rattle.thy_base.specs.declared.arguments.words.WordsError.TheVariants.{Usage, Memory}
use Rattle.thy_base.proofs.arguments.words.refused.Goals as goal

refused_as : (kind : ErrorKind) (b : Bool) → is_out_of_memory kind ≡ b → cond b (Memory alloc_error) Usage ≡ refused kind
refused_as kind b e = ap (λ x. cond x (Memory alloc_error) Usage) (sym e)

pub returns-then-is_out_of_memory : goal.returns-then-is_out_of_memory
returns-then-is_out_of_memory c =
    refused_as _ true (ap is_out_of_memory (sym c.kind.ensures) ∙ sym c.is_out_of_memory.ensures ∙ c.if-is_out_of_memory.true)

pub returns-else-is_out_of_memory : goal.returns-else-is_out_of_memory
returns-else-is_out_of_memory c =
    refused_as _ false (ap is_out_of_memory (sym c.kind.ensures) ∙ sym c.is_out_of_memory.ensures ∙ c.if-is_out_of_memory.false)
