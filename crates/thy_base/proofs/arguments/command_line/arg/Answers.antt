use Rattle.std.proofs.Common.{rules}
use Rattle.thy_base.proofs.arguments.command_line.arg.Goals as goal

pub returns-in-Operand : goal.returns-in-Operand
returns-in-Operand c = search rules
