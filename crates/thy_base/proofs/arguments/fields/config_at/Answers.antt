use Rattle.std.proofs.Common.{rules}
use Rattle.thy_base.proofs.arguments.fields.config_at.Goals as goal

pub returns : goal.returns
returns c = search rules
