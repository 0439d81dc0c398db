use Rattle.std.proofs.Common.{rules}
use Rattle.thy_run.proofs.gather.shows_console.Goals as goal

pub returns-in-Loaded : goal.returns-in-Loaded
returns-in-Loaded c = search rules
