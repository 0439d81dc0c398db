use Rattle.std.proofs.Common.{rules}
use Rattle.thy_out.proofs.file_shelf.FileShelfShelf.fetch.Goals as goal

pub returns-in-Ok-clause-within : goal.returns-in-Ok-clause-within
returns-in-Ok-clause-within g c = search rules
