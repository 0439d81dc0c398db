use Rattle.std.proofs.Common.{◌≡◌, drop}
use Rattle.thy_out.specs.Rack.{entries, found}
use Rattle.thy_out.proofs.mem_shelf.find.Given as goal

abbrev pub invariant-loop-file : goal.invariant-loop-file
invariant-loop-file l = found (entries l.files) l.name ≡ found (entries (drop l.file-index l.files)) l.name
