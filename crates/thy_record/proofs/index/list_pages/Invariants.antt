use Rattle.std.proofs.Common.{◌≡◌, [], take}
use Rattle.thy_layout.specs.Files.{table_in}
use Rattle.thy_record.specs.Index.{index_by}
use Rattle.thy_record.proofs.index.list_pages.Given as goal

abbrev pub invariant-loop-j : goal.invariant-loop-j
invariant-loop-j l = l.index ≡ index_by l.geometry [] (take l.j (table_in l.ptt))
