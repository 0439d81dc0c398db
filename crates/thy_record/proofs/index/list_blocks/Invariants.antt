use Rattle.std.proofs.Common.{◌≡◌, ℕ, List, [], Option, length, take}
use Rattle.thy_layout.specs.Files.{table_in}
use Rattle.thy_record.specs.Index.{index_by}
use Rattle.thy_record.proofs.index.list_blocks.Given as goal

abbrev pub invariant-loop-i : goal.invariant-loop-i
invariant-loop-i l =
    (length l.index ≡ length l.fn.index)
    × ((ptt : List (Option ℕ)) → l.fn.index ≡ index_by l.geometry [] ptt → l.index ≡ index_by l.geometry (take l.i (table_in l.btt)) ptt)
