use Rattle.std.proofs.Common.{◌≡◌, map, take}
use Rattle.thy_text.specs.Lines.{joined}
use Rattle.thy_text.specs.Pieces.{bytes_of_piece}
use Rattle.thy_text.proofs.piece.put_together.Given as goal

abbrev pub invariant-loop-piece : goal.invariant-loop-piece
invariant-loop-piece l = l.line.items ≡ joined (map bytes_of_piece (take l.piece-index l.pieces))
