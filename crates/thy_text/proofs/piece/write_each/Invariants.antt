use Rattle.std.proofs.Common.{map, take}
use Rattle.thy_block.specs.Outside.{Took}
use Rattle.thy_text.specs.Lines.{joined}
use Rattle.thy_text.specs.Pieces.{bytes_of_piece}
use Rattle.thy_text.proofs.piece.write_each.Given as goal

abbrev pub invariant-loop-piece : goal.invariant-loop-piece
invariant-loop-piece g l =
    Took (g.R.Sink.stream l.initial.to) (g.R.Sink.stream l.to) (joined (map bytes_of_piece (take l.piece-index l.pieces)))
