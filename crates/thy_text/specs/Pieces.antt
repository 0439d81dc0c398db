-- The parts that lines are written in.
use Rattle.std.specs.Prelude.{ℕ, List, [], ◌∷◌}
use Rattle.std.specs.Fmt.{decimal}
use Rattle.thy_text.specs.declared.line.HartParts.{HartParts}
use Rattle.thy_text.specs.declared.piece.Piece.{Piece}
use Rattle.thy_text.specs.declared.piece.Piece.TheVariants.{Text, Number, Sum, Digits}
use Rattle.thy_text.specs.Lines.{line_feed}

-- the bytes of a part
abbrev pub bytes_of_piece : Piece → List ℕ
bytes_of_piece (Text text) = text.now
bytes_of_piece (Number number) = decimal number
bytes_of_piece (Sum sum) = decimal sum
bytes_of_piece (Digits digits) = digits.now

-- the parts that report the harts of an epoch's end, to the line's end
abbrev pub tail_of : HartParts → List (List ℕ)
tail_of p =
    bytes_of_piece p.word ∷ bytes_of_piece p.zero ∷ bytes_of_piece p.between ∷ bytes_of_piece p.one ∷ line_feed ∷ []
