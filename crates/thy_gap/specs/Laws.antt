-- The laws of wear levelling after Start-Gap.
use Rattle.std.specs.Prelude.{◌≡◌, ◌≢◌, ◌⊎◌, ℕ, ◌+◌, ◌*◌, ◌%◌, ◌<◌, ◌≤◌}
use Rattle.thy_gap.specs.declared.registers.Registers.{Registers}
use Rattle.thy_gap.specs.Lines.{IsWhole, stepped, place, source, moved, moved_times}

-- a line is rotated by start modulo the number of lines, and steps over the gap
abbrev pub PlaceIsRotated : Type 0
PlaceIsRotated =
    (r : Registers) (x : ℕ) → IsWhole r → x < r.lines → place r x ≡ stepped r.gap ((x + r.start) % r.lines)

-- two lines are never at one place
abbrev pub PlaceIsOneToOne : Type 0
PlaceIsOneToOne =
    (r : Registers) (x z : ℕ) → IsWhole r → x < r.lines → z < r.lines → place r x ≡ place r z → x ≡ z

-- no line is at the gap, or past the last place
abbrev pub PlaceIsBesideGap : Type 0
PlaceIsBesideGap = (r : Registers) (x : ℕ) → IsWhole r → x < r.lines → (place r x ≤ r.lines) × (place r x ≢ r.gap)

-- every place but the gap has a line
abbrev pub PlaceIsOnto : Type 0
PlaceIsOnto =
    (r : Registers) (y : ℕ) → IsWhole r → y ≢ r.gap → y ≤ r.lines → (x : ℕ) × (x < r.lines) × (place r x ≡ y)

-- a move takes one line to the gap, and no other line moves
abbrev pub MoveMovesOne : Type 0
MoveMovesOne =
    (r : Registers) (x : ℕ) → IsWhole r → x < r.lines
    → ((place r x ≡ source r) × (place (moved r) x ≡ r.gap)) ⊎ ((place r x ≢ source r) × (place (moved r) x ≡ place r x))

-- the gap moves to the place that this line had
abbrev pub GapMoves : Type 0
GapMoves = (r : Registers) → IsWhole r → (moved r).gap ≡ source r

-- registers in range stay in range
abbrev pub MovedIsWhole : Type 0
MovedIsWhole = (r : Registers) → IsWhole r → IsWhole (moved r)

-- after a round, one move more than there are lines, the gap is as before and start has grown by 1
abbrev pub RoundRotates : Type 0
RoundRotates =
    (r : Registers) → IsWhole r
    → moved_times (r.lines + 1) r ≡ record r { start = (r.start + 1) % r.lines }

-- after a round each line is at the place that the next line had
abbrev pub RoundShiftsLines : Type 0
RoundShiftsLines =
    (r : Registers) (x : ℕ) → IsWhole r → x < r.lines
    → place (moved_times (r.lines + 1) r) x ≡ place r ((x + 1) % r.lines)

-- within a round each line is moved
abbrev pub RoundMovesEach : Type 0
RoundMovesEach =
    (r : Registers) (x : ℕ) → IsWhole r → x < r.lines
    → (k : ℕ) × (k ≤ r.lines) × (place (moved_times k r) x ≡ source (moved_times k r))

-- with n lines, each line comes to each place within n rounds
abbrev pub EachPlaceComes : Type 0
EachPlaceComes =
    (r : Registers) (x y : ℕ) → IsWhole r → x < r.lines → y ≤ r.lines
    → (k : ℕ) × (k ≤ r.lines * (r.lines + 1)) × (place (moved_times k r) x ≡ y)
