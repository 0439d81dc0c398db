-- Part of the claim.
-- The line that sums a run up, as bytes.
use Rattle.std.specs.Prelude.{ℕ, Bool, true, false, List, [], ◌∷◌, codes, count_by, sum_by}
use Rattle.std.specs.Fmt.{decimal}
use Rattle.thy_block.specs.declared.cause.EndCause.TheVariants.{Exhausted}
use Rattle.thy_text.specs.Event.{Event, EpochEnd, Commit}
use Rattle.thy_text.specs.Lines.{joined, line_feed}

-- an epoch was sealed
abbrev pub ends_epoch : Event → Bool
ends_epoch (EpochEnd epoch count cause turns) = true
ends_epoch event = false

-- an epoch was sealed early, because too few entries were free
abbrev pub ends_early : Event → Bool
ends_early (EpochEnd epoch count (Exhausted free dirty need) turns) = true
ends_early event = false

-- the instructions that retired while the committed checkpoint was under way
abbrev pub overlapped_by : Event → ℕ
overlapped_by (Commit epoch cycle overlapped) = overlapped
overlapped_by event = 0

-- the line of these sums, in parts
abbrev pub summary_parts : (epochs early overlapped : ℕ) → List (List ℕ)
summary_parts epochs early overlapped =
    codes "summary epochs " ∷ decimal epochs ∷ codes " early " ∷ decimal early
    ∷ codes " overlapped " ∷ decimal overlapped ∷ line_feed ∷ []

-- the line of a run: how many epochs were sealed, how many of them ended early, and how many instructions retired while
-- a checkpoint was under way
abbrev pub summary_of : List Event → List ℕ
summary_of vs =
    joined (summary_parts (count_by ends_epoch vs) (count_by ends_early vs) (sum_by overlapped_by vs))

-- the line of these sums of a run by a scheme, in parts
abbrev pub scheme_parts : (name : List ℕ) (epochs early overlapped writes : ℕ) → List (List ℕ)
scheme_parts name epochs early overlapped writes =
    codes "scheme " ∷ name ∷ codes " epochs " ∷ decimal epochs ∷ codes " early " ∷ decimal early
    ∷ codes " overlapped " ∷ decimal overlapped ∷ codes " writes " ∷ decimal writes ∷ line_feed ∷ []

-- the line of a run by the scheme of this name: the same sums, and how many writes its device has taken
abbrev pub scheme_line : List ℕ → List Event → (writes : ℕ) → List ℕ
scheme_line name vs writes =
    joined (scheme_parts name (count_by ends_epoch vs) (count_by ends_early vs) (sum_by overlapped_by vs) writes)
