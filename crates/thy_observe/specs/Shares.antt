-- What each hart did. A move belongs to the hart that retires the instruction. It is no hart's if the epoch is sealed before,
-- as too few entries were free, or power is cut.
use Rattle.std.specs.Prelude.{◌≡◌, ℕ, ◌+◌, ◌==◌, ◌≤◌, if◌then◌else◌, Bool, List, [], ◌∷◌}
use Rattle.thy_computer.specs.declared.did.Did.{Did}
use Rattle.thy_computer.specs.declared.did.Did.TheVariants.{Moved, Retired, Sealed}
use Rattle.thy_run.specs.Watching.{Taken}
use Rattle.thy_observe.specs.declared.shares.Share.{Share}
use Rattle.thy_observe.specs.declared.shares.Shares.{Shares}
use Rattle.thy_observe.specs.Kinds.{how_many}

-- the shares while no hart has done anything
abbrev pub nobodys : Shares
nobodys = record { first = record { moved = 0; retired = 0 }; second = record { moved = 0; retired = 0 }; in_hand = 0 }

-- the share of a hart with one instruction more, and with the moves before it
abbrev pub with_one : ℕ → Share → Share
with_one moves s = record { moved = s.moved + moves; retired = s.retired + 1 }

abbrev pub retired_by_first : Shares → Shares
retired_by_first s = record { first = with_one s.in_hand s.first; second = s.second; in_hand = 0 }

abbrev pub retired_by_second : Shares → Shares
retired_by_second s = record { first = s.first; second = with_one s.in_hand s.second; in_hand = 0 }

-- a hart has retired the instruction in hand
abbrev pub retired_by : ℕ → Shares → Shares
retired_by hart s = if hart == 0 then retired_by_first s else retired_by_second s

-- the instruction in hand is dropped
abbrev pub dropped : Shares → Shares
dropped s = record s { in_hand = 0 }

abbrev pub shares_after_step : Shares → Did → Shares
shares_after_step s Moved = record s { in_hand = s.in_hand + 1 }
shares_after_step s (Retired hart) = retired_by hart s
shares_after_step s (Sealed epoch count cause) = dropped s
shares_after_step s did = s

abbrev pub shares_after_cut : Shares → Bool → Shares
shares_after_cut s fell = if fell then dropped s else s

-- what each hart did after these cycles
abbrev pub shares_after : Shares → List Taken → Shares
shares_after s [] = s
shares_after s (t ∷ seen) = shares_after (shares_after_cut (shares_after_step s t.stepped.did) t.fell) seen

-- ---- both harts together

abbrev pub all_moved : Shares → ℕ
all_moved s = s.first.moved + s.second.moved

abbrev pub all_retired : Shares → ℕ
all_retired s = s.first.retired + s.second.retired

-- no more than this number of cycles went into the shares
pub record AreOf (s : Shares) (cycles : ℕ) : Type 0 where
  pub moved : all_moved s + s.in_hand ≤ cycles
  pub retired : all_retired s ≤ cycles

-- the shares of both harts together have all instructions, and no more moves than there were
pub record AddUp (s : Shares) (seen : List Taken) : Type 0 where
  pub retired : all_retired s ≡ how_many 4 seen
  pub moved : all_moved s ≤ how_many 3 seen

abbrev pub SharesAddUp : Type 0
SharesAddUp = (seen : List Taken) → AddUp (shares_after nobodys seen) seen
