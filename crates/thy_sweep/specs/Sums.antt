-- What the rows of a sweep come to.
use Rattle.std.specs.Prelude.{ℕ, ◌+◌, ◌-◌, ◌*◌, ◌^◌, min, max, nat_lt, if◌then◌else◌, List, [], ◌∷◌, length, Option, Some, None}
use Rattle.thy_block.specs.declared.mark.Mark.{Mark}
use Rattle.thy_block.specs.Counts.{next}
use Rattle.thy_sweep.specs.declared.lead.Lead.{Lead}
use Rattle.thy_sweep.specs.declared.sums.Sums.{Sums}

-- a sum that stops at the last value of a 64-bit number
abbrev pub plus : ℕ → ℕ → ℕ
plus a b = min (a + b) (2 ^ 64 - 1)

-- the sums before anything was tried
abbrev pub no_rows : Sums
no_rows = record { states = 0; cycles = 0; reloads = 0; decided = 0; longest = 0; most_lost = 0; lost = 0 }

-- how many instructions are lost at a count by a restart of a checkpoint; all of them, if there is none
abbrev pub lost_to : ℕ → Option Mark → ℕ
lost_to count None = count
lost_to count (Some m) = count - m.count

-- how many boots led to no checkpoint
abbrev pub reloads_of : Option Mark → ℕ → ℕ
reloads_of None times = times
reloads_of (Some m) times = 0

-- the sums with the boots of one lead, at a count
abbrev pub with_lead : ℕ → Sums → Lead → Sums
with_lead count s l = record s {
  states = plus s.states l.times;
  reloads = plus s.reloads (reloads_of l.mark l.times);
  longest = max s.longest l.most;
  most_lost = max s.most_lost (lost_to count l.mark);
  lost = plus s.lost (min (lost_to count l.mark * l.times) (2 ^ 64 - 1));
}

-- the sums with the boots of each of these leads, at a count
abbrev pub with_leads : ℕ → Sums → List Lead → Sums
with_leads count s [] = s
with_leads count s (l ∷ ls) = with_leads count (with_lead count s l) ls

-- with a row: one cycle more, whose choice decides if its images led to more than one checkpoint, or to one and to none
abbrev pub with_row : ℕ → Sums → List Lead → Sums
with_row count s leads =
    with_leads count (record s { cycles = next s.cycles; decided = if nat_lt 1 (length leads) then next s.decided else s.decided }) leads
