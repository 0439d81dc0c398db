-- A controller that lists what a checkpoint's tables list, as far as they were gone through.
use Rattle.std.specs.Prelude.{◌≡◌, ℕ, ◌<◌, ◌≤◌, List, length, None}
use Rattle.thy_layout.specs.Entries.{entry_at}
use Rattle.thy_record.specs.Tables.{Tables}
use Rattle.thy_control.specs.State.{State}
use Rattle.thy_control.specs.CheckpointTables.{tables0}
use Rattle.thy_control.specs.Boot.{IsBooting}

-- tables have the first i entries of one table and the first j of the other, and are empty from there on
pub record HaveFirst (i j : ℕ) (t u : Tables) : Type 0 where
  pub btt_length : length u.btt ≡ length t.btt
  pub ptt_length : length u.ptt ≡ length t.ptt
  pub blocks : (k : ℕ) → k < i → entry_at u.btt k ≡ entry_at t.btt k
  pub no_blocks : (k : ℕ) → i ≤ k → entry_at u.btt k ≡ None
  pub pages : (k : ℕ) → k < j → entry_at u.ptt k ≡ entry_at t.ptt k
  pub no_pages : (k : ℕ) → j ≤ k → entry_at u.ptt k ≡ None

-- the committed checkpoint of a booting controller has the first entries of these tables
pub record ListsUpTo (i j : ℕ) (t : Tables) (c : State) : Type 0 where
  pub booting : IsBooting c
  pub have : HaveFirst i j t (tables0 c)

-- this holds after some were listed, and except for its tables the controller is as before
pub record AsListed (i j : ℕ) (t : Tables) (old new : State) : Type 0 where
  pub lists : ListsUpTo i j t new
  pub same : record new { btt = old.btt; ptt = old.ptt } ≡ old

-- the controller with these counts of the epoch before
abbrev pub with_lasts : List ℕ → State → State
with_lasts lasts c = record c { counts = record c.counts { lasts = lasts } }
