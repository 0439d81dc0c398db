-- The rows of a sweep, and what is kept of them.
use Rattle.std.specs.Prelude.{◌≡◌, ◌⊎◌, ℕ, true, false, ◌+◌, ◌-◌, ◌^◌, ◌≤◌, min, is_some, nat_lt, Bool, ◌||◌, List, [], ◌∷◌, length, Option, Some, None, IfSome, option_map}
use Rattle.std.specs.List.{AllByRecursion}
use Rattle.thy_block.specs.declared.mix.Mix.{Mix}
use Rattle.thy_block.specs.Device.{Device}
use Rattle.thy_run.specs.declared.plan.Plan.{Plan}
use Rattle.thy_run.specs.Going.{origin_of, given_of}
use Rattle.thy_run.specs.World.{World, Ran}
use Rattle.thy_sweep.specs.declared.sums.Sums.{Sums}
use Rattle.thy_sweep.specs.Choices.{count_of, places_of}
use Rattle.thy_sweep.specs.Lying.{LiesOn, Lying, lying}
use Rattle.thy_sweep.specs.Repeats.{IsAsBefore}
use Rattle.thy_sweep.specs.Sums.{no_rows, with_row}
use Rattle.thy_computer.specs.Kind.{KindOf}
use Rattle.sweep.specs.declared.account.Account.{Account}
use Rattle.sweep.specs.declared.asked.Asked.{Asked}
use Rattle.sweep.specs.declared.row.Row.{Row}
use Rattle.sweep.specs.declared.running.Swept.{Swept}
use Rattle.sweep.specs.declared.running.Swept.TheVariants.{Stopped, Reached, Short}
use Rattle.sweep.specs.Findings.{has}
use Rattle.sweep.specs.Rows.{TriesAsked}
use Rattle.sweep.specs.Still.{IsKept, IsLooked}

-- a row says how many writes are queued on a device and how many images a cut can leave, and what was tried of these
pub record IsRowAt {M : Type 0} (K : KindOf M) (plan : Plan) (d : Lying) (mix : Mix) (a : Asked) (row : Row) : Type 0 where
  pub queued : row.queued ≡ length d.seen.queue
  pub images : row.images ≡ min (count_of (places_of d.memory)) (2 ^ 128 - 1)
  -- the row before anything was tried
  pub before : Row
  pub empty : before.leads.items ≡ []
  pub untried : before.tried ≡ 0
  pub tried : TriesAsked K plan d mix a before row

-- after each of these cycles of a run the device is this one, but for its counts
abbrev pub StaysThrough : {M : Type 0} → KindOf M → Plan → (fitted n : Device) → (first last : ℕ) → Type 0
StaysThrough {M = M} K plan fitted n first last =
    (k : ℕ) → first ≤ k → k ≤ last → (w : World M) × Ran K (origin_of plan) (given_of plan fitted) k w × IsAsBefore n w.device

-- a row is one of a run: it says this after its first cycle, and each of its cycles leaves the device as the first does
pub record IsRowOf {M : Type 0} (K : KindOf M) (plan : Plan) (fitted : Device) (levels : Bool) (a : Asked) (row : Row) : Type 0 where
  pub world : World M
  pub ran : Ran K (origin_of plan) (given_of plan fitted) row.first world
  -- the device in memory after the first cycle
  pub memory : Device
  pub lies : LiesOn levels memory world.device
  pub says : IsRowAt K plan (lying levels memory world.device) world.mix a row
  pub stays : StaysThrough K plan fitted world.device row.first row.last

-- the sums after these rows were added
abbrev pub sums_of : List Row → Sums → Sums
sums_of [] s = s
sums_of (r ∷ rs) s = sums_of rs (with_row r.to_count s r.leads.items)

-- the sums once the open row is closed
abbrev pub closed_into : Option Row → Sums → Sums
closed_into None s = s
closed_into (Some r) s = with_row r.to_count s r.leads.items

-- an image of a row led to a state that differs
abbrev pub differs_in : Row → Bool
differs_in row = nat_lt 0 (length row.differs.items)

-- an image of one of these rows led to a state that differs, or one before did
abbrev pub differs_of : List Row → Bool → Bool
differs_of [] b = b
differs_of (r ∷ rs) b = differs_of rs (b || differs_in r)

-- an image of the open row, if there is one, led to a state that differs, or one before did
abbrev pub differs_into : Option Row → Bool → Bool
differs_into None b = b
differs_into (Some r) b = b || differs_in r

-- a row with one cycle more
abbrev pub extended : ℕ → ℕ → Row → Row
extended cycle count row = record row { last = cycle; to_count = count }

-- the open row has one cycle more, because the device is as it was
pub record ExtendsRow (cycle : ℕ) (old new : Account) : Type 0 where
  pub count : ℕ
  pub some : is_some old.current ≡ true
  pub more : new.current ≡ option_map (extended cycle count) old.current
  pub same : new.kept.changed ≡ false

-- the open row has one cycle more, or it stays, because the cycle is not asked for
abbrev pub StaysRow : Asked → ℕ → Account → Account → Type 0
StaysRow a cycle old new = ((new.current ≡ old.current) × (has a cycle ≡ false)) ⊎ ExtendsRow cycle old new

-- no row was opened in this cycle, which left this device
pub record KeepsRow (a : Asked) (n : Device) (cycle : ℕ) (old new : Account) : Type 0 where
  pub sums : new.sums ≡ old.sums
  pub differs : new.differs ≡ old.differs
  pub stays : StaysRow a cycle old new
  pub looked : IsLooked old.kept new.kept n

-- a row of this cycle was opened
pub record OpensRow {M : Type 0} (K : KindOf M) (plan : Plan) (d : Lying) (mix : Mix) (a : Asked) (cycle : ℕ) (old new : Account) : Type 0 where
  pub row : Row
  pub opened : new.current ≡ Some row
  pub sums : new.sums ≡ closed_into old.current old.sums
  pub first : row.first ≡ cycle
  pub last : row.last ≡ cycle
  pub lies : LiesOn d.levels d.memory d.seen
  pub says : IsRowAt K plan d mix a row
  pub kept : IsKept new.kept d.seen
  pub differs : new.differs ≡ (old.differs || differs_in row)

abbrev pub LooksTo : {M : Type 0} → KindOf M → Plan → Lying → Mix → Asked → ℕ → Account → Account → Type 0
LooksTo K plan d mix a cycle old new = KeepsRow a d.seen cycle old new ⊎ OpensRow K plan d mix a cycle old new

-- a cycle is in a row
abbrev pub IsIn : ℕ → Row → Type 0
IsIn k row = (row.first ≤ k) × (k ≤ row.last)

abbrev pub IsInOpen : ℕ → Option Row → Type 0
IsInOpen k None = ⊥
IsInOpen k (Some row) = IsIn k row

abbrev pub IsInOne : ℕ → List Row → Type 0
IsInOne k [] = ⊥
IsInOne k (r ∷ rs) = IsIn k r ⊎ IsInOne k rs

-- Each row, also the open one, is one of the run, and the sums count the others. Each of the cycles so far that are asked for is in
-- one. A state differs if one does in a row.
pub record HasRows {M : Type 0} (K : KindOf M) (plan : Plan) (fitted : Device) (levels : Bool) (a : Asked) (done : ℕ) (account : Account) : Type 0 where
  pub closed : List Row
  pub each : AllByRecursion (IsRowOf K plan fitted levels a) closed
  pub sums : account.sums ≡ sums_of closed no_rows
  pub current : IfSome account.current (IsRowOf K plan fitted levels a)
  pub differs : account.differs ≡ differs_into account.current (differs_of closed false)
  pub covers : (k : ℕ) → 1 ≤ k → k ≤ done → has a k ≡ true → IsInOpen k account.current ⊎ IsInOne k closed

-- What is kept of a sweep: rows of all its cycles, except that there is none of the cycle with which a run ends. Nothing is said if
-- memory ran out.
abbrev pub KeepsRows : {M : Type 0} → KindOf M → Plan → Device → Bool → Asked → Account → Swept → Type 0
KeepsRows K plan fitted levels a account Short = Unit {0}
KeepsRows K plan fitted levels a account (Stopped ending) = (done : ℕ) × (ending.cycles ≤ done + 1) × HasRows K plan fitted levels a done account
KeepsRows K plan fitted levels a account (Reached cycle) = HasRows K plan fitted levels a cycle account
