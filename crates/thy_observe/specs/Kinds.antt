-- The kinds of cycles, and how many cycles are of each.
use Rattle.std.specs.Prelude.{◌≡◌, ℕ, ◌==◌, Bool, true, false, List, length, sum_by, count_by, Option, Some}
use Rattle.std.specs.List.{range_with_len}
use Rattle.thy_layout.specs.declared.engine_step.EngineStep.TheVariants as engine
use Rattle.thy_computer.specs.declared.did.Did.{Did}
use Rattle.thy_computer.specs.declared.did.Did.TheVariants as did
use Rattle.thy_computer.specs.declared.did.Stall.{Stall}
use Rattle.thy_computer.specs.declared.did.Stall.TheVariants.{Waiting}
use Rattle.thy_run.specs.Watching.{Taken}
use Rattle.thy_observe.specs.declared.kinds.Kind.{Kind}
use Rattle.thy_observe.specs.declared.kinds.Kind.TheVariants as kind

-- the kind of a cycle that did this
abbrev pub kind_of : Did → Kind
kind_of did.Boot = kind.Boot
kind_of did.Loaded = kind.Boot
kind_of (did.Restarted epoch count) = kind.Boot
kind_of (did.Refused bad) = kind.Boot
kind_of did.NvmDrained = kind.NvmDrain
kind_of did.DramDrained = kind.DramDrain
kind_of did.Moved = kind.Moved
kind_of (did.Retired hart) = kind.Retired
kind_of did.Flushed = kind.Flushed
kind_of did.Merged = kind.Merged
kind_of did.Promoted = kind.Promoted
kind_of (did.Sealed epoch count cause) = kind.Sealed
kind_of (did.Engine engine.Copied) = kind.Copied
kind_of (did.Engine engine.PageBlock) = kind.Page
kind_of (did.Engine engine.StateBlock) = kind.State
kind_of (did.Engine engine.TableBlock) = kind.Table
kind_of (did.Engine engine.Barrier) = kind.Barrier
kind_of (did.Engine engine.CommitWritten) = kind.Commit
kind_of (did.Engine (engine.Committed epoch)) = kind.Committed
kind_of (did.Engine engine.Idle) = kind.Nothing
kind_of (did.Committed epoch overlapped) = kind.Committed
kind_of did.Nothing = kind.Nothing

-- the index of a kind among all
abbrev pub index_of : Kind → ℕ
index_of kind.Boot = 0
index_of kind.NvmDrain = 1
index_of kind.DramDrain = 2
index_of kind.Moved = 3
index_of kind.Retired = 4
index_of kind.Flushed = 5
index_of kind.Merged = 6
index_of kind.Promoted = 7
index_of kind.Sealed = 8
index_of kind.Copied = 9
index_of kind.Page = 10
index_of kind.State = 11
index_of kind.Table = 12
index_of kind.Barrier = 13
index_of kind.Commit = 14
index_of kind.Committed = 15
index_of kind.Nothing = 16

-- a cycle is of the kind with this index
abbrev pub is_at : ℕ → Taken → Bool
is_at i t = index_of (kind_of t.stepped.did) == i

-- how many cycles are of the kind with this index
abbrev pub how_many : ℕ → List Taken → ℕ
how_many i seen = count_by (is_at i) seen

-- each cycle is of one kind: the counts of all kinds add up to the number of cycles
abbrev pub KindsAddUp : Type 0
KindsAddUp = (seen : List Taken) → sum_by (λ i. how_many i seen) (range_with_len 0 17) ≡ length seen

-- the engine took a cycle at the turn of the hart, which waited for it
abbrev pub is_waiting : Option Stall → Bool
is_waiting (Some Waiting) = true
is_waiting stall = false

abbrev pub has_waited : Taken → Bool
has_waited t = is_waiting t.stepped.stall
