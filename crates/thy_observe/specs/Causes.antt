-- The causes of cycles, and how many cycles have each.
use Rattle.std.specs.Prelude.{◌≡◌, ℕ, ◌==◌, if◌then◌else◌, Bool, true, false, List, [], ◌∷◌, length, sum_by, count_by}
use Rattle.std.specs.List.{range_with_len}
use Rattle.thy_computer.specs.declared.did.Did.{Did}
use Rattle.thy_computer.specs.declared.did.Did.TheVariants as did
use Rattle.thy_run.specs.Watching.{Taken}
use Rattle.thy_observe.specs.declared.causes.Cause.{Cause}
use Rattle.thy_observe.specs.declared.causes.Cause.TheVariants.{Boot, Instruction, Meanwhile, Flush, Merge, Seal, Promotion, Copy, Home, Page, Processor, Table, Commit, Barrier, NvmDrain, DramDrain, Nothing}
use Rattle.thy_observe.specs.declared.kinds.Kind.{Kind}
use Rattle.thy_observe.specs.declared.kinds.Kind.TheVariants as kind
use Rattle.thy_observe.specs.Kinds.{kind_of}

-- ---- whether a checkpoint is under way: an epoch was sealed, and is not committed

-- a checkpoint is under way after a step that did this
abbrev pub under_way_after_step : Bool → Did → Bool
under_way_after_step b (did.Sealed epoch count cause) = true
under_way_after_step b (did.Committed epoch overlapped) = false
under_way_after_step b d = b

-- a checkpoint is under way after the cut that may fall after a step: none is, as a boot follows
abbrev pub under_way_after_cut : Bool → Bool → Bool
under_way_after_cut b fell = if fell then false else b

-- a checkpoint is under way after a cycle
abbrev pub under_way_then : Bool → Taken → Bool
under_way_then b t = under_way_after_cut (under_way_after_step b t.stepped.did) t.fell

-- a checkpoint is under way after these cycles
abbrev pub under_way_after : Bool → List Taken → Bool
under_way_after b [] = b
under_way_after b (t ∷ seen) = under_way_after (under_way_then b t) seen

-- ---- causes

-- the cause of a cycle of this kind, by whether a checkpoint was under way before it
abbrev pub cause_of : Bool → Kind → Cause
cause_of b kind.Boot = Boot
cause_of b kind.NvmDrain = NvmDrain
cause_of b kind.DramDrain = DramDrain
cause_of b kind.Moved = if b then Meanwhile else Instruction
cause_of b kind.Retired = if b then Meanwhile else Instruction
cause_of b kind.Flushed = Flush
cause_of b kind.Merged = Merge
cause_of b kind.Promoted = Promotion
cause_of b kind.Sealed = Seal
cause_of b kind.Copied = if b then Copy else Home
cause_of b kind.Page = Page
cause_of b kind.State = Processor
cause_of b kind.Table = Table
cause_of b kind.Barrier = Barrier
cause_of b kind.Commit = Commit
cause_of b kind.Committed = Barrier
cause_of b kind.Nothing = Nothing

-- the index of a cause among all
abbrev pub cause_index : Cause → ℕ
cause_index Boot = 0
cause_index Instruction = 1
cause_index Meanwhile = 2
cause_index Flush = 3
cause_index Merge = 4
cause_index Seal = 5
cause_index Promotion = 6
cause_index Copy = 7
cause_index Home = 8
cause_index Page = 9
cause_index Processor = 10
cause_index Table = 11
cause_index Commit = 12
cause_index Barrier = 13
cause_index NvmDrain = 14
cause_index DramDrain = 15
cause_index Nothing = 16

-- all causes, by rising index
abbrev pub all_causes : List Cause
all_causes =
    Boot ∷ Instruction ∷ Meanwhile ∷ Flush ∷ Merge ∷ Seal ∷ Promotion ∷ Copy ∷ Home ∷ Page ∷ Processor ∷ Table ∷ Commit ∷ Barrier ∷ NvmDrain
    ∷ DramDrain ∷ Nothing ∷ []

-- the causes of these cycles, in order
abbrev pub causes_from : Bool → List Taken → List Cause
causes_from b [] = []
causes_from b (t ∷ seen) = cause_of b (kind_of t.stepped.did) ∷ causes_from (under_way_then b t) seen

-- the causes of a run's cycles, which begin with a boot, in order
abbrev pub causes_of : List Taken → List Cause
causes_of seen = causes_from false seen

-- a cause has this index
abbrev pub has_index : ℕ → Cause → Bool
has_index i c = cause_index c == i

-- how many cycles have the cause with this index
abbrev pub how_many_by : ℕ → List Taken → ℕ
how_many_by i seen = count_by (has_index i) (causes_of seen)

-- ---- sums

-- each cycle has one cause: the numbers of all causes add up to the number of cycles
abbrev pub CausesAddUp : Type 0
CausesAddUp = (seen : List Taken) → sum_by (λ i. how_many_by i seen) (range_with_len 0 17) ≡ length seen

-- a cause without regard to what is under way
abbrev pub plainly : Cause → Cause
plainly Meanwhile = Instruction
plainly Home = Copy
plainly c = c

-- the cause of a kind of cycles, without regard to what is under way
abbrev pub plain_cause : Kind → Cause
plain_cause k = plainly (cause_of false k)

-- The causes agree with the kinds: the cycles of each cause without that regard are the cycles of its kinds. Within
-- instructions they moved or retired; the copies of both sorts are the copies; barriers commit or do not; each other cause is a
-- kind.
abbrev pub CausesAgree : Type 0
CausesAgree =
    (i : ℕ) (seen : List Taken)
    → count_by (λ c. has_index i (plainly c)) (causes_of seen) ≡ count_by (λ (t : Taken). has_index i (plain_cause (kind_of t.stepped.did))) seen
