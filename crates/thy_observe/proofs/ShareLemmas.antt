-- The shares of both harts.
use Rattle.std.proofs.Common.{◌≡◌, ℕ, ◌+◌, ◌==◌, ◌≤◌, Bool, true, false, cond, if◌then◌else◌, List, [], ◌∷◌, ◌++◌, length, refl, arith}
use Rattle.std.proofs.lemmas.List.Sums.{sum_by-cons, count_by-le-length}
use Rattle.thy_layout.specs.declared.engine_step.EngineStep.TheVariants as engine
use Rattle.thy_computer.specs.declared.did.Did.{Did}
use Rattle.thy_computer.specs.declared.did.Did.TheVariants.{Boot, Loaded, Restarted, Refused, Moved, Retired, Flushed, Merged, Sealed, Promoted, Engine, Committed, NvmDrained, DramDrained, Nothing}
use Rattle.thy_run.specs.Watching.{Taken}
use Rattle.thy_observe.specs.declared.shares.Shares.{Shares}
use Rattle.thy_observe.specs.Kinds.{kind_of, index_of, is_at, how_many}
use Rattle.thy_observe.specs.Shares.{nobodys, retired_by_first, retired_by_second, shares_after_step, shares_after_cut, shares_after, all_moved, all_retired, AreOf, SharesAddUp}

-- the shares after one cycle more
pub shares-one : (s : Shares) (seen : List Taken) (t : Taken)
    → shares_after s (seen ++ t ∷ []) ≡ shares_after_cut (shares_after_step (shares_after s seen) t.stepped.did) t.fell
shares-one s [] t = refl
shares-one s (x ∷ seen) t = shares-one (shares_after_cut (shares_after_step s x.stepped.did) x.fell) seen t

-- ---- each cycle goes into one of them at the most

-- what a step or a cut makes of shares: `retired` instructions more, and at most `moved` moves
record Adds (s next : Shares) (moved retired : ℕ) : Type 0 where
  moves : all_moved next + next.in_hand ≤ all_moved s + s.in_hand + moved
  retires : all_retired next ≡ all_retired s + retired

same : (s : Shares) → Adds s s 0 0
same s = record { moves = omega arith; retires = omega arith }

by_either : (b : Bool) (s : Shares) → Adds s (if b then retired_by_first s else retired_by_second s) 0 1
by_either true s = record { moves = omega arith; retires = omega arith }
by_either false s = record { moves = omega arith; retires = omega arith }

-- a kind's number, if a step is of that kind
abbrev ones : ℕ → Did → ℕ
ones i d = cond (index_of (kind_of d) == i) 1 0

adds : (s : Shares) (d : Did) → Adds s (shares_after_step s d) (ones 3 d) (ones 4 d)
adds s Boot = same s
adds s Loaded = same s
adds s (Restarted epoch count) = same s
adds s (Refused bad) = same s
adds s Moved = record { moves = omega arith; retires = omega arith }
adds s (Retired hart) = by_either (hart == 0) s
adds s Flushed = same s
adds s Merged = same s
adds s (Sealed epoch count cause) = record { moves = omega arith; retires = omega arith }
adds s Promoted = same s
adds s (Engine engine.Copied) = same s
adds s (Engine engine.PageBlock) = same s
adds s (Engine engine.StateBlock) = same s
adds s (Engine engine.TableBlock) = same s
adds s (Engine engine.Barrier) = same s
adds s (Engine engine.CommitWritten) = same s
adds s (Engine (engine.Committed epoch)) = same s
adds s (Engine engine.Idle) = same s
adds s (Committed epoch overlapped) = same s
adds s NvmDrained = same s
adds s DramDrained = same s
adds s Nothing = same s

cut : (s : Shares) (fell : Bool) → Adds s (shares_after_cut s fell) 0 0
cut s true = record { moves = omega arith; retires = omega arith }
cut s false = same s

adds-one : (s : Shares) (t : Taken)
    → Adds s (shares_after_cut (shares_after_step s t.stepped.did) t.fell) (ones 3 t.stepped.did) (ones 4 t.stepped.did)
adds-one s t =
    let next : Shares = shares_after_step s t.stepped.did in
    let step = adds s t.stepped.did in
    let after = cut next t.fell in
    record { moves = omega (arith, step.moves, after.moves); retires = omega (arith, step.retires, after.retires) }

adds-all : (s : Shares) (seen : List Taken) → Adds s (shares_after s seen) (how_many 3 seen) (how_many 4 seen)
adds-all s [] = same s
adds-all s (t ∷ seen) =
    let one = adds-one s t in
    let rest = adds-all (shares_after_cut (shares_after_step s t.stepped.did) t.fell) seen in
    let moves = sum_by-cons (λ x. cond (is_at 3 x) 1 0) t seen in
    let retires = sum_by-cons (λ x. cond (is_at 4 x) 1 0) t seen in
    record { moves = omega (arith, one.moves, rest.moves, moves); retires = omega (arith, one.retires, rest.retires, retires) }

pub shares-add-up : SharesAddUp
shares-add-up seen =
    let all = adds-all nobodys seen in
    record { retired = omega (arith, all.retires); moved = omega (arith, all.moves) }

-- no more cycles went into the shares than there were
pub few-after : (seen : List Taken) → AreOf (shares_after nobodys seen) (length seen)
few-after seen =
    let all = adds-all nobodys seen in
    record {
      moved = omega (arith, all.moves, count_by-le-length (is_at 3) seen);
      retired = omega (arith, all.retires, count_by-le-length (is_at 4) seen);
    }

pub widened : (s : Shares) (a b : ℕ) → a ≤ b → AreOf s a → AreOf s b
widened s a b l h = record { moved = omega (arith, l, h.moved); retired = omega (arith, l, h.retired) }
