-- With one hart no turn need be told, and turns do not matter.
use Rattle.std.proofs.Common.{◌≡◌, ℕ, zero, suc, ◌-◌, ◌<◌, List, [], get_or, None, refl, sym, ◌∙◌, ap, arith}
use Rattle.thy_isa.specs.Step.{State, Setting, step}
use Rattle.thy_isa.proofs.HartLaws.{step-alone, crossed-alone, step_of-alone}
use Rattle.thy_computer.specs.declared.did.Did.TheVariants.{Boot, Loaded, Restarted, Refused, Moved, Retired, Flushed, Merged, Sealed, Promoted, Engine, Committed, NvmDrained, DramDrained, Nothing}
use Rattle.thy_computer.specs.OneHart.{EachHasItsTurn, TurnsDontMatter}
use Rattle.thy_computer.specs.Origin.{setting_of, by_turns, at}
use Rattle.thy_computer.proofs.TurnLaws.{IsKept, without_turns, by_turns-keeps}

pub has-turn : EachHasItsTurn
has-turn o v (Retired hart) one h =
    let there : hart < o.geometry.harts = h.there in
    without_turns o v.count ∙ (let e : 0 ≡ hart = omega (arith, there, one) in e)
has-turn o v Boot one h = tt
has-turn o v Loaded one h = tt
has-turn o v (Restarted epoch count) one h = tt
has-turn o v (Refused bad) one h = tt
has-turn o v Moved one h = tt
has-turn o v Flushed one h = tt
has-turn o v Merged one h = tt
has-turn o v (Sealed epoch count cause) one h = tt
has-turn o v Promoted one h = tt
has-turn o v (Engine step) one h = tt
has-turn o v (Committed epoch overlapped) one h = tt
has-turn o v NvmDrained one h = tt
has-turn o v DramDrained one h = tt
has-turn o v Nothing one h = tt

-- ---- one hart

alone : (g : Setting) → IsKept (λ s. s.other ≡ None) g
alone g = record { steps = λ s none. step-alone g s none; crosses = λ s none. crossed-alone s none }

by_turns-alone : (g : Setting) (a b : List ℕ) (k : ℕ) (s : State) → s.other ≡ None → by_turns g a k s ≡ by_turns g b k s
unfolding by_turns
by_turns-alone g a b zero s none = refl
by_turns-alone g a b (suc k) s none =
    let there : (by_turns g a k s).other ≡ None = by_turns-keeps (λ t. t.other ≡ None) g (alone g) a 0 k s (omega arith) none in
    let here : (by_turns g b k s).other ≡ None = by_turns-keeps (λ t. t.other ≡ None) g (alone g) b 0 k s (omega arith) none in
    step_of-alone g (get_or a k 0) (by_turns g a k s) there
    ∙ ap (step g) (by_turns-alone g a b k s none)
    ∙ sym (step_of-alone g (get_or b k 0) (by_turns g b k s) here)

pub turns-alone : TurnsDontMatter
unfolding at
turns-alone o turns k none = by_turns-alone (setting_of o) turns [] (k - o.start.count) o.start none
