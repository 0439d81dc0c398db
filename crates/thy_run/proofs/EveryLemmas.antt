-- What a device makes of its number of writes between two moves.
use Rattle.std.proofs.Common.{Bool, true, false, if◌then◌else◌, Option, ℕ, ◌≡◌, ◌∙◌, ap, refl, inl, inr}
use Rattle.thy_block.specs.Device.{Device, Wear, Plain, Levels, Unsaid, CutsWear, moved_on, moves_next, unworn, worn}
use Rattle.thy_computer.specs.Action.{Action, Rest, ReadAt, WriteAt, Barrier, Drain, IsAfter, FailsTo, after}
use Rattle.thy_computer.proofs.ActionLemmas.{after-is}
use Rattle.thy_run.specs.Every.{every_of}

every-worn : (w : Wear) → every_of (worn w) ≡ every_of w
every-worn Plain = refl
every-worn (Levels every since moves) = refl
every-worn Unsaid = refl

pub every-unworn : (w : Wear) → every_of (unworn w) ≡ every_of w
every-unworn Plain = refl
every-unworn (Levels every since moves) = refl
every-unworn Unsaid = refl

every-moved_on : (w : Wear) → every_of (moved_on w) ≡ every_of w
every-moved_on Plain = refl
every-moved_on (Levels every since moves) = refl
every-moved_on Unsaid = refl

every-settled : (w : Wear) (moves : Bool) → every_of (if moves then moved_on w else w) ≡ every_of w
every-settled w true = every-moved_on w
every-settled w false = refl

every_by : (count : ℕ) (a : Action) (n : Device) → every_of (after count a n).wear ≡ every_of n.wear
every_by count Rest n = refl
every_by count (ReadAt place) n = refl
every_by count (WriteAt place block) n = every-worn n.wear
every_by count Barrier n = every-settled n.wear (moves_next n)
every_by count Drain n = refl

pub every-after : (a : Action) (n new : Device) → IsAfter a n new → every_of new.wear ≡ every_of n.wear
every-after a n new left = ap (λ (m : Device). every_of m.wear) (after-is a n new left) ∙ every_by new.writes a n

pub every-failed : (a : Action) (n new : Device) → FailsTo a n new → every_of new.wear ≡ every_of n.wear
every-failed Rest n new failed = absurd failed
every-failed (ReadAt place) n new failed = ap every_of failed.counts.wear
every-failed (WriteAt place block) n new failed = ap every_of failed.counts.wear
every-failed Barrier n new failed = ap every_of failed.wear
every-failed Drain n new failed = ap every_of failed.counts.wear

pub every-cut : (down : Bool) (old new : Wear) → CutsWear down old new → every_of new ≡ every_of old
every-cut false old new left = ap every_of left
every-cut true old new left = elim left as (λ _. every_of new ≡ every_of old) [ inl same ↦ ap every_of same | inr on ↦ ap every_of on ∙ every-moved_on old ]
