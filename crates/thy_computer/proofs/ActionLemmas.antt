-- What a machine asks that does not migrate, any machine may ask; and what an action leaves of the NVM.
use Rattle.std.proofs.Common.{Bool, true, false, if◌then◌else◌, ℕ, ◌≡◌, ◌∙◌, ap, sym, refl, inl, inr, length, ◌+◌, ◌≤◌, arith}
use Rattle.std.proofs.lemmas.Bool.{true≢false}
use Rattle.std.proofs.lemmas.List.{length-drop}
use Rattle.thy_block.specs.Device.{Device, Wear, Plain, Levels, Unsaid, CountAlike, CountsBy, own_count, CutsWear, moved_on, moves_next, says, settled, worn}
use Rattle.thy_block.proofs.DeviceLemmas.{length-written_to, length-settled, length-drained, queue-written_to}
use Rattle.thy_layout.specs.declared.engine_step.EngineStep.TheVariants.{Idle, Copied, PageBlock, StateBlock, TableBlock, Barrier as EngineBarrier, CommitWritten, Committed as EngineCommitted}
use Rattle.thy_computer.specs.declared.did.Did.{Did}
use Rattle.thy_computer.specs.declared.did.Did.TheVariants.{Boot, Loaded, Restarted, Refused, Moved, Retired, Flushed, Merged, Sealed, Promoted, Engine, Committed, NvmDrained, DramDrained, Nothing}
use Rattle.thy_computer.specs.Action.{Action, Rest, ReadAt, WriteAt, Barrier, Drain, IsRead, EndsRestart, AsksBy, Asks, ActsBy, Acts, IsAccess, IsAfter, IsLeftBy, after}

ends_by : (migrates : Bool) (a : Action) → IsRead a → EndsRestart migrates a
ends_by false a h = h
ends_by true Rest h = h
ends_by true (ReadAt place) h = h
ends_by true (WriteAt place block) h = h
ends_by true Barrier h = tt
ends_by true Drain h = h

pub asks_by : (migrates : Bool) (did : Did) (a : Action) → Asks did a → AsksBy migrates did a
asks_by migrates Boot a h = h
asks_by migrates Loaded a h = h
asks_by migrates (Restarted epoch count) a h = ends_by migrates a h
asks_by migrates (Refused bad) a h = h
asks_by migrates Moved a h = h
asks_by migrates (Retired hart) a h = h
asks_by migrates Flushed a h = h
asks_by migrates Merged a h = h
asks_by migrates (Sealed epoch count cause) a h = h
asks_by migrates Promoted a h = h
asks_by migrates (Engine Idle) a h = h
asks_by migrates (Engine Copied) a h = h
asks_by migrates (Engine PageBlock) a h = h
asks_by migrates (Engine StateBlock) a h = h
asks_by migrates (Engine TableBlock) a h = h
asks_by migrates (Engine EngineBarrier) a h = h
asks_by migrates (Engine CommitWritten) a h = h
asks_by migrates (Engine (EngineCommitted epoch)) a h = h
asks_by migrates (Committed epoch overlapped) a h = h
asks_by migrates NvmDrained a h = h
asks_by migrates DramDrained a h = h
asks_by migrates Nothing a h = h

pub acts_by : (migrates : Bool) (did : Did) (n new : Device) → Acts did n new → ActsBy migrates did n new
acts_by migrates did n new a = record { action = a.action; asked = asks_by migrates did a.action a.asked; left = a.left }

-- what an action leaves, with its count of writes
pub after-is : (a : Action) (n new : Device) → IsAfter a n new → IsLeftBy a n new
after-is Rest n new left = left
after-is (ReadAt place) n new left = left
after-is (WriteAt place block) n new left = left
after-is Barrier n new left = left.device
after-is Drain n new left = left

-- a device is as an action leaves it also if it wrote nothing of its own
pub left-as_was : (a : Action) (n : Device) → IsLeftBy a n (after n.writes a n)
left-as_was Rest n = refl
left-as_was (ReadAt place) n = refl
left-as_was (WriteAt place block) n = refl
left-as_was Barrier n = refl
left-as_was Drain n = refl

-- an access leaves one device
pub access-is : (a : Action) (n new : Device) → IsAccess a → IsAfter a n new → new ≡ after n.writes a n
access-is Rest n new access left = left
access-is (ReadAt place) n new access left = left
access-is (WriteAt place block) n new access left = left
access-is Barrier n new access left = absurd access
access-is Drain n new access left = absurd access

pub access-leaves : (a : Action) (n : Device) → IsAccess a → IsAfter a n (after n.writes a n)
access-leaves Rest n access = refl
access-leaves (ReadAt place) n access = refl
access-leaves (WriteAt place block) n access = refl
access-leaves Barrier n access = absurd access
access-leaves Drain n access = absurd access

-- two devices that an action left are one, if they have one count
counted-once : (w : Wear) (n : Device) (count other : ℕ) → says w ≡ true → CountsBy w n.writes (own_count n) count
    → CountsBy w n.writes (own_count n) other → count ≡ other
counted-once Plain n count other said a b = a ∙ sym b
counted-once (Levels every since moves) n count other said a b = a ∙ sym b
counted-once Unsaid n count other said a b = absurd (true≢false (sym said))

pub after-once : (a : Action) (n u v : Device) → IsAfter a n u → IsAfter a n v → CountAlike n u v → u ≡ v
after-once Rest n u v left other alike = left ∙ sym other
after-once (ReadAt place) n u v left other alike = left ∙ sym other
after-once (WriteAt place block) n u v left other alike = left ∙ sym other
after-once Barrier n u v left other alike =
    let same : u.writes ≡ v.writes =
    elim alike as (λ _. u.writes ≡ v.writes) [ inl said ↦ counted-once n.wear n u.writes v.writes said left.count other.count | inr e ↦ e ] in
    left.device ∙ ap (λ k. settled k n) same ∙ sym other.device
after-once Drain n u v left other alike = left ∙ sym other

-- a device that says what its barriers write goes on doing so
says-worn : (w : Wear) → says (worn w) ≡ says w
says-worn Plain = refl
says-worn (Levels every since moves) = refl
says-worn Unsaid = refl

says-moved_on : (w : Wear) → says (moved_on w) ≡ says w
says-moved_on Plain = refl
says-moved_on (Levels every since moves) = refl
says-moved_on Unsaid = refl

says-settled : (w : Wear) (moves : Bool) → says (if moves then moved_on w else w) ≡ says w
says-settled w true = says-moved_on w
says-settled w false = refl

says_of : (count : ℕ) (a : Action) (n : Device) → says (after count a n).wear ≡ says n.wear
says_of count Rest n = refl
says_of count (ReadAt place) n = refl
says_of count (WriteAt place block) n = says-worn n.wear
says_of count Barrier n = says-settled n.wear (moves_next n)
says_of count Drain n = refl

pub says-after : (a : Action) (n new : Device) → IsAfter a n new → says new.wear ≡ says n.wear
says-after a n new left = ap (λ (m : Device). says m.wear) (after-is a n new left) ∙ says_of new.writes a n

pub says-cut : (down : Bool) (old new : Wear) → CutsWear down old new → says new ≡ says old
says-cut false old new left = ap says left
says-cut true old new left = elim left as (λ _. says new ≡ says old) [ inl same ↦ ap says same | inr on ↦ ap says on ∙ says-moved_on old ]

-- an action leaves the NVM as up as it was
pub down_of : (count : ℕ) (a : Action) (n : Device) → (after count a n).down ≡ n.down
down_of count Rest n = refl
down_of count (ReadAt place) n = refl
down_of count (WriteAt place block) n = refl
down_of count Barrier n = refl
down_of count Drain n = refl

pub down-after : (a : Action) (n new : Device) → IsAfter a n new → new.down ≡ n.down
down-after a n new left = ap (λ (m : Device). m.down) (after-is a n new left) ∙ down_of new.writes a n

-- an action leaves the number of blocks of the NVM
pub length_of : (count : ℕ) (a : Action) (n : Device) → length (after count a n).image ≡ length n.image
length_of count Rest n = refl
length_of count (ReadAt place) n = refl
length_of count (WriteAt place block) n = length-written_to n place block
length_of count Barrier n = length-settled count n
length_of count Drain n = length-drained n

pub length-after : (a : Action) (n new : Device) → IsAfter a n new → length new.image ≡ length n.image
length-after a n new left = ap (λ (m : Device). length m.image) (after-is a n new left) ∙ length_of new.writes a n

-- the queue grows by one write at most in an action
pub queue_of : (count : ℕ) (a : Action) (n : Device) → length (after count a n).queue ≤ length n.queue + 1
queue_of count Rest n = omega arith
queue_of count (ReadAt place) n = omega arith
queue_of count (WriteAt place block) n = queue-written_to n place block
queue_of count Barrier n = omega arith
queue_of count Drain n = omega (arith, length-drop 1 n.queue)

pub queue-after : (a : Action) (n new : Device) → IsAfter a n new → length new.queue ≤ length n.queue + 1
queue-after a n new left = omega (arith, ap (λ (m : Device). length m.queue) (after-is a n new left), queue_of new.writes a n)
