-- What is left of an instruction, of copies and of promotions, in each phase, and what a call of the scheme leaves of it; and
-- what a cycle leaves of the dirty lines that does not touch the hart.
use Rattle.std.proofs.Common.{◌≡◌, ◌≢◌, ℕ, ◌+◌, ◌≤◌, false, Option, Some, None, refl, ap, arith}
use Rattle.thy_block.specs.declared.cause.EndCause.{EndCause}
use Rattle.thy_block.specs.Device.{Device}
use Rattle.thy_cache.specs.Contents.{dirty_count}
use Rattle.thy_hart.specs.HartState.{secured, has_secured}
use Rattle.thy_hart.specs.Moments.{Moment, moves_left}
use Rattle.thy_computer.specs.declared.did.Did.{Did}
use Rattle.thy_computer.specs.declared.view.Phase.{Phase}
use Rattle.thy_computer.specs.declared.view.Phase.TheVariants.{Boot, Run, Halt}
use Rattle.thy_computer.specs.Origin.{Origin}
use Rattle.thy_computer.specs.Stores.{UsesEntries}
use Rattle.thy_computer.specs.Views.{is_boot}
use Rattle.thy_computer.specs.Work.{begins_instruction, begins_epoch, adds_copies, LeavesNoMore}
use Rattle.thy_scheme.specs.Scheme.{SchemeOf}
use Rattle.thy_scheme.specs.Calls.{owed_in, OwesNoMore}
use Rattle.thy_scheme.specs.Machine.{Machine, moment_of, moves_begun, moves_while, moves_in, after_boot_only, view_of, pressure_of, gauge_in, gauge_of}

-- ---- moves

pub moves_same : (phase : Phase) (over : Option EndCause) (begun : Option ℕ) (a b : Moment) → moves_left b ≡ moves_left a
    → moves_in phase over begun b ≡ moves_in phase over begun a
moves_same Boot over begun a b e = refl
moves_same Run None begun a b e = ap (moves_begun begun) e
moves_same Run (Some cause) begun a b e = refl
moves_same Halt over begun a b e = refl

-- a machine has at most the moves left of one that runs
moves_most : (phase : Phase) (over : Option EndCause) (begun : Option ℕ) (a : Moment)
    → moves_in phase over begun a ≤ moves_in Run over begun a
moves_most Boot over begun a = omega arith
moves_most Run over begun a = omega arith
moves_most Halt over begun a = omega arith

-- after a phase that runs there are no more moves than in it
pub moves_fewer : (before now : Phase) (over : Option EndCause) (begun : Option ℕ) (a b : Moment) → before ≡ Run
    → moves_left b ≡ moves_left a
    → moves_in now over begun b ≤ moves_in before over begun a
moves_fewer before now over begun a b runs e =
    omega (arith, moves_most now over begun b, moves_same Run over begun a b e, ap (λ p. moves_in p over begun a) runs)

-- no moves are left once the epoch is over
pub moves_over : (phase : Phase) (over : Option EndCause) (begun : Option ℕ) (cause : EndCause) (a : Moment) → over ≡ Some cause
    → moves_in phase over begun a ≡ 0
moves_over Boot over begun cause a e = refl
moves_over Run over begun cause a e = ap (λ x. moves_while x begun a) e
moves_over Halt over begun cause a e = refl

-- ---- numbers that are none in the boot

pub number_behind : (phase : Phase) (number : ℕ) → phase ≢ Boot → after_boot_only phase number ≡ number
number_behind Boot number behind = absurd (behind refl)
number_behind Run number behind = refl
number_behind Halt number behind = refl

-- ---- no more is left

-- what is shown of a cycle after the boot: it leaves no more to do
pub record NoMore {S : Type 0} (K : SchemeOf S) (did : Did) (m : Machine S) (n : Device) (next : Machine S) (new : Device) : Type 0 where
  pub moves : begins_instruction did ≡ false
      → moves_in next.phase next.hart.epoch.over next.begun (moment_of K next new)
      ≤ moves_in m.phase m.hart.epoch.over m.begun (moment_of K m n)
  pub owed : adds_copies did ≡ false → OwesNoMore K m.scheme n next.scheme new
  pub owed_in_all : begins_epoch did ≡ false → owed_in K next.scheme new ≤ owed_in K m.scheme n
  pub promotions : begins_epoch did ≡ false → K.promotions_left next.scheme ≤ K.promotions_left m.scheme

pub leaves_no_more : {S : Type 0} (K : SchemeOf S) (did : Did) (m : Machine S) (n : Device) (next : Machine S) (new : Device)
    → m.phase ≢ Boot → next.phase ≢ Boot
    → NoMore K did m n next new → LeavesNoMore did (gauge_of K m n) (gauge_of K next new)
leaves_no_more K did m n next new behind after l =
    let owed_was = number_behind m.phase (K.holding m.scheme n).owed behind in
    let owed_is = number_behind next.phase (K.holding next.scheme new).owed after in
    let later_was = number_behind m.phase (K.owed_later m.scheme) behind in
    let later_is = number_behind next.phase (K.owed_later next.scheme) after in
    let promoted_was = number_behind m.phase (K.promotions_left m.scheme) behind in
    let promoted_is = number_behind next.phase (K.promotions_left next.scheme) after in
    record {
      moves = l.moves;
      owed = λ e. omega (arith, owed_was, owed_is, l.owed e);
      owed_in_all = λ e. omega (arith, owed_was, owed_is, later_was, later_is, l.owed_in_all e);
      promotions = λ e. omega (arith, promoted_was, promoted_is, l.promotions e);
    }

-- in the boot no more is left than before
pub booting_no_more : {S : Type 0} (K : SchemeOf S) (did : Did) (m next : Machine S) (n new : Device)
    → LeavesNoMore did (gauge_in K Boot m n) (gauge_in K Boot next new)
booting_no_more K did m next n new =
    record { moves = λ e. omega arith; owed = λ e. omega arith; owed_in_all = λ e. omega arith; promotions = λ e. omega arith }

-- ---- dirty lines

-- with the instruction in hand as it was, and no more dirty lines, no entry is secured; after the boot none may be taken but
-- for lines that went clean
pub uses_none : {S : Type 0} (K : SchemeOf S) (o : Origin) (m next : Machine S) (n new : Device) → dirty_count next.cache ≤ dirty_count m.cache
    → next.hart.hand ≡ m.hart.hand
    → (is_boot (view_of K o m n).phase ≡ false → dirty_count next.cache + K.free m.scheme ≤ dirty_count m.cache + K.free next.scheme)
    → UsesEntries (view_of K o m n) (pressure_of K m) (pressure_of K next) (gauge_of K m n) (gauge_of K next new)
uses_none K o m next n new fewer same room =
    let kept : secured next.hart.hand ≡ secured m.hart.hand = ap secured same in
    record {
      entries = omega (arith, kept);
      lines = omega (arith, fewer, kept);
      room = λ run. omega (arith, kept, room run);
      once = λ begun. ap has_secured same;
    }
