-- What holds after the boot of a scheme that waits.
use Rattle.std.proofs.Common.{◌≡◌, ℕ, ◌<◌, ◌≤◌, ◌||◌, not, Bool, true, false, is_some, nat_lt, if◌then◌else◌, refl, sym, ◌∙◌, ap, ap₂, subst, arith}
use Rattle.std.proofs.lemmas.Bool.{ltb-true, not-true}
use Rattle.thy_block.specs.Device.{Device, drained, counting}
use Rattle.thy_computer.specs.Origin.{Origin}
use Rattle.thy_scheme.specs.CheckpointMarks.{CheckpointMarks}
use Rattle.thy_scheme.specs.Scheme.{SchemeOf, Stands}
use Rattle.thy_scheme.specs.Calls.{Keeps}
use Rattle.thy_scheme.specs.Laws.{IsLawful, RunHolds, StaysSound, is_free_to_run}
use Rattle.thy_test_support.specs.Waiting.{Waiting, barriers, is_waiting}
use Rattle.thy_test_support.specs.WaitingScheme.{AppliesNothing, Stays, is_under_way, to_come, waits_over}

-- ---- words

or_false : (a b : Bool) → b ≡ false → (a || b) ≡ a
or_false true b e = refl
or_false false b e = e

pub neither : (a b : Bool) → (a || b) ≡ false → (a ≡ false) × (b ≡ false)
neither true b e = absurd (cc)
neither false b e = (refl, e)

-- no more barriers are to come than follow a commit
pub few-to-come : (way : Bool) (left : ℕ) → left ≤ barriers → (if way then barriers else left) ≤ barriers
few-to-come true left few = omega arith
few-to-come false left few = few

-- ---- while a scheme stands

module _ {S : Type 0} (K : SchemeOf S) (laws : IsLawful K) (never : AppliesNothing K) where
  -- the one below is under way exactly while an epoch is sealed
  pub way-below : (o : Origin) (k : CheckpointMarks) (s : S) (n : Device) → Stands K o k s n → K.under_way s ≡ is_some k.sealed
  way-below o k s n stands = (laws.run_holds o k s n stands).way ∙ or_false (is_some k.sealed) (K.applies s) (never o k s n stands)

  -- the barriers to come depend only on whether a checkpoint is under way below, and on how many are left
  pub come-same : (v w : Waiting S) → K.under_way w.below ≡ K.under_way v.below → w.left ≡ v.left → to_come K w ≡ to_come K v
  come-same v w way left = ap₂ (λ (b : Bool) (l : ℕ). if b then barriers else l) way left

  pub below-stands : (o : Origin) (k : CheckpointMarks) (w : Waiting S) (n : Device) → Stands (waits_over K) o k w n → Stands K o k w.below n
  below-stands o k w n stands = record { sound = stands.sound.below; up = stands.up }

  -- what the one below keeps is kept
  pub keeps-over : (v : Waiting S) (n : Device) (w : Waiting S) (new : Device) → Keeps K v.below n w.below new → to_come K w ≤ to_come K v
      → Keeps (waits_over K) v n w new
  keeps-over v n w new keeps come = record {
    held = keeps.held;
    left = record {
      owed = keeps.left.owed;
      engine = let engine = keeps.left.engine in omega (arith, engine, come);
      merges = keeps.left.merges;
      promotions = keeps.left.promotions;
    };
    whole = keeps.whole;
    storeless = keeps.storeless;
    sealed_storeless = keeps.sealed_storeless;
  }

  module _ (o : Origin) (k : CheckpointMarks) (w : Waiting S) (n : Device) (stands : Stands (waits_over K) o k w n) where
    below : Stands K o k w.below n
    below = below-stands o k w n stands

    holds : RunHolds K o k w.below n
    holds = laws.run_holds o k w.below n below

    pub run-holds : RunHolds (waits_over K) o k w n
    run-holds = record {
      of_geometry = holds.of_geometry;
      sized = holds.sized;
      safe = holds.safe;
      way = ap (λ (b : Bool). b || is_waiting w) (way-below o k w.below n below);
      apart = λ applies. stands.sound.apart (ltb-true 0 w.left applies);
      memory = holds.memory;
      ready = holds.ready;
      overlays = holds.overlays;
      promotions = holds.promotions;
      bounded = record {
        engine = let engine = holds.bounded.engine in omega (arith, engine, few-to-come (K.under_way w.below) w.left stands.sound.few);
        merges = holds.bounded.merges;
        promotions = holds.bounded.promotions;
        owed = holds.bounded.owed;
        free = holds.bounded.free;
      };
      room = λ sealed_storeless storeless idle. holds.room sealed_storeless storeless (neither (K.under_way w.below) (is_waiting w) idle).0;
      committed = record { blocks = holds.committed.blocks; cpu = holds.committed.cpu; state = holds.committed.state };
      drained_sound = λ some. record { below = holds.drained_sound some; few = stands.sound.few; apart = stands.sound.apart };
      drained_keeps = λ some. keeps-over w n w (drained n) (holds.drained_keeps some) (omega arith);
      drained_owes = holds.drained_owes;
      counted_sound = λ writes wear. record { below = holds.counted_sound writes wear; few = stands.sound.few; apart = stands.sound.apart };
      counted_keeps = λ writes wear. keeps-over w n w (counting writes wear n) (holds.counted_keeps writes wear) (omega arith);
      counted_owes = holds.counted_owes;
    }

    -- loads and stores, which only come while nothing is under way
    pub stays-sound : (t : Waiting S) (new : Device) → is_free_to_run (waits_over K) w ≡ true → Stays K w n t new
        → StaysSound (waits_over K) o k w t new
    stays-sound t new free stays =
        let idle : K.under_way w.below ≡ false
        = (neither (K.under_way w.below) (is_waiting w) (not-true (is_under_way K w) free)).0 in
        let free_below : is_free_to_run K w.below ≡ true = may-run K.overlaps (K.under_way w.below) idle in
        let same : StaysSound K o k w.below t.below new
        = laws.stays_sound o k w.below n t.below new below free_below stays.below in
        record {
          sound = λ up. record {
            below = same.sound up;
            few = subst (λ (l : ℕ). l ≤ barriers) (sym stays.same) stands.sound.few;
            apart = λ some. stands.sound.apart (subst (λ (l : ℕ). 0 < l) stays.same some);
          };
          safe = same.safe;
          way = ap₂ (λ (b : Bool) (l : ℕ). b || nat_lt 0 l) same.way stays.same;
          engine = let engine = same.engine in omega (arith, engine, come-same w t same.way stays.same);
          owed_later = same.owed_later;
          sealed_storeless = same.sealed_storeless;
        }
      where
        may-run : (overlaps way : Bool) → way ≡ false → (overlaps || not way) ≡ true
        may-run true way e = refl
        may-run false true e = absurd (cc)
        may-run false false e = refl
