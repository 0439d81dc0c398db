-- A scheme that waits is lawful if the one below is.
use Rattle.std.proofs.Common.{ℕ, refl, sym, ◌∙◌, ap, ap₂}
use Rattle.thy_scheme.specs.Scheme.{SchemeOf}
use Rattle.thy_scheme.specs.Laws.{IsLawful}
use Rattle.thy_test_support.specs.WaitingScheme.{AppliesNothing, waits_over}
use Rattle.thy_test_support.specs.Waiting.{left_booted}
use Rattle.thy_test_support.proofs.BootLemmas.{power-finds, boot-holds}
use Rattle.thy_test_support.proofs.RunLemmas.{run-holds, stays-sound}

pub lawful : {S : Type 0} (K : SchemeOf S) → IsLawful K → AppliesNothing K → IsLawful (waits_over K)
lawful {S} K laws never = record {
  powers = λ p. let first = laws.powers p in (record { below = first.0; left = 0 }, record { below = first.1; none = refl }, first.2);
  is_new = λ p w on. let new = laws.is_new p w.below on.below in record { queued = new.queued; boot_left = new.boot_left };
  powered_is = λ p w on. ap₂ (λ (s : S) (left : ℕ). record w { below = s; left = left }) (laws.powered_is p w.below on.below) on.none;
  finds_nothing = laws.finds_nothing;
  finds = power-finds K laws;
  boot_holds = boot-holds K laws;
  boot_alike = λ o turns w n. laws.boot_alike o turns w.below n;
  boot_once = λ start w n step other v u x y a b alike.
      let once = laws.boot_once start w.below n step other v.below u.below x y a.0 b.0 alike in (
        once.0,
        ap₂ (λ (s : S) (left : ℕ). record v { below = s; left = left }) once.1 (a.1 ∙ ap left_booted once.0 ∙ sym b.1),
        once.2,
      );
  run_holds = λ o k w n stands. run-holds K laws never o k w n stands;
  up = λ w n b inside. laws.up w.below n b inside;
  ready_up = λ w n ready. laws.ready_up w.below n ready;
  ready_whole = λ w n ready. laws.ready_whole w.below n ready;
  free_is = λ w n. laws.free_is w.below n;
  queued_is = λ w. laws.queued_is w.below;
  stays_same = λ w n. record { below = laws.stays_same w.below n; same = refl };
  stays_on = λ a m b n c o first second.
      record { below = laws.stays_on a.below m b.below n c.below o first.below second.below; same = second.same ∙ first.same };
  stays_of = λ v n w new stays. laws.stays_of v.below n w.below new stays.below;
  stays_sound = λ o k v n w new stands free stays. stays-sound K laws never o k v n stands w new free stays;
}
