-- A merge, and a promotion, simulate the run.
use Rattle.std.proofs.Common.{◌≡◌, ◌≢◌, ℕ, ◌+◌, ◌<◌, ◌≤◌, refl, sym, subst, inr, arith}
use Rattle.thy_cache.specs.Contents.{dirty_count}
use Rattle.thy_computer.specs.declared.did.Did.TheVariants.{Merged, Promoted}
use Rattle.thy_computer.specs.declared.view.Phase.TheVariants.{Boot}
use Rattle.thy_computer.specs.Action.{Rest}
use Rattle.thy_scheme.specs.Scheme.{SchemeOf}
use Rattle.thy_scheme.specs.MachineCalls.{after_call}
use Rattle.thy_scheme.specs.Machine.{Machine}
use Rattle.thy_scheme.specs.Pace.{flushes_left, hart_left, cycles_left, most_spent}
use Rattle.thy_scheme.specs.Rows.{MergeSimulates, PromotionSimulates}
use Rattle.thy_scheme.specs.Sound.{SoundRun}
use Rattle.thy_scheme.proofs.SealingLaws.{IsOver, over_at}
use Rattle.thy_scheme.proofs.KeepsLaws.{run_of, runs_behind, simulates_by, takes_none, left_on, hart_left_kept, sound_kept, up_after}
use Rattle.thy_scheme.proofs.WorkLaws.{number_behind}

pub promotion_simulates : {S : Type 0} (K : SchemeOf S) → PromotionSimulates K
promotion_simulates {S} K = λ o cycles m n t new at sealing whole p.
    let behind : m.phase ≢ Boot = runs_behind m.phase sealing.phase in
    let s : SoundRun K o m n = run_of K o cycles m n at.sound behind in
    let next : Machine S = after_call t m in
    let spent : m.spent + cycles_left K o.geometry m n < most_spent K o.geometry = s.paced.spent in
    let hart_left = hart_left_kept K m next n new refl refl refl o.geometry p.keeps.left.merges in
    let owed = p.keeps.left.owed in
    let engine = p.keeps.left.engine in
    let nearer = p.nearer in
    simulates_by K o cycles Promoted m n next new at behind
    (record {
      behind = behind;
      geometry = refl;
      sized = λ sets ways size. size;
      up = up_after Promoted n new at.sound.up p.acts;
      unfailed = refl;
      moment = sound_kept K o m n t (m.spent + 1) new at.lawful s p.sound p.keeps (λ none. absurd (omega (arith, none)))
          (omega (arith, spent, hart_left, owed, engine, nearer));
      step = (sealing.phase, refl);
      acts = p.acts;
      dram = p.dram;
      queues = p.queue;
      strides = refl;
      done = let promoted_was = number_behind m.phase (K.promotions_left m.scheme) behind in
          let promoted_is = number_behind m.phase (K.promotions_left t) behind in
          (omega (arith, promoted_was, promoted_is, nearer), p.writes);
      left = left_on K Promoted m n t (m.spent + 1) new p.keeps (λ e. p.owes);
      fewer = omega arith;
      room = takes_none K m n t new at.lawful p.keeps.held;
      hand = refl;
      exhausts = λ is. absurd (cc);
    })

-- without a dirty line one merge less is one cycle less
flushes_one : (most dirty old new : ℕ) → dirty ≡ 0 → new + 1 ≤ old → flushes_left most dirty new + 1 ≤ flushes_left most dirty old
flushes_one most dirty old new clean l =
    subst (λ d. flushes_left most d new + 1 ≤ flushes_left most d old) (sym clean) l

pub merge_simulates : {S : Type 0} (K : SchemeOf S) → MergeSimulates K
merge_simulates {S} K = λ o cycles m n t at sealing whole clean p.
    let behind : m.phase ≢ Boot = runs_behind m.phase sealing.phase in
    let s : SoundRun K o m n = run_of K o cycles m n at.sound behind in
    let over : IsOver m.hart.epoch.over (K.under_way m.scheme) = over_at K o m n sealing whole in
    let next : Machine S = after_call t m in
    let spent : m.spent + cycles_left K o.geometry m n < most_spent K o.geometry = s.paced.spent in
    let one = p.nearer in
    let hart_left : hart_left K o.geometry m.hart.epoch.over next n + 1 ≤ hart_left K o.geometry m.hart.epoch.over m n =
    subst (λ x. hart_left K o.geometry x next n + 1 ≤ hart_left K o.geometry x m n) (sym over.over_is)
    (flushes_one (K.most_merges o.geometry) (dirty_count m.cache) (K.merges_left m.scheme) (K.merges_left t) clean (omega (arith, one))) in
    let owed = p.keeps.left.owed in
    let engine = p.keeps.left.engine in
    let promotions = p.keeps.left.promotions in
    let queue = p.queue in
    simulates_by K o cycles Merged m n next n at behind
    (record {
      behind = behind;
      geometry = refl;
      sized = λ sets ways size. size;
      up = at.sound.up;
      unfailed = refl;
      moment = sound_kept K o m n t (m.spent + 1) n at.lawful s p.sound p.keeps (λ none. absurd (omega (arith, none)))
          (omega (arith, spent, hart_left, owed, engine, promotions));
      step = (sealing.phase, refl);
      acts = record { action = Rest; asked = refl; left = refl };
      dram = inr p.writes;
      queues = omega (arith, queue);
      strides = refl;
      done = inr p.writes;
      left = left_on K Merged m n t (m.spent + 1) n p.keeps (λ e. p.owes);
      fewer = omega arith;
      room = takes_none K m n t n at.lawful p.keeps.held;
      hand = refl;
      exhausts = λ is. absurd (cc);
    })
