-- What a call of the scheme below makes of the one that waits, and what a barrier does.
use Rattle.std.proofs.Common.{◌≡◌, ℕ, ◌-◌, ◌<◌, ◌≤◌, Bool, true, false, is_some, length, if◌then◌else◌, Option, Some, None, refl, sym, ◌∙◌, ap, inl, arith}
use Rattle.std.proofs.lemmas.Bool.{both_ways, ltb-true, ltb-false}
use Rattle.thy_block.specs.declared.mark.Mark.{Mark}
use Rattle.thy_block.specs.Device.{Device, HasFailedToSettle, IsFramed, IsSettled}
use Rattle.thy_isa.specs.declared.state.CpuState.{CpuState}
use Rattle.thy_layout.specs.declared.engine_step.EngineStep.{EngineStep}
use Rattle.thy_layout.specs.declared.engine_step.EngineStep.TheVariants.{Idle, Copied, PageBlock, StateBlock, TableBlock, Barrier, CommitWritten, Committed}
use Rattle.thy_computer.specs.declared.did.Did.{Did}
use Rattle.thy_computer.specs.Action.{Barrier as BarrierAction, Acts}
use Rattle.thy_computer.specs.Origin.{Origin}
use Rattle.thy_computer.proofs.SafeLemmas.{Safe-unsettled}
use Rattle.thy_computer.proofs.ActionLemmas.{down-after}
use Rattle.thy_scheme.specs.CheckpointMarks.{CheckpointMarks, doubt_in, marks_after}
use Rattle.thy_scheme.specs.Scheme.{SchemeOf, Stands}
use Rattle.thy_scheme.specs.Calls.{Merges, Promotes, Drains, Seals, OwesAfter, Engines, EngineFails}
use Rattle.thy_scheme.specs.Laws.{IsLawful}
use Rattle.thy_test_support.specs.Waiting.{Waiting, barriers, is_waiting, left_after}
use Rattle.thy_test_support.specs.WaitingScheme.{AppliesNothing, is_under_way, to_come, waits_over}
use Rattle.thy_test_support.proofs.BarrierLemmas.{Settles, settles}
use Rattle.thy_test_support.proofs.RunLemmas.{neither, few-to-come, way-below, come-same, below-stands, keeps-over, run-holds}

-- ---- the device stays up

up-after : (did : Did) (n new : Device) → n.down ≡ false → Acts did n new → new.down ≡ false
up-after did n new up acts = down-after acts.action n new acts.left ∙ up

-- ---- by steps of the engine

few-after : (step : EngineStep) → left_after step ≤ barriers
few-after Idle = omega arith
few-after Copied = omega arith
few-after PageBlock = omega arith
few-after StateBlock = omega arith
few-after TableBlock = omega arith
few-after Barrier = omega arith
few-after CommitWritten = omega arith
few-after (Committed epoch) = omega arith

apart-after : (step : EngineStep) (k : CheckpointMarks) → 0 < left_after step → (marks_after step k).sealed ≡ None
apart-after Idle k some = absurd (omega (arith, some))
apart-after Copied k some = absurd (omega (arith, some))
apart-after PageBlock k some = absurd (omega (arith, some))
apart-after StateBlock k some = absurd (omega (arith, some))
apart-after TableBlock k some = absurd (omega (arith, some))
apart-after Barrier k some = absurd (omega (arith, some))
apart-after CommitWritten k some = absurd (omega (arith, some))
apart-after (Committed epoch) k some = refl

owes-over : {S : Type 0} (K : SchemeOf S) (step : EngineStep) (v : Waiting S) (n : Device) (w : Waiting S) (new : Device)
    → OwesAfter step K v.below n w.below new → OwesAfter step (waits_over K) v n w new
owes-over K Idle v n w new h = h
owes-over K Copied v n w new h = h
owes-over K PageBlock v n w new h = h
owes-over K StateBlock v n w new h = h
owes-over K TableBlock v n w new h = h
owes-over K Barrier v n w new h = h
owes-over K CommitWritten v n w new h = h
owes-over K (Committed epoch) v n w new h = h

-- ---- the calls

-- the scheme below it is this one
abbrev pub over : {S : Type 0} → S → Waiting S → Waiting S
over t w = record w { below = t }

module _ {S : Type 0} (K : SchemeOf S) (laws : IsLawful K) (never : AppliesNothing K) (o : Origin) (k : CheckpointMarks) (w : Waiting S)
    (n : Device)
    (stands : Stands (waits_over K) o k w n) where
  lower : Stands K o k w.below n
  lower = below-stands K laws never o k w n stands

  -- if the marks and the number of barriers left stay, the same number of barriers is to come
  same-come : (t : S) (new : Device) → Stands K o k t new → to_come K (over t w) ≡ to_come K w
  same-come t new there =
      come-same K laws never w (over t w)
      (way-below K laws never o k t new there ∙ sym (way-below K laws never o k w.below n lower)) refl

  pub merges-over : (t : S) → Merges K o k w.below n t → Merges (waits_over K) o k w n (over t w)
  merges-over t m = record {
    sound = record { below = m.sound; few = stands.sound.few; apart = stands.sound.apart };
    keeps = keeps-over K laws never w n (over t w) n m.keeps
        (let same = same-come t n (record { sound = m.sound; up = stands.up }) in omega (arith, same));
    owes = m.owes;
    writes = m.writes;
    queue = m.queue;
    nearer = m.nearer;
  }

  pub drains-over : (t : S) → Drains K o k w.below n t → Drains (waits_over K) o k w n (over t w)
  drains-over t d = record {
    sound = record { below = d.sound; few = stands.sound.few; apart = stands.sound.apart };
    keeps = keeps-over K laws never w n (over t w) n d.keeps
        (let same = same-come t n (record { sound = d.sound; up = stands.up }) in omega (arith, same));
    owes = d.owes;
    dram = d.dram;
    queue = d.queue;
  }

  pub promotes-over : (t : S) (new : Device) → Promotes K o k w.below n t new → Promotes (waits_over K) o k w n (over t w) new
  promotes-over t new p =
      let up : new.down ≡ false = up-after _ n new stands.up p.acts in
      let same = same-come t new (record { sound = p.sound; up = up }) in
      record {
        sound = record { below = p.sound; few = stands.sound.few; apart = stands.sound.apart };
        keeps = keeps-over K laws never w n (over t w) new p.keeps (omega (arith, same));
        owes = p.owes;
        acts = p.acts;
        dram = p.dram;
        writes = p.writes;
        queue = p.queue;
        nearer = p.nearer;
      }

  -- an epoch is sealed only while no barrier is left
  pub seals-over : (cpu : CpuState) (epoch : ℕ) (t : S) → is_under_way K w ≡ false
      → Seals K o k cpu epoch w.below n t → Seals (waits_over K) o k cpu epoch w n (over t w)
  seals-over cpu epoch t idle s =
      let none : is_waiting w ≡ false = (neither (K.under_way w.below) (is_waiting w) idle).1 in
      record {
        sound = λ m taken. record {
          below = s.sound m taken;
          few = stands.sound.few;
          apart = λ some. absurd (omega (arith, ltb-false 0 w.left none, some));
        };
        held = s.held;
        dram = s.dram;
        queue = s.queue;
        storeless = s.storeless;
        sealed_storeless = s.sealed_storeless;
      }

  -- a step of the engine below
  pub engines-over : (step : EngineStep) (t : S) (new : Device) → K.under_way w.below ≡ true → Engines K o k step w.below n t new
      → Engines (waits_over K) o k step w n (record { below = t; left = left_after step }) new
  engines-over step t new on e =
      let next : Waiting S = record { below = t; left = left_after step } in
      let before : to_come K w ≡ barriers = ap (λ (b : Bool). if b then barriers else w.left) on in
      let come : to_come K next ≤ barriers = few-to-come (K.under_way t) (left_after step) (few-after step) in
      record {
        due = e.due;
        sound = record { below = e.sound; few = few-after step; apart = apart-after step k };
        keeps = keeps-over K laws never w n next new e.keeps (omega (arith, before, come));
        owes = owes-over K step w n next new e.owes;
        acts = e.acts;
        dram = e.dram;
        writes = e.writes;
        queue = e.queue;
        nearer = let nearer = e.nearer in omega (arith, nearer, before, come);
      }

  -- a step of the engine below that failed is one of the scheme that waits
  pub engine-fails-over : (new : Device) → EngineFails K o k n new → EngineFails (waits_over K) o k n new
  engine-fails-over new f = record { step = f.step; acted = f.acted; safe = f.safe }

  -- a barrier
  pub waits-on : (new : Device) → IsSettled n new → is_waiting w ≡ true
      → Engines (waits_over K) o k Barrier w n (record w { left = w.left - 1 }) new
  waits-on new left on =
      let some : 0 < w.left = ltb-true 0 w.left on in
      let idle : K.under_way w.below ≡ false
      = way-below K laws never o k w.below n lower ∙ ap (λ (m : Option Mark). is_some m) (stands.sound.apart some) in
      let s : Settles K o k w.below n new = settles K laws o k w.below n new lower left.device in
      let next : Waiting S = record w { left = w.left - 1 } in
      let before : to_come K w ≡ w.left = ap (λ (b : Bool). if b then barriers else w.left) idle in
      let come : to_come K next ≡ w.left - 1 = ap (λ (b : Bool). if b then barriers else w.left - 1) idle in
      record {
        due = tt;
        sound = record {
          below = s.sound;
          few = let few = stands.sound.few in omega (arith, few);
          apart = λ more. stands.sound.apart some;
        };
        keeps = keeps-over K laws never w n next new s.keeps (omega (arith, before, come));
        owes = s.owes;
        acts = λ lap. record { action = BarrierAction; asked = refl; left = left };
        dram = inl refl;
        writes = λ writes. absurd (both_ways false refl writes);
        queue = omega (arith, ap (λ (m : Device). length m.queue) left.device);
        nearer = omega (arith, before, come, some);
      }

  -- a barrier that failed is a step of the engine that failed
  pub waiting-fails : (new : Device) → HasFailedToSettle n new → IsFramed n new → EngineFails (waits_over K) o k n new
  waiting-fails new failed frame = record {
    step = Barrier;
    acted = λ lap. record { action = BarrierAction; asked = refl; failed = failed };
    safe = Safe-unsettled K.decode o (Some k.done) (doubt_in k) n new (run-holds K laws never o k w n stands).safe failed frame;
  }
