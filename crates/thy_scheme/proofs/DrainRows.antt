-- Drains simulate the run, in each phase, and so do cycles that do nothing.
use Rattle.std.proofs.Common.{◌≡◌, ◌≢◌, ℕ, ◌+◌, ◌<◌, Bool, true, false, List, [], ◌∷◌, drop, length, refl, ap, arith}
use Rattle.thy_block.specs.declared.nvm.Write.{Write}
use Rattle.thy_block.specs.Device.{Device, drained}
use Rattle.thy_computer.specs.declared.did.Did.TheVariants.{NvmDrained, DramDrained, Nothing}
use Rattle.thy_computer.specs.declared.view.Phase.{Phase}
use Rattle.thy_computer.specs.declared.view.Phase.TheVariants.{Boot, Run, Halt}
use Rattle.thy_computer.specs.Action.{Rest, Drain}
use Rattle.thy_computer.specs.Origin.{Origin}
use Rattle.thy_scheme.specs.Scheme.{SchemeOf}
use Rattle.thy_scheme.specs.Calls.{Keeps}
use Rattle.thy_scheme.specs.Laws.{RunHolds}
use Rattle.thy_scheme.proofs.RecordLemmas.{Keeps-same}
use Rattle.thy_scheme.specs.MachineCalls.{after_drain}
use Rattle.thy_scheme.specs.Machine.{Machine}
use Rattle.thy_scheme.specs.Rows.{SimulatesCycle, At, NvmDrainSimulates, DramDrainSimulates, BootDrainSimulates, HaltSimulates}
use Rattle.thy_scheme.specs.Sound.{SoundRun}
use Rattle.thy_scheme.proofs.BootingLaws.{holds-boot, small-boot, simulates-booting}
use Rattle.thy_scheme.proofs.KeepsLaws.{run_of, stands, takes_none, left_kept, left_on, simulates_by, sound_kept}
use Rattle.thy_scheme.proofs.SmallLaws.{small_step}

-- a drain takes one write from a queue that is not empty
drained_queue : (n : Device) → 0 < length n.queue → length (drained n).queue + 1 ≡ length n.queue
drained_queue n some = drop_one n.queue some
  where
    drop_one : (ws : List Write) → 0 < length ws → length (drop 1 ws) + 1 ≡ length ws
    drop_one [] some = absurd (omega (arith, some))
    drop_one (w ∷ ws) some = omega arith

-- ---- after the boot

module _ {S : Type 0} (K : SchemeOf S) (o : Origin) (cycles : ℕ) (m : Machine S) (n : Device)
    (at : At K o cycles m n) (behind : m.phase ≢ Boot) where
  before : SoundRun K o m n
  before = run_of K o cycles m n at.sound behind

  -- the machine is sound with what a drain keeps
  sound_drained : (t : S) (new : Device) → K.is_sound o m.marks t new → Keeps K m.scheme n t new → SoundRun K o (after_drain t m) new
  sound_drained t new sound keeps =
      let left = left_kept K m (after_drain t m) n new refl refl refl o.geometry keeps.left in
      let spent = before.paced.spent in
      sound_kept K o m n t m.spent new at.lawful before sound keeps (λ none. none) (omega (arith, left, spent))

  nvm_behind : 0 < length n.queue → SimulatesCycle K o cycles NvmDrained m n m (drained n)
  nvm_behind some =
      let holds : RunHolds K o m.marks m.scheme n = at.lawful.run_holds o m.marks m.scheme n (stands K o cycles m n at.sound behind) in
      simulates_by K o cycles NvmDrained m n m (drained n) at behind
      (record {
        behind = behind;
        geometry = refl;
        sized = λ sets ways size. size;
        up = at.sound.up;
        unfailed = refl;
        moment = sound_drained m.scheme (drained n) (holds.drained_sound some) (holds.drained_keeps some);
        step = refl;
        acts = record { action = Drain; asked = refl; left = refl };
        dram = refl;
        queues = omega (arith, drained_queue n some);
        strides = refl;
        done = tt;
        left = left_on K NvmDrained m n m.scheme m.spent (drained n) (holds.drained_keeps some) (λ e. holds.drained_owes some);
        fewer = omega arith;
        room = omega arith;
        hand = refl;
        exhausts = λ is. absurd (cc);
      })

pub dram_drain_simulates : {S : Type 0} (K : SchemeOf S) → DramDrainSimulates K
dram_drain_simulates {S} K = λ o cycles m n t at behind some drains.
    let queue = drains.queue in
    simulates_by K o cycles DramDrained m n (after_drain t m) n at behind
    (record {
      behind = behind;
      geometry = refl;
      sized = λ sets ways size. size;
      up = at.sound.up;
      unfailed = refl;
      moment = sound_drained K o cycles m n at behind t n drains.sound drains.keeps;
      step = refl;
      acts = record { action = Rest; asked = refl; left = refl };
      dram = drains.dram;
      queues = omega (arith, queue);
      strides = refl;
      done = tt;
      left = left_on K DramDrained m n t m.spent n drains.keeps (λ e. drains.owes);
      fewer = omega arith;
      room = takes_none K m n t n at.lawful drains.keeps.held;
      hand = refl;
      exhausts = λ is. absurd (cc);
    })

pub halt_simulates : {S : Type 0} (K : SchemeOf S) → HaltSimulates K
halt_simulates {S} K = λ o cycles m n at phase.
    let behind : m.phase ≢ Boot = λ boots. absurd (cc) in
    let sound = (before K o cycles m n at behind).checkpoints in
    simulates_by K o cycles Nothing m n m n at behind
    (record {
      behind = behind;
      geometry = refl;
      sized = λ sets ways size. size;
      up = at.sound.up;
      unfailed = refl;
      moment = sound_drained K o cycles m n at behind m.scheme n sound (Keeps-same K m.scheme n);
      step = (phase, refl);
      acts = record { action = Rest; asked = refl; left = refl };
      dram = refl;
      queues = omega arith;
      strides = refl;
      done = tt;
      left = left_on K Nothing m n m.scheme m.spent n (Keeps-same K m.scheme n) (λ e. omega arith);
      fewer = omega arith;
      room = omega arith;
      hand = refl;
      exhausts = λ is. absurd (cc);
    })

-- ---- in the boot

nvm_booting : {S : Type 0} (K : SchemeOf S) (o : Origin) (cycles : ℕ) (m : Machine S) (n : Device) → At K o cycles m n → m.phase ≡ Boot
    → 0 < length n.queue → SimulatesCycle K o cycles NvmDrained m n m (drained n)
nvm_booting K o cycles m n at phase some =
    let holds = holds-boot K at.lawful o cycles m n at.sound phase in
    let stays = holds.drains some in
    let small = small-boot K o cycles m n at.sound phase in
    simulates-booting K o cycles NvmDrained m n m.scheme (drained n) at phase (λ e. absurd (cc)) at.sound.up stays.boots
    (small_step o cycles (K.boot_view o m.scheme n) (K.boot_view o m.scheme (drained n)) small NvmDrained stays.view)
    stays.view (record { action = Drain; asked = refl; left = refl }) refl (omega (arith, drained_queue n some)) (omega arith) refl
    tt
    (λ e. absurd (omega (arith, some, ap (λ (q : List Write). length q) e)))
    (λ found done current. absurd (omega (arith, some, ap (λ (q : List Write). length q) (holds.settled found done current))))

reads_on : (a b : Bool) (queued : ℕ) → b ≡ a → (a ≡ false → queued ≡ 0) → 0 < queued → b ≡ true
reads_on true b queued e none some = e
reads_on false b queued e none some = absurd (omega (arith, some, none refl))

pub boot_drain_simulates : {S : Type 0} (K : SchemeOf S) → BootDrainSimulates K
boot_drain_simulates {S} K = λ o cycles m n t at phase some drains.
    let stays = drains.stays in
    let left = stays.left in
    let queue = drains.queue in
    let unread = (holds-boot K at.lawful o cycles m n at.sound phase).unread in
    let small = small-boot K o cycles m n at.sound phase in
    simulates-booting K o cycles DramDrained m n t n at phase (λ e. absurd (cc)) at.sound.up stays.boots
    (small_step o cycles (K.boot_view o m.scheme n) (K.boot_view o t n) small DramDrained stays.view)
    stays.view (record { action = Rest; asked = refl; left = refl }) drains.dram (omega (arith, queue)) (omega (arith, left)) refl
    tt
    (λ e. reads_on (K.has_read m.scheme) (K.has_read t) (K.queued m.scheme) stays.read unread some) (λ found done current. refl)

-- ---- in each phase

nvm_by : {S : Type 0} (K : SchemeOf S) (o : Origin) (cycles : ℕ) (m : Machine S) (n : Device) (phase : Phase) → m.phase ≡ phase
    → At K o cycles m n → 0 < length n.queue → SimulatesCycle K o cycles NvmDrained m n m (drained n)
nvm_by K o cycles m n Boot is at some = nvm_booting K o cycles m n at is some
nvm_by K o cycles m n Run is at some = nvm_behind K o cycles m n at (λ boots. absurd (cc)) some
nvm_by K o cycles m n Halt is at some = nvm_behind K o cycles m n at (λ boots. absurd (cc)) some

pub nvm_drain_simulates : {S : Type 0} (K : SchemeOf S) → NvmDrainSimulates K
nvm_drain_simulates {S} K = λ o cycles m n at some. nvm_by K o cycles m n m.phase refl at some
