-- What is seen of a scheme that waits, over any scheme below that applies nothing itself.
use Rattle.std.specs.Prelude.{◌≡◌, ℕ, ◌+◌, ◌-◌, ◌<◌, ◌≤◌, ◌||◌, Bool, false, if◌then◌else◌, None}
use Rattle.thy_block.specs.declared.parameters.Parameters.{Parameters}
use Rattle.thy_block.specs.Device.{Device}
use Rattle.thy_layout.specs.declared.engine_step.EngineStep.{EngineStep}
use Rattle.thy_layout.specs.declared.engine_step.EngineStep.TheVariants.{Barrier}
use Rattle.thy_computer.specs.Action.{Barrier as BarrierAction}
use Rattle.thy_computer.specs.Origin.{Origin}
use Rattle.thy_scheme.specs.CheckpointMarks.{CheckpointMarks}
use Rattle.thy_scheme.specs.Exact.{Made, CallsOf}
use Rattle.thy_scheme.specs.Scheme.{SchemeOf, Stands}
use Rattle.thy_test_support.specs.Waiting.{Waiting, barriers, is_waiting, left_after, left_booted}

-- after its boot a scheme applies nothing
abbrev pub AppliesNothing : {S : Type 0} → SchemeOf S → Type 0
AppliesNothing {S} K = (o : Origin) (k : CheckpointMarks) (s : S) (n : Device) → Stands K o k s n → K.applies s ≡ false

-- power has just come on
pub record IsPowered {S : Type 0} (K : SchemeOf S) (p : Parameters) (w : Waiting S) : Type 0 where
  pub below : K.powered p w.below
  pub none : w.left ≡ 0

-- in the boot no barrier is left
pub record Boots {S : Type 0} (K : SchemeOf S) (o : Origin) (w : Waiting S) (n : Device) : Type 0 where
  pub below : K.boots o w.below n
  pub none : w.left ≡ 0

-- after the boot no more are left than follow a commit, and none while an epoch is sealed
pub record IsSoundWaiting {S : Type 0} (K : SchemeOf S) (o : Origin) (k : CheckpointMarks) (w : Waiting S) (n : Device) : Type 0 where
  pub below : K.is_sound o k w.below n
  pub few : w.left ≤ barriers
  pub apart : 0 < w.left → k.sealed ≡ None

-- loads and stores leave the number of barriers that are left
pub record Stays {S : Type 0} (K : SchemeOf S) (v : Waiting S) (m : Device) (w : Waiting S) (n : Device) : Type 0 where
  pub below : K.stays v.below m w.below n
  pub same : w.left ≡ v.left

-- the engine has something to do: the one below has, or barriers are left
abbrev pub is_under_way : {S : Type 0} → SchemeOf S → Waiting S → Bool
is_under_way K w = K.under_way w.below || is_waiting w

-- the barriers that are to come: all of them while the scheme below has a checkpoint under way, else the ones that are
-- left
abbrev pub to_come : {S : Type 0} → SchemeOf S → Waiting S → ℕ
to_come K w = if K.under_way w.below then barriers else w.left

-- ---- the calls

-- a call of the one below, which leaves the number of barriers
abbrev pub over_below : {S A : Type 0} → Waiting S → Made S A → Made (Waiting S) A
over_below w made = record { answer = made.answer; scheme = record w { below = made.scheme }; action = made.action }

-- a step of its engine, after which the barriers that follow it are left
abbrev pub item_below : {S : Type 0} → Made S EngineStep → Made (Waiting S) EngineStep
item_below made = record {
  answer = made.answer;
  scheme = record { below = made.scheme; left = left_after made.answer };
  action = made.action;
}

-- a barrier, after which one less is left
abbrev pub barrier_made : {S : Type 0} → Waiting S → Made (Waiting S) EngineStep
barrier_made w = record { answer = Barrier; scheme = record w { left = w.left - 1 }; action = BarrierAction }

abbrev pub calls_over : {S : Type 0} → SchemeOf S → CallsOf (Waiting S)
calls_over K = record {
  powered_on = λ p dram. record { below = K.calls.powered_on p dram; left = 0 };
  store = λ b block w n. over_below w (K.calls.store b block w.below n);
  drained = λ w. record w { below = K.calls.drained w.below };
  merged = λ w. record w { below = K.calls.merged w.below };
  promote = λ w n. over_below w (K.calls.promote w.below n);
  sealed = λ cpu epoch w. record w { below = K.calls.sealed cpu epoch w.below };
  engine = λ w n. if is_waiting w then barrier_made w else item_below (K.calls.engine w.below n);
  boot = λ start w n step t new. K.calls.boot start w.below n step t.below new × (t.left ≡ left_booted step);
}

-- a scheme that waits: all else is as in the scheme below
abbrev pub waits_over : {S : Type 0} → SchemeOf S → SchemeOf (Waiting S)
waits_over K = record {
  decode = K.decode;
  blocks = K.blocks;
  powered = IsPowered K;
  holding = λ w n. K.holding w.below n;
  committed = λ w n. K.committed w.below n;
  stays = Stays K;
  under_way = is_under_way K;
  applies = is_waiting;
  overlaid = λ w. K.overlaid w.below;
  promoting = λ w. K.promoting w.below;
  storeless = λ w. K.storeless w.below;
  sealed_storeless = λ w. K.sealed_storeless w.below;
  overlaps = false;
  dram = λ w. K.dram w.below;
  is_of = λ p w. K.is_of p w.below;
  queued = λ w. K.queued w.below;
  free = λ w. K.free w.below;
  owed_later = λ w. K.owed_later w.below;
  is_sound = IsSoundWaiting K;
  boots = Boots K;
  boot_view = λ o w n. K.boot_view o w.below n;
  has_read = λ w. K.has_read w.below;
  migrates = λ w. K.migrates w.below;
  boot_left = λ w. K.boot_left w.below;
  engine_left = λ w. K.engine_left w.below + to_come K w;
  merges_left = λ w. K.merges_left w.below;
  promotions_left = λ w. K.promotions_left w.below;
  most_booting = K.most_booting;
  most_engine = λ p. K.most_engine p + barriers;
  most_merges = K.most_merges;
  most_promotions = K.most_promotions;
  most_owed = K.most_owed;
  most_free = K.most_free;
  calls = calls_over K;
}
