-- What the trait of schemes promises, from what each call makes of the scheme below and of the number of barriers.
use Rattle.std.proofs.Common.{◌≡◌, ℕ, zero, suc, ◌<◌, ◌≤◌, ◌||◌, Bool, true, false, if◌then◌else◌, nat_lt, List, length, Result, Ok, Err, IfOk, OnOk, OnErr, refl, sym, ◌∙◌, ap, ap₂, subst, arith}
use Rattle.std.proofs.lemmas.Bool.{both_ways, le-ltb, lt-ltb, ltb-true, ltb-false}
use Rattle.thy_block.specs.declared.block.Block.{Block}
use Rattle.thy_block.specs.declared.parameters.Parameters.{Parameters}
use Rattle.thy_block.specs.declared.nvm.NvmError.{NvmError}
use Rattle.thy_block.specs.declared.store.Stored.{Stored}
use Rattle.thy_block.specs.Device.{Device, HasFailed, IsFramed, block_at}
use Rattle.thy_block.specs.Store.{HasStored}
use Rattle.thy_control.specs.State.{State, AreSoundTables}
use Rattle.thy_dram.specs.Contents.{Contents}
use Rattle.thy_isa.specs.declared.state.CpuState.{CpuState}
use Rattle.thy_layout.specs.declared.engine_step.EngineStep.{EngineStep}
use Rattle.thy_layout.specs.declared.engine_step.EngineStep.TheVariants.{Barrier}
use Rattle.thy_layout.specs.declared.start.Start.{Start}
use Rattle.thy_computer.specs.declared.boot_step.BootStep.{BootStep}
use Rattle.thy_computer.specs.Action.{Action, after}
use Rattle.thy_computer.specs.Kind.{IsDramOf}
use Rattle.thy_computer.specs.Origin.{Origin, Begins}
use Rattle.thy_computer.proofs.ActionLemmas.{access-is, down-after}
use Rattle.thy_checkpoint.specs.Progress.{Acts, is_under_way as is_engine_under_way}
use Rattle.thy_isa.specs.Step.{state_of}
use Rattle.thy_scheme_parts.specs.Calls.{IsReading, Promotes as MakesPromotion, drained, merged, promoted, sealed, stored}
use Rattle.thy_scheme_parts.specs.Holding.{holding_of}
use Rattle.thy_scheme_parts.specs.Stays.{Stays as StaysBelow}
use Rattle.thy_scheme_parts.specs.Storing.{CanStore, MakesStore}
use Rattle.thy_scheme_parts.proofs.BootLemmas.{boot-drains}
use Rattle.thy_scheme_parts.proofs.HeldLemmas.{IsHeldBlock, held_block, blocks_held}
use Rattle.thy_composed_scheme.proofs.CallLemmas.{booted_then, boots_then, boot_fails_then, drains_then, engines_then, engine_fails_then, fails-down, merges_then, promotes_then, seals_then, store_once}
use Rattle.thy_thynvm_parts.specs.Filling.{loads}
use Rattle.thy_scheme.specs.Boots.{BootDrains, BootFails, BootsOn}
use Rattle.thy_scheme.specs.Calls.{Drains, EngineFails, Engines, IsOneAccess, Merges, PromotionFails, Promotes, Seals, Stores, TakesNoAction}
use Rattle.thy_scheme.specs.CheckpointMarks.{CheckpointMarks}
use Rattle.thy_scheme.specs.Exact.{Makes}
use Rattle.thy_scheme.specs.Scheme.{IsBooting, Stands, StaysOf}
use Rattle.thy_thynvm_parts.specs.Design.{thynvm_design, thynvm_parts, is_overlaid, is_promoting}
use Rattle.thy_thynvm_parts.specs.Scheme.{thynvm_scheme}
use Rattle.thy_thynvm_parts.proofs.LawLemmas.{applies_nothing, lawful}
use Rattle.thy_thynvm_parts.proofs.PartsLemmas.{are_parts}
use Rattle.thy_test_support.specs.Waiting.{Waiting, is_waiting, left_after, left_booted}
use Rattle.thy_test_support.specs.WaitingScheme.{IsPowered, Stays, is_under_way, item_below, barrier_made}
use Rattle.thy_test_support.proofs.BootLemmas.{below-boots, boots-over, boot-fails-over}
use Rattle.thy_test_support.proofs.CallLemmas.{merges-over, promotes-over, drains-over, seals-over, engines-over, engine-fails-over, waits-on, waiting-fails}
use Rattle.thy_test_support.proofs.RunLemmas.{below-stands, neither}
use Rattle.thy_machine_tests.specs.Calls.{Below, waiting_scheme, new_waiting, with_below, MakesBarrier, TakesItemBelow, TakesTurn, TakesBoot}

pub stands-below : (o : Origin) (k : CheckpointMarks) (w : Waiting Below) (n : Device) → Stands waiting_scheme o k w n → Stands thynvm_scheme o k w.below n
stands-below o k w n stands = below-stands thynvm_scheme lawful applies_nothing o k w n stands

-- ---- loads

-- a block is held only while the NVM is up and has its size, and then what is held is what is loaded
pub block-held : (w : Waiting Below) (n : Device) (b : ℕ) → b < length (thynvm_scheme.holding w.below n).blocks → IsHeldBlock thynvm_design w.below.control n b
block-held w n b inside = held_block thynvm_design w.below.control n b inside

pub load-held : (w : Waiting Below) (n : Device) (b : ℕ) (r : Result Block NvmError) → b < length (thynvm_scheme.holding w.below n).blocks
    → IfOk r (λ block. block ≡ block_at (loads w.below.control n) b) → IfOk r (λ block. block ≡ block_at (thynvm_scheme.holding w.below n).blocks b)
load-held w n b r inside ok =
    let held : IsHeldBlock thynvm_design w.below.control n b = block-held w n b inside in
    subst (λ (blocks : List Block). IfOk r (λ block. block ≡ block_at blocks b))
    (sym (blocks_held thynvm_design w.below.control n held.agrees held.sized held.up)) ok

-- a load leaves what stays
same-below : (s : Below) (n : Device) → StaysBelow thynvm_design s n s n
same-below s n = lawful.stays_same s n

failed-below : (s : Below) (n m : Device) → HasFailed n m → IsFramed n m → StaysBelow thynvm_design s n s m
failed-below s n m failed framed = record {
  control = are_parts.storing.load_fails s.control n m failed framed;
  engine = refl;
  sealed_storeless = refl;
  boot = refl;
  rests = λ r. record { before = r; still = are_parts.storing.still_same s.control };
}

pub load-stays : {T : Type 0} (w : Waiting Below) (n m : Device) (r : Result T NvmError) → IsReading r n m → Stays thynvm_scheme w n w m
load-stays w n m (Ok x) reads =
    subst (λ (d : Device). Stays thynvm_scheme w n w d) (sym reads.same) (record { below = same-below w.below n; same = refl })
load-stays w n m (Err x) reads = record { below = failed-below w.below n m reads.err reads.frame; same = refl }

-- ---- what acts below acts, and the other way round

pub acts-over : {T : Type 0} (action : Action) (later : Below) (r : Result T NvmError) (w : Waiting Below) (n : Device) (t : Below) (m : Device)
    → Acts action later r w.below n t m → Acts action (with_below later w) r w n (with_below t w) m
acts-over action later (Ok x) w n t m acts = record {
  control = ap (λ (s : Below). with_below s w) acts.control;
  device = acts.device;
  kept = tt;
  failed = tt;
  frame = acts.frame;
  cause = acts.cause;
}
acts-over action later (Err x) w n t m acts = record {
  control = tt;
  device = tt;
  kept = ap (λ (s : Below). with_below s w) acts.kept;
  failed = acts.failed;
  frame = acts.frame;
  cause = acts.cause;
}

pub makes-over : {T : Type 0} (later : Below) (r : Result T NvmError) (w : Waiting Below) (t : Below) → MakesPromotion later r w.below t
    → MakesPromotion (with_below later w) r w (with_below t w)
makes-over later (Ok x) w t makes = record { made = ap (λ (s : Below). with_below s w) makes.made; kept = tt }
makes-over later (Err x) w t makes = record { made = tt; kept = ap (λ (s : Below). with_below s w) makes.kept }

pub acts-below : {T : Type 0} (action : Action) (later : Below) (r : Result T NvmError) (w : Waiting Below) (n : Device) (t : Waiting Below) (m : Device)
    → Acts action (with_below later w) r w n t m → Acts action later r w.below n t.below m
acts-below action later (Ok x) w n t m acts = record {
  control = ap (λ (v : Waiting Below). v.below) acts.control;
  device = acts.device;
  kept = tt;
  failed = tt;
  frame = acts.frame;
  cause = acts.cause;
}
acts-below action later (Err x) w n t m acts = record {
  control = tt;
  device = tt;
  kept = ap (λ (v : Waiting Below). v.below) acts.kept;
  failed = acts.failed;
  frame = acts.frame;
  cause = acts.cause;
}

left-same : {T : Type 0} (action : Action) (later : Below) (r : Result T NvmError) (w : Waiting Below) (n : Device) (t : Waiting Below) (m : Device)
    → Acts action (with_below later w) r w n t m → t.left ≡ w.left
left-same action later (Ok x) w n t m acts = ap (λ (v : Waiting Below). v.left) acts.control
left-same action later (Err x) w n t m acts = ap (λ (v : Waiting Below). v.left) acts.kept

-- ---- a store

module _ (b : ℕ) (block : Block) (w t : Waiting Below) (n m : Device) (can : CanStore thynvm_design b w.below.control n) (r : Result Stored NvmError)
    (acts : Acts (thynvm_parts.store_action b block w.below.control) (with_below (stored thynvm_design b block w.below n) w) r w n t m) where
  abbrev action : Action
  action = thynvm_parts.store_action b block w.below.control

  lower : Acts (thynvm_parts.store_action b block w.below.control) (stored thynvm_design b block w.below n) r w.below n t.below m
  lower = acts-below (thynvm_parts.store_action b block w.below.control) (stored thynvm_design b block w.below n) r w n t m acts

  one : IsOneAccess thynvm_scheme w.below n t.below m
  one = store_once thynvm_design are_parts b block w.below n can t.below m r lower

  pub stores-once : IsOneAccess waiting_scheme w n t m
  stores-once = record {
    action = one.action;
    access = one.access;
    succeeds = λ alive.
        let made = one.succeeds alive in record { left = made.left; dram = made.dram; queue = made.queue; copies = made.copies };
    fails = one.fails;
    frame = one.frame;
    stays = record {
      below = one.stays;
      same = left-same (thynvm_parts.store_action b block w.below.control) (stored thynvm_design b block w.below n) r w n t m acts;
    };
  }

  made : MakesStore thynvm_design b block w.below.control n (thynvm_parts.stored b block w.below.control n) (after n.writes (thynvm_parts.store_action b block w.below.control) n)
  made = are_parts.storing.store b block w.below.control n can

stores-by : (b : ℕ) (block : Block) (w t : Waiting Below) (n m : Device) → CanStore thynvm_design b w.below.control n → (r : Result Stored NvmError)
    → IfOk r (λ stored. stored ≡ thynvm_parts.store_answer b w.below.control)
    → Acts (thynvm_parts.store_action b block w.below.control) (stored thynvm_design b block w.below n) r w.below n t.below m
    → IfOk r (λ stored. HasStored stored b block (holding_of thynvm_design w.below.control n) (holding_of thynvm_design t.below.control m))
stores-by b block w t n m can (Ok x) answer acts =
    let action : Action = thynvm_parts.store_action b block w.below.control in
    let is : m ≡ after n.writes action n = access-is action n m (are_parts.storing.access b block w.below.control) acts.device in
    subst (λ (stored : Stored). HasStored stored b block (holding_of thynvm_design w.below.control n) (holding_of thynvm_design t.below.control m)) (sym answer)
    (subst (λ (s : Below). HasStored (thynvm_parts.store_answer b w.below.control) b block (holding_of thynvm_design w.below.control n) (holding_of thynvm_design s.control m)) (sym acts.control)
    (subst (λ (d : Device). HasStored (thynvm_parts.store_answer b w.below.control) b block (holding_of thynvm_design w.below.control n) (holding_of thynvm_design (thynvm_parts.stored b block w.below.control n) d)) (sym is)
    (are_parts.storing.store b block w.below.control n can).stored))
stores-by b block w t n m can (Err x) answer acts = tt

pub stores-then : (b : ℕ) (block : Block) (w t : Waiting Below) (n m : Device) → CanStore thynvm_design b w.below.control n → (r : Result Stored NvmError)
    → IfOk r (λ stored. stored ≡ thynvm_parts.store_answer b w.below.control)
    → Acts (thynvm_parts.store_action b block w.below.control) (with_below (stored thynvm_design b block w.below n) w) r w n t m
    → IfOk r (λ stored. Stores waiting_scheme stored b block w n t m)
stores-then b block w t n m can r answer acts =
    stores-by b block w t n m can r answer
    (acts-below (thynvm_parts.store_action b block w.below.control) (stored thynvm_design b block w.below n) r w n t m acts)

-- the NVM is up afterwards, unless it failed
pub up-then : {C T : Type 0} (action : Action) (later : C) (r : Result T NvmError) (s : C) (n : Device) (t : C) (m : Device)
    → n.down ≡ false → Acts action later r s n t m → OnOk r (m.down ≡ false)
up-then action later (Ok x) s n t m up acts = down-after action n m acts.device ∙ up
up-then _ later (Err x) s n t m up acts = tt

pub down-then : {C T : Type 0} (action : Action) (later : C) (r : Result T NvmError) (s : C) (n : Device) (t : C) (m : Device)
    → Acts action later r s n t m → OnErr r (m.down ≡ true)
down-then _ later (Ok x) s n t m acts = tt
down-then action later (Err x) s n t m acts = fails-down action n m acts.failed

-- ---- drains, merges, promotions and seals

pub drains-on : (o : Origin) (k : CheckpointMarks) (w t : Waiting Below) (n : Device) → t ≡ with_below (drained thynvm_design w.below) w
    → 0 < w.below.control.dram.queued → Stands waiting_scheme o k w n → Drains waiting_scheme o k w n t
drains-on o k w t n is some stands =
    subst (λ (x : Waiting Below). Drains waiting_scheme o k w n x) (sym is)
    (drains-over thynvm_scheme lawful applies_nothing o k w n stands (drained thynvm_design w.below)
    (drains_then thynvm_design are_parts o k w.below (drained thynvm_design w.below) n refl some (stands-below o k w n stands)))

pub boot-drains-on : (o : Origin) (w t : Waiting Below) (n : Device) → t ≡ with_below (drained thynvm_design w.below) w
    → 0 < w.below.control.dram.queued → IsBooting waiting_scheme o w n → BootDrains waiting_scheme o w n t
boot-drains-on o w t n is some booting =
    let d : BootDrains thynvm_scheme o w.below n (drained thynvm_design w.below) = boot-drains thynvm_design are_parts o w.below n booting.boots.below some in
    subst (λ (x : Waiting Below). BootDrains waiting_scheme o w n x) (sym is) (record {
      stays = record {
        boots = record { below = d.stays.boots; none = booting.boots.none };
        view = d.stays.view;
        left = d.stays.left;
        read = d.stays.read;
      };
      dram = d.dram;
      queue = d.queue;
    })

pub merges-on : (o : Origin) (k : CheckpointMarks) (w t : Waiting Below) (n : Device) → t ≡ with_below (merged thynvm_design w.below) w
    → is_under_way thynvm_scheme w ≡ false → is_overlaid w.below.control ≡ true → Stands waiting_scheme o k w n → Merges waiting_scheme o k w n t
merges-on o k w t n is idle some stands =
    let way : is_engine_under_way w.below.engine.stage ≡ false = (neither (thynvm_scheme.under_way w.below) (is_waiting w) idle).0 in
    subst (λ (x : Waiting Below). Merges waiting_scheme o k w n x) (sym is)
    (merges-over thynvm_scheme lawful applies_nothing o k w n stands (merged thynvm_design w.below)
    (merges_then thynvm_design are_parts o k w.below (merged thynvm_design w.below) n refl way some (stands-below o k w n stands)))

-- with no block to merge, or to promote, nothing changes
pub merges-none : (w t : Waiting Below) → t ≡ with_below (merged thynvm_design w.below) w → is_overlaid w.below.control ≡ false → t ≡ w
merges-none w t is none =
    is ∙ ap (λ (x : Bool). with_below (record w.below { control = if x then thynvm_parts.pages.merged w.below.control else w.below.control }) w) none

promoted-none : (w : Waiting Below) (n : Device) → is_promoting w.below.control ≡ false → with_below (promoted thynvm_design w.below n) w ≡ w
promoted-none w n none =
    ap (λ (x : Bool). with_below (record w.below { control = if x then thynvm_parts.pages.promoted w.below.control n else w.below.control }) w) none

makes-below : {T : Type 0} (later : Below) (r : Result T NvmError) (w t : Waiting Below) → MakesPromotion (with_below later w) r w t
    → MakesPromotion later r w.below t.below
makes-below later (Ok x) w t makes = record { made = ap (λ (v : Waiting Below). v.below) makes.made; kept = tt }
makes-below later (Err x) w t makes = record { made = tt; kept = ap (λ (v : Waiting Below). v.below) makes.kept }

promotes-by : (o : Origin) (k : CheckpointMarks) (w t : Waiting Below) (n m : Device) (r : Result (Unit {0}) NvmError) → Stands waiting_scheme o k w n
    → MakesPromotion (with_below (promoted thynvm_design w.below n) w) r w t → OnOk r (Promotes thynvm_scheme o k w.below n t.below m)
    → OnOk r (Promotes waiting_scheme o k w n t m)
promotes-by o k w t n m (Ok x) stands makes there =
    let below : t.below ≡ promoted thynvm_design w.below n = ap (λ (v : Waiting Below). v.below) makes.made in
    let now : Promotes thynvm_scheme o k w.below n (promoted thynvm_design w.below n) m
    = subst (λ (s : Below). Promotes thynvm_scheme o k w.below n s m) below there in
    subst (λ (v : Waiting Below). Promotes waiting_scheme o k w n v m) (sym makes.made)
    (promotes-over thynvm_scheme lawful applies_nothing o k w n stands (promoted thynvm_design w.below n) m now)
promotes-by o k w t n m (Err x) stands makes there = tt

pub promotes-on : (o : Origin) (k : CheckpointMarks) (w t : Waiting Below) (n m : Device) (r : Result (Unit {0}) NvmError)
    → is_promoting w.below.control ≡ true → MakesPromotion (with_below (promoted thynvm_design w.below n) w) r w t → IsReading r n m
    → Stands waiting_scheme o k w n → OnOk r (Promotes waiting_scheme o k w n t m)
promotes-on o k w t n m r some makes reads stands =
    promotes-by o k w t n m r stands makes
    (promotes_then thynvm_design are_parts o k w.below t.below n m r some (makes-below (promoted thynvm_design w.below n) r w t makes) reads (stands-below o k w n stands))

pub promotes-none : (w t : Waiting Below) (n m : Device) (r : Result (Unit {0}) NvmError) → is_promoting w.below.control ≡ false
    → MakesPromotion (with_below (promoted thynvm_design w.below n) w) r w t → OnErr r (is_promoting w.below.control ≡ true) → IsReading r n m
    → TakesNoAction r w n t m
promotes-none w t n m (Ok x) none makes some reads =
    record { done = tt; scheme = makes.made ∙ promoted-none w n none; nvm = reads.same }
promotes-none w t n m (Err x) none makes some reads = absurd (both_ways (is_promoting w.below.control) none some)

pub promotion-fails : (n m : Device) (r : Result (Unit {0}) NvmError) → IsReading r n m → OnErr r (PromotionFails n m)
promotion-fails n m (Ok x) reads = tt
promotion-fails n m (Err x) reads = record { failed = reads.err; frame = reads.frame }

-- a scheme that equals one of its geometry is of it
of-same : (w t : Waiting Below) → t ≡ w → StaysOf waiting_scheme w t
of-same w t is = λ p of. subst (λ (v : Waiting Below). waiting_scheme.is_of p v) (sym is) of

pub promotion-stays : (w t : Waiting Below) (later : Waiting Below) (r : Result (Unit {0}) NvmError) → MakesPromotion later r w t
    → OnErr r (StaysOf waiting_scheme w t)
promotion-stays w t later (Ok x) makes = tt
promotion-stays w t later (Err x) makes = of-same w t makes.kept

pub seals-on : (o : Origin) (k : CheckpointMarks) (cpu : CpuState) (epoch : ℕ) (w t : Waiting Below) (n : Device)
    → t ≡ with_below (sealed thynvm_design cpu epoch w.below) w → is_under_way thynvm_scheme w ≡ false
    → is_promoting w.below.control ≡ false → is_overlaid w.below.control ≡ false
    → Stands waiting_scheme o k w n → Seals waiting_scheme o k cpu epoch w n t
seals-on o k cpu epoch w t n is idle whole bare stands =
    let way : is_engine_under_way w.below.engine.stage ≡ false = (neither (thynvm_scheme.under_way w.below) (is_waiting w) idle).0 in
    subst (λ (x : Waiting Below). Seals waiting_scheme o k cpu epoch w n x) (sym is)
    (seals-over thynvm_scheme lawful applies_nothing o k w n stands cpu epoch (sealed thynvm_design cpu epoch w.below) idle
    (seals_then thynvm_design are_parts o k cpu epoch w.below (sealed thynvm_design cpu epoch w.below) n refl way whole bare (stands-below o k w n stands)))

-- ---- a step of the engine

-- if no barrier is left, the scheme below has something to do
way-below : (way : Bool) (left : ℕ) → (way || nat_lt 0 left) ≡ true → left ≤ 0 → way ≡ true
way-below true left on none = refl
way-below false left on none = absurd (let off : nat_lt 0 left ≡ false = le-ltb 0 left none in cc)

module _ (o : Origin) (k : CheckpointMarks) (w t : Waiting Below) (n m : Device) (stands : Stands waiting_scheme o k w n) where
  barrier-on : 0 < w.left → (r : Result EngineStep NvmError) → MakesBarrier w n r t m → IfOk r (λ step. Engines waiting_scheme o k step w n t m)
  barrier-on some (Ok x) makes =
      subst (λ (step : EngineStep). Engines waiting_scheme o k step w n t m) (sym makes.answer)
      (subst (λ (v : Waiting Below). Engines waiting_scheme o k Barrier w n v m) (sym makes.scheme)
      (waits-on thynvm_scheme lawful applies_nothing o k w n stands m makes.nvm (lt-ltb 0 w.left some)))
  barrier-on some (Err x) makes = tt

  barrier-fails : IsFramed n m → (r : Result EngineStep NvmError) → MakesBarrier w n r t m → OnErr r (EngineFails waiting_scheme o k n m)
  barrier-fails framed (Ok x) makes = tt
  barrier-fails framed (Err x) makes = waiting-fails thynvm_scheme lawful applies_nothing o k w n stands m makes.err framed

  item-by : (r : Result EngineStep NvmError) → thynvm_scheme.under_way w.below ≡ true → IfOk r (λ step. t.left ≡ left_after step)
      → IfOk r (λ step. Engines thynvm_scheme o k step w.below n t.below m) → IfOk r (λ step. Engines waiting_scheme o k step w n t m)
  item-by (Ok step) on left there =
      subst (λ (l : ℕ). Engines waiting_scheme o k step w n (record { below = t.below; left = l }) m) (sym left)
      (engines-over thynvm_scheme lawful applies_nothing o k w n stands step t.below m on there)
  item-by (Err x) on left there = tt

  item-fails-by : (r : Result EngineStep NvmError) → OnErr r (EngineFails thynvm_scheme o k n m) → OnErr r (EngineFails waiting_scheme o k n m)
  item-fails-by (Ok step) there = tt
  item-fails-by (Err x) there = engine-fails-over thynvm_scheme lawful applies_nothing o k w n stands m there

  item-on : thynvm_scheme.under_way w.below ≡ true → (r : Result EngineStep NvmError) → TakesItemBelow w n r t m
      → IfOk r (λ step. Engines waiting_scheme o k step w n t m)
  item-on on r takes =
      item-by r on takes.left
      (engines_then thynvm_design are_parts o k w.below t.below n m on (stands-below o k w n stands) r takes.answer takes.acts)

  item-fails : thynvm_scheme.under_way w.below ≡ true → (r : Result EngineStep NvmError) → TakesItemBelow w n r t m
      → OnErr r (EngineFails waiting_scheme o k n m)
  item-fails on r takes =
      item-fails-by r (engine_fails_then thynvm_design are_parts o k w.below t.below n m on (stands-below o k w n stands) r takes.acts)

  on-below : is_under_way thynvm_scheme w ≡ true → w.left ≡ 0 → thynvm_scheme.under_way w.below ≡ true
  on-below on none = way-below (thynvm_scheme.under_way w.below) w.left on (omega (arith, none))

  pub engines-on : is_under_way thynvm_scheme w ≡ true → (r : Result EngineStep NvmError) → TakesTurn w n r t m
      → IfOk r (λ step. Engines waiting_scheme o k step w n t m)
  engines-on on r takes = by_left w.left refl where
    by_left : (left : ℕ) → w.left ≡ left → IfOk r (λ step. Engines waiting_scheme o k step w n t m)
    by_left zero is = item-on (on-below on is) r (takes.goes is)
    by_left (suc left) is = barrier-on (omega (arith, is)) r (takes.waits (omega (arith, is)))

  pub engine-fails-on : is_under_way thynvm_scheme w ≡ true → IsFramed n m → (r : Result EngineStep NvmError) → TakesTurn w n r t m
      → OnErr r (EngineFails waiting_scheme o k n m)
  engine-fails-on on framed r takes = by_left w.left refl where
    by_left : (left : ℕ) → w.left ≡ left → OnErr r (EngineFails waiting_scheme o k n m)
    by_left zero is = item-fails (on-below on is) r (takes.goes is)
    by_left (suc left) is = barrier-fails framed r (takes.waits (omega (arith, is)))

-- a barrier that failed leaves the scheme one of its geometry
barrier-stays : (w t : Waiting Below) (n m : Device) (r : Result EngineStep NvmError) → MakesBarrier w n r t m → OnErr r (StaysOf waiting_scheme w t)
barrier-stays w t n m (Ok x) makes = tt
barrier-stays w t n m (Err x) makes = of-same w t makes.kept

item-stays : (w t : Waiting Below) (n m : Device) (r : Result EngineStep NvmError) → TakesItemBelow w n r t m → OnErr r (StaysOf waiting_scheme w t)
item-stays w t n m (Ok x) takes = tt
item-stays w t n m (Err x) takes = λ p of. subst (λ (s : Below). thynvm_scheme.is_of p s) (sym takes.acts.kept) of

pub engine-stays : (w t : Waiting Below) (n m : Device) (r : Result EngineStep NvmError) → TakesTurn w n r t m → OnErr r (StaysOf waiting_scheme w t)
engine-stays w t n m r takes = by_left w.left refl where
  by_left : (left : ℕ) → w.left ≡ left → OnErr r (StaysOf waiting_scheme w t)
  by_left zero is = item-stays w t n m r (takes.goes is)
  by_left (suc left) is = barrier-stays w t n m r (takes.waits (omega (arith, is)))

-- ---- a step of the boot

module _ (o : Origin) (start : Start) (w t : Waiting Below) (n m : Device) (begins : Begins o start) (booting : IsBooting waiting_scheme o w n)
    (sound : AreSoundTables t.below.control) where
  boots-by : (r : Result BootStep NvmError) → IfOk r (λ step. t.left ≡ left_booted step) → IfOk r (λ step. BootsOn thynvm_scheme o step w.below n t.below m)
      → IfOk r (λ step. BootsOn waiting_scheme o step w n t m)
  boots-by (Ok step) left there =
      subst (λ (l : ℕ). BootsOn waiting_scheme o step w n (record { below = t.below; left = l }) m) (sym left)
      (boots-over thynvm_scheme lawful o step w n t.below m there)
  boots-by (Err x) left there = tt

  boot-fails-by : (r : Result BootStep NvmError) → OnErr r (BootFails thynvm_scheme o w.below n m) → OnErr r (BootFails waiting_scheme o w n m)
  boot-fails-by (Ok step) there = tt
  boot-fails-by (Err x) there = boot-fails-over thynvm_scheme lawful o w n m there

  pub boots-on : (r : Result BootStep NvmError) → TakesBoot start w n r t m → IfOk r (λ step. BootsOn waiting_scheme o step w n t m)
  boots-on r takes =
      boots-by r takes.left
      (boots_then thynvm_design are_parts o start w.below t.below n m r begins (below-boots thynvm_scheme o w n booting) takes.below sound)

  pub boot-fails-on : (r : Result BootStep NvmError) → TakesBoot start w n r t m → OnErr r (BootFails waiting_scheme o w n m)
  boot-fails-on r takes =
      boot-fails-by r
      (boot_fails_then thynvm_design are_parts o start w.below t.below n m r begins (below-boots thynvm_scheme o w n booting) takes.below sound)

-- a step of the boot that failed leaves the scheme one of its geometry
pub boot-stays : (start : Start) (w t : Waiting Below) (n m : Device) (r : Result BootStep NvmError) → TakesBoot start w n r t m
    → OnErr r (StaysOf waiting_scheme w t)
boot-stays start w t n m (Ok x) takes = tt
boot-stays start w t n m (Err x) takes = λ p of.
    let same : t.below.control ≡ w.below.control = takes.below.steps.control in
    record {
      same_p = ap (λ (c : State). c.p) same ∙ of.same_p;
      sound = subst (λ (c : State). AreSoundTables c) (sym same) of.sound;
      room = ap (λ (c : State). c.dram.room) same ∙ of.room;
    }

-- ---- power comes on

pub powers : {E : Type 0} (p : Parameters) (dram : Contents) → IsDramOf p dram → (r : Result (Waiting Below) E)
    → IfOk r (λ w. w ≡ new_waiting p dram) → IfOk r (λ w. IsPowered thynvm_scheme p w)
powers p dram sized (Ok w) made =
    subst (λ (v : Waiting Below). IsPowered thynvm_scheme p v) (sym made) (record {
      below = record {
        dram = dram;
        is_dram = sized;
        control = refl;
        engine = refl;
        boot = refl;
        storeless = refl;
        sealed_storeless = refl;
      };
      none = refl;
    })
powers p dram sized (Err x) _ = tt

pub power-dram : {E : Type 0} (p : Parameters) (dram : Contents) (r : Result (Waiting Below) E)
    → IfOk r (λ w. w ≡ new_waiting p dram) → IfOk r (λ w. waiting_scheme.dram w ≡ dram)
power-dram p dram (Ok w) made = ap (λ (v : Waiting Below). waiting_scheme.dram v) made
power-dram p dram (Err x) _ = tt

-- ---- what each call makes exactly

made-barrier : (w t : Waiting Below) (n m : Device) (r : Result EngineStep NvmError) → MakesBarrier w n r t m
    → IfOk r (λ step. Makes (barrier_made w) step n t m)
made-barrier w t n m (Ok step) makes = record { answer_is = makes.answer; scheme_is = makes.scheme; nvm_is = makes.nvm }
made-barrier w t n m (Err x) makes = tt

made-item : (w t : Waiting Below) (n m : Device) (r : Result EngineStep NvmError) → TakesItemBelow w n r t m
    → IfOk r (λ step. Makes (item_below (thynvm_scheme.calls.engine w.below n)) step n t m)
made-item w t n m (Ok step) takes = record {
  answer_is = takes.answer;
  scheme_is = ap₂ (λ (s : Below) (left : ℕ). record w { below = s; left = left }) takes.acts.control (takes.left ∙ ap left_after takes.answer);
  nvm_is = takes.acts.device;
}
made-item w t n m (Err x) takes = tt

made-by : (w t : Waiting Below) (n m : Device) (r : Result EngineStep NvmError) → TakesTurn w n r t m → (waits : Bool) → nat_lt 0 w.left ≡ waits
    → IfOk r (λ step. Makes (if waits then barrier_made w else item_below (thynvm_scheme.calls.engine w.below n)) step n t m)
made-by w t n m r takes true is = made-barrier w t n m r (takes.waits (ltb-true 0 w.left is))
made-by w t n m r takes false is = made-item w t n m r (takes.goes (let none = ltb-false 0 w.left is in omega (arith, none)))

pub engine-made : (w t : Waiting Below) (n m : Device) (r : Result EngineStep NvmError) → TakesTurn w n r t m
    → IfOk r (λ step. Makes (waiting_scheme.calls.engine w n) step n t m)
engine-made w t n m r takes = made-by w t n m r takes (nat_lt 0 w.left) refl

pub boot-made : (start : Start) (w t : Waiting Below) (n m : Device) (r : Result BootStep NvmError) → TakesBoot start w n r t m
    → IfOk r (λ step. waiting_scheme.calls.boot (state_of start.state) w n step t m)
boot-made start w t n m (Ok step) takes = (booted_then thynvm_design start w.below t.below n m (Ok step) takes.below, takes.left)
boot-made start w t n m (Err x) takes = tt
