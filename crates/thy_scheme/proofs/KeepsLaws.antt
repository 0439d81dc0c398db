-- What stays of the machine over a call of the scheme, and what makes a cycle after the boot simulate the run.
use Rattle.std.proofs.Common.{◌≡◌, ◌≢◌, ℕ, ◌+◌, ◌==◌, ◌<◌, ◌≤◌, Bool, true, false, if◌then◌else◌, [], Option, Some, None, refl, sym, ◌∙◌, ap, ap₂, subst, inl, inr, arith}
use Rattle.thy_block.specs.declared.cause.EndCause.{EndCause}
use Rattle.thy_block.specs.declared.parameters.Parameters.{Parameters}
use Rattle.thy_block.specs.Device.{Device}
use Rattle.thy_cache.specs.Contents.{Contents, dirty_count, KeepsSize}
use Rattle.thy_cache.specs.Flat.{flat, Agrees}
use Rattle.thy_hart.specs.Epoch.{HasRetired}
use Rattle.thy_hart.specs.declared.hand.Hand.TheVariants.{Nothing}
use Rattle.thy_hart.specs.HartState.{HartState, next_block, secured}
use Rattle.thy_hart.specs.Laws.{Follows}
use Rattle.thy_hart.specs.Moments.{IsOpenFor, moment}
use Rattle.thy_isa.specs.Step.{fronted, state_with, is_running}
use Rattle.thy_computer.specs.declared.did.Did.{Did}
use Rattle.thy_computer.specs.declared.did.Did.TheVariants.{Moved}
use Rattle.thy_computer.specs.declared.view.Phase.{Phase}
use Rattle.thy_computer.specs.declared.view.Phase.TheVariants.{Boot, Run, Halt}
use Rattle.thy_computer.specs.declared.view.View.{View}
use Rattle.thy_computer.specs.Action.{ActsBy, Acts}
use Rattle.thy_computer.specs.CoreStep.{CoreStep}
use Rattle.thy_computer.specs.Dram.{LeavesDram, WritesBlock}
use Rattle.thy_computer.specs.Kind.{without_memory}
use Rattle.thy_computer.specs.Origin.{Origin, at, runs_at}
use Rattle.thy_computer.specs.Pace.{Queues, Strides as StridesOn}
use Rattle.thy_computer.specs.NextActor.{front_of, over_by}
use Rattle.thy_computer.specs.Work.{adds_copies, GetsDone}
use Rattle.thy_computer.proofs.ActionLemmas.{acts_by, down-after}
use Rattle.thy_scheme.specs.SchemeStore.{held_by_scheme}
use Rattle.thy_scheme.specs.Scheme.{SchemeOf, Stands}
use Rattle.thy_scheme.specs.Calls.{queued_in, OpensNone, HoldsSame, KeepsLeft, Keeps, OwesNoMore}
use Rattle.thy_scheme.specs.Laws.{IsLawful}
use Rattle.thy_scheme.specs.Machine.{Machine, cpu_fronted, moment_of, memory_of, run_view, view_in, view_of, pressure_of, gauge_of, has_read_in}
use Rattle.thy_scheme.specs.Pace.{instructions_left, flushes_left, hart_left, cycles_left, most_spent}
use Rattle.thy_scheme.specs.Sound.{OpenFor, OpenNow, IsFront, state_in_front, IsHeld, IsCounted, IsEpoch, StartsFresh, IsPaced, IsSmall, SoundRun, SoundIn, Sound}
use Rattle.thy_scheme.specs.Rows.{SimulatesCycle, At}
use Rattle.thy_scheme.proofs.SmallLaws.{small_step}
use Rattle.thy_scheme.proofs.WorkLaws.{NoMore, moves_same, leaves_no_more, uses_none}

-- ---- after the boot

module _ {S : Type 0} (K : SchemeOf S) (o : Origin) where
  run_in : (phase : Phase) (m : Machine S) (n : Device) → phase ≢ Boot → SoundIn K o phase m n → SoundRun K o m n
  run_in Boot m n behind s = absurd (behind refl)
  run_in Run m n behind s = s
  run_in Halt m n behind s = s

  in_run : (phase : Phase) (m : Machine S) (n : Device) → phase ≢ Boot → SoundRun K o m n → SoundIn K o phase m n
  in_run Boot m n behind s = absurd (behind refl)
  in_run Run m n behind s = s
  in_run Halt m n behind s = s

  view_is : (phase : Phase) (m : Machine S) (n : Device) → phase ≢ Boot → view_in K o phase m n ≡ run_view m
  view_is Boot m n behind = absurd (behind refl)
  view_is Run m n behind = refl
  view_is Halt m n behind = refl

  has_read_is : (phase : Phase) (m : Machine S) → phase ≢ Boot → has_read_in K phase m ≡ true
  has_read_is Boot m behind = absurd (behind refl)
  has_read_is Run m behind = refl
  has_read_is Halt m behind = refl

  -- a moment of a run, whose view is the view of its parts
  pub run_of : (cycles : ℕ) (m : Machine S) (n : Device) → Sound K o cycles m n → m.phase ≢ Boot → SoundRun K o m n
  run_of cycles m n s behind = run_in m.phase m n behind s.moment

  pub view_run : (m : Machine S) (n : Device) → m.phase ≢ Boot → view_of K o m n ≡ run_view m
  view_run m n behind = view_is m.phase m n behind

  -- what the scheme promises there
  pub stands : (cycles : ℕ) (m : Machine S) (n : Device) → Sound K o cycles m n → m.phase ≢ Boot → Stands K o m.marks m.scheme n
  stands cycles m n s behind = record { sound = (run_of cycles m n s behind).checkpoints; up = s.up }

-- a machine that runs is no longer in its boot
pub runs_behind : (phase : Phase) → phase ≡ Run → phase ≢ Boot
runs_behind phase is = λ boots. absurd (cc)

-- ---- what makes a cycle simulate the run

-- what has to be shown of a cycle after the boot
pub record GoesOn {S : Type 0} (K : SchemeOf S) (o : Origin) (did : Did) (m : Machine S) (n : Device) (next : Machine S) (new : Device)
    : Type 0 where
  pub behind : next.phase ≢ Boot
  pub geometry : next.hart.geometry ≡ m.hart.geometry
  pub sized : KeepsSize m.cache next.cache
  pub up : new.down ≡ false
  pub unfailed : next.failed ≡ m.failed
  pub moment : SoundRun K o next new
  pub step : CoreStep o (run_view m) did (run_view next)
  pub acts : Acts did n new
  pub dram : LeavesDram did n new (K.dram m.scheme) (K.dram next.scheme)
  pub queues : Queues did (queued_in K m.scheme n) (queued_in K next.scheme new)
  pub strides : StridesOn did m.hart.epoch.retired m.idle next.idle
  pub done : GetsDone did (gauge_of K m n) (gauge_of K next new) (WritesBlock n new (K.dram m.scheme) (K.dram next.scheme))
  pub left : NoMore K did m n next new
  pub fewer : dirty_count next.cache ≤ dirty_count m.cache
  -- no more entries are taken than lines go clean
  pub room : dirty_count next.cache + K.free m.scheme ≤ dirty_count m.cache + K.free next.scheme
  pub hand : next.hart.hand ≡ m.hart.hand
  pub exhausts : did ≡ Moved → next.hart.epoch.over ≡ over_by (pressure_of K m).short

module _ {S : Type 0} (K : SchemeOf S) (o : Origin) (cycles : ℕ) (did : Did)
    (m : Machine S) (n : Device) (next : Machine S) (new : Device) where
  small_on : IsSmall cycles (view_of K o m n) → m.phase ≢ Boot → GoesOn K o did m n next new → IsSmall (cycles + 1) (view_of K o next new)
  small_on small behind g =
      let old : IsSmall cycles (run_view m) = subst (IsSmall cycles) (view_run K o m n behind) small in
      subst (IsSmall (cycles + 1)) (sym (view_run K o next new g.behind)) (small_step o cycles (run_view m) (run_view next) old did g.step)

  pub simulates_by : At K o cycles m n → m.phase ≢ Boot → GoesOn K o did m n next new → SimulatesCycle K o cycles did m n next new
  simulates_by at behind g =
      let old : view_of K o m n ≡ run_view m = view_run K o m n behind in
      let now : view_of K o next new ≡ run_view next = view_run K o next new g.behind in
      let spends : next.spent + cycles_left K o.geometry next new < most_spent K o.geometry = g.moment.paced.spent in
      let spent_is : (view_of K o next new).spent ≡ next.spent = ap (λ (v : View). v.spent) now in
      record {
        at_next = record {
          origin = at.sound.origin;
          geometry = g.geometry ∙ at.sound.geometry;
          sized = g.sized o.geometry.sets o.geometry.ways at.sound.sized;
          up = g.up;
          unfailed = g.unfailed ∙ at.sound.unfailed;
          small = small_on at.sound.small behind g;
          moment = in_run K o next.phase next new g.behind g.moment;
        };
        step = subst (λ v. CoreStep o v did (view_of K o next new)) (sym old) (subst (λ v. CoreStep o (run_view m) did v) (sym now) g.step);
        acts = acts_by (K.migrates m.scheme) did n new g.acts;
        dram = g.dram;
        pace = record {
          spent = omega (arith, spends, spent_is);
          queues = g.queues;
          boots = λ boots. absurd (behind (sym (ap (λ (v : View). v.phase) old) ∙ boots));
          strides = subst (λ (v : View). StridesOn did v.retired m.idle next.idle) (sym old) g.strides;
          entries = g.moment.held.room;
        };
        works = record { done = g.done; left = leaves_no_more K did m n next new behind g.behind g.left };
        dirties = inl (uses_none K o m next n new g.fewer g.hand (λ run. g.room));
        exhausts = λ is. ap (λ (v : View). v.over) now ∙ g.exhausts is;
        read = λ nothing. has_read_is K o next.phase next g.behind;
        still = λ found r current. absurd (behind (sym (ap (λ (v : View). v.phase) old) ∙ r.phase));
      }

-- ---- what stays over a call of the scheme

-- no entry is taken
pub takes_none : {S : Type 0} (K : SchemeOf S) (m : Machine S) (n : Device) (t : S) (new : Device) → IsLawful K
    → HoldsSame (K.holding m.scheme n) (K.holding t new) → dirty_count m.cache + K.free m.scheme ≤ dirty_count m.cache + K.free t
takes_none K m n t new l same =
    let before : (K.holding m.scheme n).free ≡ K.free m.scheme = l.free_is m.scheme n in
    let behind : (K.holding t new).free ≡ K.free t = l.free_is t new in
    let more : (K.holding m.scheme n).free ≤ (K.holding t new).free = same.free in
    omega (arith, before, behind, more)

-- every block may be touched while no page is being copied
pub none_for : (c : Contents) (b : Option ℕ) → IsOpenFor c b None
none_for c None = refl
none_for c (Some b) = inl refl

pub none_begun : (begun : Option ℕ) (c : Contents) (h : HartState) → OpenFor begun c h None
none_begun None c h = refl
none_begun (Some hart) c h = none_for c (next_block h)

pub none_now : (over : Option EndCause) (begun : Option ℕ) (c : Contents) (h : HartState) → OpenNow over begun c h None
none_now None begun c h = none_begun begun c h
none_now (Some cause) begun c h = inl refl

-- no page was opened, so one may be open as before
opened_kept : (over : Option EndCause) (begun : Option ℕ) (c : Contents) (h : HartState) (old new : Option ℕ) → OpensNone old new
    → OpenNow over begun c h old → OpenNow over begun c h new
opened_kept over begun c h old new none before = elim none as (λ _. OpenNow over begun c h new) [
  | inl e ↦ subst (OpenNow over begun c h) (sym e) (none_now over begun c h)
  | inr e ↦ subst (OpenNow over begun c h) (sym e) before
]

-- fewer merges leave fewer cycles
flushes_fewer : (most dirty old new : ℕ) → new ≤ old → flushes_left most dirty new ≤ flushes_left most dirty old
flushes_fewer most dirty old new l = first (dirty == 0)
  where
    first : (none : Bool) → (if none then new else dirty + most) ≤ (if none then old else dirty + most)
    first true = l
    first false = omega arith

-- hart and cache are as they were
module _ {S : Type 0} (K : SchemeOf S) (m next : Machine S) (n new : Device)
    (hart : next.hart ≡ m.hart) (cache : next.cache ≡ m.cache) (begun : next.begun ≡ m.begun) where
  pub memory_kept : (K.holding next.scheme new).blocks ≡ (K.holding m.scheme n).blocks → memory_of K next new ≡ memory_of K m n
  memory_kept blocks = ap (λ c. flat c (K.holding next.scheme new).blocks) cache ∙ ap (flat m.cache) blocks

  dirty_kept : dirty_count next.cache ≡ dirty_count m.cache
  dirty_kept = ap dirty_count cache

  secured_kept : secured next.hart.hand ≡ secured m.hart.hand
  secured_kept = ap (λ (h : HartState). secured h.hand) hart

  -- the cache reads as memory over a store that holds the same
  pub held_kept : IsLawful K → HoldsSame (K.holding m.scheme n) (K.holding next.scheme new) → IsHeld K m n → IsHeld K next new
  held_kept l same h =
      let before : (K.holding m.scheme n).free ≡ K.free m.scheme = l.free_is m.scheme n in
      let behind : (K.holding next.scheme new).free ≡ K.free next.scheme = l.free_is next.scheme new in
      let more : (K.holding m.scheme n).free ≤ (K.holding next.scheme new).free = same.free in
      let room : dirty_count m.cache + secured m.hart.hand ≤ K.free m.scheme = h.room in
      let page : Option ℕ = (K.holding next.scheme new).open_page in
      record {
        agree = subst (λ c. Agrees c (K.holding next.scheme new).blocks) (sym cache) (subst (Agrees m.cache) (sym same.blocks) h.agree);
        room = omega (arith, before, behind, more, room, dirty_kept, secured_kept);
        opened = subst (λ (x : HartState). OpenNow x.epoch.over next.begun next.cache x page) (sym hart)
            (subst (λ b. OpenNow m.hart.epoch.over b next.cache m.hart page) (sym begun)
            (subst (λ c. OpenNow m.hart.epoch.over m.begun c m.hart page) (sym cache)
            (opened_kept m.hart.epoch.over m.begun m.cache m.hart (K.holding m.scheme n).open_page page same.opened h.opened)));
      }

  -- the hart is where it was
  pub follows_kept : (o : Origin) → (K.holding next.scheme new).blocks ≡ (K.holding m.scheme n).blocks
      → Follows o.input (state_in_front o m) m.hart (memory_of K m n)
      → Follows o.input (state_in_front o next) next.hart (memory_of K next new)
  follows_kept o blocks f =
      subst (λ b. Follows o.input (fronted (front_of b) (at o next.hart.cpu.count)) next.hart (memory_of K next new)) (sym begun)
      (subst (λ (c : HartState). Follows o.input (fronted (front_of m.begun) (at o c.cpu.count)) c (memory_of K next new)) (sym hart)
      (subst (Follows o.input (state_in_front o m) m.hart) (sym (memory_kept blocks)) f))

  -- the hart in front is as before
  pub front_kept : (o : Origin) → IsFront o m → IsFront o next
  front_kept o f = record {
    there = λ h is. f.there h (sym begun ∙ is);
    rests = λ none. subst (λ (x : HartState). x.hand ≡ Nothing) (sym hart) (f.rests (sym begun ∙ none));
    over = λ over. begun ∙ f.over (subst (λ (x : HartState). x.epoch.over ≢ None) hart over);
  }

  pub counted_kept : (o : Origin) → IsCounted o m → IsCounted o next
  counted_kept o c = record {
    start = subst (λ (x : HartState). o.start.count ≤ x.cpu.count) (sym hart) c.start;
    count = subst (λ (x : HartState). (at o x.cpu.count).count ≡ x.cpu.count) (sym hart) c.count;
    processor = subst (λ b. state_with (cpu_fronted (front_of b) next.hart.cpu) [] [] ≡ without_memory (at o next.hart.cpu.count)) (sym begun)
        (subst (λ (x : HartState). state_with (cpu_fronted (front_of m.begun) x.cpu) [] [] ≡ without_memory (at o x.cpu.count))
        (sym hart) c.processor);
    running = subst (λ (x : HartState). is_running x.cpu.status ≡ runs_at o x.cpu.count) (sym hart) c.running;
  }

  pub epoch_kept : (o : Origin) → (next.spent ≡ 0 → m.spent ≡ 0) → IsEpoch o m → IsEpoch o next
  epoch_kept o spent e = record {
    began = λ none. begun ∙ e.began (spent none);
    span = subst (λ (x : HartState). x.epoch.span ≡ o.geometry.epoch) (sym hart) e.span;
    retired = subst (λ (x : HartState). HasRetired x.epoch.span x.epoch.retired x.epoch.over) (sym hart) e.retired;
    hand = subst (λ (x : HartState). x.epoch.over ≢ None → x.hand ≡ Nothing) (sym hart) e.hand;
  }

  -- the hart has no more left to do than before
  hart_left_in : (p : Parameters) (over : Option EndCause) → K.merges_left next.scheme ≤ K.merges_left m.scheme
      → hart_left K p over next new ≤ hart_left K p over m n
  hart_left_in p None fewer =
      let same : instructions_left next.begun (moment_of K next new) ≡ instructions_left m.begun (moment_of K m n) =
      ap (λ b. instructions_left b (moment_of K next new)) begun
      ∙ ap₂ (λ h c. instructions_left m.begun (moment h c (held_by_scheme K m.scheme n))) hart cache in
      omega (arith, same)
  hart_left_in p (Some cause) fewer =
      let most : ℕ = K.most_merges p in
      let dirty : ℕ = dirty_count m.cache in
      let merges : ℕ = K.merges_left m.scheme in
      let now : ℕ = K.merges_left next.scheme in
      subst (λ d. flushes_left most d now ≤ flushes_left most dirty merges) (sym dirty_kept) (flushes_fewer most dirty merges now fewer)

  pub hart_left_kept : (p : Parameters) → K.merges_left next.scheme ≤ K.merges_left m.scheme
      → hart_left K p next.hart.epoch.over next new ≤ hart_left K p m.hart.epoch.over m n
  hart_left_kept p fewer =
      subst (λ (x : HartState). hart_left K p x.epoch.over next new ≤ hart_left K p m.hart.epoch.over m n) (sym hart)
      (hart_left_in p m.hart.epoch.over fewer)

  -- no cycle is left that was not
  pub left_kept : (p : Parameters) → KeepsLeft K m.scheme n next.scheme new → cycles_left K p next new ≤ cycles_left K p m n
  left_kept p k =
      let owed = k.owed in
      let engine = k.engine in
      let promotions = k.promotions in
      let hart_left = hart_left_kept p k.merges in
      omega (arith, owed, engine, promotions, hart_left)

  -- a machine is on pace if the cycles that are left and the ones that were spent are below the most
  pub paced_kept : (p : Parameters) → next.idle ≡ m.idle → Keeps K m.scheme n next.scheme new → IsPaced K p m n
      → next.spent + cycles_left K p next new < most_spent K p → IsPaced K p next new
  paced_kept p idle k old spent = record {
    spent = spent;
    fresh =
        subst (λ (x : HartState). StartsFresh x.epoch.over x.epoch.retired x.hand (dirty_count next.cache) (K.storeless next.scheme)) (sym hart)
        (subst (λ d. StartsFresh m.hart.epoch.over m.hart.epoch.retired m.hart.hand d (K.storeless next.scheme)) (sym dirty_kept)
        (subst (λ r. StartsFresh m.hart.epoch.over m.hart.epoch.retired m.hart.hand (dirty_count m.cache) r) (sym k.storeless)
        old.fresh));
    sealed_storeless = λ is. k.sealed_storeless ∙ old.sealed_storeless (sym idle ∙ is);
    strides = λ is. subst (λ (x : HartState). x.epoch.over ≢ None → 1 ≤ x.epoch.retired) (sym hart) (old.strides (sym idle ∙ is));
    promoted = λ over. k.whole (old.promoted (subst (λ (x : HartState). x.epoch.over ≢ None) hart over));
  }

-- ---- after a call that leaves all but the scheme, and how much was spent

abbrev pub with_scheme : {S : Type 0} → S → ℕ → Machine S → Machine S
with_scheme t spent m = record m { scheme = t; spent = spent }

pub sound_kept : {S : Type 0} (K : SchemeOf S) (o : Origin) (m : Machine S) (n : Device) (t : S) (spent : ℕ) (new : Device)
    → IsLawful K → SoundRun K o m n → K.is_sound o m.marks t new → Keeps K m.scheme n t new → (spent ≡ 0 → m.spent ≡ 0)
    → spent + cycles_left K o.geometry (with_scheme t spent m) new < most_spent K o.geometry
    → SoundRun K o (with_scheme t spent m) new
sound_kept K o m n t spent new l s sound keeps began below =
    let next = with_scheme t spent m in
    record {
      checkpoints = sound;
      held = held_kept K m next n new refl refl refl l keeps.held s.held;
      follows = follows_kept K m next n new refl refl refl o keeps.held.blocks s.follows;
      writes = s.writes;
      front = front_kept K m next n new refl refl refl o s.front;
      counted = counted_kept K m next n new refl refl refl o s.counted;
      epoch = epoch_kept K m next n new refl refl refl o began s.epoch;
      numbered = record { epoch = s.numbered.epoch; sealed = s.numbered.sealed; unwritten = s.numbered.unwritten };
      shown = record { done = s.shown.done; sealed = s.shown.sealed; ends = s.shown.ends };
      ended = record {
        sealed = λ a is stops. let e = s.ended.sealed a is stops in record { count_is = e.count_is; hand = e.hand; over = e.over; begun = e.begun };
        halted = λ is. let e = s.ended.halted is in (record { count_is = e.0.count_is; hand = e.0.hand; over = e.0.over; begun = e.0.begun }, e.1);
        live = s.ended.live;
      };
      paced = paced_kept K m next n new refl refl refl o.geometry refl keeps s.paced below;
    }

-- a call that leaves all but the scheme leaves no more to do than before
pub left_on : {S : Type 0} (K : SchemeOf S) (did : Did) (m : Machine S) (n : Device) (t : S) (spent : ℕ) (new : Device)
    → Keeps K m.scheme n t new → (adds_copies did ≡ false → OwesNoMore K m.scheme n t new) → NoMore K did m n (with_scheme t spent m) new
left_on K did m n t spent new keeps owes = record {
  moves = λ e.
      let same = moves_same m.phase m.hart.epoch.over m.begun (moment_of K m n) (moment_of K (with_scheme t spent m) new) refl in
      omega (arith, same);
  owed = owes;
  owed_in_all = λ e. keeps.left.owed;
  promotions = λ e. keeps.left.promotions;
}

-- ---- the device

-- an action that succeeded leaves it up
pub up_after : {migrates : Bool} (did : Did) (n new : Device) → n.down ≡ false → ActsBy migrates did n new → new.down ≡ false
up_after did n new up acts = down-after acts.action n new acts.left ∙ up
