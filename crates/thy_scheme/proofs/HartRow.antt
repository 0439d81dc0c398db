-- A step of the hart leads to the next moment.
use Rattle.std.proofs.Common.{◌≡◌, ◌≢◌, ◌⊎◌, ℕ, ◌+◌, ◌-◌, ◌<◌, ◌≤◌, not, Bool, true, false, if◌then◌else◌, length, Option, Some, None, refl, sym, ◌∙◌, ap, subst, arith, inl, inr}
use Rattle.thy_block.specs.declared.cause.EndCause.{EndCause}
use Rattle.thy_block.specs.Device.{Device}
use Rattle.thy_cache.specs.Contents.{Contents, dirty_count}
use Rattle.thy_dram.specs.Contents.{Contents as DramContents}
use Rattle.thy_hart.specs.Epoch.{HasRetired}
use Rattle.thy_hart.specs.declared.hand.Hand.TheVariants.{Nothing}
use Rattle.thy_hart.specs.declared.hand.HartStep.{HartStep}
use Rattle.thy_hart.specs.HartState.{HartState, secured}
use Rattle.thy_hart.specs.Outcomes.{given}
use Rattle.thy_hart.specs.Laws.{Follows}
use Rattle.thy_computer.specs.declared.did.Did.{Did}
use Rattle.thy_computer.specs.declared.did.Did.TheVariants.{Moved as DidMove, Retired as DidRetire}
use Rattle.thy_computer.specs.declared.view.Phase.TheVariants.{Boot, Run}
use Rattle.thy_computer.specs.declared.view.View.{View}
use Rattle.thy_computer.specs.Action.{Acts}
use Rattle.thy_computer.specs.CoreStep.{CoreStep}
use Rattle.thy_computer.specs.Dram.{ActsOnDram, LeavesDram, WritesBlock}
use Rattle.thy_computer.specs.Origin.{Origin, at, runs_at}
use Rattle.thy_computer.specs.Pace.{KeepsPace}
use Rattle.thy_computer.specs.Stores.{stored_by, Dirties}
use Rattle.thy_computer.specs.NextActor.{has_stopped, over_by}
use Rattle.thy_computer.specs.Work.{begins_instruction, GetsDone, Works}
use Rattle.thy_computer.proofs.ActionLemmas.{acts_by}
use Rattle.thy_scheme.specs.Scheme.{SchemeOf}
use Rattle.thy_scheme.specs.Calls.{queued_in, OwesNoMore}
use Rattle.thy_scheme.specs.Laws.{RunHolds}
use Rattle.thy_scheme.specs.Machine.{Machine, cpu_fronted, run_view, view_of, moment_of, memory_of, shortage_of, pressure_of, moves_while, gauge_in, gauge_of, has_read_in}
use Rattle.thy_scheme.specs.Pace.{cycles_left, most_spent}
use Rattle.thy_scheme.specs.Sound.{IsSmall, OpenNow, IsFront, state_in_front, IsToWrite, IsCounted, StartsFresh, IsPaced, SoundRun, SoundIn}
use Rattle.thy_scheme.specs.MachineCalls.{IsAsked, HartCall, begun_by_hart}
use Rattle.thy_scheme.specs.Rows.{SimulatesCycle, At, HartAdvances}
use Rattle.thy_cache.specs.Flat.{flat}
use Rattle.thy_isa.specs.Step.{fronted}
use Rattle.thy_scheme.proofs.BegunLaws.{fronted-twice, cpu-count, fronts-on, writes_nothing}
use Rattle.thy_scheme.proofs.Facts.{view-run, sound-run, is-going}
use Rattle.thy_scheme.proofs.SmallLaws.{small_step}

-- the machine after a step of a hart, which had retired `lap` instructions since the seal; its instruction may have
-- ended
abbrev pub hart_on : {S : Type 0} → ℕ → Bool → ℕ → Option ℕ → HartState → Contents → S → Machine S → Machine S
hart_on hart ended lap last h c t m = record m {
  hart = record h { cpu = if ended then cpu_fronted hart h.cpu else h.cpu };
  cache = c;
  scheme = t;
  spent = m.spent + 1;
  lap = lap;
  begun = if ended then None else Some hart;
  last = last;
}

-- what does not depend on the answer
pub record IsOn {S : Type 0} (K : SchemeOf S) (o : Origin) (m : Machine S) (n : Device) (h : HartState) (c : Contents) (t : S)
    (new : Device) : Type 0 where
  pub up : new.down ≡ false
  pub whole : K.promoting t ≡ false
  pub sound : K.is_sound o m.marks t new
  pub holds : RunHolds K o m.marks t new
  pub engine : K.engine_left t ≤ K.engine_left m.scheme
  pub sealed_storeless : K.sealed_storeless t ≡ K.sealed_storeless m.scheme
  pub room : dirty_count c + secured h.hand ≤ K.free t
  -- no more entries are taken than lines go clean and secured ones are used
  pub taken : dirty_count c + K.free m.scheme ≤ dirty_count m.cache + (secured m.hart.hand - secured h.hand) + K.free t
  pub geometry : h.geometry ≡ o.geometry
  pub owed_later : K.owed_later t ≤ K.owed_later m.scheme
  pub dram : ActsOnDram n new (K.dram m.scheme) (K.dram t)
  pub queue : queued_in K t new ≤ queued_in K m.scheme n + 1

module _ {S : Type 0} (K : SchemeOf S) (s : S) (n : Device) (t : S) (new : Device) (asked : IsAsked K s n t new) where
  dram-asked : new.down ≡ false → ActsOnDram n new (K.dram s) (K.dram t)
  dram-asked up = elim asked as (λ _. ActsOnDram n new (K.dram s) (K.dram t)) [
    | inl same ↦ inl (ap K.dram same.0)
    | inr access ↦ (access.succeeds up).dram
  ]

  queue-asked : new.down ≡ false → queued_in K t new ≤ queued_in K s n + 1
  queue-asked up = elim asked as (λ _. queued_in K t new ≤ queued_in K s n + 1) [
    | inl same ↦ omega (arith, ap K.queued same.0, ap (λ (d : Device). length d.queue) same.1)
    | inr access ↦ (access.succeeds up).queue
  ]

pub is-on : {S : Type 0} (K : SchemeOf S) (o : Origin) (cycles : ℕ) (m : Machine S) (n : Device) (hart : ℕ) (h : HartState) (c : Contents)
    (t : S) (new : Device) (s : HartStep) → At K o cycles m n → HartAdvances K o m n hart
    → HartCall K (given o.input (K.free m.scheme) (K.under_way m.scheme)) (begun_by_hart hart m) n h c t new s → IsOn K o m n h c t new
is-on K o cycles m n hart h c t new s at turn hs =
    let l = at.lawful in
    let w = hs.is_step in
    let run = sound-run K o cycles m n at.sound turn.goes.phase in
    let going = is-going K o cycles m n at turn.goes in
    let up = l.ready_up t new w.ready.ready in
    let stays = l.stays_sound o m.marks m.scheme n t new (record { sound = run.checkpoints; up = at.sound.up }) going.free hs.stays in
    let taken : dirty_count c + (K.holding m.scheme n).free
    ≤ dirty_count m.cache + (secured m.hart.hand - secured h.hand) + (K.holding t new).free = w.room in
    record {
      up = up;
      whole = l.ready_whole t new w.ready.ready;
      sound = stays.sound up;
      holds = l.run_holds o m.marks t new (record { sound = stays.sound up; up = up });
      engine = stays.engine;
      sealed_storeless = stays.sealed_storeless;
      room = omega (arith, w.ready.room, l.free_is t new);
      taken = omega (arith, taken, l.free_is m.scheme n, l.free_is t new);
      geometry = w.fixed ∙ at.sound.geometry;
      owed_later = stays.owed_later;
      dram = dram-asked K m.scheme n t new hs.asked up;
      queue = queue-asked K m.scheme n t new hs.asked up;
    }

-- ---- the next moment, by what is known of the hart

-- what the next moment needs to be known of hart, cache and scheme
pub record IsNext {S : Type 0} (K : SchemeOf S) (o : Origin) (cycles : ℕ) (m : Machine S) (n : Device) (hart : ℕ) (ended : Bool) (lap : ℕ)
    (last : Option ℕ) (did : Did) (h : HartState) (c : Contents) (t : S) (new : Device) : Type 0 where
  pub number : h.epoch.number ≡ m.hart.epoch.number
  pub span : h.epoch.span ≡ m.hart.epoch.span
  pub retired : HasRetired h.epoch.span h.epoch.retired h.epoch.over
  pub hand : h.epoch.over ≢ None → h.hand ≡ Nothing
  pub opened : OpenNow h.epoch.over (if ended then None else Some hart) c h (K.holding t new).open_page
  -- an instruction that has ended is not in hand; and it has if the epoch is over
  pub rests : ended ≡ true → h.hand ≡ Nothing
  pub ends : h.epoch.over ≢ None → ended ≡ true
  pub counted : IsCounted o (hart_on hart ended lap last h c t m)
  pub follows : Follows o.input (fronted hart (at o h.cpu.count)) h (memory_of K (hart_on hart ended lap last h c t m) new)
  pub writes : IsToWrite (stored_by o (fronted hart (at o h.cpu.count))) h.hand
  pub live : h.epoch.over ≡ None → runs_at o h.cpu.count ≡ true
  pub fresh : StartsFresh h.epoch.over h.epoch.retired h.hand (dirty_count c) (K.storeless t)
  pub strides : m.idle ≡ true → h.epoch.over ≢ None → 1 ≤ h.epoch.retired
  pub spent : cycles_left K o.geometry (hart_on hart ended lap last h c t m) new + 1 ≤ cycles_left K o.geometry m n
  pub step : CoreStep o (run_view m) did (run_view (hart_on hart ended lap last h c t m))
  pub acts : Acts did n new
  pub done : GetsDone did (gauge_in K Run m n) (gauge_in K Run (hart_on hart ended lap last h c t m) new)
      (WritesBlock n new (K.dram m.scheme) (K.dram t))
  pub moves : begins_instruction did ≡ false
      → moves_while h.epoch.over (if ended then None else Some hart) (moment_of K (hart_on hart ended lap last h c t m) new)
      ≤ moves_while m.hart.epoch.over m.begun (moment_of K m n)
  pub owed : OwesNoMore K m.scheme n t new
  pub exhausts : did ≡ DidMove → h.epoch.over ≡ over_by (shortage_of K m)
  pub retires : did ≡ DidRetire hart → K.dram t ≡ K.dram m.scheme
  pub dirties : Dirties o (run_view m) did (pressure_of K m) (pressure_of K (hart_on hart ended lap last h c t m)) (gauge_of K m n)
      (gauge_of K (hart_on hart ended lap last h c t m) new)

-- a hart's step is reported as one
abbrev pub IsHarts : ℕ → Did → Type 0
IsHarts hart did = (did ≡ DidMove) ⊎ (did ≡ DidRetire hart)

harts-dram : (hart : ℕ) (did : Did) (n new : Device) (old now : DramContents) → IsHarts hart did → ActsOnDram n new old now
    → (did ≡ DidRetire hart → now ≡ old) → LeavesDram did n new old now
harts-dram hart did n new old now harts acts retires = elim harts as (λ _. LeavesDram did n new old now) [
  | inl e ↦ subst (λ d. LeavesDram d n new old now) (sym e) acts
  | inr e ↦ subst (λ d. LeavesDram d n new old now) (sym e) (retires e)
]

module _ {S : Type 0} (K : SchemeOf S) (o : Origin) (cycles : ℕ) (m : Machine S) (n : Device) (hart : ℕ) (ended : Bool) (lap : ℕ)
    (last : Option ℕ) (did : Did) (h : HartState) (c : Contents) (t : S) (new : Device) where
  -- the machine after the step, by whether the instruction has ended
  abbrev stepped : Bool → Machine S
  stepped ended = hart_on hart ended lap last h c t m

  next-run : (s : HartStep) → At K o cycles m n → HartAdvances K o m n hart
      → HartCall K (given o.input (K.free m.scheme) (K.under_way m.scheme)) (begun_by_hart hart m) n h c t new s
      → IsNext K o cycles m n hart ended lap last did h c t new → SoundRun K o (stepped ended) new
  next-run s at-m turn hs x =
      let run = sound-run K o cycles m n at-m.sound turn.goes.phase in
      let going = is-going K o cycles m n at-m turn.goes in
      let on = is-on K o cycles m n hart h c t new s at-m turn hs in
      record {
        checkpoints = on.sound;
        held = record { agree = hs.is_step.ready.agree; room = on.room; opened = opened_back ended h.epoch.over x.opened };
        follows = follows_back ended x.rests x.follows;
        writes = writes_back ended x.rests x.writes;
        front = front_back ended x.rests x.ends;
        counted = x.counted;
        epoch = record { began = λ e. absurd (omega (arith, e)); span = x.span ∙ run.epoch.span; retired = x.retired; hand = x.hand };
        numbered = record { epoch = x.number ∙ run.numbered.epoch; sealed = run.numbered.sealed; unwritten = run.numbered.unwritten };
        shown = record { done = run.shown.done; sealed = run.shown.sealed; ends = run.shown.ends };
        ended = record {
          sealed = λ k e stopped. absurd (let no : not (runs_at o k.count) ≡ false = ap (has_stopped o) (sym e) ∙ going.lively in
              let yes = ap not stopped in cc);
          halted = λ e. absurd (let p = turn.goes.phase in cc);
          live = λ e over still. live_back ended (x.live over);
        };
        paced = record {
          spent = omega (arith, x.spent, run.paced.spent);
          fresh = x.fresh;
          sealed_storeless = λ idle. on.sealed_storeless ∙ run.paced.sealed_storeless idle;
          strides = x.strides;
          promoted = λ e. on.whole;
        };
      }
    where
      -- hart 0 is in front again if the instruction has ended
      follows_back : (ended : Bool) → (ended ≡ true → h.hand ≡ Nothing)
          → Follows o.input (fronted hart (at o h.cpu.count)) h (flat c (K.holding t new).blocks)
          → Follows o.input (state_in_front o (stepped ended)) (stepped ended).hart (flat c (K.holding t new).blocks)
      follows_back false rests f = f
      follows_back true rests f =
          subst (λ k. Follows o.input (at o k) (record h { cpu = cpu_fronted hart h.cpu }) (flat c (K.holding t new).blocks))
          (sym (cpu-count hart h.cpu))
          (subst (λ x. Follows o.input x (record h { cpu = cpu_fronted hart h.cpu }) (flat c (K.holding t new).blocks))
          (fronted-twice hart (at o h.cpu.count))
          (fronts-on hart o.input (fronted hart (at o h.cpu.count)) h (flat c (K.holding t new).blocks) (rests refl) f))

      writes_back : (ended : Bool) → (ended ≡ true → h.hand ≡ Nothing) → IsToWrite (stored_by o (fronted hart (at o h.cpu.count))) h.hand
          → IsToWrite (stored_by o (state_in_front o (stepped ended))) h.hand
      writes_back false rests w = w
      writes_back true rests w = writes_nothing (stored_by o (state_in_front o (stepped true))) h.hand (rests refl)

      opened_back : (ended : Bool) (over : Option EndCause)
          → OpenNow over (if ended then None else Some hart) c h (K.holding t new).open_page
          → OpenNow over (if ended then None else Some hart) c (stepped ended).hart (K.holding t new).open_page
      opened_back false over opened = opened
      opened_back true None opened = opened
      opened_back true (Some cause) opened = opened

      live_back : (ended : Bool) → runs_at o h.cpu.count ≡ true → runs_at o (stepped ended).hart.cpu.count ≡ true
      live_back false runs = runs
      live_back true runs = ap (runs_at o) (cpu-count hart h.cpu) ∙ runs

      front_back : (ended : Bool) → (ended ≡ true → h.hand ≡ Nothing) → (h.epoch.over ≢ None → ended ≡ true) → IsFront o (stepped ended)
      front_back false rests ends =
          record {
            there = λ b is. (let same : hart ≡ b = cc in subst (λ x. x < o.geometry.harts) same turn.there);
            rests = λ none. absurd (cc);
            over = λ over. absurd (let no = ends over in cc);
          }
      front_back true rests ends = record { there = λ b is. absurd (cc); rests = λ none. rests refl; over = λ over. refl }

  next-pace : m.phase ≡ Run → IsHarts hart did → IsOn K o m n h c t new → IsPaced K o.geometry (stepped ended) new
      → KeepsPace (most_spent K o.geometry) (run_view m) (run_view (stepped ended)) did (gauge_of K m n) (gauge_of K (stepped ended) new)
  next-pace phase harts on paced = elim harts as (λ _. KeepsPace _ _ _ did _ _) [
    | inl e ↦ subst (λ d. KeepsPace (most_spent K o.geometry) (run_view m) (run_view (stepped ended)) d (gauge_of K m n)
        (gauge_of K (stepped ended) new)) (sym e) (record {
          spent = spent;
          queues = on.queue;
          boots = λ e. absurd (cc);
          strides = refl;
          entries = on.room;
        })
    | inr e ↦ subst (λ d. KeepsPace (most_spent K o.geometry) (run_view m) (run_view (stepped ended)) d (gauge_of K m n)
        (gauge_of K (stepped ended) new)) (sym e) (record {
          spent = spent;
          queues = on.queue;
          boots = λ e. absurd (cc);
          strides = refl;
          entries = on.room;
        })
  ]
    where
      spent : m.spent + 1 < most_spent K o.geometry
      spent = omega (arith, paced.spent)

  next-works : IsOn K o m n h c t new → IsNext K o cycles m n hart ended lap last did h c t new
      → Works did (gauge_in K Run m n) (gauge_in K Run (stepped ended) new) n new (K.dram m.scheme) (K.dram t)
  next-works on x =
      let owed = x.owed in
      let later = on.owed_later in
      let promotions = on.holds.promotions on.whole in
      record {
        done = x.done;
        left = record {
          moves = x.moves;
          owed = λ e. owed;
          owed_in_all = λ e. omega (arith, owed, later);
          promotions = λ e. omega (arith, promotions);
        };
      }

  pub simulates-next : (s : HartStep) → At K o cycles m n → HartAdvances K o m n hart
      → HartCall K (given o.input (K.free m.scheme) (K.under_way m.scheme)) (begun_by_hart hart m) n h c t new s → IsHarts hart did
      → IsNext K o cycles m n hart ended lap last did h c t new → SimulatesCycle K o cycles did m n (stepped ended) new
  simulates-next s at turn hs harts x =
      let on = is-on K o cycles m n hart h c t new s at turn hs in
      let run' = next-run s at turn hs x in
      let old-view = view-run K o m n turn.goes.phase in
      let new-view = view-run K o (stepped ended) new turn.goes.phase in
      record {
        at_next = record {
          origin = at.sound.origin;
          geometry = on.geometry;
          sized = hs.is_step.sized o.geometry.sets o.geometry.ways at.sound.sized;
          up = on.up;
          unfailed = at.sound.unfailed;
          small = subst (IsSmall (cycles + 1)) (sym new-view)
              (small_step o cycles (run_view m) (run_view (stepped ended)) (subst (IsSmall cycles) old-view at.sound.small) did x.step);
          moment = subst (λ phase. SoundIn K o phase (stepped ended) new) (sym turn.goes.phase) run';
        };
        step = subst (λ v. CoreStep o v did (view_of K o (stepped ended) new)) (sym old-view)
            (subst (CoreStep o (run_view m) did) (sym new-view) x.step);
        acts = acts_by (K.migrates m.scheme) did n new x.acts;
        dram = harts-dram hart did n new (K.dram m.scheme) (K.dram t) harts on.dram x.retires;
        pace = subst (λ v. KeepsPace (most_spent K o.geometry) v (view_of K o (stepped ended) new) did (gauge_of K m n)
            (gauge_of K (stepped ended) new)) (sym old-view)
            (subst (λ v. KeepsPace (most_spent K o.geometry) (run_view m) v did (gauge_of K m n) (gauge_of K (stepped ended) new)) (sym new-view)
            (next-pace turn.goes.phase harts on run'.paced));
        works = subst (λ p. Works did (gauge_in K p m n) (gauge_in K p (stepped ended) new) n new (K.dram m.scheme) (K.dram t)) (sym turn.goes.phase)
            (next-works on x);
        dirties = subst (λ v. Dirties o v did (pressure_of K m) (pressure_of K (stepped ended)) (gauge_of K m n)
            (gauge_of K (stepped ended) new)) (sym old-view) x.dirties;
        exhausts = λ e. ap (λ v. v.over) new-view ∙ x.exhausts e;
        read = λ e. ap (λ phase. has_read_in K phase (stepped ended)) turn.goes.phase;
        still = λ found r current. absurd (let both : Run ≡ Boot = sym turn.goes.phase ∙ sym (ap (λ (v : View). v.phase) old-view) ∙ r.phase in cc);
      }
