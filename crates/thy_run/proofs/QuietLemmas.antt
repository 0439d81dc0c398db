-- Cycles with nothing to report, one after another.
use Rattle.std.proofs.Common.{◌≡◌, ◌<◌, ◌^◌, ℕ, suc, ◌+◌, false, ◌&&◌, ◌==◌, nat_lt, List, [], length, Option, Some, None, Ok, sym, ◌∙◌, ◌≤◌, ap, subst, refl, arith}
use Rattle.std.specs.Prelude.{slice_index}
use Rattle.thy_block.specs.declared.parameters.Parameters.{Parameters}
use Rattle.thy_block.specs.declared.mix.Mix.{Mix}
use Rattle.thy_block.specs.declared.mix.Pick.{Pick}
use Rattle.thy_block.specs.declared.bytes.Bytes.{Bytes}
use Rattle.thy_block.specs.Bytes.{bytes_of, room_of}
use Rattle.thy_block.specs.Device.{Device, IsFramed}
use Rattle.thy_block.specs.Geometry.{IsInRange}
use Rattle.thy_layout.specs.declared.start.Start.{Start}
use Rattle.thy_block.specs.Mix.{mix_pick, mix_next}
use Rattle.thy_block.specs.Outside.{Stream, Took}
use Rattle.thy_text.specs.Lines.{report_of}
use Rattle.thy_text.specs.Event.{Event}
use Rattle.thy_computer.specs.declared.did.Advance.{Advance}
use Rattle.thy_computer.specs.declared.did.Stepped.{Stepped}
use Rattle.thy_computer.specs.declared.did.Advance.TheVariants.{Moved}
use Rattle.thy_computer.specs.Advances.{did_of, stepped_of, row_by, SimulatesRow}
use Rattle.thy_computer.specs.Kind.{KindOf, IsLawful, Simulates}
use Rattle.thy_run.specs.declared.plan.Plan.{Plan}
use Rattle.thy_run.specs.declared.progress.Progress.{Progress}
use Rattle.thy_run.specs.Due.{IsQuiet, AreQuietBelow}
use Rattle.thy_run.specs.Going.{origin_of, given_of, turns_then, world_at, reporting_of, IsPlanned, GoesOn, HasDrawn, HasRoomToList, IsStepped, Passes}
use Rattle.thy_run.specs.Laws.{released_of}
use Rattle.thy_run.specs.Promises.{HasStepped}
use Rattle.thy_run.specs.Quiet.{IsRowEnd, IsWatched, IsLed, LeadsQuietly, IsQuietCycle, IsPaused, RunsQuietly}
use Rattle.thy_run.specs.Rounds.{Running, RunEndsAt, ending_of}
use Rattle.thy_run.specs.Seeing.{Watched, RunEndsSeen}
use Rattle.thy_run.specs.declared.ending.Ending.{Ending}
use Rattle.thy_run.specs.declared.ending.Stop.TheVariants.{Nvm, Limit as AtLimit}
use Rattle.thy_run.specs.declared.quiet.Pause.{Pause}
use Rattle.thy_run.specs.declared.quiet.Pause.TheVariants.{Limit, Steps, Stuck}
use Rattle.thy_run.specs.Watching.{Taken, CanSee, Sees, taken}
use Rattle.thy_run.specs.World.{Ran}
use Rattle.thy_run.proofs.AdvanceLemmas.{quiet_goes, steps_of, steps_room, IsBroken-stuck}
use Rattle.thy_run.proofs.OutcomeLemmas.{ComesTo-unlisted}
use Rattle.thy_run.proofs.SeeingLemmas.{CanSee-watched, Watched-done, RunEndsSeen-at}
use Rattle.thy_run.proofs.StartLemmas.{RunEnds-limit}

-- a pick was drawn in a run that continues
abbrev pub drawn_on : {M : Type 0} (K : KindOf M) (plan : Plan) (fitted : Device) (p : Progress M) (n : Device) (k : ℕ) (turns : List ℕ)
    (harts : ℕ) (mix : Mix) (pick : Pick)
    → harts ≡ plan.geometry.harts → pick ≡ mix_pick harts p.mix → mix ≡ mix_next harts p.mix → GoesOn K plan fitted p n k turns
    → HasDrawn K plan fitted (record p { mix = mix }) n k turns pick
drawn_on K plan fitted p n k turns harts mix pick same is after goes = record {
  mix = p.mix;
  drawn = record { pick_is = is ∙ ap (λ h. mix_pick h p.mix) same; after_is = after ∙ ap (λ h. mix_next h p.mix) same };
  goes = goes;
}

-- a cycle that passes lets the run continue
pub passes_on : {M : Type 0} (K : KindOf M) (plan : Plan) (fitted : Device) (p q : Progress M) (n m : Device) (k : ℕ) (turns : List ℕ)
    (r : Stepped) → GoesOn K plan fitted p n k turns → Passes K plan p q n m k turns r []
    → GoesOn K plan fitted q m (k + 1) (turns_then plan turns r.did)
passes_on K plan fitted p q n m k turns r goes c = record {
  ran =
      let e : suc k ≡ k + 1 = omega arith in
      subst (λ (j : ℕ). Ran K (origin_of plan) (given_of plan fitted) j (world_at q m (k + 1) (turns_then plan turns r.did))) e
      (world_at p n k turns, goes.ran, c.0.cycle);
  going = c.1;
  listed = c.0.listed;
  turns_room = c.0.turns_room;
  released = c.0.released;
  room = c.0.room ∙ goes.room;
  faults = c.0.faults ∙ goes.faults;
  on_terminal = c.0.on_terminal ∙ goes.on_terminal;
  on_report = c.0.on_report ∙ goes.on_report;
}

module _ {M O : Type 0} (K : KindOf M) (laws : IsLawful K) (has_seen : O → List Taken → Type 0) (plan : Plan) (fitted : Device)
    (p q next : Progress M) (n new : Device) (done now : ℕ) where
  -- a row of quiet cycles with one more is a row of quiet cycles
  pub IsLed-on : (r : Stepped) (o o' : O) → IsPlanned plan → (led : IsLed K has_seen plan fitted p q n done now o)
      → IsStepped K plan q next n new now led.turns r → IsQuiet plan.config.cuts next r (now + 1) → Sees has_seen o o' (taken r 0 false)
      → IsLed K has_seen plan fitted p next new done (now + 1) o'
  IsLed-on r o o' planned led stepped quiet sees =
      let same : next.events ≡ q.events = ap (λ y. y.events) stepped.same in
      let e : length next.events ≡ length q.events = ap (λ (l : List Event). length l) same in
      let passes = quiet_goes K laws plan fitted q n now led.turns planned led.goes next new r stepped quiet in
      record {
        turns = turns_then plan led.turns r.did;
        goes = passes_on K plan fitted q next n new now led.turns r led.goes passes;
        watched = Watched-done K has_seen plan fitted q next n new now led.turns
            (turns_then plan led.turns r.did) r false [] 0 o o' passes.0 (omega (arith, e)) led.watched sees;
        unlisted = same ∙ led.unlisted;
        uncut = ap (λ y. y.passed) stepped.same ∙ led.uncut;
        fresh = ap (λ y. y.fresh) stepped.same ∙ led.fresh;
        more = omega (arith, led.more);
      }

  -- a row of quiet cycles goes on with one in which a hart advanced
  pub IsLed-advanced : (a : Advance) (r : Stepped) (o o' : O) → IsPlanned plan → (led : IsLed K has_seen plan fitted p q n done now o)
      → IsStepped K plan q next n new now led.turns (stepped_of a) → IsQuiet plan.config.cuts next (stepped_of a) (now + 1)
      → r ≡ stepped_of a → Sees has_seen o o' (taken r 0 false) → IsLed K has_seen plan fitted p next new done (now + 1) o'
  IsLed-advanced a r o o' planned led stepped quiet is sees =
      IsLed-on (stepped_of a) o o' planned led stepped quiet (subst (λ (x : Stepped). Sees has_seen o o' (taken x 0 false)) is sees)

  -- a row of quiet cycles goes on with one of another actor
  pub IsLed-passed : (o o' : O) → IsPlanned plan → (led : IsLed K has_seen plan fitted p q n done now o)
      → IsQuietCycle K has_seen plan q next n new now led.turns o o' → IsLed K has_seen plan fitted p next new done (now + 1) o'
  IsLed-passed o o' planned led c =
      IsLed-on c.r o o' planned led c.stepped c.quiet c.sees

-- the limit is far below 2^64
limit_most : (p : Parameters) → IsInRange p → p.limit < 2 ^ 62
limit_most p r = omega arith

pub few_cycles : (plan : Plan) (now : ℕ) → IsPlanned plan → now < plan.geometry.limit → now + 1 < 2 ^ 64
few_cycles plan now planned few = let most = limit_most plan.geometry planned.origin.geometry in omega (arith, few, most)

pub fewer : (plan : Plan) (now : ℕ) → IsPlanned plan → now < plan.geometry.limit → now < 2 ^ 62
fewer plan now planned few = let most = limit_most plan.geometry planned.origin.geometry in omega (arith, few, most)

module _ {M O : Type 0} (K : KindOf M) (has_seen : O → List Taken → Type 0) (plan : Plan) (fitted : Device) (p : Progress M) where
  -- no cycle is a row
  pub IsLed-none : (n : Device) (done : ℕ) (turns : List ℕ) (o : O) → GoesOn K plan fitted p n done turns
      → Watched K has_seen plan fitted p n done turns o → IsLed K has_seen plan fitted p p n done (done + 0) o
  IsLed-none n done turns o goes w =
      let same : done ≡ done + 0 = omega arith in
      subst (λ (k : ℕ). IsLed K has_seen plan fitted p p n done k o) same
      (record { turns = turns; goes = goes; watched = w; unlisted = refl; uncut = refl; fresh = refl; more = omega arith })

  -- a row of quiet cycles goes on with another one
  pub IsLed-append : (q next : Progress M) (m n : Device) (done now end : ℕ) (o o' : O) → IsLed K has_seen plan fitted p q m done now o
      → IsLed K has_seen plan fitted q next n now end o' → IsLed K has_seen plan fitted p next n done end o'
  IsLed-append q next m n done now end o o' first second = record {
    turns = second.turns;
    goes = second.goes;
    watched = second.watched;
    unlisted = second.unlisted ∙ first.unlisted;
    uncut = second.uncut ∙ first.uncut;
    fresh = second.fresh ∙ first.fresh;
    more = omega (arith, first.more, second.more);
  }

  pub IsLed-row : (q next : Progress M) (n : Device) (done now taken : ℕ) (o o' : O) → IsLed K has_seen plan fitted p q n done now o
      → LeadsQuietly K has_seen plan q next n now (now + taken) o o' → IsLed K has_seen plan fitted p next n done (now + taken) o'
  IsLed-row q next n done now taken o o' first leads =
      IsLed-append q next n n done now (now + taken) o o' first (leads fitted first.turns first.goes first.watched)

  -- one of no cycle leads to the same cycle
  pub IsLed-rowless : (q next : Progress M) (n : Device) (done now taken : ℕ) (o o' : O) → taken ≤ 0
      → LeadsQuietly K has_seen plan q next n now (now + taken) o o' → IsLed K has_seen plan fitted p q n done now o
      → IsLed K has_seen plan fitted p next n done now o'
  IsLed-rowless q next n done now taken o o' none leads first =
      let same : now + taken ≡ now = omega (arith, none) in
      subst (λ (k : ℕ). IsLed K has_seen plan fitted p next n done k o') same (IsLed-row q next n done now taken o o' first leads)

-- ---- cycles in a row

-- the first cycle of a row
pub row_moved : {M : Type 0} (K : KindOf M) (start : Start) (pick : Pick) (left : ℕ) (retired : Option ℕ) (m next : M) (n : Device)
    → SimulatesRow K start pick (row_by (suc left) retired) m next n
    → (between : M) × Simulates K start pick m between n n (Ok (stepped_of Moved))
    × ((later : Pick) → SimulatesRow K start later (row_by left retired) between next n)
row_moved K start pick left None m next n row = row
row_moved K start pick left (Some hart) m next n row = row

framed_same : (n : Device) → IsFramed n n
framed_same n = record { blocks = refl; left = refl; picks = refl; queue_room = refl; left_room = refl; fits = refl; lent = refl; whole = refl }

-- a cycle of a row is the schedule's next step, of the machine that stood between
pub IsStepped-row : {M : Type 0} (K : KindOf M) (laws : IsLawful K) (plan : Plan) (fitted : Device) (q : Progress M) (n : Device) (k : ℕ)
    (turns : List ℕ) (next : M) (a : Advance) (listed : Bytes)
    → IsPlanned plan → GoesOn K plan fitted q n k turns → k < plan.geometry.limit
    → Simulates K plan.start (mix_pick plan.geometry.harts q.mix) q.machine next n n (Ok (stepped_of a))
    → bytes_of listed ≡ turns_then plan (bytes_of q.turns) (did_of a) → room_of q.turns ≤ room_of listed
    → IsStepped K plan q (record q { machine = next; mix = mix_next plan.geometry.harts q.mix; turns = listed }) n n k turns (stepped_of a)
IsStepped-row K laws plan fitted q n k turns next a listed planned goes few simulates is room =
    let s = steps_of K laws plan fitted q n k turns planned goes (mix_pick plan.geometry.harts q.mix) next n (stepped_of a)
    (fewer plan k planned few) simulates in
    record {
      agree = s.agree;
      alike = s.alike;
      is_step = s.is_step;
      framed = framed_same n;
      faults = refl;
      same = refl;
      listed = is;
      turns_room = room;
    }

-- there is room to list the turn of a cycle in which an instruction retired
pub room-row : {M : Type 0} (K : KindOf M) (laws : IsLawful K) (plan : Plan) (fitted : Device) (q : Progress M) (n : Device) (k : ℕ)
    (turns : List ℕ) (next : M) (a : Advance)
    → IsPlanned plan → GoesOn K plan fitted q n k turns → k < plan.geometry.limit
    → Simulates K plan.start (mix_pick plan.geometry.harts q.mix) q.machine next n n (Ok (stepped_of a))
    → HasRoomToList plan.geometry.harts (bytes_of q.turns) (room_of q.turns) (did_of a)
room-row K laws plan fitted q n k turns next a planned goes few simulates =
    steps_room K laws plan fitted q n k turns planned goes (mix_pick plan.geometry.harts q.mix) next n (stepped_of a)
    (steps_of K laws plan fitted q n k turns planned goes (mix_pick plan.geometry.harts q.mix) next n (stepped_of a)
    (fewer plan k planned few) simulates)

-- quiet cycles led so far, and then a row has these left
pub record IsInRow {M O : Type 0} (K : KindOf M) (has_seen : O → List Taken → Type 0) (plan : Plan) (fitted : Device) (p q : Progress M)
    (n : Device) (done now left : ℕ) (retired : Option ℕ) (o : O) : Type 0 where
  -- the machine between the two
  pub between : M
  pub led : IsLed K has_seen plan fitted p (record q { machine = between }) n done now o
  pub row : SimulatesRow K plan.start (mix_pick plan.geometry.harts q.mix) (row_by left retired) between q.machine n

-- the cycles that were quiet before are so still, as no cut fell
pub AreQuietBelow-on : {M : Type 0} (cuts : List ℕ) (p q : Progress M) (below : ℕ) → q.passed ≡ p.passed → q.fresh ≡ p.fresh
    → AreQuietBelow cuts p below → AreQuietBelow cuts q below
AreQuietBelow-on cuts p q below uncut fresh h a cycle few =
    let w = h a cycle few in
    record {
      unlisted = w.unlisted;
      going = w.going;
      later = fresh ∙ w.later;
      uncut = subst (λ (k : ℕ). (nat_lt k (length cuts) && slice_index cuts k == cycle) ≡ false) (sym uncut) w.uncut;
    }

-- a row can begin below this cycle, also once quiet cycles are done
pub IsRowEnd-on : {M : Type 0} (plan : Plan) (p q : Progress M) (below end : ℕ) → q.passed ≡ p.passed → q.fresh ≡ p.fresh
    → AreQuietBelow plan.config.cuts p below
    → ((k : ℕ) → k < end → k + 5 ≤ plan.geometry.limit) → ((k : ℕ) → k < end → k + 5 < below) → IsRowEnd plan q end
IsRowEnd-on plan p q below end uncut fresh h limit room = record {
  limit = limit;
  quiet = λ k l a cycle few. AreQuietBelow-on plan.config.cuts p q below uncut fresh h a cycle (omega (arith, few, room k l));
}

-- sinks that had taken all that they had to get, and were given nothing in quiet cycles, have taken it all
pub Running-led : {M O : Type 0} (K : KindOf M) (has_seen : O → List Taken → Type 0) (plan : Plan) (fitted : Device) (p q : Progress M)
    (n m : Device) (k now : ℕ) (turns : List ℕ) (o : O) (t0 t1 r0 r1 : Stream)
    → Running K plan fitted p n k turns t0 t1 r0 r1 → (led : IsLed K has_seen plan fitted p q m k now o)
    → Running K plan fitted q m now led.turns t0 t1 r0 r1
Running-led K has_seen plan fitted p q n m k now turns o t0 t1 r0 r1 running led = record {
  goes = led.goes;
  shown_all = subst (λ (l : List Event). Took t0 t1 (released_of (origin_of plan) l)) (sym led.unlisted) running.shown_all;
  read_all = subst (λ (l : List Event). Took r0 r1 (report_of (reporting_of plan) l)) (sym led.unlisted) running.read_all;
}

-- ---- the run at one moment

-- the run continues, its sinks took all that they had to get since they were t0 and r0, and the observer has seen its
-- cycles
pub record IsAt {M O : Type 0} (K : KindOf M) (has_seen : O → List Taken → Type 0) (plan : Plan) (fitted : Device) (t0 r0 : Stream)
    (p : Progress M) (n : Device) (done : ℕ) (t r : Stream) (o : O) : Type 0 where
  pub turns : List ℕ
  pub running : Running K plan fitted p n done turns t0 t r0 r
  pub watched : Watched K has_seen plan fitted p n done turns o
  pub few : done ≤ plan.geometry.limit

module _ {M O : Type 0} {K : KindOf M} {has_seen : O → List Taken → Type 0} {plan : Plan} {fitted : Device} {t0 r0 : Stream}
    {p : Progress M} {n : Device} {done : ℕ} {t r : Stream} {o : O}
    (here : IsAt K has_seen plan fitted t0 r0 p n done t r o) where
  pub IsWatched-at : IsWatched K has_seen plan p n done o
  IsWatched-at = (fitted, here.turns, here.running.goes, here.watched)

-- quiet cycles were taken from such a moment
module _ {M O : Type 0} {K : KindOf M} {has_seen : O → List Taken → Type 0} {plan : Plan} {fitted : Device} {t0 r0 : Stream}
    {p : Progress M} {n : Device} {done : ℕ} {t r : Stream} {o : O}
    (here : IsAt K has_seen plan fitted t0 r0 p n done t r o) (next : Progress M) (new : Device) (now : ℕ) (o' : O) where
  pub paused_at : (pause why : Pause) → pause ≡ why → RunsQuietly K has_seen plan p next n new done o o' now pause
      → IsPaused K has_seen plan fitted p next new done o' now why
  paused_at pause why is quietly =
      subst (IsPaused K has_seen plan fitted p next new done o' now) is (quietly fitted here.turns here.running.goes here.watched)

  -- the sinks took all that they had to get until the quiet cycles ended, too
  pub Running-then : (pause : Pause) (paused : IsPaused K has_seen plan fitted p next new done o' now pause)
      → Running K plan fitted paused.progress paused.device now paused.led.turns t0 t r0 r
  Running-then pause paused =
      Running-led K has_seen plan fitted p paused.progress n paused.device done now here.turns o' t0 t r0 r here.running paused.led

  -- quiet cycles came to the limit
  pub ends_limit : IsPlanned plan → (e : Ending) → e ≡ ending_of AtLimit next now
      → IsPaused K has_seen plan fitted p next new done o' now Limit → RunEndsSeen K has_seen plan fitted new e t0 t r0 r o'
  ends_limit planned e is paused =
      let q = paused.progress in
      let m = paused.device in
      let led = paused.led in
      let ends : RunEndsAt K plan fitted m (ending_of AtLimit q now) t0 t r0 r (world_at q m now led.turns) =
      RunEnds-limit K plan fitted q m now led.turns now t0 t r0 r planned (Running-then Limit paused) refl paused.stops.0 in
      RunEndsSeen-at K has_seen plan fitted new e t0 t r0 r q m now led.turns o'
      (subst (λ (d : Device). RunEndsAt K plan fitted d e t0 t r0 r (world_at q m now led.turns)) (sym paused.stops.2)
      (subst (λ (x : Ending). RunEndsAt K plan fitted m x t0 t r0 r (world_at q m now led.turns)) (ap (λ (y : Progress M). ending_of AtLimit y now) (sym paused.stops.1) ∙ sym is) ends))
      (ap (λ (x : Ending). x.cycles) is) led.watched

  -- quiet cycles ended because a step failed
  pub ends_stuck : (e : Ending) → e ≡ ending_of Nvm next now → IsPaused K has_seen plan fitted p next new done o' now Stuck
      → RunEndsSeen K has_seen plan fitted new e t0 t r0 r o'
  ends_stuck e is paused =
      let q = paused.progress in
      let m = paused.device in
      let led = paused.led in
      let stuck = paused.stops.1 in
      let running = Running-then Stuck paused in
      let ends : RunEndsAt K plan fitted new (ending_of Nvm next now) t0 t r0 r (world_at q m now led.turns) =
      ComesTo-unlisted K plan fitted q next m new now led.turns led.turns Nvm t0 t r0 r running paused.stops.0
      (ap (λ (y : Progress M). y.events) stuck.same)
      (IsBroken-stuck K plan fitted q next m new now led.turns running.goes stuck) in
      RunEndsSeen-at K has_seen plan fitted new e t0 t r0 r q m now led.turns o'
      (subst (λ (x : Ending). RunEndsAt K plan fitted new x t0 t r0 r (world_at q m now led.turns)) (sym is) ends)
      (ap (λ (x : Ending). x.cycles) is) led.watched

  -- quiet cycles ended because a step had something to report
  pub HasStepped-then : (x : Stepped) → IsPaused K has_seen plan fitted p next new done o' now (Steps x) → HasStepped K plan next new now x
  HasStepped-then x paused = (fitted, paused.progress, paused.device, paused.led.turns, paused.led.goes, paused.stops.1)

  pub CanSee-then : (x : Stepped) → IsPaused K has_seen plan fitted p next new done o' now (Steps x) → CanSee has_seen o' (now + 1)
  CanSee-then x paused = CanSee-watched K has_seen plan fitted paused.progress paused.device now paused.led.turns o' paused.led.watched
