-- A seal simulates the run.
use Rattle.std.proofs.Common.{◌≡◌, ℕ, ◌+◌, ◌<◌, ◌≤◌, not, Bool, false, true, List, length, Option, Some, None, refl, sym, ◌∙◌, ap, subst, inl, inr, arith}
use Rattle.std.proofs.lemmas.Bool.{eqb-true}
use Rattle.thy_block.specs.declared.block.Block.{Block}
use Rattle.thy_block.specs.declared.cause.EndCause.{EndCause}
use Rattle.thy_block.specs.declared.mark.Mark.{Mark}
use Rattle.thy_block.specs.Device.{Device}
use Rattle.thy_block.specs.Geometry.{IsInRange, memory_blocks, console_room}
use Rattle.thy_block.specs.Marks.{mark}
use Rattle.thy_block.proofs.RangeLemmas.{epoch_least}
use Rattle.thy_block.proofs.BasicLemmas.{some_same}
use Rattle.thy_cache.specs.Contents.{dirty_count, IsOpenForFlush}
use Rattle.thy_cache.specs.Flat.{flat, Agrees}
use Rattle.thy_cache.proofs.FlushLaws.{flat-clean}
use Rattle.thy_hart.specs.Epoch.{Epoch, next_epoch}
use Rattle.thy_hart.specs.declared.hand.Hand.{Hand}
use Rattle.thy_hart.specs.declared.hand.Hand.TheVariants.{Nothing, Reading, Securing, Writing, Retiring}
use Rattle.thy_hart.specs.HartState.{HartState, has_written}
use Rattle.thy_hart.specs.Laws.{Follows}
use Rattle.thy_hart.specs.OneStep.{current, coming, coming_by}
use Rattle.thy_isa.specs.OnBlocks.{state_from}
use Rattle.thy_isa.specs.Step.{State, fronted}
use Rattle.thy_computer.specs.declared.did.Did.TheVariants.{Sealed}
use Rattle.thy_computer.specs.Action.{Rest}
use Rattle.thy_computer.specs.Origin.{Origin, at as at_count, runs_at}
use Rattle.thy_computer.specs.NextActor.{front_of}
use Rattle.thy_computer.specs.Safe.{ceiling}
use Rattle.thy_scheme.specs.Scheme.{SchemeOf}
use Rattle.thy_scheme.specs.Calls.{OpensNone, IsTaken}
use Rattle.thy_scheme.specs.Laws.{RunHolds}
use Rattle.thy_scheme.specs.MachineCalls.{after_seal}
use Rattle.thy_scheme.specs.Machine.{Machine, moment_of, memory_of, run_view}
use Rattle.thy_scheme.specs.Rows.{At, IsSealing, SealSimulates}
use Rattle.thy_scheme.specs.Sound.{state_in_front, OpenFor, OpenNow, epochs_ahead, IsFresh, StartsFresh, IsSmall, SoundRun}
use Rattle.thy_scheme.proofs.CacheLemmas.{none_for_flush}
use Rattle.thy_scheme.proofs.EpochLemmas.{few-begun}
use Rattle.thy_scheme.proofs.KeepsLaws.{run_of, view_run, stands, runs_behind, takes_none, none_begun, simulates_by}
use Rattle.thy_scheme.proofs.RecordLemmas.{state-console}
use Rattle.thy_computer.proofs.StorableAt.{IsRecordable-at}
use Rattle.thy_scheme.proofs.SealingLaws.{IsOver, over_at, unsealed_at}
use Rattle.thy_scheme.proofs.HandLaws.{current-is}

-- ---- a hart whose next epoch begins is where it was

coming_on : (input : List ℕ) (h : HartState) (memory : List Block) (e : Epoch) (hand : Hand)
    → coming_by input (record h { epoch = e }) memory hand ≡ coming_by input h memory hand
coming_on input h memory e Nothing = refl
coming_on input h memory e (Reading effect from to) = refl
coming_on input h memory e (Securing effect to) = refl
coming_on input h memory e (Writing effect to done) = refl
coming_on input h memory e (Retiring effect wrote) = refl

coming-epoch : (input : List ℕ) (h : HartState) (memory : List Block) (e : Epoch)
    → coming input (record h { epoch = e }) memory ≡ coming input h memory
unfolding coming
coming-epoch input h memory e = coming_on input h memory e h.hand

current-epoch : (h : HartState) (memory : List Block) (e : Epoch) → current (record h { epoch = e }) memory ≡ current h memory
unfolding current
current-epoch h memory e = refl

follows-epoch : (input : List ℕ) (now : State) (h : HartState) (memory : List Block) (e : Epoch) → Follows input now h memory
    → Follows input now (record h { epoch = e }) memory
follows-epoch input now h memory e f = record {
  sized = record { range = f.sized.range; blocks = f.sized.blocks; console = f.sized.console };
  current = λ stands. current-epoch h memory e ∙ f.current stands;
  coming = λ runs. coming-epoch input h memory e ∙ f.coming runs;
}

-- ---- what is sealed

runs_if : (runs : Bool) → not runs ≡ false → runs ≡ true
runs_if true e = refl
runs_if false e = absurd (cc)

fresh_with : (hand : Hand) (dirty : ℕ) (storeless : Bool) → hand ≡ Nothing → dirty ≡ 0 → storeless ≡ true → IsFresh hand dirty storeless
fresh_with hand dirty storeless none clean rests = subst (λ h. IsFresh h dirty storeless) (sym none) (clean, rests)

-- before a seal: the state that is sealed is the plain machine's, all of memory is below the cache, and no page is open
pub record IsStanding {S : Type 0} (K : SchemeOf S) (o : Origin) (m : Machine S) (n : Device) : Type 0 where
  pub over : IsOver m.hart.epoch.over (K.under_way m.scheme)
  pub unsealed : m.marks.sealed ≡ None
  pub hand : m.hart.hand ≡ Nothing
  pub begun : m.begun ≡ None
  pub state : state_from o.geometry m.hart.cpu (K.holding m.scheme n).blocks ≡ at_count o m.hart.cpu.count
  pub console : m.hart.cpu.console_len ≡ length (at_count o m.hart.cpu.count).console
  pub closed : (K.holding m.scheme n).open_page ≡ None
  pub taken : IsTaken o m.marks m.hart.cpu m.hart.epoch.number (mark m.hart.epoch.number m.hart.cpu.count) (K.holding m.scheme n)

pub standing : {S : Type 0} (K : SchemeOf S) (o : Origin) (cycles : ℕ) (m : Machine S) (n : Device) (cause : EndCause)
    → At K o cycles m n → IsSealing K o m n → K.promoting m.scheme ≡ false → dirty_count m.cache ≡ 0 → m.hart.epoch.over ≡ Some cause
    → IsStanding K o m n
standing K o cycles m n cause at sealing whole clean over_is =
    let behind = runs_behind m.phase sealing.phase in
    let s : SoundRun K o m n = run_of K o cycles m n at.sound behind in
    let over : IsOver m.hart.epoch.over (K.under_way m.scheme) = over_at K o m n sealing whole in
    let unsealed : m.marks.sealed ≡ None =
    unsealed_at K o m n (at.lawful.run_holds o m.marks m.scheme n (stands K o cycles m n at.sound behind)) over.idle in
    let p = o.geometry in
    let cpu = m.hart.cpu in
    let blocks : List Block = (K.holding m.scheme n).blocks in
    let hand : m.hart.hand ≡ Nothing = s.epoch.hand (λ none. absurd (cc)) in
    let begun : m.begun ≡ None = s.front.over (λ none. absurd (cc)) in
    let flat_is : flat m.cache blocks ≡ blocks = flat-clean m.cache blocks clean s.held.agree in
    let sized = s.follows.sized in
    let range : IsInRange p = at.sound.origin.geometry in
    let memory : length blocks ≡ memory_blocks p = sym (ap length flat_is) ∙ sized.blocks ∙ ap memory_blocks at.sound.geometry in
    let room : cpu.console_len ≤ console_room p = subst (λ g. cpu.console_len ≤ console_room g) at.sound.geometry sized.console in
    let stands : has_written m.hart.hand ≡ false = ap has_written hand in
    let there : state_from m.hart.geometry cpu (flat m.cache blocks) ≡ at_count o cpu.count =
    sym (current-is m.hart (flat m.cache blocks)) ∙ s.follows.current stands
    ∙ ap (λ b. fronted (front_of b) (at_count o cpu.count)) begun in
    let state : state_from p cpu blocks ≡ at_count o cpu.count =
    subst (λ g. state_from g cpu blocks ≡ at_count o cpu.count) at.sound.geometry
    (subst (λ x. state_from m.hart.geometry cpu x ≡ at_count o cpu.count) flat_is there) in
    let small : IsSmall cycles (run_view m) = subst (IsSmall cycles) (view_run K o m n behind) at.sound.small in
    let count = small.count in
    let epoch = small.epoch in
    let few = at.few in
    let below : cpu.count < ceiling = omega (arith, count, few) in
    let open_for : IsOpenForFlush m.cache (K.holding m.scheme n).open_page =
    subst (λ x. OpenNow x m.begun m.cache m.hart (K.holding m.scheme n).open_page) over_is s.held.opened in
    record {
      over = over;
      unsealed = unsealed;
      hand = hand;
      begun = begun;
      state = state;
      console = sym (state-console p cpu blocks range memory room) ∙ ap (λ (x : State). length x.console) state;
      closed = none_for_flush m.cache (K.holding m.scheme n).open_page clean open_for;
      taken = record {
        unsealed = unsealed;
        unwritten = s.numbered.unwritten unsealed;
        next = s.numbered.epoch ∙ ap (λ x. m.marks.done.epoch + epochs_ahead x) unsealed;
        of_epoch = refl;
        small = omega (arith, epoch, few);
        recordable = IsRecordable-at o cpu.count cpu blocks at.sound.origin state room below;
        state = state;
        counted = s.counted.count;
      };
    }

closed_on : (old new : Option ℕ) → old ≡ None → OpensNone old new → new ≡ None
closed_on old new closed none = elim none as (λ _. new ≡ None) [
  | inl e ↦ e
  | inr e ↦ e ∙ closed
]

pub seal_simulates : {S : Type 0} (K : SchemeOf S) → SealSimulates K
seal_simulates {S} K = λ o cycles m n t cause at sealing whole bare clean over_is p.
    let behind = runs_behind m.phase sealing.phase in
    let s : SoundRun K o m n = run_of K o cycles m n at.sound behind in
    let g : IsStanding K o m n = standing K o cycles m n cause at sealing whole clean over_is in
    let next : Machine S = after_seal t m in
    let a : Mark = mark m.hart.epoch.number m.hart.cpu.count in
    let sound : K.is_sound o next.marks t n = p.sound a g.taken in
    let holds : RunHolds K o next.marks t n = at.lawful.run_holds o next.marks t n (record { sound = sound; up = at.sound.up }) in
    let engine = holds.bounded.engine in
    let promotions = holds.bounded.promotions in
    let owed = holds.bounded.owed in
    let span : m.hart.epoch.span ≡ o.geometry.epoch = s.epoch.span in
    let some : 1 ≤ o.geometry.epoch = epoch_least o.geometry at.sound.origin.geometry in
    let moves = few-begun next.begun (moment_of K next n) in
    let free_was = at.lawful.free_is m.scheme n in
    let free_now = at.lawful.free_is t n in
    let free = p.held.free in
    let room = s.held.room in
    let queue = p.queue in
    let closed : (K.holding t n).open_page ≡ None =
    closed_on (K.holding m.scheme n).open_page (K.holding t n).open_page g.closed p.held.opened in
    let next_epoch_is : m.hart.epoch.number ≡ m.marks.done.epoch + 1 = g.taken.next in
    let started : StartsFresh (Some cause) m.hart.epoch.retired m.hart.hand (dirty_count m.cache) (K.storeless m.scheme) =
    subst (λ x. StartsFresh x m.hart.epoch.retired m.hart.hand (dirty_count m.cache) (K.storeless m.scheme)) over_is s.paced.fresh in
    simulates_by K o cycles (Sealed m.hart.epoch.number m.hart.cpu.count cause) m n next n at behind
    (record {
      behind = behind;
      geometry = refl;
      sized = λ sets ways size. size;
      up = at.sound.up;
      unfailed = refl;
      moment = record {
        checkpoints = sound;
        held = record {
          agree = subst (Agrees m.cache) (sym p.held.blocks) s.held.agree;
          room = omega (arith, room, free, free_was, free_now);
          opened = subst (OpenFor m.begun m.cache next.hart) (sym closed) (none_begun m.begun m.cache next.hart);
        };
        follows = subst (Follows o.input (state_in_front o m) next.hart) (ap (flat m.cache) (sym p.held.blocks))
            (follows-epoch o.input (state_in_front o m) m.hart (memory_of K m n) (next_epoch m.hart.epoch) s.follows);
        writes = s.writes;
        front = record { there = s.front.there; rests = λ none. g.hand; over = λ over. g.begun };
        counted = record { start = s.counted.start; count = s.counted.count; processor = s.counted.processor; running = s.counted.running };
        epoch = record {
          began = λ none. g.begun;
          span = span;
          retired = omega (arith, span, some);
          hand = λ over. g.hand;
        };
        numbered = record {
          epoch = omega (arith, next_epoch_is);
          sealed = λ x is. ap (λ (y : Mark). y.epoch) (sym (some_same a x is)) ∙ next_epoch_is;
          unwritten = λ none. absurd (cc);
        };
        shown = record {
          done = s.shown.done;
          sealed = λ x is. g.console ∙ ap (λ (y : Mark). length (at_count o y.count).console) (some_same a x is);
          ends = λ x is. ap not s.counted.running ∙ ap (λ (y : Mark). not (runs_at o y.count)) (some_same a x is);
        };
        ended = record {
          sealed = λ x is stops. record { count_is = ap (λ (y : Mark). y.count) (some_same a x is); hand = g.hand; over = refl; begun = g.begun };
          halted = λ halts. absurd (let runs = sealing.phase in cc);
          live = λ runs none going. runs_if (runs_at o m.hart.cpu.count) going;
        };
        paced = record {
          spent = omega (arith, engine, promotions, owed, span, some, moves);
          fresh = λ retired. fresh_with m.hart.hand (dirty_count m.cache) (K.storeless t) g.hand clean p.storeless;
          sealed_storeless = λ idle. p.sealed_storeless ∙ (started (eqb-true m.hart.epoch.retired 0 idle)).1;
          strides = λ idle over. absurd (over refl);
          promoted = λ over. absurd (over refl);
        };
      };
      step = record {
        phase = sealing.phase;
        unsealed = g.unsealed;
        of_epoch = refl;
        at_count = refl;
        over = over_is;
        becomes = refl;
      };
      acts = record { action = Rest; asked = refl; left = refl };
      dram = p.dram;
      queues = omega (arith, queue);
      done = tt;
      left = record { moves = λ e. absurd (cc); owed = λ e. absurd (cc); owed_in_all = λ e. absurd (cc); promotions = λ e. absurd (cc) };
      strides = (λ idle. s.paced.strides idle (λ none. absurd (cc)), refl);
      fewer = omega arith;
      room = takes_none K m n t n at.lawful p.held;
      hand = refl;
      exhausts = λ is. absurd (cc);
    })
