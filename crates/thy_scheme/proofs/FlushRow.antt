-- A step of a flush simulates the run.
use Rattle.std.proofs.Common.{◌≡◌, ◌≢◌, ℕ, ◌+◌, ◌<◌, ◌≤◌, ◌==◌, not, Bool, false, true, Some, refl, sym, ◌∙◌, ap, subst, if◌then◌else◌, ◌||◌, arith}
use Rattle.std.proofs.lemmas.Bool.{ne_eqb}
use Rattle.thy_block.specs.Device.{Device}
use Rattle.thy_block.specs.Store.{Holding}
use Rattle.thy_cache.specs.declared.line.Flushed.{Flushed}
use Rattle.thy_cache.specs.declared.line.Flushed.TheVariants.{Clean, Line as StoredLine, CopyFirst}
use Rattle.thy_cache.specs.Contents.{Contents, dirty_count, HasFlushed, CountsFlushed, IsOpenForFlush}
use Rattle.thy_computer.specs.declared.did.Did.TheVariants.{Flushed as DidFlush}
use Rattle.thy_hart.specs.Laws.{Follows}
use Rattle.thy_computer.specs.Origin.{Origin}
use Rattle.thy_scheme.specs.SchemeStore.{held_by_scheme}
use Rattle.thy_scheme.specs.Scheme.{SchemeOf, Stands}
use Rattle.thy_scheme.specs.Calls.{Succeeds}
use Rattle.thy_scheme.specs.Laws.{RunHolds, StaysSound}
use Rattle.thy_scheme.specs.MachineCalls.{FlushCall, after_flush}
use Rattle.thy_scheme.specs.Machine.{Machine, moment_of}
use Rattle.thy_scheme.specs.Pace.{flushes_left, hart_left, cycles_left, most_spent}
use Rattle.thy_scheme.specs.Rows.{At, IsSealing, FlushSimulates}
use Rattle.thy_scheme.specs.Sound.{state_in_front, OpenNow, StartsFresh, SoundRun}
use Rattle.thy_scheme.proofs.CacheLemmas.{line_counted, open_for_line}
use Rattle.thy_scheme.proofs.SealingLaws.{IsOver, over_at}
use Rattle.thy_scheme.proofs.KeepsLaws.{run_of, stands, runs_behind, simulates_by}
use Rattle.thy_scheme.proofs.WorkLaws.{moves_over}

-- what a step of a flush that was not the last does to the numbers: a dirty line less, or a copy less is owed
pub record Lessens (old new : Holding) (before dirty : ℕ) : Type 0 where
  pub ready : new.ready ≡ old.ready
  pub some : 0 < before
  pub room : dirty + old.free ≤ before + new.free
  pub owed : new.owed ≤ old.owed
  pub fewer : dirty ≤ before
  pub nearer : dirty + new.owed + 1 ≤ before + old.owed

lessens : (flushed : Flushed) (c : Contents) (old new : Holding) (dirty : ℕ) → flushed ≢ Clean → IsOpenForFlush c old.open_page
    → HasFlushed flushed c old new → CountsFlushed flushed (dirty_count c) dirty → Lessens old new (dirty_count c) dirty
lessens Clean c old new dirty more open_for store count = absurd (more refl)
lessens StoredLine c old new dirty more open_for store count =
    let free = store.store.free in
    let owed = store.store.owed (open_for_line c old.open_page store.line store.stands open_for) in
    record {
      ready = store.store.ready;
      some = line_counted c store.line store.stands;
      room = omega (arith, free, count);
      owed = owed;
      fewer = omega (arith, count);
      nearer = omega (arith, owed, count);
    }
lessens CopyFirst c old new dirty more open_for store count =
    let free = store.store.free in
    let owed = store.store.owed (open_for_line c old.open_page store.line store.stands open_for) in
    record {
      ready = store.store.ready;
      some = line_counted c store.line store.stands;
      room = omega (arith, free, count);
      owed = omega (arith, owed);
      fewer = omega (arith, count);
      nearer = omega (arith, owed, count);
    }

-- the cycles of flushes and merges that are left, if a line was dirty
flushes_some : (most dirty merges : ℕ) → 0 < dirty → flushes_left most dirty merges ≡ dirty + most
flushes_some most dirty merges some =
    ap (λ (b : Bool). if b then merges else dirty + most) (ne_eqb dirty 0 (λ none. absurd (omega (arith, some, none))))

pub flushes_most : (most dirty merges : ℕ) → merges ≤ most → flushes_left most dirty merges ≤ dirty + most
flushes_most most dirty merges l = first (dirty == 0)
  where
    first : (none : Bool) → (if none then merges else dirty + most) ≤ dirty + most
    first true = omega (arith, l)
    first false = omega arith

-- what is known over a step of a flush
pub record IsFlushing {S : Type 0} (K : SchemeOf S) (o : Origin) (m : Machine S) (n : Device) (c : Contents) (t : S) (new : Device)
    : Type 0 where
  pub over : IsOver m.hart.epoch.over (K.under_way m.scheme)
  pub less : Lessens (held_by_scheme K m.scheme n) (held_by_scheme K t new) (dirty_count m.cache) (dirty_count c)
  pub opened : IsOpenForFlush m.cache (K.holding m.scheme n).open_page
  pub up : new.down ≡ false
  pub whole : K.promoting t ≡ false
  pub stays : StaysSound K o m.marks m.scheme t new
  pub holds : RunHolds K o m.marks t new

free_behind : (overlaps way : Bool) → way ≡ false → (overlaps || not way) ≡ true
free_behind true way e = refl
free_behind false true e = absurd (cc)
free_behind false false e = refl

flushing : {S : Type 0} (K : SchemeOf S) (o : Origin) (cycles : ℕ) (m : Machine S) (n : Device) (flushed : Flushed) (c : Contents) (t : S)
    (new : Device) → At K o cycles m n → IsSealing K o m n → K.promoting m.scheme ≡ false → FlushCall K m n flushed c t new
    → IsFlushing K o m n c t new
flushing K o cycles m n flushed c t new at sealing whole f =
    let behind = runs_behind m.phase sealing.phase in
    let s : SoundRun K o m n = run_of K o cycles m n at.sound behind in
    let there : Stands K o m.marks m.scheme n = stands K o cycles m n at.sound behind in
    let holds : RunHolds K o m.marks m.scheme n = at.lawful.run_holds o m.marks m.scheme n there in
    let over : IsOver m.hart.epoch.over (K.under_way m.scheme) = over_at K o m n sealing whole in
    let opened : IsOpenForFlush m.cache (K.holding m.scheme n).open_page =
    subst (λ x. OpenNow x m.begun m.cache m.hart (K.holding m.scheme n).open_page) over.over_is s.held.opened in
    let less : Lessens (held_by_scheme K m.scheme n) (held_by_scheme K t new) (dirty_count m.cache) (dirty_count c) =
    lessens flushed m.cache (held_by_scheme K m.scheme n) (held_by_scheme K t new) (dirty_count c) f.more opened f.store f.dirty in
    let ready : (K.holding t new).ready ≡ true = less.ready ∙ holds.ready whole in
    let up : new.down ≡ false = at.lawful.ready_up t new ready in
    let stays : StaysSound K o m.marks m.scheme t new =
    at.lawful.stays_sound o m.marks m.scheme n t new there (free_behind K.overlaps (K.under_way m.scheme) over.idle) f.access.stays in
    record {
      over = over;
      less = less;
      opened = opened;
      up = up;
      whole = at.lawful.ready_whole t new ready;
      stays = stays;
      holds = at.lawful.run_holds o m.marks t new (record { sound = stays.sound up; up = up });
    }

pub flush_simulates : {S : Type 0} (K : SchemeOf S) → FlushSimulates K
flush_simulates {S} K = λ o cycles m n c t new flushed at sealing whole f.
    let behind = runs_behind m.phase sealing.phase in
    let s : SoundRun K o m n = run_of K o cycles m n at.sound behind in
    let g : IsFlushing K o m n c t new = flushing K o cycles m n flushed c t new at sealing whole f in
    let done : Succeeds K f.access.action m.scheme n t new = f.access.succeeds g.up in
    let next : Machine S = after_flush c t m in
    let some = g.less.some in
    let owed = g.less.owed in
    let nearer = g.less.nearer in
    let engine = g.stays.engine in
    let later = g.stays.owed_later in
    let promotions = g.holds.promotions g.whole in
    let merges = g.holds.bounded.merges in
    let spent : m.spent + cycles_left K o.geometry m n < most_spent K o.geometry = s.paced.spent in
    let most : ℕ = K.most_merges o.geometry in
    let was : hart_left K o.geometry m.hart.epoch.over m n ≡ dirty_count m.cache + most =
    ap (λ x. hart_left K o.geometry x m n) g.over.over_is ∙ flushes_some most (dirty_count m.cache) (K.merges_left m.scheme) some in
    let is : hart_left K o.geometry m.hart.epoch.over next new ≤ dirty_count c + most =
    subst (λ x. hart_left K o.geometry x next new ≤ dirty_count c + most) (sym g.over.over_is)
    (flushes_most most (dirty_count c) (K.merges_left t) merges) in
    let free_is = at.lawful.free_is m.scheme n in
    let free_now = at.lawful.free_is t new in
    let room = s.held.room in
    let less_room = g.less.room in
    let started : StartsFresh (Some g.over.cause) m.hart.epoch.retired m.hart.hand (dirty_count m.cache) (K.storeless m.scheme) =
    subst (λ x. StartsFresh x m.hart.epoch.retired m.hart.hand (dirty_count m.cache) (K.storeless m.scheme)) g.over.over_is s.paced.fresh in
    simulates_by K o cycles DidFlush m n next new at behind
    (record {
      behind = behind;
      geometry = refl;
      sized = f.sized;
      up = g.up;
      unfailed = refl;
      moment = record {
        checkpoints = g.stays.sound g.up;
        held = record {
          agree = f.agree;
          room = omega (arith, free_is, free_now, room, less_room);
          opened = subst (λ x. OpenNow x m.begun c m.hart (K.holding t new).open_page) (sym g.over.over_is) (f.opened g.opened);
        };
        follows = subst (Follows o.input (state_in_front o m) m.hart) (sym f.reads) s.follows;
        writes = s.writes;
        front = record { there = s.front.there; rests = s.front.rests; over = s.front.over };
        counted = record { start = s.counted.start; count = s.counted.count; processor = s.counted.processor; running = s.counted.running };
        epoch = record {
          began = λ none. absurd (omega (arith, none));
          span = s.epoch.span;
          retired = s.epoch.retired;
          hand = s.epoch.hand;
        };
        numbered = record { epoch = s.numbered.epoch; sealed = s.numbered.sealed; unwritten = s.numbered.unwritten };
        shown = record { done = s.shown.done; sealed = s.shown.sealed; ends = s.shown.ends };
        ended = record {
          sealed = λ a is stops. let e = s.ended.sealed a is stops in
              record { count_is = e.count_is; hand = e.hand; over = e.over; begun = e.begun };
          halted = λ is. let e = s.ended.halted is in (record { count_is = e.0.count_is; hand = e.0.hand; over = e.0.over; begun = e.0.begun }, e.1);
          live = s.ended.live;
        };
        paced = record {
          spent = omega (arith, spent, was, is, promotions, engine, nearer, later);
          fresh = subst (λ x. StartsFresh x m.hart.epoch.retired m.hart.hand (dirty_count c) (K.storeless t)) (sym g.over.over_is)
              (λ zero. let clean = (started zero).0 in absurd (omega (arith, clean, some)));
          sealed_storeless = λ idle. g.stays.sealed_storeless ∙ s.paced.sealed_storeless idle;
          strides = s.paced.strides;
          promoted = λ over. g.whole;
        };
      };
      step = (sealing.phase, refl);
      acts = record { action = f.access.action; asked = f.access.access; left = done.left };
      dram = done.dram;
      queues = done.queue;
      strides = refl;
      done = tt;
      left = record {
        moves = λ e. omega (arith, moves_over m.phase m.hart.epoch.over m.begun g.over.cause (moment_of K next new) g.over.over_is);
        owed = λ e. owed;
        owed_in_all = λ e. omega (arith, owed, later);
        promotions = λ e. omega (arith, promotions);
      };
      fewer = g.less.fewer;
      room = omega (arith, free_is, free_now, less_room);
      hand = refl;
      exhausts = λ is. absurd (cc);
    })
