-- The machine over a lawful scheme keeps the laws of machines.
use Rattle.std.proofs.Common.{◌≡◌, ◌≢◌, ℕ, ◌+◌, ◌*◌, ◌<◌, ◌≤◌, Bool, true, false, if◌then◌else◌, nat_lt, [], length, Option, Some, None, refl, sym, ◌∙◌, ap, subst, arith, inl, inr}
use Rattle.std.proofs.lemmas.Bool.{ltb-true}
use Rattle.thy_block.specs.declared.cause.EndCause.{EndCause}
use Rattle.thy_block.specs.declared.parameters.Parameters.{Parameters}
use Rattle.thy_block.specs.Device.{Device}
use Rattle.thy_block.specs.Places.{dram_blocks}
use Rattle.thy_cache.specs.Contents.{dirty_count}
use Rattle.thy_cache.proofs.FlushLaws.{empty-agrees, empty-count, empty-flat}
use Rattle.thy_cache.proofs.SizeLaws.{IsSized-empty}
use Rattle.thy_dram.specs.Contents.{fresh}
use Rattle.thy_block.specs.declared.span.Span.{Span}
use Rattle.thy_hart.specs.declared.hand.Hand.{Hand}
use Rattle.thy_hart.specs.declared.hand.Hand.TheVariants.{Nothing, Reading, Securing, Writing, Retiring}
use Rattle.thy_hart.specs.HartState.{blocks_of, secured, has_secured}
use Rattle.thy_hart.specs.Moments.{Moment}
use Rattle.thy_computer.specs.declared.view.Phase.{Phase}
use Rattle.thy_computer.specs.declared.view.Phase.TheVariants.{Boot, Run, Halt}
use Rattle.thy_computer.specs.declared.view.View.{View}
use Rattle.thy_computer.specs.Kind.{IsPoweredOn, IsUnderWay, IsShortage, IsPressed}
use Rattle.thy_computer.specs.Origin.{Origin}
use Rattle.thy_computer.specs.Stores.{blocks_in, stored_by, needs_at, CountsLines}
use Rattle.thy_computer.specs.NextActor.{Shortage, front_of}
use Rattle.thy_computer.specs.Views.{is_boot}
use Rattle.thy_computer.specs.Work.{IsWithin}
use Rattle.thy_scheme.specs.Boots.{IsBootView}
use Rattle.thy_scheme.specs.Scheme.{SchemeOf}
use Rattle.thy_scheme.specs.Laws.{RunHolds, IsLawful as IsLawfulScheme}
use Rattle.thy_scheme.specs.Kind.{kind_over, own_left}
use Rattle.thy_scheme.specs.Machine.{Machine, machine_over, moment_of, short_of, shortage_of, pressure_of, boot_left_in, moves_in, gauge_in, gauge_of, run_view, view_in, view_of}
use Rattle.thy_scheme.specs.Pace.{most_spent}
use Rattle.thy_scheme.specs.Sound.{state_in_front, IsToWrite, SoundRun, SoundBoot, SoundIn, Sound, IsPowered}
use Rattle.thy_scheme.specs.Runs.{MachineIsLawful}
use Rattle.thy_scheme.proofs.EpochLemmas.{few-begun}
use Rattle.thy_scheme.proofs.MomentLaws.{sound-here, seen-alike, is_at-agrees}
use Rattle.thy_scheme.proofs.OnceLaws.{cycle_once, powered_once}
use Rattle.thy_scheme.proofs.RunLaws.{moment_is_safe, fresh_simulates, kept_in, left_simulates}
use Rattle.thy_scheme.proofs.WorkLaws.{number_behind}

powers : {S : Type 0} (K : SchemeOf S) → IsLawfulScheme K → (p : Parameters)
    → (m : Machine S) × IsPowered K p m × (K.dram m.scheme ≡ fresh (dram_blocks p) p.dramq)
powers {S} K l p =
    let s = l.powers p in (
      machine_over p s.0,
      record {
        phase = refl;
        geometry = refl;
        sized = IsSized-empty p.sets p.ways;
        span = refl;
        scheme = s.1;
        blank = record {
          agree = empty-agrees p.sets p.ways;
          reads = empty-flat p.sets p.ways;
          clean = empty-count p.sets p.ways;
          hand = refl;
          spent = refl;
          lap = refl;
          idle = refl;
          begun = refl;
          last = refl;
        };
        unfailed = refl;
        exact = ap (λ (t : S). machine_over p t) (l.powered_is p s.0 s.1);
      },
      s.2,
    )

-- a boot's view is in the boot
pub boots_phase : (o : Origin) (v : View) → IsBootView o v → v.phase ≡ Boot
boots_phase o v shown = elim shown as (λ _. v.phase ≡ Boot) [
  | inl s ↦ ap (λ (w : View). w.phase) s.1
  | inr s ↦ elim s.1 as (λ _. v.phase ≡ Boot) [
    | inl e ↦ ap (λ (w : View). w.phase) e
    | inr e ↦ ap (λ (w : View). w.phase) e
  ]
]

powered_on : {S : Type 0} (K : SchemeOf S) → IsLawfulScheme K → (o : Origin) (k : ℕ) (m : Machine S) (n : Device)
    → Sound K o k m n → IsPowered K o.geometry m → n.queue ≡ [] → IsPoweredOn (kind_over K) o m n
powered_on K l o k m n s on empty =
    let fresh = l.is_new o.geometry m.scheme on.scheme in
    let none : length n.queue ≡ 0 = ap length empty in
    let queued = fresh.queued in
    let left = fresh.boot_left in
    let boots : boot_left_in K m.phase m ≡ K.boot_left m.scheme = ap (λ p. boot_left_in K p m) on.phase in
    let moment : SoundBoot K o m n = subst (λ p. SoundIn K o p m n) on.phase s.moment in
    let shown = (l.boot_holds o m.scheme n (record { boots = moment.boots; up = s.up })).shown in
    let phase : (view_of K o m n).phase ≡ Boot = ap (λ p. (view_in K o p m n).phase) on.phase ∙ boots_phase o (K.boot_view o m.scheme n) shown in
    let own : own_left (most_spent K o.geometry) (view_of K o m n).phase (view_of K o m n) (gauge_of K m n)
    ≡ boot_left_in K m.phase m + 2 * most_spent K o.geometry =
    ap (λ p. own_left (most_spent K o.geometry) p (view_of K o m n) (gauge_of K m n)) phase in
    record {
      queued = omega (arith, none, queued);
      clean = omega (arith, on.blank.clean, ap secured on.blank.hand);
      boot_left = omega (arith, boots, left);
      ahead = omega (arith, none, queued, left, boots, own);
    }

-- what an instruction is short of, if it is to write this
record IsShortOf (hand : Hand) (entries lines : ℕ) (stored : Span) (s : Shortage) : Type 0 where
  free : s.free ≡ entries
  dirty : s.dirty ≡ lines
  had_not : has_secured hand ≡ false
  need : s.need ≡ blocks_in stored
  short : s.free < s.dirty + s.need

short_free : (free dirty : ℕ) (stored : Span) (hand : Hand) (s : Shortage) → IsToWrite stored hand → short_of free dirty hand ≡ Some s
    → IsShortOf hand free (dirty + secured hand) stored s
short_free free dirty stored Nothing s w e = absurd (cc)
short_free free dirty stored (Reading effect from to) s w e = absurd (cc)
short_free free dirty stored (Securing effect to) s w e = stated (nat_lt free (dirty + blocks_of to)) refl e
  where
    some : blocks_of to ≡ blocks_in stored
    some = sym (ap (λ (b : Bool). if b then 0 else blocks_of to) w.1) ∙ ap blocks_in w.0

    stated : (less : Bool) → nat_lt free (dirty + blocks_of to) ≡ less
        → (if less then Some (record { free = free; dirty = dirty; need = blocks_of to }) else None) ≡ Some s
        → IsShortOf (Securing effect to) free (dirty + 0) stored s
    stated true less e =
        let same : record { free = free; dirty = dirty; need = blocks_of to } ≡ s = cc in
        let below : free < dirty + blocks_of to = ltb-true free (dirty + blocks_of to) less in
        subst (IsShortOf (Securing effect to) free (dirty + 0) stored) same
        (record { free = refl; dirty = omega arith; had_not = refl; need = some; short = below })
    stated false less e = absurd (cc)
short_free free dirty stored (Writing effect to done) s w e = absurd (cc)
short_free free dirty stored (Retiring effect wrote) s w e = absurd (cc)

-- ---- what holds after the boot

module _ {S : Type 0} (K : SchemeOf S) (o : Origin) (m : Machine S) (n : Device) (l : IsLawfulScheme K) (up : n.down ≡ false) where
  -- a shortage is real
  short_run : (s : Shortage) → SoundRun K o m n → shortage_of K m ≡ Some s → IsShortage o (run_view m) m.begun (gauge_of K m n) s
  short_run s run e = of_begun m.begun refl
    where
      of_begun : (begun : Option ℕ) → m.begun ≡ begun → IsShortage o (run_view m) m.begun (gauge_of K m n) s
      of_begun None is = absurd (
          let none : shortage_of K m ≡ None = ap (short_of (K.free m.scheme) (dirty_count m.cache)) (run.front.rests is) in cc)
      of_begun (Some hart) is =
          let short = short_free (K.free m.scheme) (dirty_count m.cache) (stored_by o (state_in_front o m)) m.hart.hand s run.writes e in
          let front : needs_at o (front_of m.begun) m.hart.cpu.count ≡ needs_at o hart m.hart.cpu.count =
          ap (λ b. needs_at o (front_of b) m.hart.cpu.count) is in
          record {
            hart = hart;
            is_begun = is;
            free = short.free;
            dirty = short.dirty;
            had_not = short.had_not;
            need = short.need ∙ front;
            short = short.short;
          }

  holds : SoundRun K o m n → RunHolds K o m.marks m.scheme n
  holds run = l.run_holds o m.marks m.scheme n (record { sound = run.checkpoints; up = up })

  way_run : SoundRun K o m n → IsUnderWay m.marks.sealed (pressure_of K m)
  way_run run = let h = holds run in record { way = h.way; apart = h.apart }

  moves_few : (phase : Phase) (over : Option EndCause) (begun : Option ℕ) (x : Moment) → moves_in phase over begun x ≤ 16
  moves_few Boot over begun x = omega arith
  moves_few Run None begun x = few-begun begun x
  moves_few Run (Some cause) begun x = omega arith
  moves_few Halt over begun x = omega arith

  few_run : (phase : Phase) → phase ≢ Boot → SoundRun K o m n
      → IsWithin (K.most_owed o.geometry) (K.most_promotions o.geometry) (gauge_in K phase m n)
  few_run phase behind run =
      let b = (holds run).bounded in
      let owed = number_behind phase (K.holding m.scheme n).owed behind in
      let later = number_behind phase (K.owed_later m.scheme) behind in
      let promotions = number_behind phase (K.promotions_left m.scheme) behind in
      let most_owed = b.owed in
      let most_promotions = b.promotions in
      record {
        moves = moves_few phase m.hart.epoch.over m.begun (moment_of K m n);
        owed = omega (arith, owed, later, most_owed);
        promotions = omega (arith, promotions, most_promotions);
      }

  -- while no instruction is begun none is in hand, so nothing is secured, and none has secured
  counts_by : (m.begun ≡ None → m.hart.hand ≡ Nothing) → CountsLines (pressure_of K m) (gauge_of K m n)
  counts_by rests = record {
    lines = omega arith;
    unsecured = λ none. omega (arith, ap secured (rests none));
    unmarked = λ none. ap has_secured (rests none);
  }

  -- ---- in each phase

  counts_in : (phase : Phase) → SoundIn K o phase m n → CountsLines (pressure_of K m) (gauge_of K m n)
  counts_in Boot booting = counts_by (λ none. booting.blank.hand)
  counts_in Run run = counts_by run.front.rests
  counts_in Halt run = counts_by run.front.rests

  short_in : (phase : Phase) (s : Shortage) → SoundIn K o phase m n → shortage_of K m ≡ Some s
      → IsShortage o (view_in K o phase m n) m.begun (gauge_of K m n) s
  short_in Boot s booting e =
      absurd (let none : shortage_of K m ≡ None = ap (short_of (K.free m.scheme) (dirty_count m.cache)) booting.blank.hand in cc)
  short_in Run s run e = short_run s run e
  short_in Halt s run e = short_run s run e

  way_in : (phase : Phase) → SoundIn K o phase m n → is_boot (view_in K o phase m n).phase ≡ false
      → IsUnderWay (view_in K o phase m n).sealed (pressure_of K m)
  way_in Boot booting e =
      let shown = (l.boot_holds o m.scheme n (record { boots = booting.boots; up = up })).shown in
      absurd (let boots : is_boot (K.boot_view o m.scheme n).phase ≡ true = ap is_boot (boots_phase o (K.boot_view o m.scheme n) shown) in cc)
  way_in Run run e = way_run run
  way_in Halt run e = way_run run

  few_in : (phase : Phase) → SoundIn K o phase m n → IsWithin (K.most_owed o.geometry) (K.most_promotions o.geometry) (gauge_in K phase m n)
  few_in Boot booting = record { moves = omega arith; owed = omega arith; promotions = omega arith }
  few_in Run run = few_run Run (λ e. absurd (cc)) run
  few_in Halt run = few_run Halt (λ e. absurd (cc)) run

-- what presses on the machine at a moment is as it says
pub pressed_at : {S : Type 0} (K : SchemeOf S) (l : IsLawfulScheme K) (o : Origin) (k : ℕ) (m : Machine S) (n : Device) → Sound K o k m n
    → IsPressed (kind_over K) o m n
pressed_at K l o k m n sound = record {
  under_way = way_in K o m n l sound.up m.phase sound.moment;
  barred = refl;
  short = λ s. short_in K o m n l sound.up m.phase s sound.moment;
  counts = counts_in K o m n l sound.up m.phase sound.moment;
  few = few_in K o m n l sound.up m.phase sound.moment;
}

pub machine_is_lawful : {S : Type 0} (K : SchemeOf S) → MachineIsLawful K
machine_is_lawful K l = record {
  powers = powers K l;
  powered_once = powered_once K;
  finds_nothing = l.finds_nothing;
  begins = λ o m shape start n. fresh_simulates K o m shape start n l;
  finds = λ o k m next n left at. left_simulates K o k m next n left l (sound-here K o k m n at);
  sized = λ o k m n at. let sound = sound-here K o k m n at in (kept_in K o m n m.phase l sound.up sound.moment).1;
  powered_on = λ o k m n at. powered_on K l o k m n (sound-here K o k m n at);
  unfailed = λ o k m n at. (sound-here K o k m n at).unfailed;
  shows_failure = λ o before m stopped. stopped.failed;
  some_ahead = λ o k m n at. omega arith;
  counts_queues = λ m n. refl;
  counts_dram = λ m. l.queued_is m.scheme;
  pressed = λ o k m n at. pressed_at K l o k m n (sound-here K o k m n at);
  up = λ o k m n at. (sound-here K o k m n at).up;
  is_safe = λ o k m n at. moment_is_safe K o k m n l (sound-here K o k m n at);
  agrees = is_at-agrees K l;
  seen_alike = λ o turns k m n at agree. seen-alike K l o turns m n;
  one_outcome = λ o turns other actor m x y n u v d e a b alike. cycle_once K l o turns other m x y n u v d e alike actor a b;
}
