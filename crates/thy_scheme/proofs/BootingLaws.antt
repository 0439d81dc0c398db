-- While the scheme boots: what a cycle keeps of the machine that leaves it there.
use Rattle.std.proofs.Common.{◌≡◌, ◌≢◌, ℕ, ◌+◌, ◌≤◌, true, false, [], length, Some, None, refl, sym, ◌∙◌, ap, subst, arith, inl, inr}
use Rattle.thy_block.specs.declared.mark.Mark.{Mark}
use Rattle.thy_block.specs.Device.{Device}
use Rattle.thy_cache.specs.Contents.{dirty_count}
use Rattle.thy_hart.specs.HartState.{secured}
use Rattle.thy_computer.specs.declared.did.Did.{Did}
use Rattle.thy_computer.specs.declared.did.Did.TheVariants.{Moved}
use Rattle.thy_computer.specs.declared.view.Phase.TheVariants.{Boot}
use Rattle.thy_computer.specs.declared.view.View.{View}
use Rattle.thy_computer.specs.Action.{Acts}
use Rattle.thy_computer.specs.Booting.{boot_view, loading_view}
use Rattle.thy_computer.specs.CoreStep.{CoreStep}
use Rattle.thy_computer.specs.Dram.{LeavesDram, WritesBlock}
use Rattle.thy_computer.specs.Origin.{Origin}
use Rattle.thy_computer.specs.Pace.{Queues, Boots, Strides}
use Rattle.thy_computer.specs.Views.{is_boot}
use Rattle.thy_computer.specs.Work.{GetsDone, Works}
use Rattle.thy_computer.proofs.ActionLemmas.{acts_by}
use Rattle.thy_scheme.specs.Scheme.{SchemeOf}
use Rattle.thy_scheme.specs.Boots.{IsBootView}
use Rattle.thy_scheme.specs.Laws.{IsLawful, BootHolds}
use Rattle.thy_scheme.specs.Machine.{Machine, view_in, view_of, gauge_in, boot_left_in, has_read_in}
use Rattle.thy_scheme.specs.Sound.{IsSmall, SoundBoot, SoundIn, Sound}
use Rattle.thy_scheme.specs.MachineCalls.{after_drain}
use Rattle.thy_scheme.specs.Rows.{SimulatesCycle, At}
use Rattle.thy_scheme.proofs.WorkLaws.{booting_no_more, uses_none}

module _ {S : Type 0} (K : SchemeOf S) where
  pub view-boot : (o : Origin) (m : Machine S) (n : Device) → m.phase ≡ Boot → view_of K o m n ≡ K.boot_view o m.scheme n
  view-boot o m n e = ap (λ phase. view_in K o phase m n) e

  pub sound-boot : (o : Origin) (cycles : ℕ) (m : Machine S) (n : Device) → Sound K o cycles m n → m.phase ≡ Boot → SoundBoot K o m n
  sound-boot o cycles m n s e = subst (λ phase. SoundIn K o phase m n) e s.moment

  pub holds-boot : (l : IsLawful K) (o : Origin) (cycles : ℕ) (m : Machine S) (n : Device) → Sound K o cycles m n → m.phase ≡ Boot
      → BootHolds K o m.scheme n
  holds-boot l o cycles m n s e = l.boot_holds o m.scheme n (record { boots = (sound-boot o cycles m n s e).boots; up = s.up })

  pub small-boot : (o : Origin) (cycles : ℕ) (m : Machine S) (n : Device) → Sound K o cycles m n → m.phase ≡ Boot
      → IsSmall cycles (K.boot_view o m.scheme n)
  small-boot o cycles m n s e = subst (IsSmall cycles) (view-boot o m n e) s.small

-- nothing is counted in the view of a boot
pub record IsUncounted (v : View) : Type 0 where
  pub phase : v.phase ≡ Boot
  pub spent : v.spent ≡ 0
  pub retired : v.retired ≡ 0
  pub lap : v.lap ≡ 0
  pub over : v.over ≡ None
  pub epoch : v.epoch ≡ 0
  pub count : v.count ≡ 0

uncounted-is : (v w : View) → v ≡ w → IsUncounted w → IsUncounted v
uncounted-is v w e u = subst IsUncounted (sym e) u

pub uncounted : (o : Origin) (v : View) → IsBootView o v → IsUncounted v
uncounted o v shown = elim shown as (λ _. IsUncounted v) [
  | inl found ↦ uncounted-is v (boot_view (Some found.0) None) found.1
      (record { phase = refl; spent = refl; retired = refl; lap = refl; over = refl; epoch = refl; count = refl })
  | inr loads ↦ elim loads.1 as (λ _. IsUncounted v) [
    | inl e ↦ uncounted-is v (loading_view o.start.count) e
        (record { phase = refl; spent = refl; retired = refl; lap = refl; over = refl; epoch = refl; count = refl })
    | inr e ↦ uncounted-is v (record (loading_view o.start.count) { written = true }) e
        (record { phase = refl; spent = refl; retired = refl; lap = refl; over = refl; epoch = refl; count = refl })
  ]
]

-- the next moment, where it boots on
pub simulates-booting : {S : Type 0} (K : SchemeOf S) (o : Origin) (cycles : ℕ) (did : Did) (m : Machine S) (n : Device)
    (t : S) (new : Device)
    → At K o cycles m n → m.phase ≡ Boot → did ≢ Moved → new.down ≡ false → K.boots o t new
    → IsSmall (cycles + 1) (K.boot_view o t new) → CoreStep o (K.boot_view o m.scheme n) did (K.boot_view o t new) → Acts did n new
    → LeavesDram did n new (K.dram m.scheme) (K.dram t)
    → Queues did (length n.queue + K.queued m.scheme) (length new.queue + K.queued t) → Boots did (K.boot_left m.scheme) (K.boot_left t)
    → Strides did (K.boot_view o m.scheme n).retired m.idle m.idle
    → GetsDone did (gauge_in K Boot m n) (gauge_in K Boot (after_drain t m) new) (WritesBlock n new (K.dram m.scheme) (K.dram t))
    → (n.queue ≡ [] → K.has_read t ≡ true)
    → ((found : Mark) → (K.boot_view o m.scheme n).done ≡ Some found → K.migrates m.scheme ≡ false → new ≡ n)
    → SimulatesCycle K o cycles did m n (after_drain t m) new
simulates-booting {S} K o cycles did m n t new at-m phase other up boots small step acts dram queues left strides done read still =
    let old-view = view-boot K o m n phase in
    let new-view = view-boot K o (after_drain t m) new phase in
    let blank = (sound-boot K o cycles m n at-m.sound phase).blank in
    let none = uncounted o (K.boot_view o t new) (at-m.lawful.boot_holds o t new (record { boots = boots; up = up })).shown in
    let clean : dirty_count m.cache + secured m.hart.hand ≤ K.free t = omega (arith, blank.clean, ap secured blank.hand) in
    let was = uncounted o (K.boot_view o m.scheme n) (holds-boot K at-m.lawful o cycles m n at-m.sound phase).shown in
    let in_boot : is_boot (view_of K o m n).phase ≡ true = ap (λ (v : View). is_boot v.phase) old-view ∙ ap is_boot was.phase in
    record {
      at_next = record {
        origin = at-m.sound.origin;
        geometry = at-m.sound.geometry;
        sized = at-m.sound.sized;
        up = up;
        unfailed = at-m.sound.unfailed;
        small = subst (IsSmall (cycles + 1)) (sym new-view) small;
        moment = subst (λ x. SoundIn K o x (after_drain t m) new) (sym phase) (record {
          boots = boots;
          blank = record { agree = blank.agree; reads = blank.reads; clean = blank.clean; hand = blank.hand; spent = blank.spent; lap = blank.lap; idle = blank.idle; begun = blank.begun; last = blank.last };
        });
      };
      step = subst (λ v. CoreStep o v did (view_of K o (after_drain t m) new)) (sym old-view)
          (subst (CoreStep o (K.boot_view o m.scheme n) did) (sym new-view) step);
      acts = acts_by (K.migrates m.scheme) did n new acts;
      dram = dram;
      pace = record {
        spent = omega (arith, ap (λ (v : View). v.spent) new-view, none.spent);
        queues = queues;
        boots = λ _. subst (λ x. Boots did (boot_left_in K x m) (boot_left_in K x (after_drain t m))) (sym phase) left;
        strides = subst (λ (v : View). Strides did v.retired m.idle m.idle) (sym old-view) strides;
        entries = clean;
      };
      works = subst (λ x. Works did (gauge_in K x m n) (gauge_in K x (after_drain t m) new) n new (K.dram m.scheme) (K.dram t)) (sym phase)
          (record { done = done; left = booting_no_more K did m (after_drain t m) n new });
      dirties = inl (uses_none K o m (after_drain t m) n new (omega arith) refl (λ run. absurd (let both : true ≡ false = sym in_boot ∙ run in cc)));
      exhausts = λ e. absurd (other e);
      read = λ e. ap (λ x. has_read_in K x (after_drain t m)) phase ∙ read e;
      still = λ found r current. still found (sym (ap (λ (v : View). v.done) old-view) ∙ r.done) current;
    }
