-- Drains of the DRAM, merges and promotions: they keep the checkpoints, and what is still to be done.
use Rattle.std.proofs.Common.{◌≡◌, ℕ, ◌+◌, ◌<◌, ◌≤◌, true, false, refl, sym, ap, subst, inr, arith}
use Rattle.thy_block.specs.Device.{Device, drained, Wear, counting}
use Rattle.thy_dram.specs.Contents.{Contents}
use Rattle.thy_computer.specs.Action.{Rest}
use Rattle.thy_computer.specs.Dram.{WritesDram}
use Rattle.thy_computer.specs.Origin.{Origin}
use Rattle.thy_checkpoint.specs.Filling.{FillingOf}
use Rattle.thy_scheme.specs.CheckpointMarks.{CheckpointMarks}
use Rattle.thy_scheme.specs.Scheme.{Stands}
use Rattle.thy_scheme.specs.Calls.{Keeps, Drains, Merges, Promotes}
use Rattle.thy_checkpoint.specs.declared.engine_stage.EngineStage.{EngineStage}
use Rattle.thy_checkpoint.specs.declared.engine_stage.EngineStage.TheVariants.{Idle, Body}
use Rattle.thy_checkpoint.specs.Cycles.{left_at}
use Rattle.thy_checkpoint.specs.Items.{ItemsOf, Resting}
use Rattle.thy_checkpoint.specs.Progress.{Progress, phase_of, is_under_way}
use Rattle.thy_scheme_parts.specs.Design.{DesignOf, Composed}
use Rattle.thy_scheme_parts.specs.IsDesign.{IsDesign}
use Rattle.thy_scheme_parts.specs.Moments.{IsMoment, Carries}
use Rattle.thy_scheme_parts.specs.Paging.{WritesOne, IsPaging}
use Rattle.thy_scheme_parts.specs.Scheme.{scheme_of}
use Rattle.thy_scheme_parts.specs.Sound.{IsSound}
use Rattle.thy_scheme_parts.proofs.SameLemmas.{drained_same, counting_same}
use Rattle.thy_scheme_parts.proofs.HeldLemmas.{keeping_carried, keeps_by}
use Rattle.thy_scheme_parts.proofs.SafeLemmas.{dram_drain_keeps, stays_as, idle_stage}
use Rattle.thy_scheme_parts.proofs.SoundLemmas.{moment_at}

-- no more cycles are left, if no more of the body is
pub left_less : {C : Type 0} (F : FillingOf C) (I : ItemsOf C) (e : Progress) (q : EngineStage) (c d : C)
    → ((from : ℕ) → I.body_left d from ≤ I.body_left c from) → left_at F I e q d ≤ left_at F I e q c
left_less F I e (Body from) c d less = let body = less from in omega (arith, body)
left_less F I e q c d less = omega arith

-- the queue has one write more at most
queued_one : (n : Device) (old now : Contents) → WritesDram n n old now → now.queued ≤ old.queued + 1
queued_one n old now write = omega (arith, ap (λ (d : Contents). d.queued) write.left)

module _ {C : Type 0} (D : DesignOf C) (w : IsDesign D) (o : Origin) (k : CheckpointMarks) (s : Composed C) (n : Device)
    (stands : Stands (scheme_of D) o k s n) where
  abbrev sound : IsSound D o k s n
  sound = stands.sound

  -- the composed scheme with another controller
  abbrev With : C → Composed C
  With d = record s { control = d }

  keeps_with : (d : C) → Carries D s.engine.epoch (phase_of s.engine.stage) s.control n (phase_of s.engine.stage) d n
      → ((from : ℕ) → D.items.body_left d from ≤ D.items.body_left s.control from) → Keeps (scheme_of D) s n (With d) n
  keeps_with d on less =
      keeps_by D w s.engine.epoch s (With d) n n
      (keeping_carried D s.engine.epoch (phase_of s.engine.stage) (phase_of s.engine.stage) s.control d n n sound.held.moment on) stands.up stands.up
      (left_less D.filling D.items s.engine s.engine.stage s.control d less) refl refl

  pub drains : 0 < (D.filling.dram s.control).queued → Drains (scheme_of D) o k s n (With (D.filling.drained s.control))
  drains some =
      let on = w.dram_drained (phase_of s.engine.stage) s.engine.epoch s.control n sound.held.moment in
      record {
        sound = dram_drain_keeps D w o k s n sound;
        keeps = keeps_with (D.filling.drained s.control) on (w.drained_left s.control);
        owes = on.owed;
        dram = w.drained_dram s.control;
        queue = omega (arith, some, ap (λ (d : Contents). d.queued) (w.drained_dram s.control));
      }

  pub merges : IsPaging D → is_under_way s.engine.stage ≡ false → D.parts.pages.overlaid s.control ≡ true
      → Merges (scheme_of D) o k s n (With (D.parts.pages.merged s.control))
  merges v idle some =
      let nothing = idle_stage s.engine.stage idle in
      let first : IsMoment D Resting s.engine.epoch s.control n = moment_at D w o k s n sound Idle nothing in
      let both = v.merges s.engine.epoch s.control n first some in
      let one : WritesOne D (phase_of s.engine.stage) s.engine.epoch s.control n (D.parts.pages.merged s.control)
      = subst (λ (q : EngineStage). WritesOne D (phase_of q) s.engine.epoch s.control n (D.parts.pages.merged s.control)) (sym nothing) both.0 in
      record {
        sound = stays_as D w o k s n sound (D.parts.pages.merged s.control) one.carries one.rest;
        keeps = keeps_with (D.parts.pages.merged s.control) one.carries one.left;
        owes = one.carries.owed;
        writes = one.writes;
        queue = queued_one n (D.filling.dram s.control) (D.filling.dram (D.parts.pages.merged s.control)) one.writes;
        nearer = both.1;
      }

  pub promotes : IsPaging D → D.parts.pages.promoting s.control ≡ true
      → Promotes (scheme_of D) o k s n (With (D.parts.pages.promoted s.control n)) n
  promotes v some =
      let both = v.promotes (phase_of s.engine.stage) s.engine.epoch s.control n sound.held.moment some in
      let one : WritesOne D (phase_of s.engine.stage) s.engine.epoch s.control n (D.parts.pages.promoted s.control n) = both.0 in
      record {
        sound = stays_as D w o k s n sound (D.parts.pages.promoted s.control n) one.carries one.rest;
        keeps = keeps_with (D.parts.pages.promoted s.control n) one.carries one.left;
        owes = one.carries.owed;
        acts = record { action = Rest; asked = tt; left = refl };
        dram = inr one.writes;
        writes = inr one.writes;
        queue =
            let more = queued_one n (D.filling.dram s.control) (D.filling.dram (D.parts.pages.promoted s.control n)) one.writes in
            omega (arith, more);
        nearer = both.1;
      }

  -- a write of the NVM lands
  pub drained_keeps : Keeps (scheme_of D) s n s (drained n)
  drained_keeps =
      let on = w.same_reads (phase_of s.engine.stage) s.engine.epoch s.control n (drained n) sound.held.moment (drained_same n) in
      keeps_by D w s.engine.epoch s s n (drained n)
      (keeping_carried D s.engine.epoch (phase_of s.engine.stage) (phase_of s.engine.stage) s.control s.control n (drained n) sound.held.moment on)
      stands.up stands.up (omega arith) refl refl

  -- a scheme keeps what it has over a device with other counts
  pub counted_keeps : (writes : ℕ) (wear : Wear) → Keeps (scheme_of D) s n s (counting writes wear n)
  counted_keeps writes wear =
      let m : Device = counting writes wear n in
      let on = w.same_reads (phase_of s.engine.stage) s.engine.epoch s.control n m sound.held.moment (counting_same writes wear n) in
      keeps_by D w s.engine.epoch s s n m
      (keeping_carried D s.engine.epoch (phase_of s.engine.stage) (phase_of s.engine.stage) s.control s.control n m sound.held.moment on)
      stands.up stands.up (omega arith) refl refl
