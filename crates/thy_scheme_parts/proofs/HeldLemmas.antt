-- What is held, and what a call keeps of that.
use Rattle.std.proofs.Common.{◌≡◌, ℕ, ◌+◌, ◌<◌, ◌≤◌, ◌==◌, ◌&&◌, not, Bool, true, false, if◌then◌else◌, List, [], length, refl, sym, ◌∙◌, ap, arith}
use Rattle.std.proofs.lemmas.Bool.{eq-eqb, eqb-true}
use Rattle.thy_block.specs.declared.block.Block.{Block}
use Rattle.thy_block.specs.Device.{Device}
use Rattle.thy_checkpoint.specs.Filling.{layout_at}
use Rattle.thy_scheme.specs.Calls.{OpensNone, Keeps}
use Rattle.thy_checkpoint.specs.Cycles.{cycles_left}
use Rattle.thy_checkpoint.specs.Items.{Phase}
use Rattle.thy_checkpoint.specs.Progress.{phase_of}
use Rattle.thy_scheme_parts.specs.Design.{DesignOf, Composed}
use Rattle.thy_scheme_parts.specs.Holding.{is_held, holding_of}
use Rattle.thy_scheme_parts.specs.IsDesign.{IsDesign}
use Rattle.thy_scheme_parts.specs.Moments.{IsMoment, LeavesPages, Carries, ReadsSame}
use Rattle.thy_scheme_parts.specs.Scheme.{scheme_of}

-- ---- blocks

held_of : (agrees sized down : Bool) → agrees ≡ true → sized ≡ true → down ≡ false → (agrees && (sized && not down)) ≡ true
held_of true true false a b c = refl
held_of agrees sized down a b c = cc

held_parts : (agrees sized down : Bool) → (agrees && (sized && not down)) ≡ true → (agrees ≡ true) × (sized ≡ true) × (down ≡ false)
held_parts true true false h = (refl, refl, refl)
held_parts agrees sized down h = cc

some_held : (held : Bool) (blocks : List Block) (b : ℕ) → b < length (if held then blocks else []) → (held ≡ true) × (b < length blocks)
some_held true blocks b l = (refl, l)
some_held false blocks b l = absurd (omega (arith, l))

module _ {C : Type 0} (D : DesignOf C) (c : C) (n : Device) where
  -- while the NVM is up and has its size, and agrees, what is held is what is loaded
  pub blocks_held : D.parts.agrees c n ≡ true → length n.image ≡ (layout_at D.filling (D.filling.p c)).image_blocks → n.down ≡ false
      → (holding_of D c n).blocks ≡ D.filling.loads c n
  blocks_held agrees sized up =
      ap (λ (h : Bool). if h then D.filling.loads c n else [])
      (held_of (D.parts.agrees c n) (length n.image == (layout_at D.filling (D.filling.p c)).image_blocks) n.down agrees
      (eq-eqb (length n.image) (layout_at D.filling (D.filling.p c)).image_blocks sized) up)

  pub moment_held : IsDesign D → (phase : Phase) (epoch : ℕ) → IsMoment D phase epoch c n → n.down ≡ false
      → (holding_of D c n).blocks ≡ D.filling.loads c n
  moment_held w phase epoch moment up = blocks_held (w.agreeing phase epoch c n moment) moment.sized up

  -- a block that is held
  pub record IsHeldBlock (b : ℕ) : Type 0 where
    pub agrees : D.parts.agrees c n ≡ true
    pub sized : length n.image ≡ (layout_at D.filling (D.filling.p c)).image_blocks
    pub up : n.down ≡ false
    pub inside : b < length (D.filling.loads c n)

  pub held_block : (b : ℕ) → b < length (holding_of D c n).blocks → IsHeldBlock b
  held_block b l =
      let some = some_held (is_held D c n) (D.filling.loads c n) b l in
      let parts = held_parts (D.parts.agrees c n) (length n.image == (layout_at D.filling (D.filling.p c)).image_blocks) n.down some.0 in
      record {
        agrees = parts.0;
        sized = eqb-true (length n.image) (layout_at D.filling (D.filling.p c)).image_blocks parts.1;
        up = parts.2;
        inside = some.1;
      }

-- ---- what a call keeps

-- what moments have alike that one leads to another, whether or not a checkpoint was committed in between
pub record Keeping {C : Type 0} (D : DesignOf C) (epoch : ℕ) (phase : Phase) (c : C) (n : Device) (to : Phase) (d : C) (m : Device) : Type 0 where
  pub old : IsMoment D phase epoch c n
  pub moment : IsMoment D to epoch d m
  pub loads : D.filling.loads d m ≡ D.filling.loads c n
  pub free : D.parts.free c ≤ D.parts.free d
  pub opened : OpensNone (D.parts.open_page c) (D.parts.open_page d)
  pub owed : D.parts.owed d + D.parts.owed_later to d ≤ D.parts.owed c + D.parts.owed_later phase c
  pub pages : LeavesPages D c d

pub keeping_carried : {C : Type 0} (D : DesignOf C) (epoch : ℕ) (p q : Phase) (c d : C) (n m : Device) → IsMoment D p epoch c n
    → Carries D epoch p c n q d m → Keeping D epoch p c n q d m
keeping_carried D epoch p q c d n m old on = record {
  old = old;
  moment = on.moment;
  loads = on.loads;
  free = on.free;
  opened = on.opened;
  owed = on.owed_later;
  pages = on.pages;
}

-- what a call keeps, it keeps over a device that gives the same to every read
pub keeping_same : {C : Type 0} (D : DesignOf C) → IsDesign D → (epoch : ℕ) (p q : Phase) (c d : C) (n m x : Device) → ReadsSame m x
    → Keeping D epoch p c n q d m → Keeping D epoch p c n q d x
keeping_same D w epoch p q c d n m x reads on =
    let over = w.same_reads q epoch d m x on.moment reads in
    record {
      old = on.old;
      moment = over.moment;
      loads = over.loads ∙ on.loads;
      free = on.free;
      opened = on.opened;
      owed = on.owed;
      pages = on.pages;
    }

pub keeps_by : {C : Type 0} (D : DesignOf C) → IsDesign D → (epoch : ℕ) (s t : Composed C) (n m : Device)
    → Keeping D epoch (phase_of s.engine.stage) s.control n (phase_of t.engine.stage) t.control m → n.down ≡ false → m.down ≡ false
    → cycles_left D.filling D.items t.engine t.control ≤ cycles_left D.filling D.items s.engine s.control
    → t.storeless ≡ s.storeless → t.sealed_storeless ≡ s.sealed_storeless → Keeps (scheme_of D) s n t m
keeps_by D w epoch s t n m on up up_then count storeless sealed_storeless = record {
  held = record {
    blocks =
        moment_held D t.control m w (phase_of t.engine.stage) epoch on.moment up_then ∙ on.loads
        ∙ sym (moment_held D s.control n w (phase_of s.engine.stage) epoch on.old up);
    free = on.free;
    opened = on.opened;
  };
  left = record { owed = on.owed; engine = count; merges = on.pages.merges; promotions = on.pages.promotions };
  whole = on.pages.whole;
  storeless = storeless;
  sealed_storeless = sealed_storeless;
}
