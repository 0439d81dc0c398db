-- What a moment leads to while the controller stays the same, and memory as it was; and one moment after the other.
use Rattle.std.proofs.Common.{◌≡◌, ℕ, ◌+◌, ◌≤◌, Bool, List, length, refl, ◌∙◌, inr, arith, Option, inl}
use Rattle.thy_block.specs.declared.block.Block.{Block}
use Rattle.thy_block.specs.Device.{Device, Wear, counting, newest, at_rest, drained}
use Rattle.thy_computer.specs.Action.{Action, Rest, ReadAt, WriteAt, Barrier, Drain, after}
use Rattle.thy_block.proofs.DeviceLemmas.{newest-settled, length-settled, no_more-settled, newest-drained, length-drained, no_more-drained}
use Rattle.thy_layout.proofs.AskingLemmas.{map-alike}
use Rattle.thy_computer.specs.Issuing.{CheckpointParts, ArePlaced, AreIssued}
use Rattle.thy_scheme.specs.Calls.{OpensNone}
use Rattle.thy_checkpoint.specs.Items.{Phase, Made}
use Rattle.thy_scheme_parts.specs.Design.{DesignOf}
use Rattle.thy_scheme_parts.specs.Moments.{IsMoment, MakesAt, Carries, ReadsSame}

-- a moment of another phase, over an NVM of the same size
pub moment_of : {C : Type 0} {D : DesignOf C} {p q : Phase} {past epoch : ℕ} {c : C} {n m : Device}
    → IsMoment D p past c n → length m.image ≡ length n.image → D.items.stands q c
    → D.parts.holds q epoch c m → IsMoment D q epoch c m
moment_of moment long stands holds = record {
  sound = moment.sound;
  sized = long ∙ moment.sized;
  stands = stands;
  holds = holds;
}

-- One moment leads to the other if each version of memory is as it was, images have what they had,
-- and no more is owed.
pub carried : {C : Type 0} {D : DesignOf C} {epoch : ℕ} {p q : Phase} {c : C} {n m : Device}
    → IsMoment D q epoch c m → D.filling.loads c m ≡ D.filling.loads c n
    → D.parts.sealed c m ≡ D.parts.sealed c n → D.parts.committed q c m ≡ D.parts.committed p c n
    → ((g : List Block) → D.parts.keeps p epoch c g → D.parts.keeps q epoch c g)
    → ((g : List Block) → MakesAt D p epoch c g → MakesAt D q epoch c g)
    → ((a b : Bool) → D.parts.rests a b p c → D.parts.rests a b q c)
    → D.parts.owed c + D.parts.owed_later q c ≤ D.parts.owed c + D.parts.owed_later p c
    → Carries D epoch p c n q c m
carried moment loads sealed committed keeps makes rests owed = record {
  moment = moment;
  same_p = refl;
  room = refl;
  loads = loads;
  sealed = sealed;
  committed = committed;
  keeps = keeps;
  makes = makes;
  rests = rests;
  free = omega arith;
  opened = inr refl;
  owed = omega arith;
  owed_later = owed;
  pages = record { whole = λ h. h; merges = omega arith; promotions = omega arith };
}

-- in any phase, an image that is made for one controller is made for another that asks no more
pub makes_alike : {C : Type 0} (D : DesignOf C) (p : Phase) (epoch : ℕ) (c d : C) (g : List Block)
    → (D.parts.makes epoch c g → D.parts.makes epoch d g)
    → MakesAt D p epoch c g → MakesAt D p epoch d g
makes_alike D Made epoch c d g on h = on h
makes_alike D p epoch c d g on h = h

pub opens_both : (a b c : Option ℕ) → OpensNone a b → OpensNone b c → OpensNone a c
opens_both a b c h (inl none) = inl none
opens_both a b c (inl none) (inr same) = inl (same ∙ none)
opens_both a b c (inr same) (inr again) = inr (again ∙ same)

-- a moment leads to itself
pub Carries-same : {C : Type 0} (D : DesignOf C) (epoch : ℕ) (p : Phase) (a : C) (n : Device) → IsMoment D p epoch a n
    → Carries D epoch p a n p a n
Carries-same D epoch p a n h =
    carried h refl refl refl (λ g k. k) (λ g k. k) (λ s t k. k) (omega arith)

-- a moment leads to another, and that to a third
pub Carries-both : {C : Type 0} (D : DesignOf C) (epoch : ℕ) (p q r : Phase) (a b c : C) (l m n : Device)
    → Carries D epoch p a l q b m → Carries D epoch q b m r c n → Carries D epoch p a l r c n
Carries-both D epoch p q r a b c l m n x y = record {
  moment = y.moment;
  same_p = y.same_p ∙ x.same_p;
  room = y.room ∙ x.room;
  loads = y.loads ∙ x.loads;
  sealed = y.sealed ∙ x.sealed;
  committed = y.committed ∙ x.committed;
  keeps = λ g h. y.keeps g (x.keeps g h);
  makes = λ g h. y.makes g (x.makes g h);
  rests = λ s t h. y.rests s t (x.rests s t h);
  free = let f = x.free in let g = y.free in omega (arith, f, g);
  opened = opens_both (D.parts.open_page a) (D.parts.open_page b) (D.parts.open_page c) x.opened y.opened;
  owed = let f = x.owed in let g = y.owed in omega (arith, f, g);
  owed_later = let f = x.owed_later in let g = y.owed_later in omega (arith, f, g);
  pages = record {
    whole = λ h. y.pages.whole (x.pages.whole h);
    merges = let f = x.pages.merges in let g = y.pages.merges in omega (arith, f, g);
    promotions = let f = x.pages.promotions in let g = y.pages.promotions in omega (arith, f, g);
  };
}

pub settled_same : (n : Device) → ReadsSame n (at_rest n)
settled_same n = record {
  as_long = length-settled n.writes n;
  reads = λ x inside. newest-settled n.writes n x inside;
  no_more = no_more-settled n.writes n;
}

pub counting_same : (writes : ℕ) (wear : Wear) (n : Device) → ReadsSame n (counting writes wear n)
counting_same writes wear n = record { as_long = refl; reads = λ x inside. refl; no_more = λ x b left. left }

-- what an action leaves reads the same, whatever was counted
pub after_same : (a : Action) (n : Device) (count other : ℕ) → ReadsSame (after count a n) (after other a n)
after_same Rest n count other = record { as_long = refl; reads = λ x inside. refl; no_more = λ x b left. left }
after_same (ReadAt place) n count other = record { as_long = refl; reads = λ x inside. refl; no_more = λ x b left. left }
after_same (WriteAt place block) n count other = record { as_long = refl; reads = λ x inside. refl; no_more = λ x b left. left }
after_same Barrier n count other = record { as_long = refl; reads = λ x inside. refl; no_more = λ x b left. left }
after_same Drain n count other = record { as_long = refl; reads = λ x inside. refl; no_more = λ x b left. left }

pub drained_same : (n : Device) → ReadsSame n (drained n)
drained_same n = record { as_long = length-drained n; reads = λ x inside. newest-drained n x inside; no_more = no_more-drained n }

-- what was issued of a checkpoint is so over a device that gives the same to every read
pub issued_same : (blocks : ℕ) (parts : CheckpointParts) (n m : Device) (memory : List Block) (k : ℕ) → ArePlaced blocks parts
    → ReadsSame n m
    → AreIssued blocks parts n memory k → AreIssued blocks parts m memory k
issued_same blocks parts n m memory k placed r h = record {
  sized = r.as_long ∙ h.sized;
  memory_is =
      map-alike (newest m) (newest n) parts.memory
      (λ x inside. let high = placed.memory_inside x inside in r.reads x (omega (arith, high, h.sized)))
      ∙ h.memory_is;
  slot = record {
    each = λ i l.
        let read = h.slot.each i l in
        record { inside = omega (arith, read.inside, r.as_long); newest_is = r.reads (parts.slot_place + i) read.inside ∙ read.newest_is };
  };
}
