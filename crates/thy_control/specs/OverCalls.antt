-- What stays does so if nothing happens, and over one call after another.
use Rattle.std.specs.Prelude.{◌≡◌, ℕ, ◌<◌, Bool, true, false, refl}
use Rattle.std.proofs.Common.{sym, ◌∙◌, ap, subst, arith}
use Rattle.thy_block.specs.declared.parameters.Parameters.{Parameters}
use Rattle.thy_block.specs.Device.{Device}
use Rattle.thy_block.specs.Geometry.{memory_blocks}
use Rattle.thy_table.specs.Places.{number_of, image_blocks, IsApart}
use Rattle.thy_table.specs.Devices.{NoMoreAt}
use Rattle.thy_table.specs.declared.cell.Cell.{Cell}
use Rattle.thy_table.specs.Cells.{penult, target}
use Rattle.thy_control.specs.Guarded.{IsPlaced}
use Rattle.thy_control.specs.State.{State, cell_of}
use Rattle.thy_control.specs.Stays.{AreCopied, CellStays, StaysHeld, StaysUp, Stays}

pub cell_same : (c : Cell) → CellStays c c
cell_same c = record {
  penult_same = refl;
  target_same = refl;
  settled = λ e. e;
  busy_before = λ e. e;
  issued = omega arith;
}

pub cell_on : (c d e : Cell) → CellStays c d → CellStays d e → CellStays c e
cell_on c d e first second = record {
  penult_same = second.penult_same ∙ first.penult_same;
  target_same = second.target_same ∙ first.target_same;
  settled = λ h. second.settled (first.settled h);
  busy_before = λ h. first.busy_before (second.busy_before h);
  issued = omega (arith, first.issued, second.issued);
}

-- a block that is at its place stays there over calls
pub placed_on : (b : ℕ) (c d : Cell) → CellStays c d → IsPlaced b c → IsPlaced b d
placed_on b c d stays h = record {
  copied = stays.settled h.copied;
  issued = λ busy. omega (arith, h.issued (stays.busy_before busy), stays.issued);
}

-- what stays over calls holds from a moment to itself
pub stays_same : (s : State) (m : Device) → Stays s m s m
stays_same s m = record {
  as_long = refl;
  same_p = refl;
  same_way = refl;
  down = λ d. d;
  tables0_same = refl;
  tables1_same = refl;
  lasts_same = refl;
  cells = λ b l. cell_same (cell_of s b);
  guarded = record {
    apart = λ x l. record { no_more = λ y h. h };
    old = λ b l. record { no_more = λ y h. h };
    next = λ b l placed. record { no_more = λ y h. h };
  };
  up = λ d. record {
    apart_reads = λ x l inside. refl;
    penult_same = λ b l. refl;
    held = λ h. record { holds = h; last_same = λ b l. refl };
  };
}

-- places that hold no more over two calls
no_more_on : (x y : ℕ) (m n o : Device) → y ≡ x → NoMoreAt x m n → NoMoreAt y n o → NoMoreAt x m o
no_more_on x y m n o e first second = record {
  no_more = λ b h. first.no_more b ((subst (λ (z : ℕ). NoMoreAt z n o) e second).no_more b h);
}

-- a device that is up after two calls was so between them
up_between : (a b c : Bool) → (b ≡ true → c ≡ true) → c ≡ false → b ≡ false
up_between a false c h e = refl
up_between a true c h e = let d : c ≡ true = h refl in absurd (false_is_not_true c e d) where
  false_is_not_true : (c : Bool) → c ≡ false → c ≡ true → ⊥
  false_is_not_true c e d = cc

-- what stays over each of two calls, one after the other, stays over both
pub stays_on : (s : State) (m : Device) (t : State) (n : Device) (u : State) (o : Device)
    → Stays s m t n → Stays t n u o → Stays s m u o
stays_on s m t n u o first second =
    let p : t.p ≡ s.p = first.same_p in
    let in_t : (b : ℕ) → b < memory_blocks s.p → b < memory_blocks t.p =
    λ b l. subst (λ (q : Parameters). b < memory_blocks q) (sym p) l in
    let apart_t : (x : ℕ) → IsApart s.p x → IsApart t.p x =
    λ x l. subst (λ (q : Parameters). IsApart q x) (sym p) l in
    let inside_t : (x : ℕ) → x < image_blocks s.p → x < image_blocks t.p =
    λ x l. subst (λ (q : Parameters). x < image_blocks q) (sym p) l in
    record {
      as_long = second.as_long ∙ first.as_long;
      same_p = second.same_p ∙ p;
      same_way = second.same_way ∙ first.same_way;
      down = λ d. second.down (first.down d);
      tables0_same = second.tables0_same ∙ first.tables0_same;
      tables1_same = second.tables1_same ∙ first.tables1_same;
      lasts_same = second.lasts_same ∙ first.lasts_same;
      cells = λ b l. cell_on (cell_of s b) (cell_of t b) (cell_of u b) (first.cells b l) (second.cells b (in_t b l));
      guarded = record {
        apart = λ x l. no_more_on x x m n o refl (first.guarded.apart x l) (second.guarded.apart x (apart_t x l));
        old = λ b l.
            let same =
            ap (λ (q : Parameters). number_of q (penult (cell_of t b))) p
            ∙ ap (number_of s.p) (first.cells b l).penult_same in
            no_more_on (number_of s.p (penult (cell_of s b))) (number_of t.p (penult (cell_of t b))) m n o same
            (first.guarded.old b l) (second.guarded.old b (in_t b l));
        next = λ b l placed.
            let same =
            ap (λ (q : Parameters). number_of q (target (cell_of t b))) p
            ∙ ap (number_of s.p) (first.cells b l).target_same in
            no_more_on (number_of s.p (target (cell_of s b))) (number_of t.p (target (cell_of t b))) m n o same
            (first.guarded.next b l placed)
            (second.guarded.next b (in_t b l) (placed_on b (cell_of s b) (cell_of t b) (first.cells b l) placed));
      };
      up = λ d.
          let before : n.down ≡ false = up_between m.down n.down o.down second.down d in
          let one : StaysUp s m t n = first.up before in
          let two : StaysUp t n u o = second.up d in
          record {
            apart_reads = λ x l inside. two.apart_reads x (apart_t x l) (inside_t x inside) ∙ one.apart_reads x l inside;
            penult_same = λ b l. two.penult_same b (in_t b l) ∙ one.penult_same b l;
            held = λ h.
                let then : StaysHeld s m t n = one.held h in
                let now : StaysHeld t n u o = two.held then.holds in
                record { holds = now.holds; last_same = λ b l. now.last_same b (in_t b l) ∙ then.last_same b l };
          };
    }

abbrev pub StaysOverCalls : Type 0
StaysOverCalls =
    ((s : State) (m : Device) → Stays s m s m)
    × ((s : State) (m : Device) (t : State) (n : Device) (u : State) (o : Device)
    → Stays s m t n → Stays t n u o → Stays s m u o)

abbrev pub CopiedStays : Type 0
CopiedStays = (s : State) (m : Device) (t : State) (n : Device) → Stays s m t n → AreCopied s → AreCopied t

abbrev pub PlacedStays : Type 0
PlacedStays =
    (s : State) (m : Device) (t : State) (n : Device) (b : ℕ) → Stays s m t n → b < memory_blocks s.p
    → IsPlaced b (cell_of s b) → IsPlaced b (cell_of t b)
