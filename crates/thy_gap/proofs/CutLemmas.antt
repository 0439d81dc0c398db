-- What a cut leaves of a levelled device.
use Rattle.std.proofs.Common.{◌≡◌, ◌⊎◌, ℕ, ◌+◌, ◌-◌, ◌==◌, if◌then◌else◌, false, List, [], ◌∷◌, ◌++◌, length, map, refl, sym, ◌∙◌, ap, subst, inl, inr, arith, length-append}
use Rattle.std.specs.List.{All}
use Rattle.std.proofs.lemmas.Bool.{cases_eq, cases_lt, ne_eqb}
use Rattle.std.proofs.lemmas.List.{map-append}
use Rattle.std.proofs.lemmas.List.Elements.{All-push}
use Rattle.thy_block.specs.declared.block.Block.{Block}
use Rattle.thy_block.specs.Device.{Device, IsCrashOf, CrashAt, Crash, CutsWear, IsCut, Wear, block_at, cut_to}
use Rattle.thy_gap.specs.declared.registers.Registers.{Registers}
use Rattle.thy_gap.specs.Lines.{IsWhole, place, source, moved, registers_block, registers_of, registers_in}
use Rattle.thy_gap.specs.Seen.{unmap, unmapped, seen}
use Rattle.thy_gap.specs.Levelled.{IsCopied, IsQuiet, HasRegisters, IsLevelled, looks, wear_over}
use Rattle.thy_gap.proofs.LineLemmas.{whole-moved, place-moved_line, place-other_line}
use Rattle.thy_gap.proofs.RegisterLemmas.{registers_of-block, IsOfRegisters-in_hand, IsOfRegisters-cases}
use Rattle.thy_gap.proofs.SeenLemmas.{length-unmap, block_at-unmap, block_at-unmap_past, unmap-is, possible-seen, zero_left}
use Rattle.thy_gap.proofs.MovingLemmas.{rest-quiet}

module _ (r : Registers) (cuts : ℕ) (n : Device) (g : List Block) (i : IsLevelled r cuts n) where
  -- an image that a cut may leave has the registers in hand, or the registers after one more move, and then the line was
  -- copied
  pub registers-left : Crash n g → (registers_in g ≡ r) ⊎ ((registers_in g ≡ moved r) × IsCopied r n)
  registers-left c =
      let lines : length g - 2 ≡ r.lines = omega (arith, c.same_length, i.blocks) in
      let b : Block = block_at g (r.lines + 1) in
      let are : registers_in g ≡ registers_of r.lines b = ap (λ n. registers_of n (block_at g (n + 1))) lines in
      elim (IsOfRegisters-cases r n b (i.registers b (c.each (r.lines + 1))))
      as (λ _. (registers_in g ≡ r) ⊎ ((registers_in g ≡ moved r) × IsCopied r n)) [
        | inl e ↦ inl (are ∙ ap (registers_of r.lines) e ∙ registers_of-block r r.lines i.whole refl)
        | inr t ↦ inr (are ∙ ap (registers_of r.lines) t.0 ∙ registers_of-block (moved r) r.lines (whole-moved r i.whole) refl, t.1)
      ]

  -- a cut of a device that is up leaves the registers in hand
  pub registers-quiet : IsQuiet r n → Crash n g → registers_in g ≡ r
  registers-quiet q c =
      let lines : length g - 2 ≡ r.lines = omega (arith, c.same_length, i.blocks) in
      ap (λ n. registers_of n (block_at g (n + 1))) lines
      ∙ ap (registers_of r.lines) (q.in_hand (block_at g (r.lines + 1)) (c.each (r.lines + 1)))
      ∙ registers_of-block r r.lines i.whole refl

  -- an image that a cut may leave has its own registers in the block of registers
  pub block-left : Crash n g → block_at g ((registers_in g).lines + 1) ≡ registers_block (registers_in g)
  block-left c =
      let lines : length g - 2 ≡ r.lines = omega (arith, c.same_length, i.blocks) in
      let b : Block = block_at g (r.lines + 1) in
      let are : registers_in g ≡ registers_of r.lines b = ap (λ n. registers_of n (block_at g (n + 1))) lines in
      let there : block_at g (length g - 2 + 1) ≡ b = ap (λ n. block_at g (n + 1)) lines in
      elim (IsOfRegisters-cases r n b (i.registers b (c.each (r.lines + 1))))
      as (λ _. block_at g ((registers_in g).lines + 1) ≡ registers_block (registers_in g)) [
        | inl e ↦
            there ∙ e ∙ ap registers_block (sym (are ∙ ap (registers_of r.lines) e ∙ registers_of-block r r.lines i.whole refl))
        | inr t ↦
            there ∙ t.0 ∙ ap registers_block
            (sym (are ∙ ap (registers_of r.lines) t.0 ∙ registers_of-block (moved r) r.lines (whole-moved r i.whole) refl))
      ]

  pub whole-left : Crash n g → IsWhole (registers_in g)
  whole-left c = elim (registers-left c) as (λ _. IsWhole (registers_in g)) [
    | inl e ↦ subst IsWhole (sym e) i.whole
    | inr t ↦ subst IsWhole (sym t.0) (whole-moved r i.whole)
  ]

  -- what an image that a cut may leave means by its own registers is what it means by the registers in hand
  pub unmapped-left : Crash n g → unmapped g ≡ unmap r g
  unmapped-left c = elim (registers-left c) as (λ _. unmapped g ≡ unmap r g) [
    | inl e ↦ ap (λ s. unmap s g) e
    | inr t ↦
        ap (λ s. unmap s g) t.0
        ∙ unmap-is (moved r) g (unmap r g) (length-unmap r g)
        (λ x l.
        elim (cases_eq (place r x) (source r)) as (λ _. block_at g (place (moved r) x) ≡ block_at (unmap r g) x) [
          | inl here ↦
              ap (block_at g) (place-moved_line r x i.whole l here)
              ∙ t.1.same (block_at g r.gap) (block_at g (source r)) (c.each r.gap) (c.each (source r))
              ∙ ap (block_at g) (sym here)
              ∙ sym (block_at-unmap r g x l)
          | inr other ↦ ap (block_at g) (place-other_line r x i.whole l other) ∙ sym (block_at-unmap r g x l)
        ])
  ]

  -- if a cut of the inner device may leave an image, a cut of its lines may leave the lines of that image
  pub Crash-seen : Crash n g → Crash (seen r n) (unmapped g)
  Crash-seen c =
      let e = unmapped-left c in
      record {
        same_length = ap length e ∙ length-unmap r g ∙ sym (length-unmap r n.image);
        each = λ x.
            subst (λ (h : List Block). CrashAt (seen r n) x (block_at h x)) (sym e)
            (elim (cases_lt x r.lines) as (λ _. CrashAt (seen r n) x (block_at (unmap r g) x)) [
              | inl l ↦
                  subst (λ (q : List Block). IsCrashOf n.whole q (block_at (unmap r g) x)) (sym (possible-seen r n x i.whole l))
                  (subst (λ (b : Block). CrashAt n (place r x) b) (sym (block_at-unmap r g x l)) (c.each (place r x)))
              | inr l ↦ subst (CrashAt (seen r n) x) (sym (block_at-unmap_past r g x l)) (zero_left r n x i.whole l)
            ]);
      }

-- after a cut it is levelled by the registers of the image that was left
pub IsLevelled-cut : (r : Registers) (cuts pick : ℕ) (old : Device) (g : List Block) → IsLevelled r cuts old → Crash old g
    → (wear : Wear) → IsLevelled (registers_in g) (cuts + 1) (cut_to old pick g wear)
IsLevelled-cut r cuts pick old g i c wear =
    let s : Registers = registers_in g in
    let n : Device = cut_to old pick g wear in
    let w : IsWhole s = whole-left r cuts old g i c in
    let lines : r.lines ≡ s.lines = omega (arith, c.same_length, i.blocks) in
    let q : IsQuiet s n = rest-quiet s n refl (block-left r cuts old g i c) in
    let len : length g ≡ s.lines + 2 = omega (arith, c.same_length, i.blocks) in
    record {
      whole = w;
      blocks = len;
      registers = λ b h. IsOfRegisters-in_hand s n b w (q.in_hand b h);
      quiet = λ _. q;
      left = All-push (HasRegisters s.lines) old.left g (subst (λ m. All (HasRegisters m) old.left) lines i.left)
          (record { blocks = len; whole = w });
      cuts_are = length-append old.left (g ∷ []) ∙ ap (λ m. m + 1) i.cuts_are;
      room = i.room;
    }

-- a cut of the inner device is a cut of its lines
pub seen-cut : (r : Registers) (cuts pick : ℕ) (old : Device) (g : List Block) (wear : Wear) → IsLevelled r cuts old → Crash old g
    → seen (registers_in g) (cut_to old pick g wear) ≡ cut_to (seen r old) pick (unmapped g) wear
seen-cut r cuts pick old g wear i c =
    let lines : r.lines ≡ (registers_in g).lines = omega (arith, c.same_length, i.blocks) in
    let some : (r.lines == 0) ≡ false = ne_eqb r.lines 0 (λ e. omega (arith, e, i.whole.start)) in
    let some' : ((registers_in g).lines == 0) ≡ false = ap (λ n. n == 0) (sym lines) ∙ some in
    let left : (if (registers_in g).lines == 0 then [] else map unmapped (old.left ++ g ∷ []))
    ≡ (if r.lines == 0 then [] else map unmapped old.left) ++ unmapped g ∷ [] =
    ap (λ t. if t then [] else map unmapped (old.left ++ g ∷ [])) some'
    ∙ map-append unmapped old.left (g ∷ [])
    ∙ ap (λ t. (if t then [] else map unmapped old.left) ++ unmapped g ∷ []) (sym some) in
    let picks : (if (registers_in g).lines == 0 then [] else old.picks ++ pick ∷ []) ≡ (if r.lines == 0 then [] else old.picks) ++ pick ∷ [] =
    ap (λ t. if t then [] else old.picks ++ pick ∷ []) some' ∙ ap (λ t. (if t then [] else old.picks) ++ pick ∷ []) (sym some) in
    let room : (if (registers_in g).lines == 0 then 0 else old.left_room) ≡ (if r.lines == 0 then 0 else old.left_room) =
    ap (λ t. if t then 0 else old.left_room) (some' ∙ sym some) in
    ap (λ (l : List (List Block)). record (seen (registers_in g) (cut_to old pick g wear)) { left = l }) left
    ∙ ap (λ (l : List ℕ). record (cut_to (seen r old) pick (unmapped g) wear) {
      picks = l;
      left_room = if (registers_in g).lines == 0 then 0 else old.left_room;
    }) picks
    ∙ ap (λ (k : ℕ). record (cut_to (seen r old) pick (unmapped g) wear) { left_room = k }) room

-- with these counts, if a cut may leave them
pub IsCut-seen : (every since moves later more : ℕ) (r : Registers) (cuts pick : ℕ) (old new : Device) → IsLevelled r cuts old
    → IsCut pick old new
    → CutsWear old.down (wear_over old.wear every since moves) (wear_over new.wear every later more)
    → IsCut pick (looks every since moves r old) (looks every later more (registers_in new.image) new)
IsCut-seen every since moves later more r cuts pick old new i c wear =
    let g : List Block = new.image in
    let after : Wear = wear_over new.wear every later more in
    let crash : Crash (seen r old) (unmapped g) = Crash-seen r cuts old g i c.crash in
    record {
      crash = record { same_length = crash.same_length; each = crash.each };
      wear = wear;
      device =
          ap (λ (n : Device). record (seen (registers_in g) n) { wear = after }) c.device
          ∙ ap (λ (n : Device). record n { wear = after }) (seen-cut r cuts pick old g new.wear i c.crash);
    }

pub IsLevelled-after_cut : (r : Registers) (cuts pick : ℕ) (old new : Device) → IsLevelled r cuts old → IsCut pick old new
    → IsLevelled (registers_in new.image) (cuts + 1) new
IsLevelled-after_cut r cuts pick old new i c =
    subst (IsLevelled (registers_in new.image) (cuts + 1)) (sym c.device) (IsLevelled-cut r cuts pick old new.image i c.crash new.wear)
