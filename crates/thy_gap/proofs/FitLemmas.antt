-- A levelled device after a fit.
use Rattle.std.proofs.Common.{◌≡◌, ℕ, ◌+◌, ◌-◌, ◌<◌, ◌≤◌, ◌^◌, ◌==◌, nat_lt, if◌then◌else◌, Bool, List, [], ◌∷◌, ◌++◌, length, replicate, refl, sym, ◌∙◌, ap, inl, inr, arith, length-append}
use Rattle.std.proofs.lemmas.Bool.{cases_lt, ne_eqb}
use Rattle.std.proofs.lemmas.List.{append-nil, length-replicate, get_or_append_left, get_or-append_right, get_or-replicate}
use Rattle.std.proofs.lemmas.List.Elements.{All-nil}
use Rattle.thy_block.specs.declared.block.Block.{Block}
use Rattle.thy_block.specs.declared.nvm.Shape.{Shape}
use Rattle.thy_block.specs.Device.{Device, zero_block, block_at, fitted}
use Rattle.thy_gap.specs.declared.registers.Registers.{Registers}
use Rattle.thy_gap.specs.Lines.{IsWhole, place, unmoved, registers_block}
use Rattle.thy_gap.specs.Seen.{unmap, seen}
use Rattle.thy_gap.specs.Levelled.{IsQuiet, HasRegisters, IsLevelled, inner_shape, first_image}
use Rattle.thy_gap.proofs.LineLemmas.{wrapped-cases, stepped-cases}
use Rattle.thy_gap.proofs.RegisterLemmas.{IsOfRegisters-in_hand}
use Rattle.thy_gap.proofs.SeenLemmas.{unmap-is}
use Rattle.thy_gap.proofs.MovingLemmas.{rest-quiet}

-- after a fit each line is at its own place
pub place-unmoved : (n x : ℕ) → x < n → place (unmoved n) x ≡ x
unfolding place
place-unmoved n x l = omega (arith, wrapped-cases n (x + 0), stepped-cases n (if nat_lt (x + 0) n then x + 0 else x + 0 - n))

pub whole-unmoved : (n : ℕ) → 0 < n → n + 2 < 2 ^ 64 → IsWhole (unmoved n)
whole-unmoved n some room = record { start = some; gap = omega arith; room = room }

-- ---- the inner image

length-rest : (n k : ℕ) (b : Block) → k ≤ n → length (replicate (n + 1 - k) zero_block ++ b ∷ []) ≡ n + 2 - k
length-rest n k b l = omega (arith, length-append (replicate (n + 1 - k) zero_block) (b ∷ []), length-replicate (n + 1 - k) zero_block, l)

pub length-first_image : (n : ℕ) (start : List Block) → length start ≤ n → length (first_image n start) ≡ n + 2
length-first_image n start l =
    let b : Block = registers_block (unmoved n) in
    omega (arith, length-append start (replicate (n + 1 - length start) zero_block ++ b ∷ []), length-rest n (length start) b l, l)

pub first-registers : (n : ℕ) (start : List Block) → length start ≤ n → block_at (first_image n start) (n + 1) ≡ registers_block (unmoved n)
first-registers n start l =
    let b : Block = registers_block (unmoved n) in
    let zeros : List Block = replicate (n + 1 - length start) zero_block in
    let many : length zeros ≡ n + 1 - length start = length-replicate (n + 1 - length start) zero_block in
    let none : n + 1 - length start - (n + 1 - length start) ≡ 0 = omega arith in
    get_or-append_right start (zeros ++ b ∷ []) (length start) (n + 1) zero_block refl (omega (arith, l))
    ∙ get_or-append_right zeros (b ∷ []) (n + 1 - length start) (n + 1 - length start) zero_block many (omega arith)
    ∙ ap (λ k. block_at (b ∷ []) k) none

-- the lines of the first image are the blocks of the start, and zeros
pub first-line : (n : ℕ) (start : List Block) (x : ℕ) → length start ≤ n → x < n
    → block_at (first_image n start) x ≡ block_at (start ++ replicate (n - length start) zero_block) x
first-line n start x l lx =
    let b : Block = registers_block (unmoved n) in
    let zeros : List Block = replicate (n + 1 - length start) zero_block in
    let many : length zeros ≡ n + 1 - length start = length-replicate (n + 1 - length start) zero_block in
    elim (cases_lt x (length start)) as (λ _. block_at (first_image n start) x ≡ block_at (start ++ replicate (n - length start) zero_block) x) [
      | inl here ↦
          get_or_append_left start (zeros ++ b ∷ []) zero_block x here
          ∙ sym (get_or_append_left start (replicate (n - length start) zero_block) zero_block x here)
      | inr behind ↦
          get_or-append_right start (zeros ++ b ∷ []) (length start) x zero_block refl behind
          ∙ get_or_append_left zeros (b ∷ []) zero_block (x - length start) (omega (arith, many, lx, behind))
          ∙ get_or-replicate (n + 1 - length start) (x - length start) zero_block zero_block (omega (arith, lx, behind))
          ∙ sym (get_or-replicate (n - length start) (x - length start) zero_block zero_block (omega (arith, lx, behind)))
          ∙ sym (get_or-append_right start (replicate (n - length start) zero_block) (length start) x zero_block refl behind)
    ]

-- ---- after a fit

module _ (shape : Shape) (start : List Block) (n : Device) (some : 0 < shape.blocks) (most : length start ≤ shape.blocks) where
  image : List Block
  image = first_image shape.blocks start

  -- the start of the inner device is all of its image
  pub image-fitted : (fitted (inner_shape shape) (first_image shape.blocks start) n).image ≡ first_image shape.blocks start
  image-fitted =
      let none : shape.blocks + 2 - length (first_image shape.blocks start) ≡ 0 = omega (arith, length-first_image shape.blocks start most) in
      ap (λ k. first_image shape.blocks start ++ replicate k zero_block) none ∙ append-nil (first_image shape.blocks start)

  pub IsLevelled-fitted : shape.blocks + 2 < 2 ^ 64 → shape.cuts + 1 < 2 ^ 64
      → IsLevelled (unmoved shape.blocks) 0 (fitted (inner_shape shape) (first_image shape.blocks start) n)
  IsLevelled-fitted room cuts =
      let r : Registers = unmoved shape.blocks in
      let f : Device = fitted (inner_shape shape) (first_image shape.blocks start) n in
      let w : IsWhole r = whole-unmoved shape.blocks some room in
      let q : IsQuiet r f = rest-quiet r f refl
      (ap (λ (g : List Block). block_at g (shape.blocks + 1)) image-fitted ∙ first-registers shape.blocks start most) in
      record {
        whole = w;
        blocks = ap length image-fitted ∙ length-first_image shape.blocks start most;
        registers = λ b h. IsOfRegisters-in_hand r f b w (q.in_hand b h);
        quiet = λ _. q;
        left = All-nil (HasRegisters shape.blocks);
        cuts_are = refl;
        room = omega (arith, cuts);
      }

  pub seen-fitted : (r : Registers)
      → seen (unmoved shape.blocks) (fitted (inner_shape shape) (first_image shape.blocks start) n) ≡ fitted shape start (seen r n)
  seen-fitted r =
      let lines : List Block = start ++ replicate (shape.blocks - length start) zero_block in
      let has : length lines ≡ shape.blocks = omega (
        arith,
        length-append start (replicate (shape.blocks - length start) zero_block),
        length-replicate (shape.blocks - length start) zero_block,
        most,
      ) in
      let same : unmap (unmoved shape.blocks) (fitted (inner_shape shape) (first_image shape.blocks start) n).image ≡ lines =
      ap (unmap (unmoved shape.blocks)) image-fitted
      ∙ unmap-is (unmoved shape.blocks) (first_image shape.blocks start) lines has
      (λ x l. ap (block_at (first_image shape.blocks start)) (place-unmoved shape.blocks x l) ∙ first-line shape.blocks start x most l) in
      let made : List Block → Bool → Device =
      λ g t. record (fitted shape start (seen r n))
      { image = g; left = if t then [] else []; picks = if t then [] else []; left_room = if t then 0 else shape.cuts + 1 } in
      ap (λ g. made g (shape.blocks == 0)) same ∙ ap (λ t. made lines t) (ne_eqb shape.blocks 0 (λ e. omega (arith, e, some)))
