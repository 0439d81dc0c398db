-- The registers in their block.
use Rattle.std.proofs.Common.{◌≡◌, ◌⊎◌, ℕ, [], ◌∷◌, sym, ◌∙◌, ap, inl, inr, arith}
use Rattle.std.proofs.lemmas.Bool.{cases_eq}
use Rattle.thy_block.specs.declared.block.Block.{Block}
use Rattle.thy_block.specs.Device.{Device, CrashAt}
use Rattle.thy_block.specs.Words.{word_of}
use Rattle.thy_block.proofs.WordLemmas.{word_of-block_of}
use Rattle.thy_gap.specs.declared.registers.Registers.{Registers}
use Rattle.thy_gap.specs.Lines.{IsWhole, source, moved, gap_magic, registers_block, registers_of}
use Rattle.thy_gap.specs.Levelled.{IsCopied, IsOfRegisters}
use Rattle.thy_gap.proofs.LineLemmas.{source-within, whole-moved}

pub start-in_block : (r : Registers) → IsWhole r → word_of (registers_block r) 1 ≡ r.start
start-in_block r w = word_of-block_of (gap_magic ∷ r.start ∷ r.gap ∷ 0 ∷ 0 ∷ 0 ∷ 0 ∷ 0 ∷ []) 1 (omega arith) (omega (arith, w.start, w.room))

pub gap-in_block : (r : Registers) → IsWhole r → word_of (registers_block r) 2 ≡ r.gap
gap-in_block r w = word_of-block_of (gap_magic ∷ r.start ∷ r.gap ∷ 0 ∷ 0 ∷ 0 ∷ 0 ∷ 0 ∷ []) 2 (omega arith) (omega (arith, w.gap, w.room))

-- registers read back
pub registers_of-block : (r : Registers) (n : ℕ) → IsWhole r → n ≡ r.lines → registers_of n (registers_block r) ≡ r
registers_of-block r n w e =
    ap (λ m. registers_of m (registers_block r)) e
    ∙ ap (λ s. let q : Registers = record { lines = r.lines; start = s; gap = word_of (registers_block r) 2 } in q) (start-in_block r w)
    ∙ ap (λ y. let q : Registers = record { lines = r.lines; start = r.start; gap = y } in q) (gap-in_block r w)

module _ (r : Registers) (n : Device) (b : Block) where
  pub IsOfRegisters-in_hand : IsWhole r → b ≡ registers_block r → IsOfRegisters r n b
  IsOfRegisters-in_hand w e =
      let here : word_of b 2 ≡ r.gap = ap (λ (x : Block). word_of x 2) e ∙ gap-in_block r w in
      record {
        in_hand = λ _. e;
        moved_on = λ other. absurd (other here);
        copied = λ other. absurd (other here);
      }

  pub IsOfRegisters-moved : IsWhole r → b ≡ registers_block (moved r) → IsCopied r n → IsOfRegisters r n b
  IsOfRegisters-moved w e copied =
      let there : word_of b 2 ≡ source r = ap (λ (x : Block). word_of x 2) e ∙ gap-in_block (moved r) (whole-moved r w) in
      record {
        in_hand = λ here. absurd ((source-within r w).1 (sym there ∙ here));
        moved_on = λ _. e;
        copied = λ _. copied;
      }

  -- what a block of registers says: the registers in hand, or the next ones
  pub IsOfRegisters-cases : IsOfRegisters r n b → (b ≡ registers_block r) ⊎ ((b ≡ registers_block (moved r)) × IsCopied r n)
  IsOfRegisters-cases t = elim (cases_eq (word_of b 2) r.gap) as (λ _. (b ≡ registers_block r) ⊎ ((b ≡ registers_block (moved r)) × IsCopied r n)) [
    | inl e ↦ inl (t.in_hand e)
    | inr ne ↦ inr (t.moved_on ne, t.copied ne)
  ]

-- what is copied stays so if no more is possible at gap and source
pub IsCopied-no_more : (r : Registers) (old new : Device) → IsCopied r old
    → ((b : Block) → CrashAt new r.gap b → CrashAt old r.gap b)
    → ((b : Block) → CrashAt new (source r) b → CrashAt old (source r) b)
    → IsCopied r new
IsCopied-no_more r old new c at_gap at_source = record { same = λ b d hb hd. c.same b d (at_gap b hb) (at_source d hd) }
