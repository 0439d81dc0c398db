-- What is fixed at a place, and what is read there, after each call.
use Rattle.std.proofs.Common.{◌≡◌, ◌≢◌, ℕ, ◌+◌, ◌<◌, List, [], length, refl, sym, ◌∙◌, ap, subst, inl, inr, arith}
use Rattle.std.proofs.lemmas.Bool.{cases_eq}
use Rattle.thy_block.specs.declared.block.Block.{Block}
use Rattle.thy_block.specs.declared.nvm.Write.{Write}
use Rattle.thy_block.specs.Device.{Device, Crash, block_at, queued_for, applied, newest, drained, settled, written_to, Settles}
use Rattle.thy_block.proofs.DeviceLemmas.{CrashAt-possible, CrashAt-landed, block_at-applied, Contains-newest_over, newest-drained, newest-settled, newest-written_to, newest-written_to_other, length-drained, length-settled, length-written_to}
use Rattle.thy_layout.specs.Fixed.{IsFixed, Reads, ReadsFirst}

-- what is fixed is what a cut leaves
pub block_at-fixed : (n : Device) (g : List Block) (x : ℕ) (b : Block) → IsFixed n x b → Crash n g → block_at g x ≡ b
block_at-fixed n g x b f c = f.only (block_at g x) (c.each x)

-- if nothing is queued the image is fixed
pub IsFixed-empty : (n : Device) (x : ℕ) → n.queue ≡ [] → IsFixed n x (block_at n.image x)
IsFixed-empty n x empty = record {
  only = λ c h. CrashAt-landed n x c (ap (λ (q : List Write). queued_for q x) empty) h;
}

-- a barrier makes what is read fixed
pub IsFixed-settled : (count : ℕ) (n : Device) (x : ℕ) (b : Block) → Reads n x b → IsFixed (settled count n) x b
IsFixed-settled count n x b r = record {
  only = λ c h. CrashAt-landed (settled count n) x c refl h ∙ block_at-applied n.image n.queue x r.inside ∙ r.newest_is;
}

-- what is fixed is read
pub Reads-fixed : (x : ℕ) (b : Block) (n : Device) → IsFixed n x b → x < length n.image → Reads n x b
Reads-fixed x b n f l = record {
  inside = l;
  newest_is = f.only (newest n x) (CrashAt-possible n x (newest n x) (Contains-newest_over (block_at n.image x) n.queue x));
}

pub Reads-written : (at : ℕ) (block : Block) (old new : Device) → at < length old.image → new ≡ written_to old at block → Reads new at block
Reads-written at block old new l e = subst (λ (n : Device). Reads n at block) (sym e) (record {
  inside = omega (arith, length-written_to old at block);
  newest_is = newest-written_to old at block;
})

pub Reads-elsewhere : (x : ℕ) (b : Block) (at : ℕ) (block : Block) (old new : Device)
    → Reads old x b → x ≢ at → new ≡ written_to old at block → Reads new x b
Reads-elsewhere x b at block old new r other e = subst (λ (n : Device). Reads n x b) (sym e) (record {
  inside = omega (arith, length-written_to old at block, r.inside);
  newest_is = newest-written_to_other old at block x other r.inside ∙ r.newest_is;
})

pub Reads-drained : (x : ℕ) (b : Block) (old new : Device) → Reads old x b → new ≡ drained old → Reads new x b
Reads-drained x b old new r e = subst (λ (n : Device). Reads n x b) (sym e) (record {
  inside = omega (arith, length-drained old, r.inside);
  newest_is = newest-drained old x r.inside ∙ r.newest_is;
})

pub Reads-settled : (x : ℕ) (b : Block) (old new : Device) → Reads old x b → Settles old new → Reads new x b
Reads-settled x b old new r e = subst (λ (n : Device). Reads n x b) (sym e) (record {
  inside = omega (arith, length-settled new.writes old, r.inside);
  newest_is = newest-settled new.writes old x r.inside ∙ r.newest_is;
})

-- ---- blocks in a row

pub ReadsFirst-elsewhere : (x : ℕ) (blocks : ℕ → Block) (k at : ℕ) (block : Block) (old new : Device)
    → ReadsFirst old x blocks k → ((i : ℕ) → i < k → x + i ≢ at) → new ≡ written_to old at block → ReadsFirst new x blocks k
ReadsFirst-elsewhere x blocks k at block old new r other e = record {
  each = λ i l. Reads-elsewhere (x + i) (blocks i) at block old new (r.each i l) (other i l) e;
}

pub ReadsFirst-drained : (x : ℕ) (blocks : ℕ → Block) (k : ℕ) (old new : Device)
    → ReadsFirst old x blocks k → new ≡ drained old → ReadsFirst new x blocks k
ReadsFirst-drained x blocks k old new r e = record {
  each = λ i l. Reads-drained (x + i) (blocks i) old new (r.each i l) e;
}

pub ReadsFirst-more : (x : ℕ) (blocks : ℕ → Block) (k : ℕ) (old new : Device)
    → ReadsFirst old x blocks k → x + k < length old.image → new ≡ written_to old (x + k) (blocks k) → ReadsFirst new x blocks (k + 1)
ReadsFirst-more x blocks k old new r inside e =
    let before = ReadsFirst-elsewhere x blocks k (x + k) (blocks k) old new r (λ i l same. omega arith) e in
    record {
      each = λ i l. elim (cases_eq i k) as (λ _. Reads new (x + i) (blocks i)) [
        | inl is ↦ subst (λ (j : ℕ). Reads new (x + j) (blocks j)) (sym is) (Reads-written (x + k) (blocks k) old new inside e)
        | inr other ↦ before.each i (omega arith)
      ];
    }
